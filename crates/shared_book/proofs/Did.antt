-- What each reply to a connection's turn says of it.
use Rattle.std.proofs.Common.{◌≡◌, ◌<◌, ◌+◌, ℕ, List, [], ◌∷◌, length, max, take, Bool, true, false}
use Rattle.std.proofs.Common.{cond, refl, sym, ap, ◌∙◌, arith, Some, None}
use Rattle.std.specs.Prelude.{Option}
use Rattle.turn_lock.specs.History.{past_after}
use Rattle.serial_model.specs.declared.history.Limits.{Limits}
use Rattle.serial_model.specs.declared.history.Entry.{Entry}
use Rattle.serial_model.specs.declared.history.Entry.TheVariants as entry
use Rattle.serial_model.specs.declared.history.BookCall.{BookCall}
use Rattle.serial_model.specs.declared.history.BookCall.TheVariants.{Admit, Run, Tick, Take, Close}
use Rattle.serial_model.specs.declared.history.BookReply.{BookReply}
use Rattle.serial_model.specs.declared.history.BookReply.TheVariants.{Admitted, Ran, Ticked, Quiet}
use Rattle.serial_model.specs.declared.history.BookReply.TheVariants.{Bytes, Closed, Refused}
use Rattle.serial_model.specs.declared.history.BookRefusal.TheVariants.{Gone, NoMemory, Stopped}
use Rattle.serial_model.specs.History.{admitted, expired, latest, unsent, runs_on}
use Rattle.serial_model.specs.History.{reads_on, gives_on, is_stopped}
use Rattle.serial_model.specs.Steps.{Turn as Stepped, book_step, BookStep, gone}
use Rattle.serial_model.specs.Steps.{admitting, running, taking, ticking, tick_at, closing}
use Rattle.serial_model.specs.Steps.{stopped}
use Rattle.serial_model.proofs.Turning.{by_step}
use Rattle.shared_book.specs.Turns.{May, BookTurn}

-- by the case of a test, which is known in each
by_test : {X : Type 0} (P : X → Type 0) (b : Bool) (x y : X) → (b ≡ true → P x)
    → (b ≡ false → P y) → P (cond b x y)
by_test P b e y f g = grind arith

-- the replies that a call may get
abbrev pub comes : BookCall → BookReply → Bool
comes Admit (Admitted n id) = true
comes Admit (Refused (Gone i)) = false
comes (Run id words now) (Ran n) = true
comes (Run id words now) (Refused Stopped) = false
comes (Tick now) (Ticked n) = true
comes (Tick now) Quiet = true
comes (Tick now) (Refused (Gone i)) = false
comes (Take id most) (Bytes n bytes) = true
comes (Take id most) Quiet = true
comes (Take id most) (Refused Stopped) = false
comes (Close id) (Closed n) = true
comes (Close id) (Refused NoMemory) = false
comes (Close id) (Refused Stopped) = false
comes call (Refused r) = true
comes call reply = false

-- the connection that a call names
abbrev pub named : BookCall → ℕ
named Admit = 0
named (Run id words now) = id
named (Tick now) = 0
named (Take id most) = id
named (Close id) = id

-- what its connection must be able to do still, for the call to be played
abbrev pub may_of : BookCall → May
may_of Admit l past id = true
may_of (Run n words now) l past id = runs_on l past id
may_of (Tick now) l past id = true
may_of (Take n most) l past id = gives_on l past id
may_of (Close n) l past id = reads_on l past id

module _ (l : Limits) (past : List Entry) where
  -- what a reply says of the entry that was added, if one was
  abbrev pub Says : BookReply → BookCall → Option Entry → Type 0
  Says (Admitted n id) call e = (e ≡ Some (entry.Admit id)) × (id ≡ admitted past + 1)
  Says (Ran n) (Run id words now) e =
      (e ≡ Some (entry.Run id words (max now (latest past)))) × (n ≡ length past + 1)
      × (runs_on l past id ≡ true)
  Says (Ticked n) (Tick now) e =
      (e ≡ Some (entry.Tick (max now (latest past))))
      × (expired l past (max now (latest past)) ≡ [] → ⊥)
  Says Quiet (Tick now) e = (e ≡ None) × (expired l past (max now (latest past)) ≡ [])
  Says Quiet (Take id most) e =
      (e ≡ None) × (take most (unsent l id past) ≡ []) × (gives_on l past id ≡ true)
  Says (Bytes n bytes) (Take id most) e =
      (e ≡ Some (entry.Take id most)) × (bytes ≡ take most (unsent l id past))
      × (gives_on l past id ≡ true) × (0 < length bytes)
  Says (Closed n) (Close id) e = (e ≡ Some (entry.Close id)) × (reads_on l past id ≡ true)
  Says (Refused (Gone i)) call e = (e ≡ None) × (may_of call l past (named call) ≡ false)
  Says (Refused NoMemory) call e = e ≡ None
  Says (Refused Stopped) call e = (e ≡ None) × (is_stopped l past ≡ true)
  Says reply call e = ⊥

  abbrev pub Said : BookCall → BookReply → List Entry → Type 0
  Said call reply new =
      (comes call reply ≡ true) × (e : Option Entry) × Says reply call e
      × (new ≡ past_after past e)

  abbrev At : BookCall → Stepped → Type 0
  At call t = Said call t.reply t.past

  ticking_says : (now : ℕ) (keys : List (List ℕ)) → expired l past (max now (latest past)) ≡ keys
      → At (Tick now) (ticking past (max now (latest past)) keys)
  ticking_says now [] is = (refl, None, (refl, is), refl)
  ticking_says now (key ∷ keys) is = (
    refl,
    Some (entry.Tick (max now (latest past))),
    (refl, λ none. absurd (omega (arith, ap length (sym is ∙ none)))),
    refl,
  )

  taking_says : (id most : ℕ) → gives_on l past id ≡ true → (bytes : List ℕ)
      → bytes ≡ take most (unsent l id past) → At (Take id most) (taking past id most bytes)
  taking_says id most on [] is = (refl, None, (refl, sym is, on), refl)
  taking_says id most on (b ∷ bytes) is =
      (refl, Some (entry.Take id most), (refl, is, on, omega arith), refl)

  step_says : (call : BookCall) → At call (book_step l past call)
  unfolding book_step
  step_says Admit =
      by_test (At Admit) (is_stopped l past) (stopped past) (admitting past)
      (λ over. (refl, None, (refl, over), refl))
      (λ on. (refl, Some (entry.Admit (admitted past + 1)), (refl, refl), refl))
  step_says (Run id words now) =
      by_test (At (Run id words now)) (runs_on l past id)
      (running past id words now) (gone past id)
      (λ on. (refl, Some (entry.Run id words (max now (latest past))), (refl, refl, on), refl))
      (λ off. (refl, None, (refl, off), refl))
  step_says (Tick now) =
      by_test (At (Tick now)) (is_stopped l past) (stopped past)
      (tick_at l past (max now (latest past))) (λ over. (refl, None, (refl, over), refl))
      (λ on. ticking_says now (expired l past (max now (latest past))) refl)
  step_says (Take id most) =
      by_test (At (Take id most)) (gives_on l past id)
      (taking past id most (take most (unsent l id past))) (gone past id)
      (λ on. taking_says id most on (take most (unsent l id past)) refl)
      (λ off. (refl, None, (refl, off), refl))
  step_says (Close id) =
      by_test (At (Close id)) (reads_on l past id) (closing past id) (gone past id)
      (λ on. (refl, Some (entry.Close id), (refl, on), refl))
      (λ off. (refl, None, (refl, off), refl))

  -- a Close takes no memory
  memory_says : (call : BookCall) → BookStep l past call (Refused NoMemory) past
      → Said call (Refused NoMemory) past
  memory_says call h = grind arith

  pub says : (call : BookCall) (reply : BookReply) (new : List Entry)
      → BookStep l past call reply new → Said call reply new
  says call reply new does =
      by_step l (λ r n. BookStep l past call r n → Said call r n) past new call reply
      (λ h. step_says call) (memory_says call) does does

  pub entry_added : (call : BookCall) (reply : BookReply) (new : List Entry)
      → BookStep l past call reply new
      → (e : Option Entry) × BookTurn l past call reply e × (new ≡ past_after past e)
  entry_added call reply new does = grind (arith, says)

pub turned : (l : Limits) (old past new : List Entry) (call : BookCall) (reply : BookReply)
    → BookStep l old call reply new → old ≡ past
    → (e : Option Entry) × BookTurn l past call reply e × (new ≡ past_after past e)
turned l old past new call reply does same = grind (arith, entry_added)
