-- What runs of requests up to a QUIT, and that a history has a QUIT that ran.
use Rattle.std.proofs.Common.{◌≡◌, ◌∙◌, ◌⊎◌, refl, sym, ap, ℕ, List, [], ◌∷◌, ◌++◌, Bool, true}
use Rattle.std.proofs.Common.{false, Some, None, append-nil, eq-eqb, inl, inr, ◌<◌, zero, suc}
use Rattle.std.proofs.Common.{arith, cond, length, length-append, take}
use Rattle.std.specs.Prelude.{if◌then◌else◌, Option, ◌==◌, ◌&&◌, ◌||◌, ⊤}
use Rattle.std.specs.List.{All}
use Rattle.std.proofs.lemmas.List.Elements.{All-head, All-tail}
use Rattle.turn_lock.specs.History.{IsPrefix as IsBefore}
use Rattle.resp_stream.specs.declared.fault.StreamFault.{StreamFault}
use Rattle.serial_model.specs.declared.history.Entry.{Entry}
use Rattle.serial_model.specs.declared.history.Entry.TheVariants.{Admit, Run, Tick, Take, Close}
use Rattle.serial_model.specs.History.{is_quit}
use Rattle.shared_book.specs.Turns.{Turn}
use Rattle.shared_book.proofs.Histories.{begins_lift}
use Rattle.conn_worker.specs.declared.connection.Stop.{Stop}
use Rattle.conn_worker.specs.declared.connection.Stop.TheVariants.{Quit}
use Rattle.conn_worker.specs.Elsewhere.{closes, closes_in, quits, quits_in}
use Rattle.conn_worker.specs.Quits.{up_to_quit, stop_behind, has_quit}
use Rattle.conn_worker.specs.Visits.{IsWork, run_in, runs_in}
use Rattle.conn_worker.specs.Parts.{Requests}

-- none of them is a QUIT
abbrev pub NoQuits : Requests → Type 0
NoQuits [] = ⊤
NoQuits (words ∷ requests) = (is_quit words ≡ false) × NoQuits requests

-- ---- by whether the first is a QUIT

until_head : (b : Bool) (words : List (List ℕ)) (rest : Requests) → b ≡ false
    → words ∷ (if b then [] else rest) ≡ words ∷ rest
until_head true words rest e = absurd (let no : ⊥ = cc in no)
until_head false words rest e = refl

until_last : (b : Bool) (words : List (List ℕ)) (rest : Requests) → b ≡ true
    → words ∷ (if b then [] else rest) ≡ words ∷ []
until_last true words rest e = refl
until_last false words rest e = absurd (let no : ⊥ = cc in no)

stop_head : (b : Bool) (s : Option Stop) → b ≡ false → (if b then Some Quit else s) ≡ s
stop_head true s e = absurd (let no : ⊥ = cc in no)
stop_head false s e = refl

stop_last : (b : Bool) (s : Option Stop) → b ≡ true → (if b then Some Quit else s) ≡ Some Quit
stop_last true s e = refl
stop_last false s e = absurd (let no : ⊥ = cc in no)

head_none : (b : Bool) (s : Option Stop) → (if b then Some Quit else s) ≡ None
    → (b ≡ false) × (s ≡ None)
head_none true s e = absurd (let no : ⊥ = cc in no)
head_none false s e = (refl, e)

-- ---- what is read behind requests of which none is a QUIT

pub until_joined : (ws more : Requests) → NoQuits ws
    → up_to_quit (ws ++ more) ≡ ws ++ up_to_quit more
until_joined [] more free = refl
until_joined (w ∷ ws) more free =
    until_head (is_quit w) w (up_to_quit (ws ++ more)) free.0
    ∙ ap (λ z. w ∷ z) (until_joined ws more free.1)

pub stop_joined : (ws more : Requests) (f : Option StreamFault) → NoQuits ws
    → stop_behind (ws ++ more) f ≡ stop_behind more f
stop_joined [] more f free = refl
stop_joined (w ∷ ws) more f free =
    stop_head (is_quit w) (stop_behind (ws ++ more) f) free.0 ∙ stop_joined ws more f free.1

pub until_all : (ws : Requests) → NoQuits ws → up_to_quit ws ≡ ws
until_all ws free =
    ap up_to_quit (sym (append-nil ws)) ∙ until_joined ws [] free ∙ append-nil ws

-- what runs of requests runs of itself
pub until_twice : (ws : Requests) → up_to_quit (up_to_quit ws) ≡ up_to_quit ws
until_twice [] = refl
until_twice (w ∷ ws) = by_head (is_quit w) w (up_to_quit ws) refl (until_twice ws)
  where
    by_head : (b : Bool) (w : List (List ℕ)) (rest : Requests) → is_quit w ≡ b
        → up_to_quit rest ≡ rest
        → up_to_quit (w ∷ (if b then [] else rest)) ≡ w ∷ (if b then [] else rest)
    by_head true w rest e more = until_last (is_quit w) w [] e
    by_head false w rest e more =
        until_head (is_quit w) w (up_to_quit rest) e ∙ ap (λ z. w ∷ z) more

tail_of : {A : Type 0} (x : A) (xs ys : List A) → x ∷ xs ≡ x ∷ ys → xs ≡ ys
tail_of {A = A} x xs ys h = ap tail h
  where
    tail : List A → List A
    tail [] = []
    tail (z ∷ zs) = zs

-- where all of them run, those before the last have no QUIT
pub quits_last : (first rest : Requests) → up_to_quit (first ++ rest) ≡ first ++ rest
    → 0 < length rest → NoQuits first × (up_to_quit rest ≡ rest)
quits_last [] rest all some = (tt, all)
quits_last (w ∷ first) rest all some =
    by_head (is_quit w) refl (tail_of w _ (first ++ rest) all)
    (λ more. quits_last first rest more some)
  where
    by_head : (b : Bool) → is_quit w ≡ b
        → (if b then [] else up_to_quit (first ++ rest)) ≡ first ++ rest
        → (up_to_quit (first ++ rest) ≡ first ++ rest
        → NoQuits first × (up_to_quit rest ≡ rest))
        → NoQuits (w ∷ first) × (up_to_quit rest ≡ rest)
    by_head true e h more =
        absurd (omega (arith, some, ap length h, length-append first rest))
    by_head false e h more = ((e, (more h).0), (more h).1)

pub no_quits_more : (ws : Requests) (w : List (List ℕ)) → NoQuits ws → is_quit w ≡ false
    → NoQuits (ws ++ w ∷ [])
no_quits_more [] w free e = (e, tt)
no_quits_more (x ∷ ws) w free e = (free.0, no_quits_more ws w free.1 e)

-- where more is read behind them, they have no QUIT and their bytes no fault
pub none_stopped : (ws : Requests) (f : Option StreamFault) → stop_behind ws f ≡ None
    → NoQuits ws × (f ≡ None)
none_stopped [] None e = (tt, refl)
none_stopped [] (Some f) e = absurd (let no : ⊥ = cc in no)
none_stopped (w ∷ ws) f e =
    let h = head_none (is_quit w) (stop_behind ws f) e in
    let r = none_stopped ws f h.1 in ((h.0, r.0), r.1)

-- ---- a QUIT

pub until_quit : (w : List (List ℕ)) (more : Requests) → is_quit w ≡ true
    → up_to_quit (w ∷ more) ≡ w ∷ []
until_quit w more e = until_last (is_quit w) w (up_to_quit more) e

pub stop_quit : (w : List (List ℕ)) (more : Requests) (f : Option StreamFault)
    → is_quit w ≡ true → stop_behind (w ∷ more) f ≡ Some Quit
stop_quit w more f e = stop_last (is_quit w) (stop_behind more f) e

abbrev pub any_quit : Requests → Bool
any_quit [] = false
any_quit (w ∷ ws) = is_quit w || any_quit ws

head_quits : (b : Bool) (ws : Requests) (s : Option Stop)
    → (s ≡ Some Quit → any_quit (up_to_quit ws) ≡ true) → (if b then Some Quit else s) ≡ Some Quit
    → (b || any_quit (if b then [] else up_to_quit ws)) ≡ true
head_quits true ws s f e = refl
head_quits false ws s f e = f e

-- where a QUIT stops the reader, it is among what runs
pub stopped_quits : (ws : Requests) (f : Option StreamFault) → stop_behind ws f ≡ Some Quit
    → any_quit (up_to_quit ws) ≡ true
stopped_quits [] None e = absurd (let no : ⊥ = cc in no)
stopped_quits [] (Some f) e = absurd (let no : ⊥ = cc in no)
stopped_quits (w ∷ ws) f e =
    head_quits (is_quit w) ws (stop_behind ws f) (stopped_quits ws f) e

or_off : (b c : Bool) → (b || c) ≡ false → (b ≡ false) × (c ≡ false)
or_off true c e = absurd (let no : ⊥ = cc in no)
or_off false c e = (refl, e)

pub none_quit : (ws : Requests) → any_quit ws ≡ false → NoQuits ws
none_quit [] e = tt
none_quit (w ∷ ws) e =
    let h = or_off (is_quit w) (any_quit ws) e in (h.0, none_quit ws h.1)

-- no QUIT ran, where none stopped the reader
pub unstopped : (ws : Requests) (f : Option StreamFault)
    → (stop_behind ws f ≡ Some Quit → ⊥) → NoQuits (up_to_quit ws)
unstopped [] f not = tt
unstopped (w ∷ ws) f not = unstopped_by (is_quit w) w ws f refl not (unstopped ws f)
  where
    unstopped_by : (b : Bool) (w : List (List ℕ)) (ws : Requests) (f : Option StreamFault)
        → is_quit w ≡ b → ((if b then Some Quit else stop_behind ws f) ≡ Some Quit → ⊥)
        → ((stop_behind ws f ≡ Some Quit → ⊥) → NoQuits (up_to_quit ws))
        → NoQuits (w ∷ (if b then [] else up_to_quit ws))
    unstopped_by true w ws f e not rest = absurd (not refl)
    unstopped_by false w ws f e not rest = (e, rest not)

-- of what runs, all but the last is no QUIT
pub front_none : (ws : Requests) (n : ℕ) → n < length (up_to_quit ws)
    → NoQuits (take n (up_to_quit ws))
front_none [] n lt = absurd (omega (arith, lt))
front_none (w ∷ ws) zero lt = tt
front_none (w ∷ ws) (suc n) lt = front_by (is_quit w) w ws n refl lt (front_none ws n)
  where
    front_by : (b : Bool) (w : List (List ℕ)) (ws : Requests) (n : ℕ) → is_quit w ≡ b
        → suc n < length (w ∷ (if b then [] else up_to_quit ws))
        → (n < length (up_to_quit ws) → NoQuits (take n (up_to_quit ws)))
        → NoQuits (take (suc n) (w ∷ (if b then [] else up_to_quit ws)))
    front_by true w ws n e lt rest = absurd (omega (arith, lt))
    front_by false w ws n e lt rest = (e, rest (omega (arith, lt)))

pub any_left : (b c : Bool) → (b || c) ≡ true → (b ≡ true) ⊎ (c ≡ true)
any_left true c e = inl refl
any_left false c e = inr e

or_left : (b c : Bool) → b ≡ true → (b || c) ≡ true
or_left true c e = refl
or_left false c e = absurd (let no : ⊥ = cc in no)

or_right : (b c : Bool) → c ≡ true → (b || c) ≡ true
or_right true c e = refl
or_right false c e = e

pub any_append : (xs ys : Requests) → any_quit (xs ++ ys) ≡ true
    → (any_quit xs ≡ true) ⊎ (any_quit ys ≡ true)
any_append [] ys e = inr e
any_append (x ∷ xs) ys e =
    elim (any_left (is_quit x) (any_quit (xs ++ ys)) e) [
      | inl h ↦ inl (or_left (is_quit x) (any_quit xs) h)
      | inr h ↦ elim (any_append xs ys h) [
        | inl g ↦ inl (or_right (is_quit x) (any_quit xs) g)
        | inr g ↦ inr g
      ]
    ]

-- a QUIT behind requests of which none is one
pub new_quit : (xs ys : Requests) → NoQuits xs → any_quit (xs ++ ys) ≡ true → any_quit ys ≡ true
new_quit [] ys free any = any
new_quit (x ∷ xs) ys free any =
    elim (any_left (is_quit x) (any_quit (xs ++ ys)) any) [
      | inl h ↦ absurd (let no : true ≡ false = sym h ∙ free.0 in cc)
      | inr h ↦ new_quit xs ys free.1 h
    ]

quit_more : (id : ℕ) (e : Entry) (past : List Entry) → has_quit id past ≡ true
    → has_quit id (e ∷ past) ≡ true
quit_more id (Admit n) past h = h
quit_more id (Run n words moment) past h = or_right ((n == id) && is_quit words) _ h
quit_more id (Tick moment) past h = h
quit_more id (Take n most) past h = h
quit_more id (Close n) past h = h

pub quit_begins : (id : ℕ) (a b : List Entry) → IsBefore a b → has_quit id a ≡ true
    → has_quit id b ≡ true
quit_begins id a b more h =
    begins_lift (λ past. has_quit id past ≡ true) (quit_more id) a b more h

-- ---- the turns of a connection

no_quits_front : (xs ys : Requests) → NoQuits (xs ++ ys) → NoQuits xs
no_quits_front [] ys h = tt
no_quits_front (x ∷ xs) ys h = (h.0, no_quits_front xs ys h.1)

no_quits_back : (xs ys : Requests) → NoQuits (xs ++ ys) → NoQuits ys
no_quits_back [] ys h = h
no_quits_back (x ∷ xs) ys h = no_quits_back xs ys h.1

unquit_one : (n id : ℕ) (q : Bool) → q ≡ false → cond {A = ℕ} ((n == id) && q) 1 0 ≡ 0
unquit_one n id q e = grind arith

unquit_at : (id : ℕ) (t : Turn) → NoQuits (run_in t) → quits id t.0 ≡ 0
unquit_at id (Admit n, p) h = refl
unquit_at id (Run n words moment, p) h = unquit_one n id (is_quit words) h.0
unquit_at id (Tick moment, p) h = refl
unquit_at id (Take n most, p) h = refl
unquit_at id (Close n, p) h = refl

-- no QUIT is among those that ran
pub none_in : (id : ℕ) (ts : List Turn) → NoQuits (runs_in ts) → quits_in id ts ≡ 0
none_in id [] h = refl
none_in id (t ∷ ts) h =
    let one = unquit_at id t (no_quits_back (runs_in ts) (run_in t) h) in
    let rest = none_in id ts (no_quits_front (runs_in ts) (run_in t) h) in
    omega (arith, one, rest)

unclosed_at : (id c : ℕ) (clock : Option ℕ) (t : Turn) → IsWork id clock t → closes c t.0 ≡ 0
unclosed_at id c clock (Admit n, p) h = refl
unclosed_at id c clock (Run n words moment, p) h = refl
unclosed_at id c clock (Tick moment, p) h = refl
unclosed_at id c clock (Take n most, p) h = refl
unclosed_at id c clock (Close n, p) h = absurd h

-- no Close is among the turns of its service
pub unclosed_in : (id c : ℕ) (clock : Option ℕ) (ts : List Turn) → All (IsWork id clock) ts
    → closes_in c ts ≡ 0
unclosed_in id c clock [] h = refl
unclosed_in id c clock (t ∷ ts) h =
    let one = unclosed_at id c clock t (All-head (IsWork id clock) t ts h) in
    let rest = unclosed_in id c clock ts (All-tail (IsWork id clock) t ts h) in
    omega (arith, one, rest)

module _ (clock : Option ℕ) (id : ℕ) (past : List Entry) where
  here : (n : ℕ) (q rest : Bool) → n ≡ id → (q || false) ≡ true
      → (((n == id) && q) || rest) ≡ true
  here n true rest e h = ap (λ b. (b && true) || rest) (eq-eqb n id e)
  here n false rest e h = absurd (let no : ⊥ = cc in no)

  quit_at : (t : Turn) → IsWork id clock t → any_quit (run_in t) ≡ true
      → has_quit id (t.0 ∷ t.1) ≡ true
  quit_at (Admit n, p) work any = absurd work
  quit_at (Run n words moment, p) work any =
      here n (is_quit words) (has_quit id p) work.0 any
  quit_at (Tick moment, p) work any = absurd (let no : ⊥ = cc in no)
  quit_at (Take n most, p) work any = absurd (let no : ⊥ = cc in no)
  quit_at (Close n, p) work any = absurd work

  -- a QUIT is among those that ran
  pub ran_quit : (ts : List Turn) → All (IsWork id clock) ts
      → All (λ t. IsBefore (t.0 ∷ t.1) past) ts → any_quit (runs_in ts) ≡ true
      → has_quit id past ≡ true
  ran_quit [] work stand any = absurd (let no : ⊥ = cc in no)
  ran_quit (t ∷ ts) work stand any =
      elim (any_append (runs_in ts) (run_in t) any) [
        | inl h ↦ ran_quit ts (All-tail (IsWork id clock) t ts work)
            (All-tail (λ (x : Turn). IsBefore (x.0 ∷ x.1) past) t ts stand) h
        | inr h ↦ quit_begins id (t.0 ∷ t.1) past
            (All-head (λ (x : Turn). IsBefore (x.0 ∷ x.1) past) t ts stand)
            (quit_at t (All-head (IsWork id clock) t ts work) h)
      ]
