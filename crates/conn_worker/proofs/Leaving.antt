-- How a connection has come to its end, by the history: it was dropped, or closed, or it quit.
use Rattle.std.proofs.Common.{◌≡◌, ◌∙◌, ◌<◌, ◌⊎◌, ℕ, List, [], ◌∷◌, Bool, true, false, cond}
use Rattle.std.proofs.Common.{refl, sym, ap, subst, arith, inl, inr, ◌++◌}
use Rattle.std.specs.Prelude.{◌&&◌, ◌||◌, ◌==◌, not}
use Rattle.turn_lock.specs.Counts.{total}
use Rattle.turn_lock.specs.History.{IsPrefix as IsBefore}
use Rattle.serial_model.specs.declared.history.Limits.{Limits}
use Rattle.serial_model.specs.declared.history.Entry.{Entry}
use Rattle.serial_model.specs.declared.history.Entry.TheVariants.{Admit, Run, Tick, Take, Close}
use Rattle.serial_model.specs.declared.standing.Standing.{Standing}
use Rattle.serial_model.specs.State.{closed, is_live, keeps_bytes, may_take}
use Rattle.serial_model.specs.EntryEffects.{drops_one, was_dropped}
use Rattle.serial_model.specs.History.{gives_on, has_ended, is_admitted, is_quit, reads_on, runs_on}
use Rattle.serial_model.specs.History.{state}
use Rattle.serial_model.proofs.Standings as standings
use Rattle.serial_model.proofs.StateSteps.{ended_by_run, run_stands_quit, tick_ended}
use Rattle.serial_model.proofs.Streams.{ended_stays, keeps_run, keeps_tick, takes_run, takes_tick}
use Rattle.turn_lock.specs.Own.{past_of}
use Rattle.turn_lock.proofs.Owning.{total-append}
use Rattle.shared_book.specs.Turns.{Place, Runs, Turn, limits_in, limits_of}
use Rattle.shared_book.proofs.Histories.{admitted_more, begins_lift, ended_more, ended_or}
use Rattle.conn_worker.specs.Elsewhere.{Closed, Dropped, HadEnded, HasQuit, Quit}
use Rattle.conn_worker.specs.Elsewhere.{closes, closes_in, quits, quits_in}

by_bool : {X : Type 0} (b : Bool) → (b ≡ true → X) → (b ≡ false → X) → X
by_bool true f g = f refl
by_bool false f g = g refl

left_true : (a b : Bool) → (a && b) ≡ true → a ≡ true
left_true a b h = grind arith

right_one : (a b : Bool) → (a && b) ≡ true → b ≡ true
right_one a b h = grind arith

right_true : (a b : Bool) → (a && not b) ≡ true → b ≡ false
right_true a b h = grind arith

right_off : (a b : Bool) → a ≡ true → (a && b) ≡ false → b ≡ false
right_off a b on h = grind arith

both_on : (a b : Bool) → a ≡ true → b ≡ true → (a && b) ≡ true
both_on a b e f = grind arith

stays_on : (a b : Bool) → a ≡ true → b ≡ false → (a && not b) ≡ true
stays_on a b e f = grind arith

still_off : (a d : Bool) → (a && not d) ≡ false → d ≡ false → a ≡ false
still_off a d h e = grind arith

or_rest : (a b : Bool) → (a || b) ≡ true → a ≡ false → b ≡ true
or_rest a b h e = grind arith

or_one : (a b : Bool) → a ≡ true → (a || b) ≡ true
or_one a b h = ap (λ x. x || b) h

or_two : (a b : Bool) → b ≡ true → (a || b) ≡ true
or_two a b h = grind arith

not_both : (b : Bool) → b ≡ true → b ≡ false → ⊥
not_both b e f = let no : true ≡ false = sym e ∙ f in cc

closed_unkept : (x : Standing) → keeps_bytes (closed x) ≡ false
closed_unkept x = grind arith

module _ (l : Limits) (c : ℕ) where
  abbrev standing : List Entry → Standing
  standing past = (state l past).standing c

  one_close : (id : ℕ) (past : List Entry) → (id == c) ≡ true
      → 0 < total (closes c) (Close id ∷ past)
  one_close id past same =
      let one : closes c (Close id) ≡ 1 = ap (λ b. cond b 1 0) same in omega (arith, one)

  -- ---- one that has ended was dropped, or closed, or it quit

  abbrev pub Past : List Entry → Type 0
  Past past =
      (was_dropped l c past ≡ true) ⊎ (0 < total (closes c) past) ⊎ (0 < total (quits c) past)

  past_more : (e : Entry) (past : List Entry) → Past past → Past (e ∷ past)
  past_more e past (inl d) = inl (or_one (was_dropped l c past) (drops_one l e past c) d)
  past_more e past (inr (inl n)) = inr (inl (omega (arith, n)))
  past_more e past (inr (inr n)) = inr (inr (omega (arith, n)))

  past_drop : (e : Entry) (past : List Entry) → drops_one l e past c ≡ true → Past (e ∷ past)
  past_drop e past d = inl (or_two (was_dropped l c past) (drops_one l e past c) d)

  pub ended_past : (past : List Entry) → has_ended l c past ≡ true → Past past
  unfolding state
  ended_past [] h = absurd (let no : ⊥ = cc in no)
  ended_past (Admit id ∷ past) h =
      past_more (Admit id) past (ended_past past (sym (standings.ended_admit l past c id) ∙ h))
  ended_past (Run id words moment ∷ past) h =
      by_bool ((id == c) && is_quit words)
      (λ quit. inr (inr (let one : quits c (Run id words moment) ≡ 1 = ap (λ b. cond b 1 0) quit in
      omega (arith, one))))
      (λ other. let more = sym (ended_by_run l past c id moment words
      (λ quit. absurd (not_both _ quit other))) ∙ h in
      by_bool (has_ended l c past)
      (λ was. past_more (Run id words moment) past (ended_past past was))
      (λ live. past_drop (Run id words moment) past
      (or_rest ((id == c) && is_quit words) _ (or_rest (has_ended l c past) _ more live) other)))
  ended_past (Tick moment ∷ past) h =
      by_bool (has_ended l c past) (λ was. past_more (Tick moment) past (ended_past past was))
      (λ live. past_drop (Tick moment) past
      (or_rest (has_ended l c past) _ (sym (tick_ended l past c moment) ∙ h) live))
  ended_past (Take id max ∷ past) h =
      past_more (Take id max) past
      (ended_past past (sym (standings.ended_take l past c id max) ∙ h))
  ended_past (Close id ∷ past) h =
      by_bool (id == c) (λ same. inr (inl (one_close id past same)))
      (λ other. past_more (Close id) past (ended_past past
      (sym (standings.ended_close l past c id ∙ ap (λ b. cond b true (has_ended l c past)) other)
      ∙ h)))

  -- ---- one that may take nothing was dropped, or closed while it ran on

  abbrev pub Given : List Entry → Type 0
  Given past = (was_dropped l c past ≡ true) ⊎ (0 < total (closes c) past)

  given_more : (e : Entry) (past : List Entry) → Given past → Given (e ∷ past)
  given_more e past (inl d) = inl (or_one (was_dropped l c past) (drops_one l e past c) d)
  given_more e past (inr n) = inr (omega (arith, n))

  given_by : (e : Entry) (past : List Entry)
      → may_take (standing (e ∷ past)) ≡ (may_take (standing past) && not (drops_one l e past c))
      → may_take (standing (e ∷ past)) ≡ false
      → (may_take (standing past) ≡ false → Given past) → Given (e ∷ past)
  given_by e past step h more =
      by_bool (drops_one l e past c)
      (λ d. inl (or_two (was_dropped l c past) (drops_one l e past c) d))
      (λ kept. given_more e past (more (still_off _ _ (sym step ∙ h) kept)))

  ungiven_past : (past : List Entry) → may_take (standing past) ≡ false → Given past
  unfolding state
  ungiven_past [] h = absurd (let no : ⊥ = cc in no)
  ungiven_past (Admit id ∷ past) h = given_more (Admit id) past (ungiven_past past h)
  ungiven_past (Run id words moment ∷ past) h =
      given_by (Run id words moment) past (takes_run l past c id moment words) h (ungiven_past past)
  ungiven_past (Tick moment ∷ past) h =
      given_by (Tick moment) past (takes_tick l past c moment) h (ungiven_past past)
  ungiven_past (Take id max ∷ past) h = given_more (Take id max) past (ungiven_past past h)
  ungiven_past (Close id ∷ past) h =
      by_bool (id == c) (λ same. inr (one_close id past same))
      (λ other. given_more (Close id) past (ungiven_past past
      (ap may_take (sym (standings.stands_close l past c id other)) ∙ h)))

  pub ungiven : (past : List Entry) → is_admitted past c ≡ true → gives_on l past c ≡ false
      → Given past
  ungiven past there h = ungiven_past past (right_off (is_admitted past c) _ there h)

  -- ---- one that quit and can't be closed was closed

  unread_by : (e : Entry) (past : List Entry)
      → keeps_bytes (standing (e ∷ past))
      ≡ (keeps_bytes (standing past) && not (drops_one l e past c))
      → may_take (standing (e ∷ past)) ≡ (may_take (standing past) && not (drops_one l e past c))
      → keeps_bytes (standing (e ∷ past)) ≡ false → may_take (standing (e ∷ past)) ≡ true
      → (keeps_bytes (standing past) ≡ false → may_take (standing past) ≡ true
      → 0 < total (closes c) past) → 0 < total (closes c) (e ∷ past)
  unread_by e past keeps takes k t more =
      let both = sym takes ∙ t in
      let n = more (still_off _ _ (sym keeps ∙ k) (right_true _ _ both)) (left_true _ _ both) in
      omega (arith, n)

  unread_past : (past : List Entry) → keeps_bytes (standing past) ≡ false
      → may_take (standing past) ≡ true → 0 < total (closes c) past
  unfolding state
  unread_past [] k t = absurd (let no : ⊥ = cc in no)
  unread_past (Admit id ∷ past) k t = let n = unread_past past k t in omega (arith, n)
  unread_past (Run id words moment ∷ past) k t =
      unread_by (Run id words moment) past (keeps_run l past c id moment words)
      (takes_run l past c id moment words) k t (unread_past past)
  unread_past (Tick moment ∷ past) k t =
      unread_by (Tick moment) past (keeps_tick l past c moment) (takes_tick l past c moment) k t
      (unread_past past)
  unread_past (Take id max ∷ past) k t = let n = unread_past past k t in omega (arith, n)
  unread_past (Close id ∷ past) k t =
      by_bool (id == c) (one_close id past)
      (λ other.
      let same = standings.stands_close l past c id other in
      let n = unread_past past (ap keeps_bytes (sym same) ∙ k) (ap may_take (sym same) ∙ t) in
      omega (arith, n))

  -- ---- one that can be closed was not closed

  unclosed_by : (e : Entry) (past : List Entry)
      → keeps_bytes (standing (e ∷ past))
      ≡ (keeps_bytes (standing past) && not (drops_one l e past c))
      → keeps_bytes (standing (e ∷ past)) ≡ true → keeps_bytes (standing past) ≡ true
  unclosed_by e past step h = left_true _ _ (sym step ∙ h)

  unclosed_past : (past : List Entry) → keeps_bytes (standing past) ≡ true
      → total (closes c) past ≡ 0
  unfolding state
  unclosed_past [] h = refl
  unclosed_past (Admit id ∷ past) h = let n = unclosed_past past h in omega (arith, n)
  unclosed_past (Run id words moment ∷ past) h =
      let n = unclosed_past past
      (unclosed_by (Run id words moment) past (keeps_run l past c id moment words) h) in
      omega (arith, n)
  unclosed_past (Tick moment ∷ past) h =
      let n = unclosed_past past (unclosed_by (Tick moment) past (keeps_tick l past c moment) h) in
      omega (arith, n)
  unclosed_past (Take id max ∷ past) h = let n = unclosed_past past h in omega (arith, n)
  unclosed_past (Close id ∷ past) h =
      by_bool (id == c)
      (λ same. absurd (not_both _ h
      (ap (λ b. keeps_bytes (cond b (closed ((state l past).standing id)) (standing past))) same
      ∙ closed_unkept ((state l past).standing id))))
      (λ other.
      let none : closes c (Close id) ≡ 0 = ap (λ b. cond b 1 0) other in
      let rest = unclosed_past past (ap keeps_bytes (sym (standings.stands_close l past c id other))
      ∙ h) in
      omega (arith, none, rest))

  pub reads_unclosed : (past : List Entry) → reads_on l past c ≡ true → total (closes c) past ≡ 0
  reads_unclosed past h = unclosed_past past (right_one (is_admitted past c) _ h)

  -- ---- one that quit

  quit_more : (e : Entry) (past : List Entry) → has_ended l c past ≡ true
      → gives_on l past c ≡ true → gives_on l (e ∷ past) c ≡ true
  unfolding state
  quit_more (Admit id) past ended on =
      standings.gives_same l past c (Admit id)
      (admitted_more c (Admit id) past (left_true _ _ on) ∙ sym (left_true _ _ on)) refl ∙ on
  quit_more (Run id words moment) past ended on =
      standings.gives_run l past c id moment words
      ∙ stays_on (gives_on l past c) _ on (ended_stays l past (Run id words moment) c ended)
  quit_more (Tick moment) past ended on =
      standings.gives_tick l past c moment
      ∙ stays_on (gives_on l past c) _ on (ended_stays l past (Tick moment) c ended)
  quit_more (Take id max) past ended on = standings.gives_take l past c id max ∙ on
  quit_more (Close id) past ended on =
      by_bool (id == c)
      (λ same. standings.gives_close l past c id same ∙ both_on (gives_on l past c) _ on ended)
      (λ other. standings.gives_close_other l past c id other ∙ on)

  abbrev pub Quitted : List Entry → Type 0
  Quitted past = (has_ended l c past ≡ true) × (gives_on l past c ≡ true)

  quitted_begins : (a b : List Entry) → IsBefore a b → Quitted a → Quitted b
  quitted_begins a b more q =
      begins_lift Quitted
      (λ e past h. (ended_more l c e past h.0, quit_more e past h.0 h.1)) a b more q

  -- it has, where its QUIT ran
  quitted_now : (past : List Entry) (words : List (List ℕ)) (moment : ℕ) → runs_on l past c ≡ true
      → is_quit words ≡ true → Quitted (Run c words moment ∷ past)
  quitted_now past words moment on quit =
      let now = run_stands_quit l past c moment words on quit in (
        ap (λ x. not (is_live x)) now,
        both_on (is_admitted (Run c words moment ∷ past) c) _ (left_true _ _ on) (ap may_take now),
      )

  quitted_unread : (past : List Entry) → Quitted past → reads_on l past c ≡ false
      → 0 < total (closes c) past
  quitted_unread past q h =
      unread_past past (right_off (is_admitted past c) _ (left_true _ _ q.1) h)
      (right_one (is_admitted past c) _ q.1)

-- ---- as a seat shows it

pub has_quit_on : (id : ℕ) (k m : Place) → m.setup ≡ k.setup → IsBefore (past_of k) (past_of m)
    → HasQuit id k → HasQuit id m
has_quit_on id k m setup more q =
    let h = quitted_begins (limits_of k) id (past_of k) (past_of m) more (q.ended, q.gives) in
    let same = sym (ap limits_in setup) in
    record {
      ended = subst (λ l. has_ended l id (past_of m) ≡ true) same h.0;
      gives = subst (λ l. gives_on l (past_of m) id ≡ true) same h.1;
    }

pub has_quit_now : (id : ℕ) (words : List (List ℕ)) (now : ℕ) (k m : Place)
    → Runs id words now k m → is_quit words ≡ true → HasQuit id m
has_quit_now id words now k m r quit =
    let h = quitted_now (limits_of k) id r.past words _ r.on quit in
    let same = sym (ap limits_in r.grows.setup) in
    record {
      ended = subst (λ l. has_ended l id (past_of m) ≡ true) same
          (ap (has_ended (limits_of k) id) r.ends ∙ h.0);
      gives = subst (λ l. gives_on l (past_of m) id ≡ true) same
          (ap (λ x. gives_on (limits_of k) x id) r.ends ∙ h.1);
    }

pub has_quit_unread : (id : ℕ) (k : Place) → HasQuit id k
    → reads_on (limits_of k) (past_of k) id ≡ false → 0 < total (closes id) (past_of k)
has_quit_unread id k q h = quitted_unread (limits_of k) id (past_of k) (q.ended, q.gives) h

-- ---- and by none of its worker's turns

-- a Run was refused, and no QUIT of it ran
pub had_ended_off : (id : ℕ) (ts : List Turn) (k : Place) → is_admitted (past_of k) id ≡ true
    → runs_on (limits_of k) (past_of k) id ≡ false → closes_in id ts ≡ 0 → quits_in id ts ≡ 0
    → HadEnded id ts k
had_ended_off id ts k there off closed quit =
    let ended = ended_or (limits_of k) id (past_of k) there off in
    record {
      ended = ended;
      by = elim (ended_past (limits_of k) id (past_of k) ended) [
        | inl d ↦ Dropped quit d
        | inr (inl n) ↦ Closed (omega (arith, n, closed))
        | inr (inr n) ↦ Quit quit n
      ];
    }

-- a Take was refused
pub had_ended_ungiven : (id : ℕ) (ts : List Turn) (k : Place) → is_admitted (past_of k) id ≡ true
    → gives_on (limits_of k) (past_of k) id ≡ false → closes_in id ts ≡ 0 → quits_in id ts ≡ 0
    → HadEnded id ts k
had_ended_ungiven id ts k there off closed quit = record {
  ended = standings.gives_over (limits_of k) (past_of k) id there off;
  by = elim (ungiven (limits_of k) id (past_of k) there off) [
    | inl d ↦ Dropped quit d
    | inr n ↦ Closed (omega (arith, n, closed))
  ];
}

-- it had quit, and its Close was refused
pub had_ended_unread : (id : ℕ) (ts : List Turn) (k : Place) → HasQuit id k
    → reads_on (limits_of k) (past_of k) id ≡ false → closes_in id ts ≡ 0 → HadEnded id ts k
had_ended_unread id ts k q off closed =
    let n = has_quit_unread id k q off in
    record { ended = q.ended; by = Closed (omega (arith, n, closed)) }

-- turns before these that neither close it nor let it quit
pub had_ended_behind : (id : ℕ) (ts before : List Turn) (k : Place) → closes_in id before ≡ 0
    → quits_in id before ≡ 0 → HadEnded id ts k → HadEnded id (ts ++ before) k
had_ended_behind id ts before k closed quit h =
    let c = total-append (λ (t : Turn). closes id t.0) ts before in
    let q = total-append (λ (t : Turn). quits id t.0) ts before in
    record {
      ended = h.ended;
      by = elim h.by [
        | Dropped n d ↦ Dropped (omega (arith, q, quit, n)) d
        | Closed n ↦ Closed (omega (arith, c, closed, n))
        | Quit n m ↦ Quit (omega (arith, q, quit, n)) m
      ];
    }

-- whatever its own turns
pub had_ended_any : (id : ℕ) (ts : List Turn) (k : Place) → HadEnded id ts k → HadEnded id [] k
had_ended_any id ts k h = record {
  ended = h.ended;
  by = elim h.by [
    | Dropped n d ↦ Dropped refl d
    | Closed n ↦ Closed (omega (arith, n))
    | Quit n m ↦ Quit refl m
  ];
}
