-- Whom an entry drops: ids that rise, the lines of their drops, and the copies of names that are
-- left.
use Rattle.std.proofs.Common.{◌≡◌, ◌+◌, ◌<◌, ◌≤◌, ℕ, zero, suc, List, [], ◌∷◌, ◌++◌, Bool, true}
use Rattle.std.proofs.Common.{false, cond, filter, length, max, take, slice_index_or, refl, sym, ap}
use Rattle.std.proofs.Common.{inl, inr, length-append, subst, ◌∙◌, arith, append_assoc, eq-eqb, ◌-◌}
use Rattle.std.proofs.Common.{slice_set}
use Rattle.std.specs.Prelude.{◌==◌, ◌⊎◌, ◌&&◌, ◌||◌, nat_le, nat_lt, not}
use Rattle.std.proofs.lemmas.Bool.{both_ways, cases_lt, false_from_ne_true, or_parts}
use Rattle.std.proofs.lemmas.Bool.Decides.{nat_tests}
use Rattle.std.proofs.lemmas.List.{get_or_append_left, get_or_push, get_or-set_other, take_more}
use Rattle.std.proofs.lemmas.List.Folds.{list_any-append}
use Rattle.serial_model.specs.declared.history.Limits.{Limits}
use Rattle.serial_model.specs.declared.history.Entry.{Entry}
use Rattle.serial_model.specs.declared.history.Entry.TheVariants as entry
use Rattle.serial_model.specs.declared.history.BookCall.{BookCall}
use Rattle.serial_model.specs.declared.history.BookCall.TheVariants.{Admit, Run, Tick, Take, Close}
use Rattle.serial_model.specs.declared.history.BookReply.{BookReply}
use Rattle.serial_model.specs.declared.history.BookReply.TheVariants.{Admitted, Ran, Ticked, Quiet}
use Rattle.serial_model.specs.declared.history.BookReply.TheVariants.{Bytes, Closed, Refused}
use Rattle.serial_model.specs.declared.history.BookRefusal.TheVariants.{Gone, NoMemory, Stopped}
use Rattle.serial_model.specs.State.{is_live}
use Rattle.serial_model.specs.Tracking.{has_id, ids_where}
use Rattle.serial_model.specs.Actions.{is_ending, quits}
use Rattle.serial_model.specs.EntryEffects.{dropped_by, drops_at, drops_one}
use Rattle.serial_model.specs.History.{admitted, has_ended, is_admitted, latest, run_action}
use Rattle.serial_model.specs.History.{runs_on, is_stopped, state, tick_action, unsent}
use Rattle.serial_model.specs.Steps.{BookStep, Turn, book_step}
use Rattle.serial_model.proofs.Counts.{admitted_is, on_is}
use Rattle.serial_model.proofs.Standings.{ended_admit, ended_more}
use Rattle.serial_model.proofs.StateSteps.{drop_live, dropped_stands}
use Rattle.serial_model.proofs.StepCases.{by_admit, by_close, by_run, by_take, by_tick}
use Rattle.serial_model.proofs.Turning.{admit_step, by_step}
use Rattle.server_book.specs.BookState.{drops_after}
use Rattle.script_text.specs.declared.line.Line.{Line}
use Rattle.script_text.specs.declared.line.Line.TheVariants.{Drop}
use Rattle.server_links.specs.DropNames.{AreKept, Rise}
use Rattle.server_links.specs.EntryLines.{drop_lines, dropped_lines, is_entry_line, name_of}
use Rattle.server_links.specs.OneHistory.{read_on}

-- ---- ids that rise

rise_last : (above id n : ℕ) (ids : List ℕ) → Rise above ids n → above ≤ n → n < id
    → Rise above (ids ++ id ∷ []) id
rise_last above id n [] r le lt = (omega arith, omega arith, tt)
rise_last above id n (x ∷ ids) r le lt =
    let first = r.0 in
    let within = r.1 in (omega arith, omega arith, rise_last x id n ids r.2 within lt)

rise_within : (above n m : ℕ) (ids : List ℕ) → Rise above ids n → n ≤ m → Rise above ids m
rise_within above n m [] r le = tt
rise_within above n m (x ∷ ids) r le =
    let within = r.1 in (r.0, omega arith, rise_within x n m ids r.2 le)

rise_above : (above low n : ℕ) (ids : List ℕ) → Rise above ids n → low ≤ above → Rise low ids n
rise_above above low n [] r le = tt
rise_above above low n (x ∷ ids) r le = let first = r.0 in (omega arith, r.1, r.2)

rise_where : (test : ℕ → Bool) (n : ℕ) → Rise 0 (ids_where test n) n
rise_where test zero = tt
rise_where test (suc n) =
    let before = rise_where test n in
    elim (test (suc n)) as (λ b.
    Rise 0 (cond b (ids_where test n ++ suc n ∷ []) (ids_where test n)) (suc n)) [
      | true ↦ rise_last 0 (suc n) n (ids_where test n) before (omega arith) (omega arith)
      | false ↦ rise_within 0 n (suc n) (ids_where test n) before (omega arith)
    ]

rise_some : (p : ℕ → Bool) (above n : ℕ) (ids : List ℕ) → Rise above ids n
    → Rise above (filter p ids) n
rise_some p above n [] r = tt
rise_some p above n (x ∷ ids) r =
    let more = rise_some p x n ids r.2 in
    let first = r.0 in
    elim (p x) as (λ b. Rise above (cond b (x ∷ filter p ids) (filter p ids)) n) [
      | true ↦ (r.0, r.1, more)
      | false ↦ rise_above x above n (filter p ids) more (omega arith)
    ]

pub rise_size : (above n : ℕ) (ids : List ℕ) → Rise above ids n → above ≤ n
    → above + length ids ≤ n
rise_size above n [] r le = omega arith
rise_size above n (x ∷ ids) r le =
    let first = r.0 in
    let more = rise_size x n ids r.2 r.1 in omega arith

-- each is above those before it
pub rise_at : (above n : ℕ) (ids : List ℕ) → Rise above ids n → (i d : ℕ) → i < length ids →
    let id = slice_index_or ids i d in
    (above < id) × (id ≤ n) × (has_id id (take i ids) ≡ false)
rise_at above n [] r i d lt = absurd (omega (arith, lt))
rise_at above n (x ∷ ids) r zero d lt = (r.0, r.1, refl)
rise_at above n (x ∷ ids) r (suc i) d lt =
    let more = rise_at x n ids r.2 i d (omega (arith, lt)) in
    let first = r.0 in
    let next = more.0 in (omega arith, more.1, grind (arith, nat_tests))

-- those whom an entry drops
pub drops_rise : (l : Limits) (e : Entry) (past : List Entry)
    → Rise 0 (drops_at l e (state l past)) (admitted past)
drops_rise l (entry.Run id words moment) past =
    let s = state l past in
    let t = run_action id words moment s in
    subst (Rise 0 (drops_at l (entry.Run id words moment) s)) (admitted_is l past)
    (rise_some (λ c. not (quits t c)) 0 s.admitted _ (rise_where (is_ending l t s) s.admitted))
drops_rise l (entry.Tick moment) past =
    let s = state l past in
    let t = tick_action moment s in
    subst (Rise 0 (drops_at l (entry.Tick moment) s)) (admitted_is l past)
    (rise_some (λ c. not (quits t c)) 0 s.admitted _ (rise_where (is_ending l t s) s.admitted))
drops_rise l (entry.Admit id) past = tt
drops_rise l (entry.Take id max) past = tt
drops_rise l (entry.Close id) past = tt

-- ---- their lines

pub drops_are_entries : (e : ℕ) (names : List (List ℕ)) (ids : List ℕ)
    → filter is_entry_line (drop_lines e names ids) ≡ drop_lines e names ids
drops_are_entries e names [] = refl
drops_are_entries e names (id ∷ ids) =
    ap (λ x. Drop e (name_of names id) ∷ x) (drops_are_entries e names ids)

pub drops_unread : (name : List ℕ) (e : ℕ) (names : List (List ℕ)) (ids : List ℕ)
    → read_on name (drop_lines e names ids) ≡ []
drops_unread name e names [] = refl
drops_unread name e names (id ∷ ids) = drops_unread name e names ids

pub dropped_unread : (name : List ℕ) (l : Limits) (names : List (List ℕ)) (reply : BookReply)
    (past : List Entry) → read_on name (dropped_lines l names reply past) ≡ []
dropped_unread name l names (Admitted e id) past = refl
dropped_unread name l names (Ran e) past = drops_unread name e names (dropped_by l past)
dropped_unread name l names (Ticked e) past = drops_unread name e names (dropped_by l past)
dropped_unread name l names Quiet past = refl
dropped_unread name l names (Bytes e bytes) past = refl
dropped_unread name l names (Closed e) past = refl
dropped_unread name l names (Refused r) past = refl

pub drops_next : (e : ℕ) (names : List (List ℕ)) (ids : List ℕ) (id : ℕ)
    → drop_lines e names (ids ++ id ∷ []) ≡ drop_lines e names ids ++ Drop e (name_of names id) ∷ []
drops_next e names [] id = refl
drops_next e names (x ∷ ids) id = ap (λ l. Drop e (name_of names x) ∷ l) (drops_next e names ids id)

-- by longer lists of names too
pub drops_front : (e above n : ℕ) (ns more : List (List ℕ)) (ids : List ℕ) → Rise above ids n
    → n ≤ length ns → drop_lines e (ns ++ more) ids ≡ drop_lines e ns ids
drops_front e above n ns more [] r le = refl
drops_front e above n ns more (id ∷ ids) r le =
    let first = r.0 in
    let within = r.1 in
    let rest = drops_front e id n ns more ids r.2 le in
    grind (arith, get_or_append_left)

-- by other lists that have their names
pub drops_by : (e : ℕ) (ns ms : List (List ℕ)) (ids : List ℕ)
    → ((c : ℕ) → has_id c ids ≡ true → name_of ns c ≡ name_of ms c)
    → drop_lines e ns ids ≡ drop_lines e ms ids
drops_by e ns ms [] same = refl
drops_by e ns ms (id ∷ ids) same = grind (arith, nat_tests, drops_by e ns ms ids)

-- ---- one more

taken_ids : (ids : List ℕ) (i c : ℕ) → i < length ids → let id = slice_index_or ids i 0 in
    has_id c (take (i + 1) ids) ≡ (has_id c (take i ids) || ((id == c) || false))
taken_ids ids i c lt =
    ap (has_id c) (take_more ids i 0 lt) ∙ list_any-append (λ id. id == c) (take i ids) _

-- the copy of the next goes into its line, and the others stay
module _ (e : ℕ) (names now : List (List ℕ)) (ids : List ℕ) (i : ℕ) (lt : i < length ids)
    (size : length now ≡ length names) (rise : Rise 0 ids (length names))
    (same : (c : ℕ) → 0 < c → has_id c (take i ids) ≡ false → name_of now c ≡ name_of names c) where
  abbrev id : ℕ
  id = slice_index_or ids i 0

  pub next_within : (0 < id) × (id - 1 < length now)
  next_within =
      let at = rise_at 0 (length names) ids rise i 0 lt in
      let first = at.0 in
      let last = at.1 in (omega arith, omega arith)

  pub next_name : name_of now id ≡ name_of names id
  next_name =
      let at = rise_at 0 (length names) ids rise i 0 lt in same id at.0 at.2

  pub next_line : (items before : List Line) (name : List ℕ) → name ≡ name_of now id
      → before ≡ items ++ drop_lines e names (take i ids)
      → before ++ Drop e name ∷ [] ≡ items ++ drop_lines e names (take (i + 1) ids)
  next_line items before name is told =
      ap (λ x. x ++ Drop e name ∷ []) told
      ∙ append_assoc items (drop_lines e names (take i ids)) (Drop e name ∷ [])
      ∙ ap (λ n. items ++ (drop_lines e names (take i ids) ++ Drop e n ∷ [])) (is ∙ next_name)
      ∙ ap (λ x. items ++ x) (sym (ap (drop_lines e names) (take_more ids i 0 lt)
      ∙ drops_next e names (take i ids) id))

  pub next_others : (left : List ℕ) (c : ℕ) → 0 < c → has_id c (take (i + 1) ids) ≡ false
      → name_of (slice_set now (id - 1) left) c ≡ name_of names c
  next_others left c more none =
      let both = or_parts (has_id c (take i ids)) _ (sym (taken_ids ids i c lt) ∙ none) in
      let other : (id == c) ≡ false = (or_parts (id == c) false both.1).0 in
      let apart : id - 1 ≡ c - 1 → ⊥ =
      λ same. both_ways _ other (eq-eqb id c (let first = next_within.0 in omega arith)) in
      get_or-set_other now (id - 1) (c - 1) left [] (λ e. apart (sym e)) ∙ same c more both.0

-- ---- a turn

module _ (l : Limits) (past : List Entry) (call : BookCall) (reply : BookReply) (new : List Entry)
    (does : BookStep l past call reply new) where
  Risen : BookReply → List Entry → Type 0
  Risen reply new = Rise 0 (drops_after l reply new) (admitted past)

  step_rises : (call : BookCall)
      → Risen (book_step l past call).reply (book_step l past call).past
  unfolding Risen dropped_by
  step_rises Admit = by_admit l past (λ t. Risen t.reply t.past) tt (λ on. tt)
  step_rises (Run id words now) =
      by_run l past (λ t. Risen t.reply t.past) id words now tt
      (λ on. drops_rise l (entry.Run id words (max now (latest past))) past)
  step_rises (Tick now) =
      by_tick l past (λ t. Risen t.reply t.past) now tt tt
      (λ on some. drops_rise l (entry.Tick (max now (latest past))) past)
  step_rises (Take id most) =
      by_take l past (λ t. Risen t.reply t.past) id most tt tt (λ on some. tt)
  step_rises (Close id) = by_close l past (λ t. Risen t.reply t.past) id tt (λ on. tt)

  pub turn_rises : Rise 0 (drops_after l reply new) (admitted past)
  unfolding Risen
  turn_rises = by_step l Risen past new call reply (step_rises call) tt does

-- ---- the copies of names

-- who runs on behind an entry ran on before it, and was not dropped by it
abbrev RanOn : Limits → List Entry → BookReply → List Entry → Type 0
RanOn l past reply new =
    (admitted new ≡ admitted past)
    × ((c : ℕ) → runs_on l new c ≡ true
    → (runs_on l past c ≡ true) × (has_id c (drops_after l reply new) ≡ false))

ran_both : (a e e' : Bool) → (e ≡ true → e' ≡ true) → (a && not e') ≡ true → (a && not e) ≡ true
ran_both a e e' more h = grind arith

live_now : (a e : Bool) → (a && not e) ≡ true → e ≡ false
live_now a e h = grind arith

module _ (l : Limits) (past : List Entry) where
  not_dropped : (e : Entry) (c : ℕ) → runs_on l (e ∷ past) c ≡ true
      → drops_one l e past c ≡ false
  not_dropped e c h =
      false_from_ne_true _ (λ d. both_ways _
      (live_now (is_admitted (e ∷ past) c) (has_ended l c (e ∷ past)) h)
      (ap (λ x. not (is_live x)) (dropped_stands l past e c d)))

  ran_entry : (e : Entry) (reply : BookReply) → admitted (e ∷ past) ≡ admitted past
      → drops_after l reply (e ∷ past) ≡ drops_at l e (state l past)
      → RanOn l past reply (e ∷ past)
  ran_entry e reply there drops = (
    there,
    λ c h. (
      ap (λ n. (nat_lt 0 c && nat_le c n) && not (has_ended l c past)) (sym there)
          ∙ ran_both (is_admitted (e ∷ past) c) (has_ended l c past) (has_ended l c (e ∷ past))
          (ended_more l past c e) h,
      ap (has_id c) drops ∙ not_dropped e c h,
    ),
  )

  ran_same : (reply : BookReply) → drops_after l reply past ≡ [] → RanOn l past reply past
  ran_same reply none = (refl, λ c h. (h, ap (has_id c) none))

  abbrev RanThen : Turn → Type 0
  RanThen t = RanOn l past t.reply t.past

  ran_step : (call : BookCall) → (call ≡ Admit → ⊥) → RanThen (book_step l past call)
  unfolding dropped_by
  ran_step Admit other = absurd (other refl)
  ran_step (Run id words now) other =
      by_run l past RanThen id words now (ran_same (Refused (Gone id)) refl)
      (λ on. ran_entry (entry.Run id words (max now (latest past))) (Ran (length past + 1)) refl
      refl)
  ran_step (Tick now) other =
      by_tick l past RanThen now (ran_same (Refused Stopped) refl) (ran_same Quiet refl)
      (λ on some. ran_entry (entry.Tick (max now (latest past))) (Ticked (length past + 1)) refl
      refl)
  ran_step (Take id most) other =
      by_take l past RanThen id most (ran_same (Refused (Gone id)) refl) (ran_same Quiet refl)
      (λ on some. ran_entry (entry.Take id most)
      (Bytes (length past + 1) (take most (unsent l id past))) refl refl)
  ran_step (Close id) other =
      by_close l past RanThen id (ran_same (Refused (Gone id)) refl)
      (λ on. ran_entry (entry.Close id) (Closed (length past + 1)) refl refl)

  ran_turn : (call : BookCall) (reply : BookReply) (new : List Entry) → (call ≡ Admit → ⊥)
      → BookStep l past call reply new → RanOn l past reply new
  ran_turn call reply new other does =
      by_step l (RanOn l past) past new call reply (ran_step call other)
      (ran_same (Refused NoMemory) refl) does

  -- those of connections that were not dropped are kept
  pub kept_by : (call : BookCall) (reply : BookReply) (new : List Entry)
      (names copies left : List (List ℕ)) → (call ≡ Admit → ⊥)
      → BookStep l past call reply new → AreKept l past names copies
      → length left ≡ length copies
      → ((c : ℕ) → 0 < c → has_id c (drops_after l reply new) ≡ false
      → name_of left c ≡ name_of copies c)
      → AreKept l new names left
  kept_by call reply new names copies left other does kept size same =
      let ran = ran_turn call reply new other does in
      record {
        named = kept.named ∙ sym ran.0;
        copied = size ∙ kept.copied ∙ sym ran.0;
        same = λ c on.
            let was = ran.1 c on in
            same c (there (admitted past) c (has_ended l c past) was.0) was.1
            ∙ kept.same c was.0;
      }
    where
      there : (n c : ℕ) (e : Bool) → ((nat_lt 0 c && nat_le c n) && not e) ≡ true → 0 < c
      there n c e h = grind (arith, nat_tests)

-- a connection more has its own name
module _ (l : Limits) (past : List Entry) (name : List ℕ) (names copies : List (List ℕ))
    (kept : AreKept l past names copies) where
  one_more : (xs : List (List ℕ)) (c : ℕ) → length xs ≡ admitted past → 0 < c → c ≤ admitted past
      → name_of (xs ++ name ∷ []) c ≡ name_of xs c
  one_more xs c size more le = grind (arith, get_or_append_left)

  the_last : (xs : List (List ℕ)) (c : ℕ) → length xs ≡ admitted past → c ≡ admitted past + 1
      → name_of (xs ++ name ∷ []) c ≡ name
  the_last xs c size is = grind (arith, get_or_push)

  kept_named : (id c : ℕ) → runs_on l (entry.Admit id ∷ past) c ≡ true
      → name_of (copies ++ name ∷ []) c ≡ name_of (names ++ name ∷ []) c
  kept_named id c on =
      let within = parts (admitted past + 1) c (has_ended l c (entry.Admit id ∷ past)) on in
      elim (cases_lt (admitted past) c) [
        | inl above ↦
            let is : c ≡ admitted past + 1 =
            let le = within.1 in omega arith in
            the_last copies c kept.copied is ∙ sym (the_last names c kept.named is)
        | inr le ↦ one_more copies c kept.copied within.0 le
            ∙ kept.same c (still (admitted past) c (has_ended l c past) within.0 le
            (sym (ended_admit l past c id) ∙ within.2))
            ∙ sym (one_more names c kept.named within.0 le)
      ]
    where
      parts : (n c : ℕ) (e : Bool) → ((nat_lt 0 c && nat_le c n) && not e) ≡ true
          → (0 < c) × (c ≤ n) × (e ≡ false)
      parts n c e h = grind (arith, nat_tests)

      still : (n c : ℕ) (e : Bool) → 0 < c → c ≤ n → e ≡ false
          → ((nat_lt 0 c && nat_le c n) && not e) ≡ true
      still n c e more le none = grind (arith, nat_tests)

  pub kept_admit : (new : List Entry) → new ≡ entry.Admit (admitted past + 1) ∷ past
      → AreKept l new (names ++ name ∷ []) (copies ++ name ∷ [])
  kept_admit new is =
      subst (λ p. AreKept l p (names ++ name ∷ []) (copies ++ name ∷ [])) (sym is) (record {
        named = length-append names (name ∷ []) ∙ ap (λ n. n + 1) kept.named;
        copied = length-append copies (name ∷ []) ∙ ap (λ n. n + 1) kept.copied;
        same = kept_named (admitted past + 1);
      })

-- an Admit adds it, where no SHUTDOWN ran and memory did not run out
pub admit_past : (l : Limits) (past new : List Entry) (e id : ℕ)
    → BookStep l past Admit (Admitted e id) new → new ≡ entry.Admit (admitted past + 1) ∷ past
admit_past l past new e id does =
    let added : Turn → Type 0 =
    λ t. t.reply ≡ Admitted e id → t.past ≡ entry.Admit (admitted past + 1) ∷ past in
    sym (ap (λ (t : Turn). t.past) does)
    ∙ by_admit l past added (λ no. absurd (let clash : ⊥ = cc in clash)) (λ on is. refl)
    (ap (λ (t : Turn). t.reply) does)

pub admit_none : (l : Limits) (past new : List Entry) (reply : BookReply)
    → BookStep l past Admit reply new → is_stopped l past ≡ false
    → ((e id : ℕ) → reply ≡ Admitted e id → ⊥) → new ≡ past
admit_none l past new (Admitted e n) does on other = absurd (other e n refl)
admit_none l past new (Refused NoMemory) does on other = does.0
admit_none l past new reply does on other =
    absurd (other (length past + 1) (admitted past + 1)
    (ap (λ (t : Turn). t.reply) (sym does ∙ admit_step l past on)))

-- ---- a turn as it is played

-- whom a turn dropped ran on before it
module _ (l : Limits) (past : List Entry) (c : ℕ) where
  RanBefore : BookReply → List Entry → Type 0
  RanBefore reply new = has_id c (drops_after l reply new) ≡ true → runs_on l past c ≡ true

  no_drop : false ≡ true → runs_on l past c ≡ true
  no_drop h = absurd (let no : ⊥ = cc in no)

  dropped_ran : (e : Entry) → drops_one l e past c ≡ true → runs_on l past c ≡ true
  dropped_ran e h = sym (on_is l past c) ∙ drop_live l past e c h

  dropped_before : (call : BookCall) → let t = book_step l past call in RanBefore t.reply t.past
  unfolding RanBefore dropped_by
  dropped_before Admit = by_admit l past (λ t. RanBefore t.reply t.past) no_drop (λ on. no_drop)
  dropped_before (Run id words now) =
      by_run l past (λ t. RanBefore t.reply t.past) id words now no_drop
      (λ on. dropped_ran (entry.Run id words (max now (latest past))))
  dropped_before (Tick now) =
      by_tick l past (λ t. RanBefore t.reply t.past) now no_drop no_drop
      (λ on some. dropped_ran (entry.Tick (max now (latest past))))
  dropped_before (Take id most) =
      by_take l past (λ t. RanBefore t.reply t.past) id most no_drop no_drop (λ on some. no_drop)
  dropped_before (Close id) =
      by_close l past (λ t. RanBefore t.reply t.past) id no_drop (λ on. no_drop)

  turn_dropped : (call : BookCall) (reply : BookReply) (new : List Entry)
      → BookStep l past call reply new → has_id c (drops_after l reply new) ≡ true
      → runs_on l past c ≡ true
  unfolding RanBefore
  turn_dropped call reply new does =
      by_step l RanBefore past new call reply (dropped_before call) no_drop does

module _ (l : Limits) (past : List Entry) (call : BookCall) (reply : BookReply) (new : List Entry)
    (names copies : List (List ℕ)) (kept : AreKept l past names copies)
    (does : BookStep l past call reply new) (ids : List ℕ) (are : ids ≡ drops_after l reply new)
  where
    pub ids_rise : (n : ℕ) → n ≡ length copies → Rise 0 ids n
    ids_rise n size =
        subst (λ i. Rise 0 i n) (sym are)
        (subst (Rise 0 (drops_after l reply new)) (sym (size ∙ kept.copied))
        (turn_rises l past call reply new does))

    pub ids_fit : (n : ℕ) → n ≡ length names → length ids ≤ n
    ids_fit n size =
        let rise = ids_rise n (size ∙ kept.named ∙ sym kept.copied) in
        let fit = rise_size 0 n ids rise (omega arith) in omega arith

    -- the lines by the copies are those by the names
    pub lines_are : (e : ℕ) → (reply ≡ Ran e) ⊎ (reply ≡ Ticked e)
        → drop_lines e copies ids ≡ dropped_lines l names reply new
    lines_are e is =
        drops_by e copies names ids
        (λ c h. kept.same c (turn_dropped l past c call reply new does
        (sym (ap (has_id c) are) ∙ h)))
        ∙ told is
      where
        told : (reply ≡ Ran e) ⊎ (reply ≡ Ticked e)
            → drop_lines e names ids ≡ dropped_lines l names reply new
        told (inl ran) =
            ap (drop_lines e names) (are ∙ ap (λ r. drops_after l r new) ran)
            ∙ sym (ap (λ r. dropped_lines l names r new) ran)
        told (inr ticked) =
            ap (drop_lines e names) (are ∙ ap (λ r. drops_after l r new) ticked)
            ∙ sym (ap (λ r. dropped_lines l names r new) ticked)

    pub kept_then : (l' : Limits) (left : List (List ℕ)) → l' ≡ l → (call ≡ Admit → ⊥)
        → length left ≡ length copies
        → ((c : ℕ) → 0 < c → has_id c ids ≡ false → name_of left c ≡ name_of copies c)
        → AreKept l' new names left
    kept_then l' left same other size others =
        subst (λ x. AreKept x new names left) (sym same)
        (kept_by l past call reply new names copies left other does kept size
        (λ c more none. others c more (ap (has_id c) are ∙ none)))
