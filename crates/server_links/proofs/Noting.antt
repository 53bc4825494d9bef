-- What is noted of a turn is what the history says after it.
use Rattle.std.proofs.Common.{◌≡◌, ◌+◌, ◌<◌, ◌≤◌, ℕ, List, [], ◌∷◌, ◌++◌, true, false, cond, Option}
use Rattle.std.proofs.Common.{None, Some, length, map, slice_index_or, slice_set, refl, sym, ap}
use Rattle.std.proofs.Common.{◌∙◌, arith, append-nil, append_assoc, length-set, length-append}
use Rattle.std.proofs.Common.{eq-eqb, max, take}
use Rattle.std.specs.Prelude.{◌==◌, ◌↔◌, option_to_list, IsSome}
use Rattle.std.proofs.lemmas.Bool.{eqb-true, cases_lt}
use Rattle.std.proofs.lemmas.Bool.Decides.{nat_tests}
use Rattle.std.proofs.lemmas.List.{get_or-set_same, get_or-set_other, get_or_append_left}
use Rattle.std.proofs.lemmas.List.{get_or_past, get_or_push, map-append, take_more}
use Rattle.std.proofs.Math.Seq.{take-append_seam}
use Rattle.serial_model.specs.declared.history.Limits.{Limits}
use Rattle.serial_model.specs.declared.history.Entry.{Entry}
use Rattle.serial_model.specs.declared.history.Entry.TheVariants as entry
use Rattle.serial_model.specs.declared.history.Post.{Post}
use Rattle.serial_model.specs.declared.history.BookCall.{BookCall}
use Rattle.serial_model.specs.declared.history.BookCall.TheVariants.{Admit, Run, Tick, Take, Close}
use Rattle.serial_model.specs.declared.history.BookReply.{BookReply}
use Rattle.serial_model.specs.History.{Sending, admitted, gives_on, latest, posts_of, posted}
use Rattle.serial_model.specs.History.{expired, reads_on, run_entries, runs_of, sends, sent_to}
use Rattle.serial_model.specs.History.{is_stopped, state, unsent, IsLegal}
use Rattle.serial_model.specs.Steps.{Turn, admitting, closing, gone, stopped, taking, ticking}
use Rattle.serial_model.specs.Steps.{book_step, BookStep}
use Rattle.serial_model.proofs.Fresh.{sent_fresh}
use Rattle.serial_model.proofs.Streams.{runs_fresh, connected}
use Rattle.serial_model.proofs.Turning.{by_step}
use Rattle.server_book.specs.BookState.{posts_after}
use Rattle.server_links.specs.Notes.{AreNotes, NotesState, TrailState, IsNoted, changed}
use Rattle.server_links.specs.Notes.{noted_posts, noted_turn, runner_of, trail_of, with_run}
use Rattle.server_links.specs.Notes.{with_sent, with_words, words_of}

-- ---- one trail changes

changed_size : (f : TrailState → TrailState) (id : ℕ) (ts : List TrailState)
    → length (changed f id ts) ≡ length ts
changed_size f id ts = grind (arith, slice_set, length-set)

changed_there : (f : TrailState → TrailState) (id c : ℕ) (ts : List TrailState) → 0 < c
    → c ≤ length ts
    → trail_of c (changed f id ts) ≡ cond (id == c) (f (trail_of c ts)) (trail_of c ts)
changed_there f id c ts more le =
    grind (arith, eqb-true, nat_tests, slice_set, get_or-set_same, get_or-set_other, eq-eqb)

-- ---- posts

-- those that are for one connection
abbrev posted_to : ℕ → List Post → List ℕ
posted_to c [] = []
posted_to c (p ∷ ps) = cond (p.id == c) (p.entry ∷ posted_to c ps) (posted_to c ps)

posted_is : (n c : ℕ) (ss : List (ℕ × Sending))
    → posted_to c (posts_of n ss) ≡ map (λ s. s.0) (sent_to n c ss)
posted_is n c [] = refl
posted_is n c (s ∷ ss) = grind (arith, posted_is n c ss)

posts_size : (ps : List Post) (ts : List TrailState) → length (noted_posts ps ts) ≡ length ts
posts_size [] ts = refl
posts_size (p ∷ ps) ts =
    posts_size ps (changed (with_sent p.entry) p.id ts) ∙ changed_size (with_sent p.entry) p.id ts

posts_runs : (c : ℕ) (ps : List Post) (ts : List TrailState) → 0 < c → c ≤ length ts
    → (trail_of c (noted_posts ps ts)).runs ≡ (trail_of c ts).runs
posts_runs c [] ts more le = refl
posts_runs c (p ∷ ps) ts more le =
    let next = changed (with_sent p.entry) p.id ts in
    posts_runs c ps next more (omega (arith, le, changed_size (with_sent p.entry) p.id ts))
    ∙ ap (λ (t : TrailState). t.runs) (changed_there (with_sent p.entry) p.id c ts more le)
    ∙ (grind arith)

posts_words : (c : ℕ) (ps : List Post) (ts : List TrailState) → 0 < c → c ≤ length ts
    → ((trail_of c (noted_posts ps ts)).words ≡ (trail_of c ts).words)
    × ((trail_of c (noted_posts ps ts)).keeps_words ≡ (trail_of c ts).keeps_words)
posts_words c [] ts more le = (refl, refl)
posts_words c (p ∷ ps) ts more le =
    let next = changed (with_sent p.entry) p.id ts in
    let rest =
    posts_words c ps next more (omega (arith, le, changed_size (with_sent p.entry) p.id ts)) in
    let there = changed_there (with_sent p.entry) p.id c ts more le in (
      rest.0 ∙ ap (λ (t : TrailState). t.words) there ∙ (grind arith),
      rest.1 ∙ ap (λ (t : TrailState). t.keeps_words) there ∙ (grind arith),
    )

posts_sent : (c : ℕ) (ps : List Post) (ts : List TrailState) → 0 < c → c ≤ length ts
    → (trail_of c (noted_posts ps ts)).sent ≡ (trail_of c ts).sent ++ posted_to c ps
posts_sent c [] ts more le = sym (append-nil (trail_of c ts).sent)
posts_sent c (p ∷ ps) ts more le =
    let next = changed (with_sent p.entry) p.id ts in
    posts_sent c ps next more (omega (arith, le, changed_size (with_sent p.entry) p.id ts))
    ∙ ap (λ (t : TrailState). t.sent ++ posted_to c ps)
    (changed_there (with_sent p.entry) p.id c ts more le)
    ∙ (grind (arith, append_assoc))

-- ---- an entry

-- the entries of a connection that was not admitted
runs_none : (l : Limits) (past : List Entry) (c : ℕ) → IsLegal l past → admitted past < c
    → run_entries c past ≡ []
runs_none l [] c h lt = refl
runs_none l (entry.Admit id ∷ past) c h lt = runs_none l past c h.2 (omega arith)
runs_none l (entry.Run id words moment ∷ past) c h lt =
    grind (arith, connected, runs_none l past c h.2 lt)
runs_none l (entry.Close id ∷ past) c h lt = runs_none l past c h.1 lt
runs_none l (entry.Tick moment ∷ past) c h lt = runs_none l past c h.3 lt
runs_none l (entry.Take id max ∷ past) c h lt = runs_none l past c h.2 lt

module _ (l : Limits) (past : List Entry) (ts : List TrailState) (noted : IsNoted l past ts) where
  -- an entry that admits nobody
  entry_noted : (e : Entry) (ran : List TrailState) → length ran ≡ length ts
      → admitted (e ∷ past) ≡ admitted past
      → ((c : ℕ) → 0 < c → c ≤ length ts → ((trail_of c ran).runs ≡ run_entries c (e ∷ past))
      × ((trail_of c ran).sent ≡ (trail_of c ts).sent)
      × ((trail_of c ran).keeps_words ≡ true → (trail_of c ran).words ≡ runs_of c (e ∷ past)))
      → IsNoted l (e ∷ past)
      (noted_posts (posts_of (length past + 1) (sends l e (state l past))) ran)
  entry_noted e ran size same each =
      grind (arith, posts_size, posts_runs, posts_words, posts_sent, posted_is, map-append)

  run_noted : (id moment : ℕ) (words : List (List ℕ))
      → IsNoted l (entry.Run id words moment ∷ past)
      (noted_posts
      (posts_of (length past + 1) (sends l (entry.Run id words moment) (state l past)))
      (changed (with_run (length past + 1) words) id ts))
  run_noted id moment words =
      let n = length past + 1 in
      entry_noted (entry.Run id words moment) (changed (with_run n words) id ts)
      (changed_size (with_run n words) id ts) refl
      (λ c more le.
      let there = changed_there (with_run n words) id c ts more le in grind arith)

  quiet_noted : (e : Entry) → admitted (e ∷ past) ≡ admitted past
      → ((c : ℕ) → run_entries c (e ∷ past) ≡ run_entries c past)
      → ((c : ℕ) → runs_of c (e ∷ past) ≡ runs_of c past)
      → IsNoted l (e ∷ past)
      (noted_posts (posts_of (length past + 1) (sends l e (state l past))) ts)
  quiet_noted e same none ran = grind (arith, entry_noted)

-- ---- a turn

module _ (l : Limits) (past : List Entry) (ts : List TrailState) (noted : IsNoted l past ts)
    (legal : IsLegal l past) where
  Noted : BookCall → BookReply → List Entry → Type 0
  Noted call reply new =
      IsNoted l new
      (noted_turn (runner_of call) (words_of call) reply (posts_after l reply new) ts)

  take_noted : (id most : ℕ) (bytes : List ℕ) → let t = taking past id most bytes in
      Noted (Take id most) t.reply t.past
  unfolding posted Noted
  take_noted id most [] = noted
  take_noted id most (b ∷ bytes) =
      quiet_noted l past ts noted (entry.Take id most) refl (λ c. refl) (λ c. refl)

  ticking_noted : (now moment : ℕ) (keys : List (List ℕ)) →
      let t = ticking past moment keys in Noted (Tick now) t.reply t.past
  unfolding posted Noted
  ticking_noted now moment [] = noted
  ticking_noted now moment (key ∷ keys) =
      quiet_noted l past ts noted (entry.Tick moment) refl (λ c. refl) (λ c. refl)

  admit_noted : let t = admitting past in Noted Admit t.reply t.past
  unfolding posted Noted
  admit_noted =
      grind (
        arith,
        length-append,
        get_or_push,
        runs_none,
        get_or_append_left,
        sent_fresh,
        runs_fresh,
        append-nil,
      )

  -- a call that a stopped server refuses
  unless_stopped : (call : BookCall) (turn : Turn) → Noted call turn.reply turn.past
      → let t = cond (is_stopped l past) (stopped past) turn in Noted call t.reply t.past
  unfolding Noted
  unless_stopped call turn does =
      elim (is_stopped l past) as (λ b.
      let t = cond b (stopped past) turn in Noted call t.reply t.past) [
        | true ↦ noted
        | false ↦ does
      ]

  step_noted : (call : BookCall)
      → Noted call (book_step l past call).reply (book_step l past call).past
  unfolding book_step posted Noted
  step_noted Admit = unless_stopped Admit (admitting past) admit_noted
  step_noted (Run id words now) = grind (arith, Noted, run_noted, max)
  step_noted (Tick now) =
      let moment = max now (latest past) in
      unless_stopped (Tick now) _ (ticking_noted now moment (expired l past moment))
  step_noted (Take id most) =
      elim (gives_on l past id) as (λ b.
      let t = cond b (taking past id most (take most (unsent l id past))) (gone past id) in
      Noted (Take id most) t.reply t.past) [
        | true ↦ take_noted id most (take most (unsent l id past))
        | false ↦ noted
      ]
  step_noted (Close id) =
      elim (reads_on l past id) as (λ b.
      let t = cond b (closing past id) (gone past id) in Noted (Close id) t.reply t.past) [
        | true ↦ quiet_noted l past ts noted (entry.Close id) refl (λ c. refl) (λ c. refl)
        | false ↦ noted
      ]

  pub turn_noted : (call : BookCall) (reply : BookReply) (new : List Entry)
      → BookStep l past call reply new
      → IsNoted l new
      (noted_turn (runner_of call) (words_of call) reply (posts_after l reply new) ts)
  unfolding Noted
  turn_noted call reply new does =
      by_step l (Noted call) past new call reply (step_noted call) noted does

-- ---- notes that are whole

pub posts_then : (ps qs : List Post) (ts : List TrailState)
    → noted_posts (ps ++ qs) ts ≡ noted_posts qs (noted_posts ps ts)
posts_then [] qs ts = refl
posts_then (p ∷ ps) qs ts = posts_then ps qs (changed (with_sent p.entry) p.id ts)

pub posts_next : (posts : List Post) (i : ℕ) (d : Post) (ts now next : List TrailState)
    → i < length posts → now ≡ noted_posts (take i posts) ts
    → next ≡ changed (with_sent (slice_index_or posts i d).entry) (slice_index_or posts i d).id now
    → next ≡ noted_posts (take (i + 1) posts) ts
posts_next posts i d ts now next lt before is =
    let p = slice_index_or posts i d in
    is ∙ ap (λ x. changed (with_sent p.entry) p.id x) before
    ∙ sym (posts_then (take i posts) (p ∷ []) ts)
    ∙ ap (λ ps. noted_posts ps ts) (sym (take_more posts i d lt))

module _ (l : Limits) (past : List Entry) (notes : NotesState) (are : AreNotes l past notes)
    (whole : notes.whole ≡ true) (legal : IsLegal l past) where
  pub whole_runs : (at : ℕ)
      → (trail_of (at + 1) notes.trails).runs ≡ run_entries (at + 1) past
  whole_runs at = grind (arith, cases_lt, get_or_past, runs_none)

pub whole_words : (l : Limits) (past : List Entry) (notes : NotesState) → AreNotes l past notes
    → notes.whole ≡ true → (at : ℕ) → (trail_of (at + 1) notes.trails).keeps_words ≡ true
    → (trail_of (at + 1) notes.trails).words ≡ runs_of (at + 1) past
whole_words l past notes are whole at keeps = grind (arith, cases_lt, get_or_past)

-- ---- a line that is taken back

pub last_same : {A : Type 0} → (xs ys : List A) (x y : A) → xs ++ x ∷ [] ≡ ys ++ y ∷ [] → xs ≡ ys
last_same xs ys x y e =
    let n : length (xs ++ x ∷ []) ≡ length (ys ++ y ∷ []) = ap length e in
    sym (take-append_seam xs (x ∷ []))
    ∙ ap (take (length xs)) e
    ∙ ap (λ k. take k (ys ++ y ∷ []))
    (omega (arith, n, length-append xs (x ∷ []), length-append ys (y ∷ [])))
    ∙ take-append_seam ys (y ∷ [])

pub last_gone : {A : Type 0} → (before : List A) (x : A) (old new : List A) (r : Option A)
    → old ≡ before ++ x ∷ [] → old ≡ new ++ option_to_list r → (IsSome r ↔ (0 < length old))
    → new ≡ before
last_gone {A} before x old new None is items some = grind (arith, length-append)
last_gone before x old new (Some y) is items some = last_same new before y x (sym items ∙ is)

-- where no command of a connection ran, it has no words
none_ran : (c : ℕ) (past : List Entry) → length (run_entries c past) ≡ length (runs_of c past)
none_ran c [] = refl
none_ran c (entry.Admit id ∷ past) = none_ran c past
none_ran c (entry.Run id words moment ∷ past) = grind (arith, length-append, none_ran c past)
none_ran c (entry.Tick moment ∷ past) = none_ran c past
none_ran c (entry.Take id max ∷ past) = none_ran c past
none_ran c (entry.Close id ∷ past) = none_ran c past

no_words : {A : Type 0} (xs : List A) → length xs ≡ 0 → [] ≡ xs
no_words [] e = refl
no_words (x ∷ xs) e = absurd (omega arith)

-- and from there on they can be kept
pub words_kept : (l : Limits) (past : List Entry) (ts : List TrailState) (id : ℕ)
    → IsNoted l past ts → IsNoted l past (changed with_words id ts)
words_kept l past ts id noted = record {
  count = changed_size with_words id ts ∙ noted.count;
  runs = λ c more le.
      let within : c ≤ length ts = omega (arith, le, changed_size with_words id ts) in
      let there = changed_there with_words id c ts more within in
      let was = noted.runs c more within in grind arith;
  sent = λ c more le.
      let within : c ≤ length ts = omega (arith, le, changed_size with_words id ts) in
      let there = changed_there with_words id c ts more within in
      let was = noted.sent c more within in grind arith;
  words = λ c more le keeps.
      let within : c ≤ length ts = omega (arith, le, changed_size with_words id ts) in
      let there = changed_there with_words id c ts more within in
      let was = noted.words c more within in
      let ran = noted.runs c more within in
      let none = none_ran c past in grind (arith, no_words, eqb-true);
}
