-- What a client had got when it sent a command stood in the history before that command ran: one
-- entry more of the history, or of the client's log, keeps it.
use Rattle.std.proofs.Common.{◌≡◌, ◌+◌, ◌<◌, ◌≤◌, ℕ, zero, suc, List, [], ◌∷◌, ◌++◌, true, false}
use Rattle.std.proofs.Common.{cond, Some, length, refl, sym, ap, ◌∙◌, arith, ◌⊎◌, inl, inr}
use Rattle.std.proofs.Common.{append_assoc, append-nil, length-append}
use Rattle.std.specs.Prelude.{◌==◌, slice_get}
use Rattle.std.proofs.lemmas.Option.{slice_get_within}
use Rattle.resp_value.specs.declared.value.Value.{Value}
use Rattle.serial_model.specs.declared.history.Limits.{Limits}
use Rattle.serial_model.specs.declared.history.Entry.{Entry}
use Rattle.serial_model.specs.declared.history.Entry.TheVariants as entry
use Rattle.serial_model.specs.History.{Sending, run_entries, sends, sent, sent_to, state, runs_of}
use Rattle.shared_cache.specs.declared.log.Wire.{Wire}
use Rattle.shared_cache.specs.declared.log.LogEntry.{LogEntry}
use Rattle.shared_cache.specs.Held.{commands}
use Rattle.shared_cache.specs.Laws.{gots}
use Rattle.currency.specs.Links.{Client, HasWire, AreGot, IsCausal}
use Rattle.currency.proofs.Lists.{get_parts, get_one}

-- ---- what was sent

get_same : {A : Type 0} (xs ys : List A) (i : ℕ) → i < length xs
    → slice_get (xs ++ ys) i ≡ slice_get xs i
get_same [] ys i lt = absurd (let no : ⊥ = omega (arith, lt) in no)
get_same (x ∷ xs) ys zero lt = refl
get_same (x ∷ xs) ys (suc i) lt = get_same xs ys i (omega (arith, lt))

placed_number : (n c : ℕ) (x : ℕ × Sending) (ss : List (ℕ × Sending)) (s : ℕ × Sending)
    → ((j : ℕ) → slice_get (sent_to n c ss) j ≡ Some s → s.0 ≡ n)
    → (i : ℕ) → slice_get ((n, x.1) ∷ sent_to n c ss) i ≡ Some s → s.0 ≡ n
placed_number n c h ss s rest i e = grind arith

number_of : (n c : ℕ) (ss : List (ℕ × Sending)) (i : ℕ) (s : ℕ × Sending)
    → slice_get (sent_to n c ss) i ≡ Some s → s.0 ≡ n
number_of n c [] i s e = absurd (let no : ⊥ = cc in no)
number_of n c (x ∷ ss) i s e =
    elim (x.0 == c) as (λ b. slice_get (cond b ((n, x.1) ∷ sent_to n c ss) (sent_to n c ss)) i
    ≡ Some s → s.0 ≡ n) [
      | true ↦ λ f. placed_number n c x ss s (λ j. number_of n c ss j s) i f
      | false ↦ λ f. number_of n c ss i s f
    ] e

-- the number of what was sent is that of an entry
pub sent_number : (l : Limits) (c : ℕ) (past : List Entry) (i : ℕ) (s : ℕ × Sending)
    → slice_get (sent l c past) i ≡ Some s → s.0 ≤ length past
sent_number l c [] i s e = absurd (let no : ⊥ = cc in no)
sent_number l c (x ∷ past) i s e =
    elim (get_parts (sent l c past)
    (sent_to (length past + 1) c (sends l x (state l past))) i s e) [
      | inl old ↦ let le = sent_number l c past i s old in omega (arith, le)
      | inr new ↦ grind (arith, number_of)
    ]

pub sent_more : (l : Limits) (c : ℕ) (es past : List Entry)
    → (new : List (ℕ × Sending)) × (sent l c (es ++ past) ≡ sent l c past ++ new)
sent_more l c [] past = ([], sym (append-nil (sent l c past)))
sent_more l c (e ∷ es) past =
    let r = sent_more l c es past in
    let last = sent_to (length (es ++ past) + 1) c (sends l e (state l (es ++ past))) in (
      r.0 ++ last,
      ap (λ ss. ss ++ last) r.1 ∙ append_assoc (sent l c past) r.0 last,
    )

-- ---- what ran

pub runs_size : (c : ℕ) (past : List Entry) → length (run_entries c past) ≡ length (runs_of c past)
runs_size c [] = refl
runs_size c (entry.Run id words moment ∷ past) = grind (arith, length-append, runs_size c past)
runs_size c (e ∷ past) = runs_size c past

-- what runs later has a number that is greater than all before
pub run_later : (c : ℕ) (es past : List Entry) (place r : ℕ)
    → slice_get (run_entries c (es ++ past)) place ≡ Some r
    → (slice_get (run_entries c past) place ≡ Some r) ⊎ (length past < r)
run_later c [] past place r e = inl e
run_later c (entry.Run id words moment ∷ es) past place r e =
    let older = run_entries c (es ++ past) in
    elim (id == c) as (λ b. slice_get (cond b (older ++ (length (es ++ past) + 1) ∷ []) older)
    place ≡ Some r → (slice_get (run_entries c past) place ≡ Some r) ⊎ (length past < r)) [
      | true ↦ λ f. elim (get_parts older ((length (es ++ past) + 1) ∷ []) place r f) [
        | inl old ↦ run_later c es past place r old
        | inr new ↦ grind (arith, get_one, length-append)
      ]
      | false ↦ λ f. run_later c es past place r f
    ] e
run_later c (x ∷ es) past place r e = run_later c es past place r e

-- ---- what was got

pub got_count : (vs : List Value) (ss : List (ℕ × Sending)) → AreGot vs ss → length vs ≤ length ss
got_count [] ss a = omega arith
got_count (v ∷ vs) [] a = absurd a
got_count (v ∷ vs) (s ∷ ss) a = let r = got_count vs ss a.1 in omega (arith, r)

pub gots_longer : (w : Wire) (e : LogEntry) (log : List LogEntry)
    → length (gots w log) ≤ length (gots w (e ∷ log))
gots_longer w e log = grind (arith, length-append)

-- ---- causes

-- no more was got than was sent
abbrev pub GotsWithin : Limits → Client → List Entry → List LogEntry → Type 0
GotsWithin l x past log =
    (w : Wire) → HasWire x.setup.mode.shape w → length (gots w log) ≤ length (sent l (x.id w) past)

pub causal_entries : (l : Limits) (x : Client) (es past : List Entry) (log : List LogEntry)
    → GotsWithin l x past log → IsCausal l x past log → IsCausal l x (es ++ past) log
causal_entries l e es past [] within c = tt
causal_entries l x es past (e ∷ log) within c = (
  λ w u has other place r i s sooner ran lt there.
      let more = sent_more l (x.id w) es past in
      let below : i < length (sent l (x.id w) past) = omega (arith, lt, within w has) in
      let same : slice_get (sent l (x.id w) past) i ≡ Some s =
      sym (get_same (sent l (x.id w) past) more.0 i below)
      ∙ sym (ap (λ ss. slice_get ss i) more.1) ∙ there in
      elim (run_later (x.id u) es past place r ran) [
        | inl old ↦ c.0 w u has other place r i s sooner old lt same
        | inr new ↦ let le = sent_number l (x.id w) past i s same in omega (arith, le, new)
      ],
  causal_entries l x es past log
      (λ w has. let a = gots_longer w e log in omega (arith, a, within w has))
      c.1,
)

-- only commands ran that were sent
abbrev pub RunsWithin : Client → List Entry → List LogEntry → Type 0
RunsWithin x past log =
    (w : Wire) → HasWire x.setup.mode.shape w
    → length (run_entries (x.id w) past) ≤ length (commands x.setup w log)

pub causal_log : (l : Limits) (x : Client) (past : List Entry) (e : LogEntry) (log : List LogEntry)
    → RunsWithin x past log → IsCausal l x past log → IsCausal l x past (e ∷ log)
causal_log l h past e log within c = grind (arith, slice_get_within)
