-- What still holds is held, once.
use Rattle.std.proofs.Common.{◌≡◌, ◌+◌, ◌<◌, ◌++◌, ℕ, List, [], ◌∷◌, length, Bool, true, false}
use Rattle.std.proofs.Common.{cond, Option, Some, None, sym, ap, ◌∙◌, refl, subst, inl, inr, arith}
use Rattle.std.proofs.Common.{eq-eqb, ne_eqb, append-nil}
use Rattle.std.specs.List.{filter}
use Rattle.std.proofs.lemmas.Bool.{cases_eq}
use Rattle.std.proofs.lemmas.List.Elements.{filter-append}
use Rattle.std.proofs.lemmas.Option.{same_Some}
use Rattle.resp_value.specs.declared.value.Value.{Value}
use Rattle.command_words.specs.Queries.{key_of, same_query}
use Rattle.shared_cache.specs.declared.log.Wire.TheVariants.{Main}
use Rattle.shared_cache.specs.declared.log.LogEntry.{LogEntry}
use Rattle.shared_cache.specs.declared.log.LogEntry.TheVariants.{Ask}
use Rattle.shared_cache.specs.declared.entry.CacheEntry.{CacheEntry}
use Rattle.shared_cache.specs.Log.{replies, reply_in, caching_on_for}
use Rattle.shared_cache.specs.Held.{Setup, Words, hold, held_by, read_lead, open_fetch, left}
use Rattle.shared_cache.specs.Laws.{LegalLog}
use Rattle.shared_cache.proofs.Led.{led_some}
use Rattle.cache_laws.specs.HeldExactly.{StillHolds, IsHeld}
use Rattle.cache_laws.proofs.Fetching.{is_open, open_first, one_open, words_same, same_words}
use Rattle.cache_laws.proofs.Displaced.{legal_sooner, not_left, not_left_first}

module _ (open_of : ℕ → Option Words) (left_of : ℕ → Bool) (t : CacheEntry → Bool) (n : ℕ)
    (others : (m : ℕ) (p : Words) (u : Value) → open_of m ≡ Some p → (m ≡ n → ⊥)
    → t (record { query = p; value = u; number = m }) ≡ false) where
  other_hold : (m : ℕ) (u : Value) (o : Option Words) (gone : Bool) → open_of m ≡ o
      → (m ≡ n → ⊥) → filter t (hold o gone u m) ≡ []
  other_hold m u None gone e apart = refl
  other_hold m u (Some p) true e apart = refl
  other_hold m u (Some p) false e apart =
      ap (λ b. cond b (record { query = p; value = u; number = m } ∷ []) []) (others m p u e apart)

  none_of : (vs : List Value) → length vs < n → filter t (held_by open_of left_of vs) ≡ []
  none_of [] lt = refl
  none_of (v ∷ vs) lt =
      let m = length vs + 1 in
      filter-append t (held_by open_of left_of vs) (hold (open_of m) (left_of m) v m)
      ∙ (λ i. none_of vs (omega (arith, lt)) i
      ++ other_hold m v (open_of m) (left_of m) refl (λ e. omega (arith, e, lt)) i)

  pub only : (h : CacheEntry) → h.number ≡ n → open_of n ≡ Some h.query → left_of n ≡ false
      → t h ≡ true → (vs : List Value) → reply_in n vs ≡ Some h.value
      → filter t (held_by open_of left_of vs) ≡ h ∷ []
  only h is opened stays passes [] e = absurd (let no : ⊥ = cc in no)
  only h is opened stays passes (v ∷ vs) e =
      let m = length vs + 1 in
      filter-append t (held_by open_of left_of vs) (hold (open_of m) (left_of m) v m)
      ∙ elim (cases_eq n m) [
        | inl same ↦
            let value : v ≡ h.value
            = same_Some v h.value
            (sym (ap (λ b. cond b (Some v) (reply_in n vs)) (eq-eqb n m same)) ∙ e) in
            let this : hold (open_of m) (left_of m) v m ≡ h ∷ []
            = (λ i. hold (open_of (sym same i)) (left_of (sym same i)) (value i) (sym same i))
            ∙ (λ i. hold (opened i) (stays i) h.value (sym is i)) in
            (λ i. none_of vs (omega (arith, same)) i ++ filter t (this i))
            ∙ ap (λ b. cond b (h ∷ []) []) passes
        | inr apart ↦
            let rest = only h is opened stays passes vs
            (sym (ap (λ b. cond b (Some v) (reply_in n vs)) (ne_eqb n m apart)) ∙ e) in
            (λ i. rest i
            ++ other_hold m v (open_of m) (left_of m) refl (λ e. apart (sym e)) i)
            ∙ append-nil (h ∷ [])
      ]

still_left : (s : Setup) (log : List LogEntry) → 0 < s.capacity → LegalLog s log
    → (h : CacheEntry) → StillHolds s log h → left s log h.number ≡ false
still_left s log some legal h holds =
    let u = holds.fetch in
    let sooner = Ask h.query ∷ u.sent.sooner in
    let all = subst (LegalLog s) u.sent.log_is legal in
    let first = legal_sooner s u.sent.later sooner all in
    let is = u.sent.number_is in
    let on = caching_on_for s.mode u.sent.sooner (key_of h.query) in
    let some_put = led_some (read_lead s.mode.caching on) h.query in
    ap (λ l. left s l h.number) u.sent.log_is
    ∙ not_left s u.sent.later sooner h.number h.query some all
    (omega (arith, is, some_put))
    (open_first s log h.number h.query u)
    (not_left_first s u.sent.sooner h.number h.query first.0 is) u.sent.spared u.last holds.kept

same_test : (q p : Words) (b : Bool) → same_query p q ≡ b → (same_query p q ≡ true → ⊥)
    → b ≡ false
same_test q p true e different = absurd (different e)
same_test q p false e different = refl

pub is_held : (s : Setup) (log : List LogEntry) → 0 < s.capacity → LegalLog s log
    → (h : CacheEntry) → StillHolds s log h → IsHeld s log h
is_held s log some legal h holds =
    let f = is_open s log h.number h.query holds.fetch in
    only (open_fetch s log) (left s log) (λ g. same_query g.query h.query) h.number
    (λ m p u g apart. same_test h.query p (same_query p h.query) refl
    (λ same. apart (one_open s log h.number m h.query f (g ∙ ap Some (same_words p h.query same)))))
    h refl f (still_left s log some legal h holds) (words_same h.query)
    (replies s.mode Main log) holds.reply_is
