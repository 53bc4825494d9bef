-- A fetch is open exactly while it is under way.
use Rattle.std.proofs.Common.{◌≡◌, ◌≤◌, ◌++◌, ◌&&◌, ◌⊎◌, ℕ, List, [], ◌∷◌, length, Bool, true}
use Rattle.std.proofs.Common.{false}
use Rattle.std.proofs.Common.{cond, Option, Some, None, sym, ap, ◌∙◌, refl, subst, inl, inr, arith}
use Rattle.std.specs.Prelude.{is_none}
use Rattle.std.proofs.lemmas.Bool.{cases_lt}
use Rattle.std.proofs.lemmas.Slice.Eq.{bytes_eq-Decides, slice_eq-Decides}
use Rattle.command_words.specs.Queries.{key_of, same_query, writes}
use Rattle.shared_cache.specs.declared.log.ClientMode.{ClientMode}
use Rattle.shared_cache.specs.declared.log.LogEntry.{LogEntry}
use Rattle.shared_cache.specs.declared.log.LogEntry.TheVariants.{Ask, Send, Poll, TakeOut, Got}
use Rattle.shared_cache.specs.declared.entry.CacheEntry.{CacheEntry}
use Rattle.shared_cache.specs.declared.log.Wire.TheVariants.{Main}
use Rattle.shared_cache.specs.Log.{caching_on_for, replies}
use Rattle.shared_cache.specs.Held.{Setup, Words, held_for, unless, asked, other_than, ends}
use Rattle.shared_cache.specs.Held.{numbers, open_fetch, held, sent, got_ends}
use Rattle.shared_cache.specs.Steps.{read_number}
use Rattle.shared_cache.specs.Laws.{Spared}
use Rattle.shared_cache.proofs.Fetches.{beyond}
use Rattle.shared_cache.proofs.FetchLaws.{unless_some, IsNew}
use Rattle.shared_cache.proofs.HeldSteps.{open_hit, open_old, open_new}
use Rattle.cache_laws.specs.HeldExactly.{sends_anew, NotAnew, IsUnderWay}

-- ---- under way is open

pub open_within : (s : Setup) (log : List LogEntry) (n : ℕ) (q : Words)
    → open_fetch s log n ≡ Some q → n ≤ numbers s log
open_within s log n q f = elim (cases_lt (numbers s log) n) [
  | inl past ↦ absurd (let none = sym (beyond s log n past) ∙ f in let no : ⊥ = cc in no)
  | inr within ↦ within
]

newly : (s : Setup) (log : List LogEntry) (n : ℕ) (q : Words) → n ≡ read_number s log q
    → held_for q (held s log) ≡ None → caching_on_for s.mode log (key_of q) ≡ true
    → open_fetch s (Ask q ∷ log) n ≡ Some q
newly s log n q is missed on =
    ap (open_fetch s (Ask q ∷ log)) is ∙ open_new s log q missed true on

kept : (b : Bool) (q : Words) → (b && true) ≡ false → cond b None (Some q) ≡ Some q
kept true q e = absurd (let no : ⊥ = cc in no)
kept false q e = refl

open_asked : (s : Setup) (log : List LogEntry) (p : Words) (n : ℕ) (q : Words)
    (o : Option CacheEntry) → held_for p (held s log) ≡ o → open_fetch s log n ≡ Some q
    → (same_query q p && is_none o) ≡ false → open_fetch s (Ask p ∷ log) n ≡ Some q
open_asked s log p n q (Some h) e f anew = open_hit s log p h e n ∙ f
open_asked s log p n q None e f anew =
    open_old s log p e n (open_within s log n q f) ∙ ap (other_than p) f
    ∙ kept (same_query q p) q anew

open_one : (s : Setup) (log : List LogEntry) (n : ℕ) (q : Words) (e : LogEntry)
    → open_fetch s log n ≡ Some q → ends s log n e (key_of q) ≡ false
    → sends_anew s log e q ≡ false → open_fetch s (e ∷ log) n ≡ Some q
open_one s log n q (Ask p) f spares anew =
    open_asked s log p n q (held_for p (held s log)) refl f anew
open_one s log n q (Send ws) f spares anew =
    ap (unless (writes ws)) f ∙ ap (λ b. cond b None (Some q)) spares
open_one s log n q (Poll m) f spares anew = f
open_one s log n q (TakeOut w m) f spares anew = f
open_one s log n q (Got w v) f spares anew =
    ap (unless (got_ends s (sent s log) (length (replies s.mode Main log)) w v n)) f
    ∙ ap (λ b. cond b None (Some q)) spares
open_one s log n q e f spares anew = absurd (let no : ⊥ = cc in no)

pub open_since : (s : Setup) (later sooner : List LogEntry) (n : ℕ) (q : Words)
    → open_fetch s sooner n ≡ Some q → Spared s sooner n (key_of q) later
    → NotAnew s sooner q later → open_fetch s (later ++ sooner) n ≡ Some q
open_since s [] sooner n q f spared last = f
open_since s (e ∷ later) sooner n q f spared last =
    open_one s (later ++ sooner) n q e (open_since s later sooner n q f spared.1 last.1) spared.0
    last.0

-- where it was sent
pub open_first : (s : Setup) (log : List LogEntry) (n : ℕ) (q : Words) (u : IsUnderWay s log n q)
    → open_fetch s (Ask q ∷ u.sent.sooner) n ≡ Some q
open_first s log n q u =
    newly s u.sent.sooner n q u.sent.number_is u.sent.missed u.sent.on

pub is_open : (s : Setup) (log : List LogEntry) (n : ℕ) (q : Words) → IsUnderWay s log n q
    → open_fetch s log n ≡ Some q
is_open s log n q u =
    ap (λ l. open_fetch s l n) u.sent.log_is
    ∙ open_since s u.sent.later (Ask q ∷ u.sent.sooner) n q (open_first s log n q u) u.sent.spared
    u.last

-- ---- open is under way

not_anew : (b : Bool) → b ≡ false → (b && true) ≡ false
not_anew b e = ap (λ c. c && true) e

hit_not_anew : (b : Bool) → (b && false) ≡ false
hit_not_anew true = refl
hit_not_anew false = refl

pub asked_some : (o : Option CacheEntry) (m : ClientMode) (on : Bool) (before : ℕ) (p : Words)
    (n : ℕ) (old : Option Words) (q : Words) → asked o m on before p n old ≡ Some q
    → ((old ≡ Some q) × ((same_query q p && is_none o) ≡ false)) ⊎ IsNew o m on before p n q
asked_some (Some h) m on before p n old q e = inl (e, hit_not_anew (same_query q p))
asked_some None m on before p n old q e = grind (arith, not_anew)

one_later : (s : Setup) (log : List LogEntry) (n : ℕ) (q : Words) (e : LogEntry)
    → ends s log n e (key_of q) ≡ false → sends_anew s log e q ≡ false → IsUnderWay s log n q
    → IsUnderWay s (e ∷ log) n q
one_later s log n q e spares anew u = record {
  sent = record {
    later = e ∷ u.sent.later;
    sooner = u.sent.sooner;
    log_is = ap (λ l. e ∷ l) u.sent.log_is;
    number_is = u.sent.number_is;
    missed = u.sent.missed;
    on = u.sent.on;
    spared =
        (subst (λ l. ends s l n e (key_of q) ≡ false) u.sent.log_is spares, u.sent.spared);
  };
  last = (subst (λ l. sends_anew s l e q ≡ false) u.sent.log_is anew, u.last);
}

pub is_under_way : (s : Setup) (log : List LogEntry) (n : ℕ) (q : Words)
    → open_fetch s log n ≡ Some q → IsUnderWay s log n q
is_under_way s (Ask p ∷ log) n q f =
    elim (asked_some (held_for p (held s log)) s.mode (caching_on_for s.mode log (key_of p))
    (numbers s log) p n (open_fetch s log n) q f) [
      | inl old ↦ one_later s log n q (Ask p) refl old.1 (is_under_way s log n q old.0)
      | inr new ↦ record {
        sent = record {
          later = [];
          sooner = log;
          log_is = ap (λ x. Ask x ∷ log) new.query_is;
          number_is = new.number_is ∙ ap (read_number s log) new.query_is;
          missed = ap (λ x. held_for x (held s log)) (sym new.query_is) ∙ new.missed;
          on = ap (λ x. caching_on_for s.mode log (key_of x)) (sym new.query_is)
              ∙ new.turned_on;
          spared = tt;
        };
        last = tt;
      }
    ]
is_under_way s (Send ws ∷ log) n q f =
    let u = unless_some (writes ws) (open_fetch s log n) q f in
    one_later s log n q (Send ws) u.1 refl (is_under_way s log n q u.0)
is_under_way s (Poll m ∷ log) n q f =
    one_later s log n q (Poll m) refl refl (is_under_way s log n q f)
is_under_way s (TakeOut w m ∷ log) n q f =
    one_later s log n q (TakeOut w m) refl refl (is_under_way s log n q f)
is_under_way s (Got w v ∷ log) n q f =
    let u = unless_some (got_ends s (sent s log) (length (replies s.mode Main log)) w v n)
    (open_fetch s log n) q f in
    one_later s log n q (Got w v) u.1 refl (is_under_way s log n q u.0)
is_under_way s log n q f = absurd (let no : ⊥ = cc in no)

-- ---- no two of one query are open

pub same_words : (p q : Words) → same_query p q ≡ true → p ≡ q
same_words p q e = (slice_eq-Decides bytes_eq-Decides p q (same_query p q) refl).0 e

pub words_same : (q : Words) → same_query q q ≡ true
words_same q = (slice_eq-Decides bytes_eq-Decides q q (same_query q q) refl).1 refl

-- the older gave way to the newer
given_way : (q r : Words) (o : Option CacheEntry) → q ≡ r → o ≡ None
    → (same_query q r && is_none o) ≡ false → ⊥
given_way q r o e none anew =
    let same : same_query q r ≡ true = ap (same_query q) (sym e) ∙ words_same q in
    let no : true ≡ false
    = sym ((λ i. same i && is_none (none i))) ∙ anew in
    cc

pub one_open : (s : Setup) (log : List LogEntry) (n m : ℕ) (q : Words)
    → open_fetch s log n ≡ Some q → open_fetch s log m ≡ Some q → m ≡ n
one_open s (Ask r ∷ log) n m q f g =
    let o = held_for r (held s log) in
    let on = caching_on_for s.mode log (key_of r) in
    elim (asked_some o s.mode on (numbers s log) r n (open_fetch s log n) q f) [
      | inl a ↦ elim (asked_some o s.mode on (numbers s log) r m (open_fetch s log m) q g) [
        | inl b ↦ one_open s log n m q a.0 b.0
        | inr b ↦ absurd (given_way q r o (sym b.query_is) b.missed a.1)
      ]
      | inr a ↦ elim (asked_some o s.mode on (numbers s log) r m (open_fetch s log m) q g) [
        | inl b ↦ absurd (given_way q r o (sym a.query_is) a.missed b.1)
        | inr b ↦ b.number_is ∙ sym a.number_is
      ]
    ]
one_open s (Send ws ∷ log) n m q f g =
    one_open s log n m q (unless_some (writes ws) (open_fetch s log n) q f).0
    (unless_some (writes ws) (open_fetch s log m) q g).0
one_open s (Poll k ∷ log) n m q f g = one_open s log n m q f g
one_open s (TakeOut w k ∷ log) n m q f g = one_open s log n m q f g
one_open s (Got w v ∷ log) n m q f g =
    let count = length (replies s.mode Main log) in
    one_open s log n m q
    (unless_some (got_ends s (sent s log) count w v n) (open_fetch s log n) q f).0
    (unless_some (got_ends s (sent s log) count w v m) (open_fetch s log m) q g).0
one_open s log n m q f g = absurd (let no : ⊥ = cc in no)
