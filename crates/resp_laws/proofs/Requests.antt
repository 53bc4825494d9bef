-- The first bytes of written requests hold the first of them.
use Rattle.std.proofs.Common.{◌≡◌, ℕ, suc, ◌<◌, List, [], ◌∷◌, ◌++◌, refl, ap, subst, ◌∙◌}
use Rattle.std.proofs.Common.{append_assoc, length, map, arith, Some}
use Rattle.std.specs.List.{flat_map}
use Rattle.std.specs.Fmt.{decimal}
use Rattle.resp_value.specs.Lists.{IsPrefix}
use Rattle.resp_value.specs.Spelling.{counted, blob_spellings, request_spelling}
use Rattle.resp_stream.specs.Parsed.{Parsed, Whole, More, Bad, ◌>>=◌}
use Rattle.resp_stream.specs.Parse.{Batch, batch, parse}
use Rattle.resp_stream.specs.Readers.{skipped}
use Rattle.resp_stream.specs.Tokens.{length_at, many}
use Rattle.resp_stream.specs.Request.{words_rule, word_rule, sized, word_at, listed, request_begun}
use Rattle.resp_stream.specs.Request.{request_at}
use Rattle.resp_stream.specs.Stream.{Stream, begun, fed, moved_on}
use Rattle.resp_stream.proofs.Batches.{Takes, batch_whole, batch_more, batch_bad}
use Rattle.resp_stream.proofs.Parse.{takes_requests}
use Rattle.resp_stream.proofs.Skipping.{skip_more, skip_bad, skip_whole}
use Rattle.resp_laws.specs.Fronts.{Every, RequestsInOrder}
use Rattle.resp_laws.proofs.Decimals.{length_written}
use Rattle.resp_laws.proofs.Only.{Only, only_is, only_same, only_then, only_capped, only_none}
use Rattle.resp_laws.proofs.Only.{only_next}
use Rattle.resp_laws.proofs.Steadiness.{steady_requests}
use Rattle.resp_laws.proofs.Written.{head_parts, counted_parts, counted_only, marked, starred}

-- ---- in turn, for any reader that takes bytes and gives nothing but what was written

-- reading no bytes gives nothing
abbrev pub NeedsBytes : {A : Type 0} → (List ℕ → Parsed A) → Type 0
NeedsBytes {A} read = (x : A) (r : List ℕ) → read [] ≡ Whole x r → ⊥

module _ {A M : Type 0} (read : List ℕ → Parsed A) (past : Stream → Stream)
    (takes : Takes read past) (spell : M → List ℕ) (says : M → A) (Good : M → Type 0)
    (Answered : A → Type 0)
    (only : (m : M) (s : List ℕ) → Good m → Only (read (spell m ++ s)) (says m) s)
    (answered : (m : M) → Good m → Answered (says m))
    (kept : (b r : List ℕ) (x : A) → read b ≡ Whole x r → (m : List ℕ)
    → read (b ++ m) ≡ Whole x (r ++ m))
    (needs : NeedsBytes read)
    (stays : (s : Stream) → ((x : A) (r : List ℕ) → read s.rest ≡ Whole x r → Answered x)
    → (past s).rest ≡ s.rest)
  where
    -- what is read first is what was written first
    first_is : (m : M) (ms : List M) (b : List ℕ) (p : IsPrefix b (spell m ++ flat_map spell ms))
        → Good m → (x : A) (r : List ℕ) → read b ≡ Whole x r
        → (x ≡ says m) × (r ++ p.0 ≡ flat_map spell ms)
    first_is m ms b p g h r e = grind arith

    none_of : (s : Stream) → (past s).rest ≡ s.rest → (a : Parsed A) → read s.rest ≡ a
        → ((x : A) (r : List ℕ) → a ≡ Whole x r → ⊥) → (batch read past s).items ≡ []
    none_of s same (Whole x r) e never = absurd (never x r refl)
    none_of s same More e never =
        ap (λ (q : Batch A). q.items) (batch_more read past takes s (ap read same ∙ e))
    none_of s same (Bad g r) e never =
        ap (λ (q : Batch A). q.items) (batch_bad read past takes s g r (ap read same ∙ e))

    front_by : (m : M) (ms : List M) (s : Stream)
        (p : IsPrefix s.rest (spell m ++ flat_map spell ms)) → Good m
        → (past s).rest ≡ s.rest
        → ((r : List ℕ) → IsPrefix r (flat_map spell ms)
        → IsPrefix (batch read past (moved_on s r)).items (map says ms))
        → (a : Parsed A) → read s.rest ≡ a
        → IsPrefix (batch read past s).items (says m ∷ map says ms)
    front_by m ms s p g same go (Whole x r) e =
        let k = first_is m ms s.rest p g x r e in
        let f = go r (p.0, k.1) in (
          f.0,
          ap (λ (q : Batch A). q.items ++ f.0)
              (batch_whole read past takes s x r (ap read same ∙ e))
              ∙ (λ i. k.0 i ∷ f.1 i),
        )
    front_by m ms s p g same go More e = (
      says m ∷ map says ms,
      ap (λ (q : List A). q ++ says m ∷ map says ms)
          (ap (λ (q : Batch A). q.items) (batch_more read past takes s (ap read same ∙ e))),
    )
    front_by m ms s p g same go (Bad h r) e = (
      says m ∷ map says ms,
      ap (λ (q : List A). q ++ says m ∷ map says ms)
          (ap (λ (q : Batch A). q.items) (batch_bad read past takes s h r (ap read same ∙ e))),
    )

    nothing_before : (b rest : List ℕ) → b ++ rest ≡ [] → b ≡ []
    nothing_before [] rest e = refl
    nothing_before (x ∷ b) rest e = absurd (let none : ⊥ = cc in none)

    pub in_order : (ms : List M) (s : Stream) → Every Good ms
        → IsPrefix s.rest (flat_map spell ms)
        → IsPrefix (batch read past s).items (map says ms)
    in_order [] s g p =
        let none = nothing_before s.rest p.0 p.1 in
        grind (arith, none_of)
    in_order (m ∷ ms) s g p =
        front_by m ms s p g.0
        (stays s (grind (arith, first_is)))
        (λ r q. in_order ms (moved_on s r) g.1 q) (read s.rest) refl

-- ---- a request

word_only : (w r : List ℕ) → Only (word_at (counted 36 w ++ r)) w r
word_only w r =
    only_same (word_at (counted 36 w ++ r))
    (length_at word_rule (decimal (length w) ++ 13 ∷ 10 ∷ (w ++ 13 ∷ 10 ∷ r)) >>= λ n s. sized n s)
    w r (grind (arith, counted_parts, marked))
    (only_then (length_at word_rule (decimal (length w) ++ 13 ∷ 10 ∷ (w ++ 13 ∷ 10 ∷ r)))
    (λ n s. sized n s) (Some (length w)) w (w ++ 13 ∷ 10 ∷ r) r
    (length_written word_rule (length w) (w ++ 13 ∷ 10 ∷ r) (omega arith))
    (only_is (sized (Some (length w)) (w ++ 13 ∷ 10 ∷ r)) w r (counted_only w r)))

words_only : (ws : List (List ℕ)) (r : List ℕ)
    → Only (many word_at (length ws) (blob_spellings ws ++ r)) ws r
words_only [] r = only_none word_at r
words_only (w ∷ ws) r =
    only_same (many word_at (suc (length ws)) ((counted 36 w ++ blob_spellings ws) ++ r))
    (many word_at (suc (length ws)) (counted 36 w ++ (blob_spellings ws ++ r))) (w ∷ ws) r
    (ap (λ q. many word_at (suc (length ws)) q) (append_assoc (counted 36 w) (blob_spellings ws) r))
    (only_next word_at (length ws) (counted 36 w ++ (blob_spellings ws ++ r))
    (blob_spellings ws ++ r) r w ws (word_only w (blob_spellings ws ++ r)) (words_only ws r))

begun_only : (ws : List (List ℕ)) (r : List ℕ)
    → Only (request_begun (request_spelling ws ++ r)) ws r
begun_only ws r =
    only_same (request_begun (request_spelling ws ++ r))
    (length_at words_rule (decimal (length ws) ++ 13 ∷ 10 ∷ (blob_spellings ws ++ r)) >>= listed)
    ws r
    (grind (arith, append_assoc, head_parts, starred))
    (only_then (length_at words_rule (decimal (length ws) ++ 13 ∷ 10 ∷ (blob_spellings ws ++ r)))
    listed (Some (length ws)) ws (blob_spellings ws ++ r) r
    (length_written words_rule (length ws) (blob_spellings ws ++ r) (omega arith))
    (words_only ws r))

pub request_only : (ws : List (List ℕ)) (r : List ℕ)
    → Only (request_at (request_spelling ws ++ r)) ws r
unfolding request_at
request_only ws r = grind (arith, only_capped, begun_only)

-- ---- in turn

no_request : NeedsBytes request_at
unfolding request_at request_begun
no_request x r e = grind arith

skips_none : (s : Stream) (a : Parsed (List (List ℕ))) → request_at s.rest ≡ a
    → ((x : List (List ℕ)) (r : List ℕ) → a ≡ Whole x r → 0 < length x)
    → (skipped s).rest ≡ s.rest
skips_none s a e some = grind (arith, skip_whole, skip_more, skip_bad)

same_all : {A : Type 0} (xs : List A) → map (λ x. x) xs ≡ xs
same_all [] = refl
same_all {A} (x ∷ xs) = ap (λ (q : List A). x ∷ q) (same_all xs)

pub requests_in_order : RequestsInOrder (λ words. 0 < length words)
unfolding parse
requests_in_order requests b some p =
    subst (λ (q : List (List (List ℕ))). IsPrefix (parse (fed begun b)).items q)
    (same_all requests)
    (in_order request_at skipped takes_requests request_spelling (λ ws. ws)
    (λ ws. 0 < length ws) (λ ws. 0 < length ws) (λ m s g. request_only m s) (λ m g. g)
    (λ b r x e m. steady_requests.whole b r x e m) no_request
    (λ s some. skips_none s (request_at s.rest) refl some) requests (fed begun b) some p)
