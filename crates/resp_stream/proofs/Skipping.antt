-- What stands behind empty requests.
use Rattle.std.proofs.Common.{◌≡◌, ℕ, zero, suc, ◌-◌, ◌<◌, ◌≤◌, List, [], ◌∷◌, refl, sym, ap, ◌∙◌}
use Rattle.std.proofs.Common.{length, arith}
use Rattle.resp_stream.specs.declared.fault.Fault.{Fault}
use Rattle.resp_stream.specs.Parsed.{Parsed, Whole, More, Bad}
use Rattle.resp_stream.specs.Request.{whole_limit, request_begun, request_at, skip_by}
use Rattle.resp_stream.specs.Request.{skip_empty_in, skip_empty}
use Rattle.resp_stream.proofs.RequestLaws.{reader_request}
use Rattle.resp_stream.proofs.Capped.{capped_whole}
use Rattle.resp_stream.proofs.Places.{reads_on}

begun_none : request_begun [] ≡ More
unfolding request_begun
begun_none = refl

at_none : request_at [] ≡ More
unfolding request_at request_begun
at_none = refl

-- a request takes a byte
pub takes : (b r : List ℕ) (ws : List (List ℕ)) → request_at b ≡ Whole ws r → length r < length b
unfolding request_at
takes b r ws e =
    let g =
    reads_on request_begun reader_request begun_none b r 0 ws (omega arith)
    (capped_whole whole_limit b (request_begun b) ws r e).0 in
    omega (arith, g.on, g.within)

no_bytes : (m : ℕ) → skip_empty_in m [] ≡ []
unfolding skip_empty_in
no_bytes m = grind (arith, at_none)

empty_is : (b : List ℕ) → length b ≤ 0 → b ≡ []
empty_is [] le = refl
empty_is (x ∷ b) le = absurd (omega arith)

same_by : (b : List ℕ) (f g : List ℕ → List ℕ) (a : Parsed (List (List ℕ)))
    → ((r : List ℕ) → a ≡ Whole [] r → f r ≡ g r) → skip_by b a f ≡ skip_by b a g
same_by b f g a h = grind arith

-- more steps than bytes change nothing
steps_enough : (n m : ℕ) (b : List ℕ) → length b ≤ n → length b ≤ m
    → skip_empty_in n b ≡ skip_empty_in m b
unfolding skip_empty_in
steps_enough zero m b p q = grind (arith, empty_is, no_bytes)
steps_enough (suc n) zero b p q =
    ap (λ z. skip_empty_in (suc n) z) (empty_is b q) ∙ no_bytes (suc n) ∙ sym (empty_is b q)
steps_enough (suc n) (suc m) b p q =
    same_by b (λ r. skip_empty_in n r) (λ r. skip_empty_in m r) (request_at b)
    (λ r e. steps_enough n m r (omega (arith, takes b r [] e)) (omega (arith, takes b r [] e)))

one_step : (n : ℕ) (b : List ℕ) → length b ≡ suc n
    → skip_empty b ≡ skip_by b (request_at b) (λ r. skip_empty_in n r)
unfolding skip_empty skip_empty_in
one_step n b e = ap (λ k. skip_empty_in k b) e

-- an empty request is passed over
pub skip_on : (b r : List ℕ) → request_at b ≡ Whole [] r → skip_empty b ≡ skip_empty r
unfolding skip_empty
skip_on b r e =
    let lt = takes b r [] e in
    let one : length b ≡ suc (length b - 1) = omega (arith, lt) in
    one_step (length b - 1) b one ∙ ap (λ a. skip_by b a (λ q. skip_empty_in (length b - 1) q)) e
    ∙ steps_enough (length b - 1) (length r) r (omega (arith, lt)) (omega arith)

stays : (b : List ℕ) → ((f : List ℕ → List ℕ) → skip_by b (request_at b) f ≡ b) → (n : ℕ)
    → skip_empty_in n b ≡ b
unfolding skip_empty_in
stays b h n = grind arith

-- anything else stays
pub skip_more : (b : List ℕ) → request_at b ≡ More → skip_empty b ≡ b
unfolding skip_empty
skip_more b e = stays b (λ f. ap (λ a. skip_by b a f) e) (length b)

pub skip_bad : (b r : List ℕ) (g : Fault) → request_at b ≡ Bad g r → skip_empty b ≡ b
unfolding skip_empty
skip_bad b r g e = stays b (λ f. ap (λ a. skip_by b a f) e) (length b)

pub skip_whole : (b r : List ℕ) (ws : List (List ℕ)) → request_at b ≡ Whole ws r → 0 < length ws
    → skip_empty b ≡ b
unfolding skip_empty
skip_whole b r ws e lt = grind (arith, stays)
