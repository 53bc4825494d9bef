-- What reads and writes do to known bytes, one after another.
use Rattle.std.proofs.Common.{◌≡◌, ◌<◌, ◌≤◌, ℕ, List, [], ◌∷◌, ◌++◌, length, take}
use Rattle.std.proofs.Common.{slice_index_or, subst, ap, ◌∙◌, append_assoc, arith, refl}
use Rattle.std.specs.declared.option.Option.{Option}
use Rattle.std.specs.Io.KnownBytes.{Appends, Consumes}
use Rattle.resp_value.specs.Lists.{IsPrefix}
use Rattle.resp_value.proofs.Prefixes.{prefix_trans}
use Rattle.edge_links.proofs.Bytes.{appends_more, consumes_more}
use Rattle.edge_lines.specs.Streams.{AppendsFirst, IsPlain}

-- after a byte that was read
pub consumes_byte : (a b c : Option (List ℕ)) (bs : List ℕ) (y : ℕ) (cs : List ℕ) → Consumes a b bs
    → Consumes b c cs → cs ≡ y ∷ [] → Consumes a c (bs ++ y ∷ [])
consumes_byte a b c bs y cs p q e =
    subst (λ l. Consumes a c (bs ++ l)) e (consumes_more a b c bs cs p q)

pub plain_push : (xs : List ℕ) (y : ℕ) → IsPlain xs → (y ≡ 10 → ⊥) → IsPlain (xs ++ y ∷ [])
plain_push [] y p n = (n, tt)
plain_push (x ∷ xs) y p n = (p.0, plain_push xs y p.1 n)

pub only_byte : (buf : List ℕ) (n : ℕ) → 0 < n → n ≤ length buf → length buf ≡ 1
    → take n buf ≡ slice_index_or buf 0 0 ∷ []
only_byte [] n a b h = absurd (omega arith)
only_byte (x ∷ []) n a b h = let e : n ≡ 1 = omega arith in rw e refl
only_byte (x ∷ y ∷ buf) n a b h = absurd (omega arith)

pub first_as : (a b : Option (List ℕ)) (xs ys : List ℕ) → xs ≡ ys → AppendsFirst a b xs
    → AppendsFirst a b ys
first_as a b xs ys e p = subst (λ l. AppendsFirst a b l) e p

-- all of some bytes, and then the first of more
pub first_then : (a b c : Option (List ℕ)) (xs ys : List ℕ) → Appends a b xs → AppendsFirst b c ys
    → AppendsFirst a c (xs ++ ys)
first_then a b c xs ys p q = (
  xs ++ q.0,
  (q.1.0, append_assoc xs q.0 q.1.0 ∙ ap (λ l. xs ++ l) q.1.1),
  appends_more a b c xs q.0 p q.2,
)

pub first_longer : (a b : Option (List ℕ)) (xs ys : List ℕ) → IsPrefix xs ys → AppendsFirst a b xs
    → AppendsFirst a b ys
first_longer a b xs ys p q = (q.0, prefix_trans q.0 xs ys q.1 p, q.2)
