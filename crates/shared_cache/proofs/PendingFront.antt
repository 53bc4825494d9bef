-- The replies behind those of the front, which were handed out.
use Rattle.std.proofs.Common.{◌≡◌, ◌+◌, ◌-◌, ◌<◌, ◌≤◌, ◌++◌, ℕ, zero, suc, List, ◌∷◌, length}
use Rattle.std.proofs.Common.{get_or, set, drop, take, min, replicate, sym, ap, ◌∙◌, arith}
use Rattle.std.proofs.Common.{append_assoc}
use Rattle.std.proofs.lemmas.List.{length-replicate, get_or-replicate, get_or_past}
use Rattle.std.proofs.lemmas.List.{get_or_append_left, get_or-append_right, set-append_right}
use Rattle.std.proofs.lemmas.Grind.{replicate_next}
use Rattle.shared_cache.specs.declared.entry.PendingReply.{PendingReply}
use Rattle.shared_cache.specs.declared.entry.PendingReply.TheVariants.{Waiting, Gone}
use Rattle.resp_value.specs.declared.value.Value.{Value}
use Rattle.shared_cache.specs.ClientFields.{answered}

pub behind : (gone : ℕ) (rest : List PendingReply) (i : ℕ) → gone ≤ i
    → get_or (replicate gone Gone ++ rest) i Gone ≡ get_or rest (i - gone) Gone
behind gone rest i le = grind (arith, get_or-append_right, replicate, length-replicate)

-- a number that waits is not of the front
pub waits_behind : (gone : ℕ) (rest : List PendingReply) (i : ℕ)
    → get_or (replicate gone Gone ++ rest) i Gone ≡ Waiting
    → (gone ≤ i) × (i - gone < length rest)
waits_behind gone rest i e = grind (
  arith,
  behind,
  get_or_past,
  get_or_append_left,
  replicate,
  length-replicate,
  get_or-replicate,
)

pub set_behind : (gone : ℕ) (rest : List PendingReply) (i : ℕ) (r : PendingReply) → gone ≤ i
    → replicate gone Gone ++ set rest (i - gone) r ≡ set (replicate gone Gone ++ rest) i r
set_behind gone rest i r le = grind (arith, set-append_right, replicate, length-replicate)

pub put_behind : (gone : ℕ) (rest new all : List PendingReply) (place : ℕ) (v : Value)
    → gone ≤ place → replicate gone Gone ++ rest ≡ all
    → new ≡ set rest (place - gone) (answered v (get_or rest (place - gone) Gone))
    → replicate gone Gone ++ new ≡ set all place (answered v (get_or all place Gone))
put_behind gone rest new all place v le whole is =
    ap (λ n. replicate gone Gone ++ n) is
    ∙ set_behind gone rest place (answered v (get_or rest (place - gone) Gone)) le
    ∙ ap (λ r. set (replicate gone Gone ++ rest) place (answered v r))
    (sym (behind gone rest place le))
    ∙ ap (λ l. set l place (answered v (get_or l place Gone))) whole

-- the first of the rest is counted alone
pub one_more : (gone : ℕ) (old new : List PendingReply) → 0 < length old → get_or old 0 Gone ≡ Gone
    → new ≡ drop 1 old → replicate (gone + 1) Gone ++ new ≡ replicate gone Gone ++ old
one_more gone old new some is e = grind (arith, replicate_next, append_assoc, replicate)

-- the first numbers stay
pub kept : (gone most : ℕ) (rest : List PendingReply)
    → replicate (min most gone) Gone ++ take (most - min most gone) rest
    ≡ take most (replicate gone Gone ++ rest)
kept zero most rest = grind arith
kept (suc gone) zero rest = grind (arith, replicate_next)
kept (suc gone) (suc most) rest =
    let one : min (suc most) (suc gone) ≡ suc (min most gone) = omega arith in
    let less : suc most - suc (min most gone) ≡ most - min most gone = omega arith in
    ap (λ n. replicate n Gone ++ take (suc most - n) rest) one
    ∙ ap (λ n. replicate (suc (min most gone)) Gone ++ take n rest) less
    ∙ ap (λ l. Gone ∷ l) (kept gone most rest)

pub first_gone : (rest : List PendingReply) (r : PendingReply) → r ≡ Gone → r ≡ get_or rest 0 r
    → get_or rest 0 Gone ≡ Gone
first_gone rest r e at = ap (get_or rest 0) (sym e) ∙ sym at ∙ e
