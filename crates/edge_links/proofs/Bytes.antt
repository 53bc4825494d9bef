-- What reads and writes do to known bytes, one after another.
use Rattle.std.proofs.Common.{◌≡◌, ℕ, List, [], ◌++◌, Some, None, take, drop}
use Rattle.std.proofs.Common.{refl, sym, ap, subst, ◌∙◌, append_assoc, append-nil}
use Rattle.std.specs.declared.option.Option.{Option}
use Rattle.std.specs.Io.KnownBytes.{Appends, Consumes, Keeps}
use Rattle.std.proofs.lemmas.List.{take-append-drop}

pub appends_none : (a : Option (List ℕ)) → Appends a a []
appends_none None = tt
appends_none (Some x) = sym (append-nil x)

pub appends_more : (a b c : Option (List ℕ)) (bs cs : List ℕ) → Appends a b bs → Appends b c cs
    → Appends a c (bs ++ cs)
appends_more None b c bs cs p q = tt
appends_more (Some x) None c bs cs p q = absurd p
appends_more (Some x) (Some y) None bs cs p q = absurd q
appends_more (Some x) (Some y) (Some z) bs cs p q = q ∙ ap (λ l. l ++ cs) p ∙ append_assoc x bs cs

pub appends_kept : (a b c : Option (List ℕ)) (bs : List ℕ) → Appends a b bs → Keeps b c
    → Appends a c bs
appends_kept None b c bs p q = tt
appends_kept (Some x) None c bs p q = absurd p
appends_kept (Some x) (Some y) None bs p q = absurd q
appends_kept (Some x) (Some y) (Some z) bs p q = q ∙ p

pub appends_as : (a b : Option (List ℕ)) (xs ys : List ℕ) → xs ≡ ys → Appends a b xs
    → Appends a b ys
appends_as a b xs ys e p = subst (λ l. Appends a b l) e p

pub consumes_none : (a : Option (List ℕ)) → Consumes a a []
consumes_none None = tt
consumes_none (Some x) = refl

pub consumes_more : (a b c : Option (List ℕ)) (bs cs : List ℕ) → Consumes a b bs → Consumes b c cs
    → Consumes a c (bs ++ cs)
consumes_more None b c bs cs p q = tt
consumes_more (Some x) None c bs cs p q = absurd p
consumes_more (Some x) (Some y) None bs cs p q = absurd q
consumes_more (Some x) (Some y) (Some z) bs cs p q = p ∙ ap (λ l. bs ++ l) q
    ∙ sym (append_assoc bs cs z)

pub consumes_kept : (a b c : Option (List ℕ)) (bs : List ℕ) → Consumes a b bs → Keeps b c
    → Consumes a c bs
consumes_kept None b c bs p q = tt
consumes_kept (Some x) None c bs p q = absurd p
consumes_kept (Some x) (Some y) None bs p q = absurd q
consumes_kept (Some x) (Some y) (Some z) bs p q = p ∙ ap (λ l. bs ++ l) (sym q)

pub kept_consumes : (a b c : Option (List ℕ)) (bs : List ℕ) → Keeps a b → Consumes b c bs
    → Consumes a c bs
kept_consumes None b c bs p q = tt
kept_consumes (Some x) None c bs p q = absurd p
kept_consumes (Some x) (Some y) None bs p q = absurd q
kept_consumes (Some x) (Some y) (Some z) bs p q = sym p ∙ q

pub keeps_trans : (a b c : Option (List ℕ)) → Keeps a b → Keeps b c → Keeps a c
keeps_trans None b c p q = tt
keeps_trans (Some x) None c p q = absurd p
keeps_trans (Some x) (Some y) None p q = absurd q
keeps_trans (Some x) (Some y) (Some z) p q = q ∙ p

pub keeps_same : (a : Option (List ℕ)) → Keeps a a
keeps_same None = tt
keeps_same (Some x) = refl

-- a front was written
pub moved : (bytes done rest more : List ℕ) (n : ℕ) → bytes ≡ done ++ rest → more ≡ drop n rest
    → bytes ≡ (done ++ take n rest) ++ more
moved bytes done rest more n p q = p ∙ ap (λ l. done ++ l) (sym (take-append-drop n rest))
    ∙ sym (append_assoc done (take n rest) (drop n rest))
    ∙ ap (λ l. (done ++ take n rest) ++ l) (sym q)
