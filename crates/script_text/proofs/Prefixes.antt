-- At the end of the options no prefix is left, or a word without its prefix.
use Rattle.std.proofs.Common.{◌≡◌, ◌<◌, ◌==◌, ◌++◌, ℕ, List, [], ◌∷◌, true, false, refl, ap, arith}
use Rattle.std.proofs.Common.{length, map}
use Rattle.std.specs.declared.option.Option.TheVariants.{None, Some}
use Rattle.std.specs.Option.{option_map}
use Rattle.std.proofs.lemmas.Bool.{eqb-true}
use Rattle.std.proofs.lemmas.List.{append-nil}
use Rattle.script_text.specs.Clients.{prefixes_of}

pub no_option_left : {A : Type 0} (f : A → List ℕ) (rest : List A) (prefixes : List (List ℕ))
    → true ≡ (length rest == 0)
    → option_map (λ more. prefixes ++ more) (prefixes_of (map f rest)) ≡ Some prefixes
no_option_left f [] prefixes h = ap Some (append-nil prefixes)
no_option_left f (word ∷ rest) prefixes h = grind (arith, eqb-true)

pub one_word_left : {A : Type 0} (f : A → List ℕ) (rest : List A) (prefixes : List (List ℕ))
    → false ≡ (length rest == 0) → length rest < 2
    → option_map (λ more. prefixes ++ more) (prefixes_of (map f rest)) ≡ None
one_word_left f [] prefixes h few = cc
one_word_left f (word ∷ []) prefixes h few = refl
one_word_left f (word ∷ text ∷ rest) prefixes h few = absurd (omega arith)
