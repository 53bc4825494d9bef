-- The places of links by their names.
use Rattle.std.proofs.Common.{◌≡◌, ◌<◌, ℕ, List, true, Some, None, length, refl, sym, ap, ◌∙◌}
use Rattle.std.proofs.Common.{arith}
use Rattle.std.specs.Str.{bytes_eq}
use Rattle.std.proofs.lemmas.List.Quantifiers.{position-Some}
use Rattle.std.proofs.lemmas.Slice.Eq.{bytes_eq-Decides}
use Rattle.server_links.specs.LinksState.{LinksState, at_place}
use Rattle.server_links.specs.LinkSteps.{place_of}
use Rattle.server_links.proofs.NameLists.{nowhere}

pub same_name : (a b : List ℕ) → bytes_eq a b ≡ true → a ≡ b
same_name a b = (bytes_eq-Decides a b).0

pub names_itself : (a b : List ℕ) → a ≡ b → bytes_eq a b ≡ true
names_itself a b = (bytes_eq-Decides a b).1

pub placed : (name : List ℕ) (w : LinksState) (at : ℕ) → place_of name w ≡ Some at
    → (at < length w.links) × ((at_place w.links at).name ≡ name)
placed name w at h = grind (arith, position-Some, same_name)

-- where a name is nowhere, no link has it
pub unplaced : (name : List ℕ) (w : LinksState) → place_of name w ≡ None → (i : ℕ)
    → i < length w.links → (at_place w.links i).name ≡ name → ⊥
unplaced name w none i lt same = grind (arith, nowhere, names_itself)

-- no two links have one name
abbrev pub AreUnique : LinksState → Type 0
AreUnique w = (i j : ℕ) → i < length w.links → j < length w.links
    → (at_place w.links j).name ≡ (at_place w.links i).name → j ≡ i

-- so a link is found by its name
pub place_is : (w : LinksState) → AreUnique w → (name : List ℕ) (at : ℕ) → at < length w.links
    → (at_place w.links at).name ≡ name → place_of name w ≡ Some at
place_is w unique name at below is =
    elim (place_of name w) as (λ p. place_of name w ≡ p → p ≡ Some at) [
      | None ↦ λ none. absurd (unplaced name w none at below is)
      | Some k ↦ λ there. (let p = placed name w k there in
          ap Some (unique at k below p.0 (p.1 ∙ sym is)))
    ] refl
