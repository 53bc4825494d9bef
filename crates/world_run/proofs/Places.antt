-- A link is found at the same place while the names of the links stay as they are.
use Rattle.std.proofs.Common.{◌≡◌, ◌<◌, ℕ, List, Some, None, length, refl, arith}
use Rattle.std.proofs.lemmas.Bool.{cases_lt}
use Rattle.std.proofs.lemmas.List.Sums.{prefix_len_passes}
use Rattle.server_links.specs.LinksState.{LinksState, at_place}
use Rattle.server_links.specs.LinkSteps.{place_of}
use Rattle.server_links.proofs.Names.{names_itself, placed, unplaced}

-- no link before the one that is found has the name
first_place : (name : List ℕ) (w : LinksState) (at : ℕ) → place_of name w ≡ Some at → (i : ℕ)
    → i < at → (at_place w.links i).name ≡ name → ⊥
first_place name w at found i lt same = grind (arith, prefix_len_passes, names_itself)

pub record NamesKept (w v : LinksState) : Type 0 where
  pub size : length v.links ≡ length w.links
  pub names : (i : ℕ) → i < length w.links
      → (at_place v.links i).name ≡ (at_place w.links i).name

pub names_both : (w u v : LinksState) → NamesKept w u → NamesKept u v → NamesKept w v
names_both w u v a b = grind arith

pub place_kept : (name : List ℕ) (w v : LinksState) (at : ℕ) → NamesKept w v
    → place_of name w ≡ Some at → place_of name v ≡ Some at
place_kept name w v at k found =
    let p = placed name w at found in
    elim (place_of name v) as (λ q. place_of name v ≡ q → q ≡ Some at) [
      | None ↦ grind (arith, unplaced)
      | Some j ↦ λ there.
          let q = placed name v j there in
          grind (arith, cases_lt, first_place)
    ] refl
