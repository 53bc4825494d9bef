-- Clients and their ends by names.
use Rattle.std.proofs.Common.{◌≡◌, ◌-◌, ◌<◌, ℕ, List, [], ◌∷◌, ◌++◌, zero, suc, Some, None}
use Rattle.std.proofs.Common.{length, map, slice_set, refl, sym, ap, ◌∙◌, arith, length-append}
use Rattle.std.proofs.Common.{Bool, true, inl, inr}
use Rattle.std.specs.Prelude.{◌&&◌, position}
use Rattle.std.specs.Str.{bytes_eq}
use Rattle.std.proofs.lemmas.Bool.{cases_lt}
use Rattle.std.proofs.lemmas.List.{get_or_append_left, get_or-append_right}
use Rattle.std.proofs.lemmas.List.Quantifiers.{position-Some}
use Rattle.shared_cache.specs.declared.log.Wire.TheVariants.{Main}
use Rattle.shared_cache.specs.Log.{is_wire}
use Rattle.server_links.proofs.NameLists.{nowhere, position_map}
use Rattle.server_links.proofs.Names.{names_itself, same_name}
use Rattle.world_run.specs.WorldState.{EndState, WorldState, client_at, end_at, end_of_link}
use Rattle.world_run.specs.WorldState.{fresh_end, member_at}
use Rattle.world_run.specs.World.{end_named}
use Rattle.world_run.proofs.Wires.{same_wire}

pub end_there : (link : List ℕ) (es : List EndState) (at : ℕ) → end_of_link link es ≡ Some at
    → (at < length es) × ((end_at es at).end.link ≡ link)
end_there link es at h = grind (arith, position-Some, same_name)

-- where no end of a client is one of a link, no client has it
pub end_nowhere : (link : List ℕ) (es : List EndState) → end_of_link link es ≡ None → (k : ℕ)
    → k < length es → (end_at es k).end.link ≡ link → ⊥
end_nowhere link es none k lt same = grind (arith, nowhere, names_itself)

-- what none of two lists passes none of both does
none_of_both : {X : Type 0} (p : X → Bool) (xs ys : List X) (d : X) → position p xs ≡ None
    → position p ys ≡ None → position p (xs ++ ys) ≡ None
none_of_both p xs ys d none other =
    let size = length-append xs ys in
    elim (position p (xs ++ ys)) as (λ q. position p (xs ++ ys) ≡ q → q ≡ None) [
      | None ↦ λ e. refl
      | Some k ↦ λ e.
          let found = position-Some p (xs ++ ys) k d e in
          elim (cases_lt k (length xs)) [
            | inl lt ↦ absurd (nowhere p xs d none k lt
                (ap p (sym (get_or_append_left xs ys d k lt)) ∙ found.1))
            | inr le ↦
                let there : k - length xs < length ys = omega (arith, found.0, size, le) in
                absurd (nowhere p ys d other (k - length xs) there
                (ap p (sym (get_or-append_right xs ys (length xs) k d refl le)) ∙ found.1))
          ]
    ] refl

-- more ends, of other links
pub ends_more : (link : List ℕ) (es more : List EndState) → end_of_link link es ≡ None
    → end_of_link link more ≡ None → end_of_link link (es ++ more) ≡ None
ends_more link es more none other =
    none_of_both (λ (e : EndState). bytes_eq e.end.link link) es more (fresh_end 0 Main [] 0) none
    other

links_set : (es : List EndState) (at : ℕ) (e : EndState) → e.end.link ≡ (end_at es at).end.link
    → map (λ (x : EndState). x.end.link) (slice_set es at e)
    ≡ map (λ (x : EndState). x.end.link) es
links_set [] at e same = refl
links_set (x ∷ es) zero e same = ap (λ l. l ∷ map (λ (y : EndState). y.end.link) es) same
links_set (x ∷ es) (suc at) e same = ap (λ l. x.end.link ∷ l) (links_set es at e same)

-- an end changes, and keeps its link
pub end_set : (link : List ℕ) (es : List EndState) (at : ℕ) (e : EndState)
    → e.end.link ≡ (end_at es at).end.link
    → end_of_link link (slice_set es at e) ≡ end_of_link link es
end_set link es at e same =
    let test = λ (l : List ℕ). bytes_eq l link in
    sym (position_map (λ (x : EndState). x.end.link) test (slice_set es at e))
    ∙ ap (position test) (links_set es at e same)
    ∙ position_map (λ (x : EndState). x.end.link) test es

both_true : (a b : Bool) → (a && b) ≡ true → (a ≡ true) × (b ≡ true)
both_true a b e = grind arith

-- the end of a client by its name is one of the link that its commands go on
pub end_named_there : (name : List ℕ) (w : WorldState) (at : ℕ) → end_named name w ≡ Some at
    → (at < length w.ends) × ((end_at w.ends at).end.wire ≡ Main) × ((client_at w at).name ≡ name)
end_named_there name w at h =
    let test = λ (e : EndState).
    is_wire e.end.wire Main && bytes_eq (member_at w.members e.end.client).name name in
    let found = position-Some test w.ends at (fresh_end 0 Main [] 0) h in
    let b = both_true (is_wire (end_at w.ends at).end.wire Main)
    (bytes_eq (client_at w at).name name) found.1 in (
      found.0,
      same_wire (end_at w.ends at).end.wire Main b.0,
      same_name (client_at w at).name name b.1,
    )
