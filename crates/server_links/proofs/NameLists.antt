-- Lists of names: what a table of names finds, and the names of links in order.
use Rattle.std.proofs.Common.{◌≡◌, ◌+◌, ◌<◌, ℕ, List, [], ◌∷◌, ◌++◌, Bool, true, false, cond}
use Rattle.std.proofs.Common.{Some, None, Vec, Global, zero, suc, map, length, not, ◌||◌}
use Rattle.std.proofs.Common.{slice_index_or, slice_set, refl, sym, ap, ◌∙◌, arith, length-append}
use Rattle.std.specs.Prelude.{position}
use Rattle.std.specs.List.{list_any, position_or_len}
use Rattle.std.specs.Str.{bytes_eq}
use Rattle.std.proofs.lemmas.Bool.{cases_lt}
use Rattle.std.proofs.lemmas.Bool.Decides.{nat_tests}
use Rattle.std.proofs.lemmas.List.{get_or_push, get_or_append_left, length-map, map-append}
use Rattle.std.proofs.lemmas.List.Quantifiers.{position-Some}
use Rattle.std.proofs.lemmas.List.Sums.{prefix_len_passes}
use Rattle.std.proofs.lemmas.Slice.Eq.{bytes_eq-Decides}
use Rattle.indexmap.specs.IndexSet.{insert_key}
use Rattle.server_links.specs.declared.link.Link.{Link}
use Rattle.server_links.specs.LinkSteps.{place_of}
use Rattle.server_links.specs.LinksState.{AreApart, AreNames, LinksState, at_place, names}

-- ---- the first that passes

module _ {X : Type 0} where
  first_map : {Y : Type 0} → (f : X → Y) (p : Y → Bool) (xs : List X)
      → position_or_len p (map f xs) ≡ position_or_len (λ x. p (f x)) xs
  first_map f p [] = refl
  first_map f p (x ∷ xs) = ap (λ n. cond (not (p (f x))) (1 + n) 0) (first_map f p xs)

  pub position_map : {Y : Type 0} → (f : X → Y) (p : Y → Bool) (xs : List X)
      → position p (map f xs) ≡ position (λ x. p (f x)) xs
  position_map f p xs = grind (arith, map, first_map, length-map)

  pub position_same : (p q : X → Bool) → ((x : X) → p x ≡ q x) → (xs : List X)
      → position p xs ≡ position q xs
  position_same p q e xs = λ i. position (λ x. e x i) xs

  -- where none is found, none passes
  pub nowhere : (p : X → Bool) (xs : List X) (d : X) → position p xs ≡ None → (i : ℕ)
      → i < length xs → p (slice_index_or xs i d) ≡ true → ⊥
  nowhere p xs d none i lt is = grind (arith, slice_index_or, prefix_len_passes, nat_tests)

  -- nor does one more
  pub none_more : (p : X → Bool) (xs : List X) (x : X) → position p xs ≡ None → p x ≡ false
      → position p (xs ++ x ∷ []) ≡ None
  none_more p xs x none off =
      let size = length-append xs (x ∷ []) in
      elim (position p (xs ++ x ∷ [])) as (λ q. position p (xs ++ x ∷ []) ≡ q → q ≡ None) [
        | None ↦ λ e. refl
        | Some k ↦ λ e.
            let found = position-Some p (xs ++ x ∷ []) k x e in
            grind (arith, cases_lt, nowhere, get_or_append_left, get_or_push)
      ] refl

  none_passes : (p : X → Bool) (d : X) (xs : List X)
      → ((i : ℕ) → i < length xs → p (slice_index_or xs i d) ≡ true → ⊥) → list_any p xs ≡ false
  none_passes p d [] h = refl
  none_passes p d (x ∷ xs) h =
      elim (p x) as (λ b. p x ≡ b → (b || list_any p xs) ≡ false) [
        | true ↦ λ e. absurd (h 0 (omega arith) e)
        | false ↦ λ e. none_passes p d xs (λ i lt. h (suc i) (omega (arith, lt)))
      ] refl

-- ---- a table of names

pub turned : (a b : List ℕ) → bytes_eq a b ≡ bytes_eq b a
turned a b = grind (arith, bytes_eq-Decides)

abbrev Keys : Type 0
Keys = List (Vec ℕ Global)

abbrev same : Vec ℕ Global → Vec ℕ Global → Bool
same a b = bytes_eq a.items b.items

abbrev pub plain : Keys → List (List ℕ)
plain keys = map (λ k. k.items) keys

pub find_name : (name : List ℕ) (keys : Keys)
    → position (λ k. bytes_eq name k.items) keys ≡ position (λ n. bytes_eq n name) (plain keys)
find_name name keys = grind (arith, position_same, turned, position_map)

-- a name that is not there goes last
pub name_added : (k : Vec ℕ Global) (keys : Keys)
    → position (λ n. bytes_eq n k.items) (plain keys) ≡ None
    → plain (insert_key same keys k) ≡ plain keys ++ k.items ∷ []
name_added k keys none =
    let apart : list_any (same k) keys ≡ false =
    none_passes (same k) k keys (nowhere (same k) keys k (find_name k.items keys ∙ none)) in
    ap (λ b. plain (cond b keys (keys ++ k ∷ []))) apart ∙ map-append (λ k. k.items) keys (k ∷ [])

-- ---- the names of links

pub names_at : (links : List Link) (at : ℕ) → at < length links
    → slice_index_or (names links) at [] ≡ (at_place links at).name
names_at [] at lt = absurd (omega (arith, lt))
names_at (x ∷ links) zero lt = refl
names_at (x ∷ links) (suc at) lt = names_at links at (omega (arith, lt))

pub names_set : (links : List Link) (at : ℕ) (new : Link) → new.name ≡ (at_place links at).name
    → names (slice_set links at new) ≡ names links
names_set [] at new e = refl
names_set (x ∷ links) zero new e = ap (λ n. n ∷ names links) e
names_set (x ∷ links) (suc at) new e = ap (λ l. x.name ∷ l) (names_set links at new e)

pub names_more : (links : List Link) (new : Link) → names (links ++ new ∷ [])
    ≡ names links ++ new.name ∷ []
names_more links new = map-append (λ (l : Link). l.name) links (new ∷ [])

pub names_size : (links : List Link) → length (names links) ≡ length links
names_size links = length-map links (λ (l : Link). l.name)

-- a link is found among the names
pub place_by : (name : List ℕ) (w : LinksState)
    → position (λ n. bytes_eq n name) (names w.links) ≡ place_of name w
place_by name w = position_map (λ (l : Link). l.name) (λ n. bytes_eq n name) w.links

-- ---- each name is one link's

apart_more : (ns : List (List ℕ)) (name : List ℕ) → AreApart ns
    → ((i : ℕ) → i < length ns → slice_index_or ns i [] ≡ name → ⊥) → AreApart (ns ++ name ∷ [])
apart_more ns name apart new i j li lj e =
    grind (arith, length-append, slice_index_or, get_or_append_left, get_or_push, cases_lt)

module _ (ns : List (List ℕ)) (w : LinksState) (are : AreNames ns w.links) where
  pub name_place : (name : List ℕ) → position (λ n. bytes_eq n name) ns ≡ place_of name w
  name_place name = ap (position (λ n. bytes_eq n name)) are.all ∙ place_by name w

  -- at the place where it is
  pub own_place : (at : ℕ) → at < length w.links
      → place_of (at_place w.links at).name w ≡ Some at
  own_place at below =
      let name = (at_place w.links at).name in
      let test = λ (n : List ℕ). bytes_eq n name in
      let size : length ns ≡ length w.links = ap length are.all ∙ names_size w.links in
      let here : slice_index_or ns at [] ≡ name =
      ap (λ l. slice_index_or l at []) are.all ∙ names_at w.links at below in
      sym (name_place name)
      ∙ elim (position test ns) as (λ p. position test ns ≡ p → p ≡ Some at) [
        | None ↦ grind (arith, nowhere, bytes_eq-Decides, slice_index_or)
        | Some k ↦ λ is.
            let found = position-Some test ns k [] is in
            grind (arith, bytes_eq-Decides, slice_index_or)
      ] refl

module _ (ns : List (List ℕ)) (links : List Link) (are : AreNames ns links) where
  -- a link is made
  pub named_more : (new : Link) → position (λ n. bytes_eq n new.name) ns ≡ None
      → AreNames (ns ++ new.name ∷ []) (links ++ new ∷ [])
  named_more new free =
      grind (arith, names_more, apart_more, nowhere, bytes_eq-Decides, slice_index_or)

  -- a link changes, and keeps its name
  pub named_set : (at : ℕ) (new : Link) → new.name ≡ (at_place links at).name
      → AreNames ns (slice_set links at new)
  named_set at new same = grind (arith, names_set)
