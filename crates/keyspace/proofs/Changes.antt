-- A keyspace after a change of the content of one key.
use Rattle.std.proofs.Common.{arith, ◌≡◌, ℕ, Bool, true, false, cond, List, Some, refl, ap, sym}
use Rattle.std.proofs.Common.{◌∙◌}
use Rattle.std.specs.Ordering.{nat_cmp, eq_by_cmp}
use Rattle.std.specs.Cmp.Lexicographic.{slice_cmp, nat_list_cmp_total, texts_ties}
use Rattle.std.specs.FinMap.{get, insert, get-insert, same_map}
use Rattle.std.specs.Option.{option_map_or}
use Rattle.std.specs.FinMap.{slice_cmp-IsAntisymmetric, nat_cmp-IsAntisymmetric}
use Rattle.std.proofs.lemmas.Slice.Eq.{bytes_eq-Decides}
use Rattle.command_words.specs.Space.{Content, Held, Space, content_at, deadline_at}
use Rattle.keyspace.specs.Lending.{with_content, with_held}

module _ (key : List ℕ) (space : Space) where
  -- to put what is there changes nothing
  insert-same : (held : Held) → get space key ≡ Some held → insert space key held ≡ space
  insert-same held at =
      same_map nat_list_cmp_total (slice_cmp-IsAntisymmetric nat_cmp-IsAntisymmetric) _ _
      (λ q. get-insert nat_list_cmp_total space key held q
      ∙ kept q (eq_by_cmp (slice_cmp nat_cmp) q key) refl)
    where
      kept : (q : List ℕ) (b : Bool) → eq_by_cmp (slice_cmp nat_cmp) q key ≡ b
          → cond b (Some held) (get space q) ≡ get space q
      kept q false e = refl
      kept q true e =
          sym at ∙ ap (get space) (sym ((bytes_eq-Decides q key).0 (texts_ties q key ∙ e)))

  -- a key that has a content takes another one, and keeps its deadline
  pub with_content-insert : (had content : Content) → content_at key space ≡ Some had
      → with_content key content space
      ≡ insert space key (record { content = content; deadline = deadline_at key space })
  with_content-insert had content = grind arith

  -- a key that takes the content that it has
  pub with_content-same : (had : Content) → content_at key space ≡ Some had
      → with_content key had space ≡ space
  with_content-same had = grind (arith, insert-same)

  -- a key that is there holds another content or deadline
  pub with_held-insert : (had held : Held) → Some had ≡ get space key
      → with_held key held space ≡ insert space key held
  with_held-insert had held at =
      ap (λ r. option_map_or (λ h. insert space key held) r space) (sym at)

  -- a key that holds what it holds
  pub with_held-same : (had : Held) → Some had ≡ get space key → with_held key had space ≡ space
  with_held-same had at = with_held-insert had had at ∙ insert-same had (sym at)
