-- Which options of CLIENT TRACKING are well formed, by whether a redirection was read before.
use Rattle.std.proofs.Common.{◌≡◌, ◌∙◌, ap, refl, ℕ, List, [], ◌∷◌, Bool, true, false, ◌&&◌, Option}
use Rattle.std.proofs.Common.{Some, ℤ, arith}
use Rattle.std.specs.Prelude.{if◌then◌else◌, is_ok, is_some, codes, ◌++◌}
use Rattle.command_words.specs.declared.command.TrackOptions.{TrackOptions}
use Rattle.command_words.specs.Integers.{integer_of}
use Rattle.command_words.specs.Names.{is_name}
use Rattle.command_words.specs.Reading.{Read, read_then}
use Rattle.command_words.specs.TrackingWords.{connection_of, is_flag, with_flag, track_options}
use Rattle.command_words.specs.TrackingWords.{prefix_option, redirect_option}
use Rattle.command_words.specs.WordCounts.{number_or_fault}

abbrev mutual
  pub fits_options : Bool → List (List ℕ) → Bool
  fits_options redirected [] = true
  fits_options redirected (w ∷ ws) =
      if is_flag w then fits_options redirected ws else
      if is_name (codes "prefix") w then fits_prefix redirected ws else
      if is_name (codes "redirect") w
      then (if redirected then false else fits_redirect ws) else
      false

  pub fits_prefix : Bool → List (List ℕ) → Bool
  fits_prefix redirected [] = false
  fits_prefix redirected (prefix ∷ ws) = fits_options redirected ws

  pub fits_redirect : List (List ℕ) → Bool
  fits_redirect [] = false
  fits_redirect (id ∷ ws) = is_some (integer_of id) && fits_options true ws

either : (b : Bool) (x y : Read TrackOptions) (p q : Bool) → is_ok x ≡ p → is_ok y ≡ q →
    is_ok (if b then x else y) ≡ (if b then p else q)
either b h y p q e f = grind arith

if_number : (o : Option ℤ) (f : ℤ → Read TrackOptions) (p : Bool) → ((n : ℤ) → is_ok (f n) ≡ p) →
    is_ok (read_then (number_or_fault o) f) ≡ is_some o && p
if_number o f p e = grind arith

alike : (b : Bool) (x y o : TrackOptions) → is_some x.redirect ≡ is_some o.redirect →
    is_some y.redirect ≡ is_some o.redirect →
    is_some (if b then x else y).redirect ≡ is_some o.redirect
alike b h y o e f = grind arith

same_redirect : (w : List ℕ) (o : TrackOptions) →
    is_some (with_flag w o).redirect ≡ is_some o.redirect
same_redirect w o = grind (arith, alike)

mutual
  pub fits : (o : TrackOptions) (ws : List (List ℕ)) →
      is_ok (track_options o ws) ≡ fits_options (is_some o.redirect) ws
  fits o [] = refl
  fits o (w ∷ ws) =
      either (is_flag w) _ _ _ _
      (fits (with_flag w o) ws ∙ ap (λ b. fits_options b ws) (same_redirect w o))
      (either (is_name (codes "prefix") w) _ _ _ _ (fits_after_prefix o ws)
      (either (is_name (codes "redirect") w) _ _ _ _
      (either (is_some o.redirect) _ _ _ _ refl (fits_after_redirect o ws)) refl))

  fits_after_prefix : (o : TrackOptions) (ws : List (List ℕ)) →
      is_ok (prefix_option o ws) ≡ fits_prefix (is_some o.redirect) ws
  fits_after_prefix o [] = refl
  fits_after_prefix o (p ∷ ws) = fits (record o { prefixes = o.prefixes ++ p ∷ [] }) ws

  fits_after_redirect : (o : TrackOptions) (ws : List (List ℕ)) →
      is_ok (redirect_option o ws) ≡ fits_redirect ws
  fits_after_redirect o [] = refl
  fits_after_redirect o (id ∷ ws) =
      if_number (integer_of id) _ _
      (λ n. fits (record o { redirect = Some (connection_of n) }) ws)
