-- The keys that are there and were not met yet, in order of first occurrence.
use Rattle.std.proofs.Common.{◌≡◌, ℕ, Bool, true, false, List, [], ◌∷◌, ◌++◌}
use Rattle.std.proofs.Common.{refl, ap, sym, ◌∙◌, not, append_assoc, length, ◌+◌, arith}
use Rattle.std.specs.Prelude.{◌&&◌, ◌||◌, if◌then◌else◌}
use Rattle.std.specs.FinMap.{contains_key}
use Rattle.std.specs.List.{filter}
use Rattle.std.specs.Option.{is_some}
use Rattle.std.specs.Str.{bytes_eq}
use Rattle.std.proofs.lemmas.Slice.Eq.{bytes_eq-Decides}
use Rattle.command_words.specs.Hashes.{Pairs, field_get, field_set}
use Rattle.command_words.specs.KeyLists.{each_once}
use Rattle.command_words.specs.Space.{Space}
use Rattle.command_rows.proofs.KeysMet.{is_fresh, met-field_set, filter-filter}
use Rattle.key_cmds.specs.Met.{with_new}

abbrev pub is_wanted : Space → Pairs → List ℕ → Bool
is_wanted space met key = contains_key space key && is_fresh met key

abbrev pub wanted : Space → Pairs → List (List ℕ) → List (List ℕ)
wanted space met keys = filter (is_wanted space met) (each_once keys)

module _ (space : Space) (met : Pairs) (key : List ℕ) (keys : List (List ℕ)) where
  abbrev rest : List (List ℕ)
  rest = filter (λ k. not (bytes_eq k key)) (each_once keys)

  -- a key that is there is met from now on
  others : filter (is_wanted space met) rest ≡ wanted space (field_set key [] met) keys
  others =
      filter-filter (is_wanted space met) (λ k. not (bytes_eq k key))
      (is_wanted space (field_set key [] met))
      (λ k. ap (λ b. contains_key space k && not b) (met-field_set k key [] met)
      ∙ moved (contains_key space k) (bytes_eq k key) (is_some (field_get k met)))
      (each_once keys)
    where
      moved : (a b c : Bool) → (a && not (b || c)) ≡ (not b && (a && not c))
      moved true true c = refl
      moved true false c = refl
      moved false true c = refl
      moved false false c = refl

  pub next_there : contains_key space key ≡ true → (out : List (List ℕ))
      → with_new (is_some (field_get key met)) key out ++ wanted space (field_set key [] met) keys
      ≡ out ++ wanted space met (key ∷ keys)
  next_there is out =
      by (is_some (field_get key met))
      ∙ ap (λ b. out ++ (if b && not (is_some (field_get key met))
      then key ∷ filter (is_wanted space met) rest else filter (is_wanted space met) rest)) (sym is)
    where
      by : (b : Bool) → with_new b key out ++ wanted space (field_set key [] met) keys
          ≡ out ++ (if not b
          then key ∷ filter (is_wanted space met) rest else filter (is_wanted space met) rest)
      by true = ap (λ r. out ++ r) (sym others)
      by false =
          append_assoc out (key ∷ []) (wanted space (field_set key [] met) keys)
          ∙ ap (λ r. out ++ key ∷ r) (sym others)

  -- a key that is not there is not wanted
  pub next_missing : contains_key space key ≡ false → (out : List (List ℕ))
      → out ++ wanted space met keys ≡ out ++ wanted space met (key ∷ keys)
  next_missing is out =
      ap (λ r. out ++ r)
      (sym (filter-filter (is_wanted space met) (λ k. not (bytes_eq k key)) (is_wanted space met)
      (λ k. without k (bytes_eq k key) refl) (each_once keys))
      ∙ ap (λ b. if b && not (is_some (field_get key met))
      then key ∷ filter (is_wanted space met) rest else filter (is_wanted space met) rest) (sym is))
    where
      without : (k : List ℕ) (b : Bool) → bytes_eq k key ≡ b
          → is_wanted space met k ≡ (not b && is_wanted space met k)
      without k true e =
          ap (λ z. contains_key space z && is_fresh met k) ((bytes_eq-Decides k key).0 e)
          ∙ ap (λ b. b && is_fresh met k) is
      without k false e = refl

-- one more key, where it is there
pub counted : (p : List ℕ → Bool) (key : List ℕ) (keys : List (List ℕ)) (b : Bool) → p key ≡ b
    → length (filter p (key ∷ keys)) ≡ (if b then 1 else 0) + length (filter p keys)
counted p key keys true e =
    ap (λ b. length (if b then key ∷ filter p keys else filter p keys)) e ∙ omega arith
counted p key keys false e =
    ap (λ b. length (if b then key ∷ filter p keys else filter p keys)) e ∙ omega arith
