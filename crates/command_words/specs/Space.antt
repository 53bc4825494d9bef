-- The keyspace: a finite map from keys to what they hold.
use Rattle.std.specs.Prelude.{◌≡◌, ◌⊎◌, ℕ, List, Option, refl}
use Rattle.std.specs.Ordering.{nat_cmp}
use Rattle.std.specs.Cmp.Lexicographic.{slice_cmp}
use Rattle.std.specs.FinMap.{FinMap, get, insert}
use Rattle.std.specs.Option.{option_map, option_and_then, option_map_or}
use Rattle.std.specs.Coded.{Coded, code_by, coded×, coded⊎, coded_list, coded_option, coded_ℕ}
use mathlib.Core.Logic.{inl, inr}

-- A string, or the fields of a hash with their values: distinct names, in order of first insertion.
pub data Content : Type 0 where
  Text : List ℕ → Content
  Fields : List (List ℕ × List ℕ) → Content

-- what a key holds, and the moment of its deadline, if it has one
pub record Held : Type 0 where
  pub content : Content
  pub deadline : Option ℕ

abbrev pub Space : Type 0
Space = FinMap (slice_cmp nat_cmp) Held

abbrev pub held_at : List ℕ → Space → Option Held
held_at key space = get space key

abbrev pub content_at : List ℕ → Space → Option Content
content_at key space = option_map (λ h. h.content) (held_at key space)

abbrev pub deadline_at : List ℕ → Space → Option ℕ
deadline_at key space = option_and_then (λ h. h.deadline) (held_at key space)

-- what a key holds is changed; a missing key stays missing
abbrev pub changed_at : List ℕ → (Held → Held) → Space → Space
changed_at key change space =
    option_map_or (λ held. insert space key (change held)) (get space key) space

-- the key has this deadline, and the content that it had
abbrev pub with_deadline : List ℕ → Option ℕ → Space → Space
with_deadline key deadline = changed_at key (λ held. record held { deadline = deadline })

-- how a content and what a key holds are stored

abbrev as_sum : Content → List ℕ ⊎ List (List ℕ × List ℕ)
as_sum (Text value) = inl value
as_sum (Fields fields) = inr fields

abbrev of_sum : List ℕ ⊎ List (List ℕ × List ℕ) → Content
of_sum (inl value) = Text value
of_sum (inr fields) = Fields fields

pub of_sum-as_sum : (content : Content) → of_sum (as_sum content) ≡ content
of_sum-as_sum (Text value) = refl
of_sum-as_sum (Fields fields) = refl

abbrev coded_bytes : Coded (List ℕ)
coded_bytes = coded_list coded_ℕ

abbrev pub content_code : Coded Content
content_code =
    code_by (List ℕ ⊎ List (List ℕ × List ℕ))
    (coded⊎ coded_bytes (coded_list (coded× coded_bytes coded_bytes)))
    as_sum of_sum of_sum-as_sum

abbrev pub held_code : Coded Held
held_code =
    code_by (Content × Option ℕ) (coded× content_code (coded_option coded_ℕ))
    (λ h. (h.content, h.deadline)) (λ p. record { content = p.0; deadline = p.1 }) (λ _. refl)
