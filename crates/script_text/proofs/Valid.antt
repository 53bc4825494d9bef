-- The events that lines are read as are valid.
use Rattle.std.proofs.Common.{◌≡◌, ◌<◌, ◌≤◌, ℕ, List, [], ◌∷◌, Bool, true, cond, Option, None, Some}
use Rattle.std.proofs.Common.{refl, arith, codes}
use Rattle.std.specs.Option.{option_and_then}
use Rattle.std.proofs.lemmas.Bool.Decides.{nat_tests}
use Rattle.command_words.specs.Queries.{query_of}
use Rattle.shared_cache.specs.declared.log.ClientMode.{ClientMode}
use Rattle.script_text.specs.declared.event.Event.{Event}
use Rattle.script_text.specs.Clients.{client_of, client_from, most_keys, with_keys}
use Rattle.script_text.specs.Words.{is_within, number_within}
use Rattle.script_text.specs.Events.{event_of, event_of_parts, first_there, link_event, named_event}
use Rattle.script_text.specs.Valid.{IsValid}
use Rattle.script_text.proofs.Asking.{query_again}
use Rattle.script_text.proofs.Numbers.{decimal-number_within}

abbrev pub Of : {A : Type 0} → (A → Type 0) → Option A → Type 0
Of P None = Unit {0}
Of P (Some a) = P a

any : {A : Type 0} → (o : Option A) → Of (λ a. Unit {0}) o
any o = grind (arith, nat_tests)

choose : (b : Bool) (x y : Option Event) → Of IsValid x → Of IsValid y
    → Of IsValid (cond b x y)
choose b e y h g = grind (arith, nat_tests)

abbrev pub IsQuery : List (List ℕ) → Type 0
IsQuery q = query_of q ≡ Some q

pub of_asked : (o : Option (List (List ℕ))) → Of IsQuery (option_and_then query_of o)
of_asked o = grind (arith, nat_tests, query_again)

abbrev HasKeys : ClientMode × ℕ → Type 0
HasKeys made = (0 < made.1) × (made.1 ≤ most_keys)

within_keys : (n : ℕ) → is_within 1 most_keys n ≡ true → (0 < n) × (n ≤ most_keys)
within_keys n h = (grind (arith, nat_tests), grind (arith, nat_tests))

of_number : (text : List ℕ) → Of (λ n. (0 < n) × (n ≤ most_keys)) (number_within 1 most_keys text)
of_number text =
    elim (number_within 1 most_keys text) as (λ o.
    number_within 1 most_keys text ≡ o → Of (λ n. (0 < n) × (n ≤ most_keys)) o) [
      | Some n ↦ λ e. within_keys n (decimal-number_within 1 most_keys n text e).0
      | None ↦ λ e. tt
    ] refl

of_keys : (m : Option ClientMode) (n : Option ℕ) → Of (λ n. (0 < n) × (n ≤ most_keys)) n
    → Of HasKeys (with_keys m n)
of_keys m n h = grind (arith, nat_tests)

of_client : (rest : List (List ℕ)) → Of HasKeys (client_of rest)
unfolding client_from
of_client [] = tt
of_client (shape ∷ []) = tt
of_client (shape ∷ proto ∷ []) = tt
of_client (shape ∷ proto ∷ caching ∷ []) = tt
of_client (shape ∷ proto ∷ caching ∷ keys ∷ options) = of_keys _ _ (of_number keys)

of_named : (kind name : List ℕ) (rest : List (List ℕ)) → Of IsValid (named_event kind name rest)
unfolding named_event
of_named kind name rest = grind (arith, choose, codes, any, of_client, of_asked, nat_tests)

of_link : (kind link : List ℕ) (rest : List (List ℕ)) → Of IsValid (link_event kind link rest)
unfolding link_event
of_link kind link rest = grind (arith, any, choose, codes, nat_tests)

of_first : (x y : Option Event) → Of IsValid x → Of IsValid y → Of IsValid (first_there x y)
of_first x y h g = grind (arith, nat_tests)

of_parts : (parts : List (List ℕ)) → Of IsValid (event_of_parts parts)
unfolding event_of_parts
of_parts parts = grind (arith, choose, codes, any, of_first, of_named, of_link, nat_tests)

pub events_are_valid : (line : List ℕ) (e : Event) → event_of line ≡ Some e → IsValid e
unfolding event_of
events_are_valid line e is = grind (arith, choose, of_parts, nat_tests)
