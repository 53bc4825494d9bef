-- One turn of a seat, with what it adds, and what turns have in order.
use Rattle.std.specs.Prelude.{◌≡◌, List, [], ◌∷◌, ◌++◌, Option, Some, None}
use Rattle.turn_lock.specs.History.{IsPrefix, past_after}
use Rattle.turn_lock.specs.Seats.{Known}
use Rattle.turn_lock.specs.Own.{past_of, Grows}

-- the turns that add this entry, or none, on a past
abbrev pub turns_added : {E : Type 0} → List E → Option E → List (E × List E)
turns_added past None = []
turns_added past (Some e) = (e, past) ∷ []

-- what the turns have of this, in order; the newest turn is the list's first
abbrev pub in_order : {T A : Type 0} → (T → List A) → List T → List A
in_order part [] = []
in_order part (t ∷ ts) = in_order part ts ++ part t

-- one turn of the seat with this call and reply, on the entries that it found
pub record Plays {U E C R : Type 0} (step : U → List E → C → R → Option E → Type 0) (call : C)
    (reply : R) (before after : Known U E) : Type 0 where
  pub setup : U
  pub setup_is : before.setup ≡ Some setup
  pub past : List E
  pub added : Option E
  pub begins : IsPrefix (past_of before) past
  pub did : step setup past call reply added
  pub ends : past_of after ≡ past_after past added
  pub grows : Grows before after (turns_added past added)
