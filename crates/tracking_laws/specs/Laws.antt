-- What tracking does at each entry of a history, and no more than that.
use Rattle.std.specs.Prelude.{List, [], ◌∷◌}
use Rattle.serial_model.specs.declared.history.Limits.{Limits}
use Rattle.serial_model.specs.declared.history.Entry.{Entry}
use Rattle.serial_model.specs.History.{IsLegal}
use Rattle.tracking_laws.specs.Told.{ToldByName, ToldOfAll, ToldIsAsked, ToldOnce}
use Rattle.tracking_laws.specs.Causes.{RememberedIsRead, RememberedIsTracked, LeavesForCause}
use Rattle.tracking_laws.specs.Causes.{EachReadIsOwedOrTold, EachReadIsRemembered}
use Rattle.tracking_laws.specs.Causes.{GoneIsForgotten}
use Rattle.tracking_laws.specs.Drops.{DropsOldest}
use Rattle.tracking_laws.specs.Sent.{OnlyAnswered, SentIsTold}

-- what holds of each entry on its past
abbrev pub OfEachEntry : (Limits → Entry → List Entry → Type 0) → Type 0
OfEachEntry P = (l : Limits) (entry : Entry) (past : List Entry) → P l entry past

-- the same of a history that turns make
abbrev pub OfEachLegal : (Limits → Entry → List Entry → Type 0) → Type 0
OfEachLegal P =
    (l : Limits) (entry : Entry) (past : List Entry) → IsLegal l (entry ∷ past) → P l entry past

-- one entry
pub record EntryTellsExactly (l : Limits) (entry : Entry) (past : List Entry) : Type 0 where
  pub by_name : ToldByName l entry past
  pub of_all : ToldOfAll l entry past
  pub asked : ToldIsAsked l entry past
  pub once : ToldOnce l entry past
  pub sent : SentIsTold l entry past
  pub answered : OnlyAnswered l entry past
  pub read : RememberedIsRead l entry past
  pub tracked : RememberedIsTracked l (entry ∷ past)
  pub own_read : EachReadIsRemembered l entry past
  pub owed : EachReadIsOwedOrTold l entry past
  pub cause : LeavesForCause l entry past
  pub forgotten : GoneIsForgotten l entry past
  pub drops : DropsOldest l entry past

-- every entry of a history
abbrev pub ToldExactly : Limits → List Entry → Type 0
ToldExactly l [] = Unit {0}
ToldExactly l (entry ∷ past) = EntryTellsExactly l entry past × ToldExactly l past

abbrev pub LegalTellsExactly : Type 0
LegalTellsExactly = (l : Limits) (past : List Entry) → IsLegal l past → ToldExactly l past
