-- All of this holds of each entry of a legal history.
use Rattle.std.proofs.Common.{List, [], ◌∷◌}
use Rattle.serial_model.specs.declared.history.Limits.{Limits}
use Rattle.serial_model.specs.declared.history.Entry.{Entry}
use Rattle.serial_model.specs.declared.history.Entry.TheVariants.{Admit, Run, Tick, Take, Close}
use Rattle.serial_model.specs.History.{IsLegal}
use Rattle.tracking_laws.specs.Laws.{EntryTellsExactly, ToldExactly}
use Rattle.tracking_laws.proofs.Told.{told_by_name, told_is_asked, told_once}
use Rattle.tracking_laws.proofs.Flushes.{told_of_all}
use Rattle.tracking_laws.proofs.Owned.{remembered_is_read, gone_is_forgotten}
use Rattle.tracking_laws.proofs.Causes.{each_read_is_owed_or_told, leaves_for_cause}
use Rattle.tracking_laws.proofs.Causes.{each_read_is_remembered, remembered_is_tracked}
use Rattle.tracking_laws.proofs.Drops.{drops_oldest}
use Rattle.tracking_laws.proofs.Sent.{only_answered, sent_is_told}

module _ (l : Limits) where
  before : (entry : Entry) (past : List Entry) → IsLegal l (entry ∷ past) → IsLegal l past
  before (Admit id) past h = h.2
  before (Run id words moment) past h = h.2
  before (Tick moment) past h = h.3
  before (Take id max) past h = h.2
  before (Close id) past h = h.1

  entry_tells_exactly : (entry : Entry) (past : List Entry) → IsLegal l (entry ∷ past)
      → EntryTellsExactly l entry past
  entry_tells_exactly entry past legal = record {
    by_name = told_by_name l entry past;
    of_all = told_of_all l entry past;
    asked = told_is_asked l entry past;
    once = told_once l entry past;
    sent = sent_is_told l entry past;
    answered = only_answered l entry past;
    read = remembered_is_read l entry past;
    tracked = remembered_is_tracked l (entry ∷ past) legal;
    own_read = each_read_is_remembered l entry past;
    owed = each_read_is_owed_or_told l entry past legal;
    cause = leaves_for_cause l entry past;
    forgotten = gone_is_forgotten l entry past;
    drops = drops_oldest l entry past;
  }

  pub told_exactly : (past : List Entry) → IsLegal l past → ToldExactly l past
  told_exactly [] legal = tt
  told_exactly (entry ∷ past) legal =
      (entry_tells_exactly entry past legal, told_exactly past (before entry past legal))
