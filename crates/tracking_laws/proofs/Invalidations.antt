-- Whom a Tick tells: those that hold the keys that are due, or have registered a prefix of them.
use Rattle.std.proofs.Common.{◌≡◌, ◌∙◌, ◌++◌, ℕ, List, ap, append-nil}
use Rattle.serial_model.specs.declared.history.Limits.{Limits}
use Rattle.serial_model.specs.declared.history.Entry.{Entry}
use Rattle.serial_model.specs.declared.history.Entry.TheVariants.{Tick}
use Rattle.serial_model.specs.History.{invalidations, expiry_group}
use Rattle.serial_model.proofs.Quiet.{tick_none}

pub tick_told : (l : Limits) (past : List Entry) (m : ℕ)
    → invalidations l (Tick m) past ≡ expiry_group l past m
tick_told l past m =
    ap (λ x. expiry_group l past m ++ x) (tick_none l past m) ∙ append-nil _
