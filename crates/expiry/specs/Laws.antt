-- What a list of deadlines has to do with its members.
use Rattle.std.specs.Prelude.{◌≡◌, ◌||◌, ◌&&◌, List, not}
use Rattle.expiry.specs.declared.index.Deadline.{Deadline}
use Rattle.expiry.specs.Index.{has, is_same, with, without}
use Rattle.expiry.specs.Order.{IsOrdered}

abbrev pub OneIndex : Type 0
OneIndex =
    (ds es : List Deadline) → IsOrdered ds → IsOrdered es
    → ((d : Deadline) → has d ds ≡ has d es) → ds ≡ es

abbrev pub SettingAddsOne : Type 0
SettingAddsOne =
    (d e : Deadline) (ds : List Deadline) → has d (with e ds) ≡ (is_same d e || has d ds)

abbrev pub RemovalTakesOne : Type 0
RemovalTakesOne =
    (d e : Deadline) (ds : List Deadline)
    → has d (without e ds) ≡ (not (is_same d e) && has d ds)
