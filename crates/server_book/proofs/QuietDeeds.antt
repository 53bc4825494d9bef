-- A deed that signals nothing, and remembers no more than there is place for, tells nobody.
use Rattle.std.proofs.Common.{◌≡◌, ◌≤◌, ℕ, List, [], ◌++◌, Bool, length, sym, ap, ◌∙◌, ◌⊎◌}
use Rattle.std.proofs.Common.{inl, inr, refl}
use Rattle.std.specs.Prelude.{filter, not}
use Rattle.command_words.specs.declared.command.Signalled.TheVariants.{Keys}
use Rattle.track_table.specs.Table.{TableState, dropped}
use Rattle.prefix_table.specs.declared.table.Registration.{Registration}
use Rattle.serial_model.specs.Tracking.{drop_group, signal_group}
use Rattle.track_modes.specs.ModeState.{ModeState}
use Rattle.server_book.specs.declared.deed.Deed.{Deed}
use Rattle.server_book.specs.declared.deed.Deed.TheVariants.{Become, Nothing, Quit, Shutdown}
use Rattle.server_book.specs.Connections.{ConnectionsState}
use Rattle.server_book.specs.Plans.{remembered_by, signals_of, told_by}
use Rattle.server_book.specs.RunSendings.{deed_done}
use Rattle.server_book.specs.Sendings.{passed_over, passes, tracking_ids, with_told}
use Rattle.server_book.proofs.PrefixGroups.{nothing_told}
use Rattle.server_book.proofs.Remembered.{short_dropped}
use Rattle.server_book.proofs.Routing.{told_nobody}

pub told_none : (id : ℕ) (deed : Deed) (passed : ℕ → Bool) (tracking : List ℕ)
    (table : TableState) (prefixes : List Registration) → signals_of deed ≡ Keys []
    → length (remembered_by id deed table.rows) ≤ table.limit
    → told_by id deed passed tracking table prefixes ≡ []
told_none id deed passed tracking table prefixes is short =
    let over = drop_group (dropped table.limit (remembered_by id deed table.rows)) in
    ap (λ g. signal_group g passed tracking table.rows prefixes ++ over) is
    ∙ ap (λ x. filter (λ i. not (passed i.to)) x ++ over) (nothing_told prefixes)
    ∙ ap drop_group
    (short_dropped table.limit (remembered_by id deed table.rows) short)

pub deed_quiet : (n id : ℕ) (deed known : Deed) (table : TableState)
    (prefixes : List Registration) (st : ConnectionsState) → deed ≡ known
    → signals_of known ≡ Keys []
    → length (remembered_by id known table.rows) ≤ table.limit
    → st ≡ deed_done n id deed table prefixes st
deed_quiet n id deed known table prefixes st is quiet short =
    let passed = passes (passed_over st.items id) in
    let none = told_none id known passed (tracking_ids st.items) table prefixes quiet short in
    sym (told_nobody n st) ∙ ap (λ x. with_told n x st) (sym none)
    ∙ ap (λ d. deed_done n id d table prefixes st) (sym is)

-- so does one that leaves the keys and the prefixes
pub deed_still : (n id : ℕ) (deed : Deed) (table : TableState)
    (prefixes : List Registration) (st : ConnectionsState)
    → (deed ≡ Nothing) ⊎ ((mode : ModeState) × (deed ≡ Become mode)) ⊎ (deed ≡ Quit)
    ⊎ (deed ≡ Shutdown)
    → length table.rows ≤ table.limit → st ≡ deed_done n id deed table prefixes st
deed_still n id deed table prefixes st (inl is) short =
    deed_quiet n id deed Nothing table prefixes st is refl short
deed_still n id deed table prefixes st (inr (inl is)) short =
    deed_quiet n id deed (Become is.0) table prefixes st is.1 refl short
deed_still n id deed table prefixes st (inr (inr (inl is))) short =
    deed_quiet n id deed Quit table prefixes st is refl short
deed_still n id deed table prefixes st (inr (inr (inr is))) short =
    deed_quiet n id deed Shutdown table prefixes st is refl short
