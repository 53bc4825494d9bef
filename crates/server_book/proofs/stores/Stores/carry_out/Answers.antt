use Rattle.std.proofs.Common.{◌∙◌, arith, append-nil, refl}
use Rattle.serial_model.proofs.TableSize.{without_keys_within, without_within}
use Rattle.server_book.specs.declared.deed.Deed.TheVariants.{Forget, Track}
use Rattle.server_book.proofs.PrefixGroups.{nothing_told}
use Rattle.server_book.proofs.QuietDeeds.{deed_quiet, deed_still}
use Rattle.server_book.proofs.Remembered.{same_table, short_dropped}
use Rattle.server_book.proofs.Sendings.{on_ok}
use Rattle.server_book.proofs.stores.Stores.carry_out.Goals as goal

pub returns-in-Nothing-clause-sent : goal.returns-in-Nothing-clause-sent
returns-in-Nothing-clause-sent c =
    let s = c.args.self.now in
    deed_still c.args.entry c.args.id c.args.deed.now s.table s.prefixes s.connections
    c.in-Nothing.is c.requires.held.short

pub returns-in-Nothing-2-clause-sent : goal.returns-in-Nothing-2-clause-sent
returns-in-Nothing-2-clause-sent c =
    let s = c.args.self.now in
    deed_still c.args.entry c.args.id c.args.deed.now s.table s.prefixes s.connections
    c.in-Nothing.is c.requires.held.short

pub returns-in-Nothing-3-clause-sent : goal.returns-in-Nothing-3-clause-sent
returns-in-Nothing-3-clause-sent c =
    let s = c.args.self.now in
    deed_still c.args.entry c.args.id c.args.deed.now s.table s.prefixes s.connections
    c.in-Nothing.is c.requires.held.short

pub returns-in-Nothing-4-clause-sent : goal.returns-in-Nothing-4-clause-sent
returns-in-Nothing-4-clause-sent c =
    let s = c.args.self.now in
    deed_still c.args.entry c.args.id c.args.deed.now s.table s.prefixes s.connections
    c.in-Nothing.is c.requires.held.short

pub returns-in-Tell-clause-table : goal.returns-in-Tell-clause-table
returns-in-Tell-clause-table c = grind (arith, without_keys_within)

pub returns-in-Tell-clause-sent : goal.returns-in-Tell-clause-sent
returns-in-Tell-clause-sent c = grind (arith, without_keys_within, short_dropped, append-nil)

pub returns-in-TellAll-clause-table : goal.returns-in-TellAll-clause-table
returns-in-TellAll-clause-table c = grind arith

pub returns-in-TellAll-clause-sent : goal.returns-in-TellAll-clause-sent
returns-in-TellAll-clause-sent c = grind (arith, short_dropped, append-nil, nothing_told)

pub returns-in-Remember-clause-sent : goal.returns-in-Remember-clause-sent
returns-in-Remember-clause-sent c = grind (arith, append-nil, nothing_told)

pub returns-in-Forget-clause-table : goal.returns-in-Forget-clause-table
returns-in-Forget-clause-table c = grind (arith, without_within, same_table)

pub returns-in-Forget-clause-sent : goal.returns-in-Forget-clause-sent
returns-in-Forget-clause-sent c =
    let s = c.args.self.now in
    let short = c.requires.held.short in
    c.forget.ensures.connections
    ∙ deed_quiet c.args.entry c.args.id c.args.deed.now (Forget c.in-Forget.field-0) s.table
    s.prefixes s.connections c.in-Forget.is refl
    (omega (arith, short, without_within c.args.id s.table.rows))

pub returns-in-Track-clause-sent : goal.returns-in-Track-clause-sent
returns-in-Track-clause-sent c =
    let s = c.args.self.now in
    on_ok c.add_all.result _
    (deed_quiet c.args.entry c.args.id c.args.deed.now (Track c.in-Track.mode) s.table s.prefixes
    s.connections c.in-Track.is refl c.requires.held.short)
