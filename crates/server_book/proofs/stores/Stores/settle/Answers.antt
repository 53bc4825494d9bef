use Rattle.std.proofs.Common.{sym, subst}
use Rattle.server_book.specs.Connections.{ConnectionsState, IsOpen}
use Rattle.server_book.proofs.Sendings.{open_marked}
use Rattle.server_book.proofs.stores.Stores.settle.Goals as goal

pub spend-requires : goal.spend-requires
spend-requires c =
    let old = c.args.self.now.connections in
    subst (λ (s : ConnectionsState). IsOpen s.items c.args.id) (sym c.mark_lost.ensures)
    (open_marked old.lost old.items c.args.id c.requires.open)

pub spend-requires-in-Tell : goal.spend-requires-in-Tell
spend-requires-in-Tell c =
    let old = c.args.self.now.connections in
    subst (λ (s : ConnectionsState). IsOpen s.items c.args.id) (sym c.mark_lost.ensures)
    (open_marked old.lost old.items c.args.id c.requires.open)

pub spend-requires-in-TellAll : goal.spend-requires-in-TellAll
spend-requires-in-TellAll c =
    let old = c.args.self.now.connections in
    subst (λ (s : ConnectionsState). IsOpen s.items c.args.id) (sym c.mark_lost.ensures)
    (open_marked old.lost old.items c.args.id c.requires.open)

pub spend-requires-in-Remember : goal.spend-requires-in-Remember
spend-requires-in-Remember c =
    let old = c.args.self.now.connections in
    subst (λ (s : ConnectionsState). IsOpen s.items c.args.id) (sym c.mark_lost.ensures)
    (open_marked old.lost old.items c.args.id c.requires.open)

pub set_mode-requires-clause-open : goal.set_mode-requires-clause-open
set_mode-requires-clause-open c =
    let old = c.args.self.now.connections in
    subst (λ (s : ConnectionsState). IsOpen s.items c.args.id) (sym c.mark_lost.ensures)
    (open_marked old.lost old.items c.args.id c.requires.open)

pub renew-requires-clause-open : goal.renew-requires-clause-open
renew-requires-clause-open c =
    let old = c.args.self.now.connections in
    subst (λ (s : ConnectionsState). IsOpen s.items c.args.id) (sym c.mark_lost.ensures)
    (open_marked old.lost old.items c.args.id c.requires.open)

pub renew-requires-in-Forget-clause-open : goal.renew-requires-in-Forget-clause-open
renew-requires-in-Forget-clause-open c =
    let old = c.args.self.now.connections in
    subst (λ (s : ConnectionsState). IsOpen s.items c.args.id) (sym c.mark_lost.ensures)
    (open_marked old.lost old.items c.args.id c.requires.open)
