use Rattle.std.proofs.Common.{◌≡◌, get_or, sym, subst, arith}
use Rattle.std.proofs.lemmas.List.{get_or_read}
use Rattle.track_modes.specs.PrefixLists.{with_prefix, AreInOrder}
use Rattle.track_modes.proofs.PrefixLemmas.{with_same, with_new, keeps_order}
use Rattle.track_modes.proofs.prefixes.Prefixes.add.Goals as goal

pub returns-then-not-is_before-clause-ok : goal.returns-then-not-is_before-clause-ok
returns-then-not-is_before-clause-ok c = grind (arith, get_or, with_same, get_or_read)

placed : (c : goal.In_ok-insert)
    → c.insert.new.self.items ≡ with_prefix c.args.prefix c.args.self.now
placed c = grind (arith, get_or, get_or_read, with_new)

pub invariant_of-self-2 : goal.invariant_of-self-2
invariant_of-self-2 c =
    subst AreInOrder (sym (placed c))
    (keeps_order c.args.prefix c.args.self.now (subst AreInOrder c.self.view_is c.self.invariant))

pub returns-clause-ok : goal.returns-clause-ok
returns-clause-ok c = placed c
