use Rattle.std.proofs.Common.{arith, sym, subst, ◌<◌, length, slice_index_or}
use Rattle.command_words.proofs.QueryWords.{has_key, key_at}
use Rattle.command_words.proofs.query.Query.key.Goals as goal

pub bounds-as_slice-1 : goal.bounds-as_slice-1
bounds-as_slice-1 c =
    subst (λ l. 1 < length l) (sym c.as_slice.ensures) (has_key _ c.self.invariant)

pub returns : goal.returns
returns c = grind (arith, slice_index_or, key_at)
