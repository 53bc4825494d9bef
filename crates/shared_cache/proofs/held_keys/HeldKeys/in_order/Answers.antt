use Rattle.std.proofs.Common.{◌≡◌, ap, ◌∙◌, rules}
use Rattle.std.proofs.lemmas.Result.{IfOk-weaker}
use Rattle.shared_cache.specs.HeldKeys.{seen}
use Rattle.shared_cache.proofs.Listing.{sorted_as}
use Rattle.shared_cache.proofs.held_keys.HeldKeys.in_order.Goals as goal

pub returns : goal.returns
returns c =
    IfOk-weaker c.entries_of.result (λ v. seen v.items ≡ seen c.deref.result.now) _
    (λ v e. sorted_as c.in_ok-slots.slots.items c.sort_by.new.self.items _ (seen v.items)
    c.in_ok-slots.ensures (e ∙ ap seen c.deref.ensures.value) c.in_ok-sort_by.ensures.permutation
    c.in_ok-sort_by.ensures.sorted (λ f a r f' k. search rules))
    c.entries_of.ensures
