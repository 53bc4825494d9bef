use Rattle.std.proofs.Common.{arith, ◌≡◌, ◌++◌, ◌∷◌, ◌≤◌, ◌+◌, [], length, append-nil, append_assoc}
use Rattle.std.proofs.Common.{ap, subst, ◌∙◌}
use Rattle.std.proofs.lemmas.List.{get_or_read}
use Rattle.prefix_table.specs.Table.{prefix_at}
use Rattle.prefix_table.specs.Fronts.{common, shorter}
use Rattle.prefix_table.specs.Order.{IsTable}
use Rattle.prefix_table.proofs.Fronts.{common_right}
use Rattle.prefix_table.proofs.Matching.{all_ended, all_found, none_found, none_yet, one_found}
use Rattle.prefix_table.proofs.table.PrefixTable.matching.Goals as goal
use Rattle.prefix_table.proofs.table.PrefixTable.matching.Goals.{then-common-prefix+in-Ok}
use Rattle.prefix_table.proofs.table.PrefixTable.matching.Goals.{else-common-prefix}

pub fronts-init : goal.fronts-init
fronts-init c = grind (arith, append-nil, none_yet)

pub returns-then-place-len-clause-ok : goal.returns-then-place-len-clause-ok
returns-then-place-len-clause-ok c =
    let rs = c.args.self.now in
    let place = c.first_from-place.result in
    let order = (subst IsTable c.self.view_is c.self.invariant).order in
    let past : length rs ≤ place = grind arith in
    c.fronts.invariant
    ∙ ap (λ l. c.args.places.now.items ++ l)
    (all_found c.args.key.now rs order c.fronts.front place c.fronts-test.true
    c.first_from-place.ensures (λ lt. absurd (omega arith)))

pub returns-then-common-front-clause-ok : goal.returns-then-common-front-clause-ok
returns-then-common-front-clause-ok c = grind (arith, get_or_read, all_found)

pub overflow_add-front : goal.overflow_add-front
overflow_add-front c = grind (arith, common_right)

pub fronts-preserved : goal.fronts-preserved
fronts-preserved c =
    let rs = c.args.self.now in
    let key = c.args.key.now in
    let n = c.fronts.front in
    let place = c.first_from-place.result in
    let order = (subst IsTable c.self.view_is c.self.invariant).order in
    let there : place + 1 ≤ length rs = grind arith in
    let prefix_is : c.as_slice-prefix.result.now ≡ prefix_at rs place =
    grind (arith, get_or_read) in
    let common_is : c.common-common.result ≡ common (prefix_at rs place) key =
    c.common-common.ensures ∙ ap (λ p. common p key) prefix_is in
    let enough : n ≤ common (prefix_at rs place) key = omega (
      arith,
      c.if-common-front.false,
      common_is,
    ) in
    elim c.if-common-prefix.branch [
      | then-common-prefix+in-Ok w ↦
          let whole : common (prefix_at rs place) key ≡ length (prefix_at rs place) =
          grind arith in
          let found = one_found key rs order n place c.fronts-test.true
          c.first_from-place.ensures (omega (arith, there)) enough whole in
          let more : shorter key rs (c.common-common.result + 1)
          ≡ shorter key rs n ++ place ∷ [] =
          ap (λ k. shorter key rs (k + 1)) common_is ∙ found in
          grind (arith, append_assoc)
      | else-common-prefix w ↦
          let found = none_found key rs order n place c.fronts-test.true
          c.first_from-place.ensures (omega (arith, there)) enough (λ e. grind arith) in
          let more : shorter key rs (c.common-common.result + 1) ≡ shorter key rs n =
          ap (λ k. shorter key rs (k + 1)) common_is ∙ found in
          grind arith
    ]

pub returns-clause-ok : goal.returns-clause-ok
returns-clause-ok c = grind (arith, all_ended)
