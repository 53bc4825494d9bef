use Rattle.std.proofs.Common.{◌≡◌, IfOk, OnOk, Result, Ok, Err, map, sym, subst}
use Rattle.serial_model.specs.declared.effect.EntryKind.{EntryKind}
use Rattle.serial_model.specs.declared.history.Limits.{Limits}
use Rattle.serial_model.specs.State.{State}
use Rattle.past_effects.specs.Past.{Follows, next_by, sends_by}
use Rattle.past_effects.specs.Sendings.{outline}
use Rattle.past_effects.proofs.Following.{close_sends, follows_admit, follows_close, follows_take}
use Rattle.past_effects.proofs.scan.Scan.step.Goals as goal

-- what holds where there is an answer, and what holds of it
if_ok : {T E : Type 0} (r : Result T E) (A : Type 0) (P Q : T → Type 0)
    → (A → (v : T) → P v → Q v) → OnOk r A → IfOk r P → IfOk r Q
if_ok (Ok v) A P Q f a p = f a v p
if_ok (Err e) A P Q f a p = tt

both_ok : {T E : Type 0} (r : Result T E) (A B : Type 0) → OnOk r A → OnOk r B → OnOk r (A × B)
both_ok (Ok v) A B a b = (a, b)
both_ok (Err e) A B a b = tt

pub returns-in-Admit : goal.returns-in-Admit
returns-in-Admit c =
    let e = c.args.effect.now in
    let old = c.args.self.now in
    let new = c.admit.new.self in
    subst (λ (k : EntryKind). IfOk c.admit.result (λ sent. (l : Limits) (s : State)
    → Follows l old s → (sent ≡ map outline (sends_by l e k s)) × Follows l new (next_by l e k s)))
    (sym c.in-Admit.is)
    (if_ok c.admit.result _ _ _
    (λ are sent none l s f. (
      none,
      follows_admit l old s f new c.admit.ensures.most are c.admit.ensures.table
          c.admit.ensures.prefixes,
    ))
    c.admit.ensures.connections c.admit.ensures.sent)

pub returns-in-Take : goal.returns-in-Take
returns-in-Take c =
    let e = c.args.effect.now in
    let old = c.args.self.now in
    let new = c.take.new.self in
    subst (λ (k : EntryKind). (l : Limits) (s : State) → Follows l old s
    → (c.take.result ≡ map outline (sends_by l e k s)) × Follows l new (next_by l e k s))
    (sym c.in-Take.is)
    (λ l s f. (
      c.take.ensures.sent,
      follows_take l old s f e.id c.in-Take.count new
          c.take.ensures.most c.take.ensures.connections c.take.ensures.table
          c.take.ensures.prefixes,
    ))

pub returns-in-Close : goal.returns-in-Close
returns-in-Close c =
    let e = c.args.effect.now in
    let old = c.args.self.now in
    let new = c.close.new.self in
    subst (λ (k : EntryKind). IfOk c.close.result (λ sent. (l : Limits) (s : State)
    → Follows l old s → (sent ≡ map outline (sends_by l e k s)) × Follows l new (next_by l e k s)))
    (sym c.in-Close.is)
    (if_ok c.close.result _ _ _
    (λ kept sent is l s f. (
      close_sends l old s f e.id sent is,
      follows_close l old s f e.id new c.close.ensures.most kept.0 kept.1.0 kept.1.1,
    ))
    (both_ok c.close.result _ _ c.close.ensures.connections
    (both_ok c.close.result _ _ c.close.ensures.table c.close.ensures.prefixes))
    c.close.ensures.sent)
