use Rattle.std.proofs.Common.{◌≡◌, ◌+◌, ◌-◌, ◌<◌, ◌∷◌, [], ℕ, List, length, take, sym, ap, subst}
use Rattle.std.proofs.Common.{◌∙◌, arith, length-set, Some}
use Rattle.serial_model.specs.declared.history.Entry.TheVariants as entry
use Rattle.serial_model.specs.declared.history.BookCall.TheVariants.{Take}
use Rattle.serial_model.specs.History.{is_stopped, unsent}
use Rattle.server_book.specs.BookState.{BookState, HasRoom, IsAccepted, Agrees}
use Rattle.server_book.specs.Connections.{ConnectionsState}
use Rattle.server_book.specs.Places.{Connection}
use Rattle.server_book.proofs.BookTurns.{kept_of, is_turn, agrees_take, room_kept, take_turned}
use Rattle.server_book.proofs.BookTurns.{dropped_take, effect_take, posted_take, gives_there}
use Rattle.server_book.proofs.BookTurns.{stopped_take, take_stands}
use Rattle.server_book.proofs.Refusals.{take_some, takes_some}
use Rattle.server_book.proofs.book.Book.take.Goals as goal

pub invariant_of-self-2 : goal.invariant_of-self-2
invariant_of-self-2 c =
    let i = c.self.inside in
    let cs = i.stores.connections.items in
    let k = c.self.invariant.agrees in
    let past = i.log.past in
    let acc = subst (λ (b : BookState). IsAccepted b.limits b.past (Take c.args.id c.args.most))
    (sym c.self.view_is) c.requires.accepted in
    let e = entry.Take c.args.id c.args.most in
    let grown = c.push.ensures.past ∙ ap (λ p. e ∷ p) c.reserve.ensures.past in
    let agreed = subst (λ (s : ConnectionsState). Agrees i.limits (e ∷ past) i.stores.space
    i.stores.table i.stores.prefixes s.items) (sym c.advance.ensures)
    (agrees_take i.limits past i.stores.space i.stores.table i.stores.prefixes cs k c.args.id
    c.args.most acc.0 (takes_some c.args.most _ c.requires.most acc.1)) in
    record {
      agrees = subst (λ p. Agrees i.limits p i.stores.space i.stores.table i.stores.prefixes
          c.advance.new.self.items) (sym grown) agreed;
      most_is = c.push.ensures.most ∙ c.reserve.ensures.most ∙ c.self.invariant.most_is;
      room = subst (λ n. HasRoom n c.advance.new.self.items)
          (sym (c.push.ensures.closable ∙ c.reserve.ensures.closable))
          (room_kept i.limits past e i.log.closable i.stores.space i.stores.table i.stores.prefixes
          cs k i.stores.space i.stores.table i.stores.prefixes c.advance.new.self.items agreed
          (ap (λ (s : ConnectionsState). length s.items) c.advance.ensures
          ∙ length-set cs (c.args.id - 1) _) (take_stands i.limits past c.args.id c.args.most)
          c.self.invariant.room);
      none_lost =
          ap (λ (s : ConnectionsState). s.lost) c.advance.ensures ∙ c.self.invariant.none_lost;
      stopped_is =
          c.self.invariant.stopped_is ∙ sym (stopped_take i.limits past c.args.id c.args.most)
          ∙ sym (ap (is_stopped i.limits) grown);
    }

pub returns-clause-ok : goal.returns-clause-ok
returns-clause-ok c =
    let i = c.self.inside in
    let l = i.limits in
    let past = i.log.past in
    let k = c.self.invariant.agrees in
    let cs = i.stores.connections.items in
    let id = c.args.id in
    let most = c.args.most in
    let n = c.next-entry.result in
    let e = entry.Take id most in
    let number : n ≡ length past + 1 =
    c.next-entry.ensures ∙ ap (λ p. length p + 1) c.reserve.ensures.past in
    let acc = subst (λ (b : BookState). IsAccepted b.limits b.past (Take id most))
    (sym c.self.view_is) c.requires.accepted in
    let kept = kept_of l past i.stores.space i.stores.table i.stores.prefixes cs k id
    (gives_there l past i.stores.space i.stores.table i.stores.prefixes cs k id acc.0) in
    let given : c.in_ok-bytes.bytes ≡ take most (unsent l id past) = c.in_ok-bytes.ensures
    ∙ ap (λ (x : Connection). take most x.queue) kept in
    let grown = c.push.ensures.past ∙ ap (λ p. e ∷ p) c.reserve.ensures.past in
    let none : i.stores.connections.posts ≡ [] = ap (λ (b : BookState). b.posts) c.self.view_is
    ∙ c.requires.none.posts in
    is_turn c.args.self.now l past c.push.new.self.past i.stores.connections.posts
    c.advance.new.self.posts i.stores.connections.drops c.advance.new.self.drops i.effect _ e
    (Take id most) _ c.self.view_is tt grown
    (take_turned l past id most n c.in_ok-bytes.bytes acc.0 number given
    (subst (λ (bytes : List ℕ). 0 < length bytes) (sym given)
    (take_some most (unsent l id past) c.requires.most acc.1)))
    (ap (λ (s : ConnectionsState). s.posts) c.advance.ensures ∙ none
    ∙ posted_take l past id most)
    (ap (λ (s : ConnectionsState). s.drops) c.advance.ensures
    ∙ ap (λ (b : BookState). b.drops) c.self.view_is ∙ c.requires.none.drops
    ∙ dropped_take l past id most)
    (c.keep.ensures ∙ ap Some c.bare_effect-effect.ensures
    ∙ effect_take l past id most n _ number (grind (arith, given)))
