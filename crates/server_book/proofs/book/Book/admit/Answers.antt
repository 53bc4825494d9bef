use Rattle.std.proofs.Common.{◌≡◌, ◌+◌, ◌∷◌, [], length, sym, ap, subst, ◌∙◌, arith, Some}
use Rattle.serial_model.specs.declared.history.Entry.TheVariants as entry
use Rattle.serial_model.specs.declared.history.BookCall.TheVariants.{Admit}
use Rattle.serial_model.specs.History.{is_stopped}
use Rattle.server_book.specs.BookState.{Agrees, BookState, HasRoom, IsAccepted}
use Rattle.server_book.specs.Connections.{ConnectionsState}
use Rattle.server_book.proofs.BookTurns.{is_turn, agrees_admit, room_admit, admit_turned}
use Rattle.server_book.proofs.BookTurns.{dropped_admit, effect_admit, posted_admit, stopped_admit}
use Rattle.server_book.proofs.book.Book.admit.Goals as goal

pub invariant_of-self-2 : goal.invariant_of-self-2
invariant_of-self-2 c =
    let i = c.self.inside in
    let l = i.limits in
    let past = i.log.past in
    let cs = i.stores.connections.items in
    let id = c.count.result + 1 in
    let e = entry.Admit id in
    let grown = c.push.ensures.past ∙ ap (λ x. e ∷ x) c.reserve.ensures.past in
    let goes = subst (λ (b : BookState). IsAccepted b.limits b.past Admit) (sym c.self.view_is)
    c.requires.accepted in
    let agreed = subst (λ (s : ConnectionsState). Agrees l (e ∷ past) i.stores.space i.stores.table
    i.stores.prefixes s.items) (sym c.in_ok-admit.ensures.ok)
    (agrees_admit l past i.stores.space i.stores.table i.stores.prefixes cs
    c.self.invariant.agrees id goes (ap (λ n. n + 1) c.count.ensures.count)) in
    let room = subst (λ (s : ConnectionsState). HasRoom (i.log.closable + 1) s.items)
    (sym c.in_ok-admit.ensures.ok)
    (room_admit i.log.closable cs c.self.invariant.room) in
    record {
      agrees = subst (λ p. Agrees l p i.stores.space i.stores.table i.stores.prefixes
          c.admit.new.self.items) (sym grown) agreed;
      most_is = c.push.ensures.most ∙ c.reserve.ensures.most ∙ c.self.invariant.most_is;
      room = subst (λ n. HasRoom n c.admit.new.self.items)
          (sym (c.push.ensures.closable ∙ ap (λ n. n + 1) c.reserve.ensures.closable)) room;
      none_lost =
          ap (λ (s : ConnectionsState). s.lost) c.in_ok-admit.ensures.ok
          ∙ c.self.invariant.none_lost;
      stopped_is =
          c.self.invariant.stopped_is ∙ sym (stopped_admit l past id)
          ∙ sym (ap (is_stopped l) grown);
    }

pub returns-clause-ok : goal.returns-clause-ok
returns-clause-ok c =
    let i = c.self.inside in
    let l = i.limits in
    let past = i.log.past in
    let k = c.self.invariant.agrees in
    let id = c.count.result + 1 in
    let n = c.next-entry.result in
    let e = entry.Admit id in
    let number : n ≡ length past + 1 =
    c.next-entry.ensures ∙ ap (λ p. length p + 1) c.reserve.ensures.past in
    let grown = c.push.ensures.past ∙ ap (λ x. e ∷ x) c.reserve.ensures.past in
    let none : i.stores.connections.posts ≡ [] = ap (λ (b : BookState). b.posts) c.self.view_is
    ∙ c.requires.none.posts in
    let goes = subst (λ (b : BookState). IsAccepted b.limits b.past Admit) (sym c.self.view_is)
    c.requires.accepted in
    is_turn c.args.self.now l past c.push.new.self.past i.stores.connections.posts
    c.admit.new.self.posts i.stores.connections.drops c.admit.new.self.drops i.effect _ e Admit _
    c.self.view_is tt grown
    (admit_turned l past n id goes number (omega (arith, c.count.ensures.count, k.count)))
    (ap (λ (s : ConnectionsState). s.posts) c.in_ok-admit.ensures.ok ∙ none
    ∙ posted_admit l past id)
    (ap (λ (s : ConnectionsState). s.drops) c.in_ok-admit.ensures.ok
    ∙ ap (λ (b : BookState). b.drops) c.self.view_is ∙ c.requires.none.drops
    ∙ dropped_admit l past id)
    (c.keep.ensures ∙ ap Some c.bare_effect-effect.ensures ∙ effect_admit l past id n number)
