use Rattle.std.proofs.Common.{◌∷◌, sym, ap, subst, ◌∙◌, Some}
use Rattle.server_book.specs.Places.{Connection}
use Rattle.server_book.specs.Sendings.{end_posts}
use Rattle.track_table.specs.Table.{TableState, without_connection}
use Rattle.prefix_table.specs.Table as registrations
use Rattle.serial_model.specs.History.{is_stopped}
use Rattle.serial_model.specs.declared.history.Entry.TheVariants as entry
use Rattle.serial_model.specs.declared.history.BookCall.TheVariants.{Close}
use Rattle.server_book.specs.BookState.{BookState, IsAccepted, Agrees, HasRoom}
use Rattle.server_book.specs.Connections.{ConnectionsState}
use Rattle.server_book.proofs.BookTurns.{agrees_as, agrees_close, close_turned, is_id, is_turn}
use Rattle.server_book.proofs.BookTurns.{open_at, posted_close, prefixes_close, room_close}
use Rattle.server_book.proofs.BookTurns.{dropped_close, effect_close, kept_of, reads_there}
use Rattle.server_book.proofs.BookTurns.{stopped_close, table_close}
use Rattle.server_book.proofs.book.Book.close.Goals as goal

pub invariant_of-self : goal.invariant_of-self
invariant_of-self c =
    let i = c.self.inside in
    let cs = i.stores.connections.items in
    let keys = i.stores.table in
    let rs = i.stores.prefixes in
    let id = c.args.id in
    let k = c.self.invariant.agrees in
    let past = i.log.past in
    let on = subst (λ (b : BookState). IsAccepted b.limits b.past (Close id)) (sym c.self.view_is)
    c.requires.accepted in
    let new = c.forget.new.self in
    let then = entry.Close id ∷ past in
    let forgot = c.forget.ensures.table
    ∙ ap (λ (t : TableState). record t { rows = without_connection id t.rows }) k.table_is
    ∙ ap (λ rows. record { limit = i.limits.table_max; rows = rows })
    (sym (table_close i.limits past id)) in
    let left = c.forget.ensures.prefixes
    ∙ ap (registrations.without_connection id) k.prefixes_are
    ∙ sym (prefixes_close i.limits past id) in
    let agreed = agrees_as i.limits then i.stores.space _ new.table _ new.prefixes _
    new.connections.items forgot left
    (ap (λ (s : ConnectionsState). s.items) (c.forget.ensures.connections ∙ c.close.ensures))
    (agrees_close i.limits past i.stores.space keys rs cs k id on) in
    record {
      agrees = subst (λ p. Agrees i.limits p new.space new.table new.prefixes
          new.connections.items) (sym c.push.ensures.past)
          (subst (λ x. Agrees i.limits then x new.table new.prefixes new.connections.items)
          (sym c.forget.ensures.space) agreed);
      most_is = c.push.ensures.most ∙ c.self.invariant.most_is;
      room = subst (λ (s : ConnectionsState). HasRoom c.push.new.self.closable s.items)
          (sym (c.forget.ensures.connections ∙ c.close.ensures))
          (room_close i.log.closable c.push.new.self.closable id cs c.self.invariant.room
          (is_id i.limits past i.stores.space keys rs cs k id
          (reads_there i.limits past i.stores.space keys rs cs k id on))
          (open_at i.limits past i.stores.space keys rs cs k id on) c.push.ensures.closable);
      none_lost =
          ap (λ (s : ConnectionsState). s.lost) (c.forget.ensures.connections ∙ c.close.ensures)
          ∙ c.self.invariant.none_lost;
      stopped_is =
          c.self.invariant.stopped_is ∙ sym (stopped_close i.limits past id)
          ∙ sym (ap (is_stopped i.limits) c.push.ensures.past);
    }

pub returns : goal.returns
returns c =
    let i = c.self.inside in
    let l = i.limits in
    let past = i.log.past in
    let k = c.self.invariant.agrees in
    let cs = i.stores.connections.items in
    let id = c.args.id in
    let n = c.next-entry.result in
    let on = subst (λ (b : BookState). IsAccepted b.limits b.past (Close id)) (sym c.self.view_is)
    c.requires.accepted in
    let kept = kept_of l past i.stores.space i.stores.table i.stores.prefixes cs k id
    (reads_there l past i.stores.space i.stores.table i.stores.prefixes cs k id on) in
    is_turn c.args.self.now l past c.push.new.self.past i.stores.connections.posts
    c.forget.new.self.connections.posts i.stores.connections.drops
    c.forget.new.self.connections.drops i.effect _ (entry.Close id) (Close id) _ c.self.view_is tt
    c.push.ensures.past (close_turned l past id n on c.next-entry.ensures)
    (ap (λ (s : ConnectionsState). s.posts) (c.forget.ensures.connections ∙ c.close.ensures)
    ∙ ap (λ (x : Connection). end_posts n id x.standing) kept
    ∙ posted_close l past id n c.next-entry.ensures)
    (ap (λ (s : ConnectionsState). s.drops) (c.forget.ensures.connections ∙ c.close.ensures)
    ∙ ap (λ (b : BookState). b.drops) c.self.view_is ∙ c.requires.none.drops
    ∙ dropped_close l past id)
    (c.keep.ensures ∙ ap Some c.bare_effect-effect.ensures
    ∙ effect_close l past id n c.next-entry.ensures)
