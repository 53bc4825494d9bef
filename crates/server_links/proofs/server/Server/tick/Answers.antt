use Rattle.std.proofs.Common.{◌≡◌, ◌++◌, ◌∷◌, ◌∙◌, [], ap, append-nil, arith, max, subst, sym}
use Rattle.std.proofs.lemmas.Result.{err_from_is_err_and}
use Rattle.script_text.specs.declared.line.Line.TheVariants as line
use Rattle.serial_model.specs.declared.history.BookCall.TheVariants as calls
use Rattle.serial_model.specs.declared.history.BookReply.TheVariants.{Ticked}
use Rattle.serial_model.specs.History.{latest}
use Rattle.serial_model.specs.Steps.{BookStep}
use Rattle.server_links.specs.EntryLines.{dropped_lines}
use Rattle.server_links.specs.LinkSteps.{tick}
use Rattle.server_links.specs.Outcome.{Gives}
use Rattle.server_links.specs.ServerState.{ServerState}
use Rattle.server_links.specs.Session.{world}
use Rattle.server_links.proofs.Moments.{after, none_dropped, tick_before, tick_other, tick_ticked}
use Rattle.server_links.proofs.Moments.{world_after}
use Rattle.server_links.proofs.server.Server.tick.Goals as goal

pub returns-in_err-next_entry-clause-gives : goal.returns-in_err-next_entry-clause-gives
returns-in_err-next_entry-clause-gives c links named =
    let p = err_from_is_err_and c.from_residual.result c.from_residual.ensures.1 in
    rw p.1 (rw p.2 (tick_before (world c.args.self.now links) c.args.lines.now))

pub returns-in_err-put_with_room-clause-gives : goal.returns-in_err-put_with_room-clause-gives
returns-in_err-put_with_room-clause-gives c links named =
    let p = err_from_is_err_and c.from_residual-in_err-put_with_room.result
    c.from_residual-in_err-put_with_room.ensures.1 in
    rw p.1 (rw p.2 (rw (c.in_err-put_with_room.ensures.err ∙ c.items_mut-items.ensures.items)
    (tick_before (world c.args.self.now links) c.args.lines.now)))

pub returns-in-Ticked-clause-gives : goal.returns-in-Ticked-clause-gives
returns-in-Ticked-clause-gives c links named =
    let s = c.args.self.now in
    let w = world s links in
    let new = c.play_out-reply.new.self in
    let clock_is : c.self.inside.clock ≡ s.clock =
    ap (λ (x : ServerState). x.clock) c.self.view_is in
    let moment = c.max-moment.ensures
    ∙ ap (max c.self.inside.clock) c.moment.ensures
    ∙ ap (λ (x : ServerState). max x.clock (latest x.book.past)) c.self.view_is in
    let e = c.in-Ticked.entry in
    let put = c.in_ok-put_with_room.ensures.ok
    ∙ ap (λ x. x ++ line.Tick c.in_ok-next_entry.field-0 c.max-moment.result ∷ [])
    c.items_mut-items.ensures.items in
    let gives = tick_ticked w e c.in_ok-next_entry.field-0 c.max-moment.result new.book.past
    c.args.lines.now (grind arith) c.in_ok-next_entry.ensures moment in (
      gives.0,
      world_after s new links c.play_out-reply.ensures.limits c.play_out-reply.ensures.clock
          ∙ gives.1,
      c.in-Ticked.ensures.lines
          ∙ ap (λ x. x ++ dropped_lines s.book.limits s.names (Ticked e) new.book.past) put
          ∙ ap (λ ns. (c.args.lines.now
          ++ line.Tick c.in_ok-next_entry.field-0 c.max-moment.result ∷ [])
          ++ dropped_lines s.book.limits ns (Ticked e) new.book.past) (sym named) ∙ gives.2,
    )

pub returns : goal.returns
returns c =
    let s = c.args.self.now in
    let new = c.play_out-reply.new.self in
    let put = c.in_ok-put_with_room.ensures.ok
    ∙ ap (λ x. x ++ line.Tick c.in_ok-next_entry.field-0 c.max-moment.result ∷ [])
    c.items_mut-items.ensures.items in
    let clock_is : c.self.inside.clock ≡ s.clock =
    ap (λ (x : ServerState). x.clock) c.self.view_is in
    let reply = c.play_out-reply.result in
    let step = subst (λ n. BookStep s.book.limits s.book.past (calls.Tick n) reply new.book.past)
    clock_is c.play_out-reply.ensures.step in
    let before = c.args.lines.now in
    let r = c.without_entry.result in
    record {
      limits = c.play_out-reply.ensures.limits;
      clock = c.play_out-reply.ensures.clock;
      names = c.play_out-reply.ensures.names;
      gives = λ links named.
          let w = world s links in
          let back = c.take_back.ensures before
          (line.Tick c.in_ok-next_entry.field-0 c.max-moment.result)
          (c.play_out-reply.ensures.lines ∙ ap (λ x. x
          ++ dropped_lines s.book.limits s.names reply new.book.past) put
          ∙ ap (λ x. (before ++ line.Tick c.in_ok-next_entry.field-0 c.max-moment.result ∷ [])
          ++ x) (none_dropped w reply new.book.past s.names step c.in_default.not-Ticked)
          ∙ append-nil _) in
          subst (λ v. Gives (tick w) before r v c.take_back.new.items.items)
          (sym (world_after s new links c.play_out-reply.ensures.limits
          c.play_out-reply.ensures.clock))
          (subst (λ ls. Gives (tick w) before r (after w new.book.past) ls) (sym back)
          (tick_other w reply new.book.past before r step c.in_default.not-Ticked
          c.without_entry.ensures));
    }
