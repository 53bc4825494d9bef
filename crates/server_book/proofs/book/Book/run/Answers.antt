use Rattle.std.proofs.Common.{◌≡◌, sym, ap, subst, ◌∙◌, Some, Option}
use Rattle.serial_model.specs.declared.effect.Effect.{Effect}
use Rattle.serial_model.specs.declared.effect.EntryKind.TheVariants as kind
use Rattle.serial_model.specs.declared.history.BookCall.TheVariants.{Run}
use Rattle.serial_model.specs.declared.history.BookReply.TheVariants.{Ran}
use Rattle.serial_model.specs.EntryEffects.{command_of}
use Rattle.command_words.specs.Words.{reading}
use Rattle.serial_model.specs.History.{served, state}
use Rattle.server_book.specs.BookState.{BookState, IsAccepted, IsTurn}
use Rattle.server_book.proofs.BookTurns.{mode_of, opened, run_told}
use Rattle.server_book.proofs.book.Book.run.Goals as goal

pub mode-requires : goal.mode-requires
mode-requires c =
    let i = c.self.inside in
    let acc = subst (λ (b : BookState). IsAccepted b.limits b.past
    (Run c.args.id c.args.words c.args.now)) (sym c.self.view_is) c.requires.accepted in
    opened i.limits i.log.past i.stores.space i.stores.table i.stores.prefixes
    i.stores.connections.items c.self.invariant.agrees c.args.id acc

pub returns-in-Ok-run_read-clause-ok : goal.returns-in-Ok-run_read-clause-ok
returns-in-Ok-run_read-clause-ok c =
    let done = c.in-Ok-run_read.field-0 in
    let command = c.command_of.result in
    let id = c.args.id in
    let i = c.self.inside in
    let acc = subst (λ (b : BookState). IsAccepted b.limits b.past
    (Run id c.args.words c.args.now)) (sym c.self.view_is) c.requires.accepted in
    let mode = c.mode.result.now in
    let who : mode ≡ (state c.args.self.now.limits c.args.self.now.past).modes id =
    c.mode.ensures.mode
    ∙ mode_of i.limits i.log.past i.stores.space i.stores.table i.stores.prefixes
    i.stores.connections.items c.self.invariant.agrees id acc
    ∙ ap (λ (b : BookState). (state b.limits b.past).modes id) c.self.view_is in
    let told = run_told c.args.self.now c.run_read.new.self id c.args.now c.args.words done command
    c.in-Ok-run_read.ensures.ok
    (c.command_of.ensures mode c.runs-runs.ensures
    ∙ ap (λ r. command_of mode (served r)) c.in-Ok.ensures
    ∙ ap (λ x. command_of x (served (reading c.args.words))) who) in
    let turned = subst (λ (b : BookState).
    IsTurn c.args.self.now (Run id c.args.words c.args.now) (Ran done.entry) (record b {
      effect = Some (record {
        entry = done.entry;
        id = id;
        command = command;
        expired = done.expired;
        reply = done.reply;
        signalled = done.signalled;
        kind = kind.Run;
      });
    })) (sym c.self-2.view_is) told in
    let i-2 = c.self-2.inside in
    subst (λ (e : Option Effect). IsTurn c.args.self.now (Run id c.args.words c.args.now)
    (Ran done.entry) (record {
      limits = i-2.limits;
      past = i-2.log.past;
      posts = i-2.stores.connections.posts;
      drops = i-2.stores.connections.drops;
      effect = e;
    })) (sym c.keep.ensures) turned
