use Rattle.std.proofs.Common.{◌∙◌, ◌++◌, ap, option_map, Option, List, ℕ, Bor}
use Rattle.std.proofs.lemmas.Result.{on_ok_weaker}
use Rattle.past_effects.proofs.Told.{by_message, by_none, by_notice, by_push}
use Rattle.past_effects.proofs.sendings.Sendings.tell_way.Goals as goal

abbrev told_keys : Option (Bor (List (List ℕ))) → Option (List (List ℕ))
told_keys keys = option_map (λ w. w.now) keys

pub returns-in_ok-message-in-Push : goal.returns-in_ok-message-in-Push
returns-in_ok-message-in-Push c =
    on_ok_weaker c.send.result
    (λ e. e ∙ ap (λ l. c.args.self.now ++ l)
    (by_push c.args.connections.now c.args.id (told_keys c.args.keys) c.in-Push.to
    c.in_ok-message-in-Push.message c.in_ok-message-in-Push.ensures c.in-Push.ensures))
    c.send.ensures

pub returns-in_ok-message-in-Message : goal.returns-in_ok-message-in-Message
returns-in_ok-message-in-Message c =
    on_ok_weaker c.send-in-Message.result
    (λ e. e ∙ ap (λ l. c.args.self.now ++ l)
    (by_message c.args.connections.now c.args.id (told_keys c.args.keys) c.in-Message.to
    c.in_ok-message-in-Message.message c.in_ok-message-in-Message.ensures c.in-Message.ensures))
    c.send-in-Message.ensures

pub returns-in_ok-message-in-Some : goal.returns-in_ok-message-in-Some
returns-in_ok-message-in-Some c =
    on_ok_weaker c.send-in-Some.result
    (λ e. e ∙ ap (λ l. c.args.self.now ++ l)
    (by_notice c.args.connections.now c.args.id (told_keys c.args.keys) c.in-BrokenNotice.to
    c.in-Some.target c.in_ok-message-in-Some.message c.in_ok-message-in-Some.ensures
    c.in-Some.ensures.target c.in-BrokenNotice.ensures))
    c.send-in-Some.ensures

pub returns-in-Nowhere : goal.returns-in-Nowhere
returns-in-Nowhere c =
    by_none c.args.connections.now c.args.id (told_keys c.args.keys) c.args.self.now
    c.in-Nowhere.ensures
