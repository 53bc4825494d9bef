use Rattle.std.proofs.Common.{◌≡◌, ◌∙◌, ◌++◌, sym, ap, subst, codes, OnOk}
use Rattle.script_text.specs.Grammar.{client_parts, line_of, parts_text}
use Rattle.script_text.specs.Printed.{words_text}
use Rattle.script_text.proofs.Joining.{put_in_parts, put_with_words}
use Rattle.script_text.proofs.event_line.put_unended.Goals as goal

pub returns-in-Say : goal.returns-in-Say
returns-in-Say c =
    subst (λ text. OnOk c.put_request.result (c.put_request.new.out.items ≡ text))
    (put_with_words c.args.out.now.items (codes "say") c.in-Say.link c.in-Say.words
    ∙ ap (λ event. c.args.out.now.items ++ line_of event) (sym c.in-Say.is))
    c.put_request.ensures

pub returns-in_ok-put_kind-in-Client : goal.returns-in_ok-put_kind-in-Client
returns-in_ok-put_kind-in-Client c =
    let parts = client_parts c.in-Client.mode c.in-Client.keys in
    subst (λ text. OnOk c.put_mode.result (c.put_mode.new.out.items ≡ text))
    (ap (λ front. front ++ parts_text parts) (c.in_ok-put_kind-in-Client.ensures)
    ∙ put_in_parts c.args.out.now.items (codes "client") c.in-Client.client parts
    ∙ ap (λ event. c.args.out.now.items ++ line_of event) (sym c.in-Client.is))
    c.put_mode.ensures

pub returns-in-Ask : goal.returns-in-Ask
returns-in-Ask c =
    subst (λ text. OnOk c.put_request-in-Ask.result (c.put_request-in-Ask.new.out.items ≡ text))
    (ap (λ words. c.args.out.now.items ++ codes "ask " ++ c.in-Ask.client ++ words_text words)
    c.words.ensures.words
    ∙ put_with_words c.args.out.now.items (codes "ask") c.in-Ask.client c.in-Ask.query
    ∙ ap (λ event. c.args.out.now.items ++ line_of event) (sym c.in-Ask.is))
    c.put_request-in-Ask.ensures

pub returns-in-Do : goal.returns-in-Do
returns-in-Do c =
    subst (λ text. OnOk c.put_request-in-Do.result (c.put_request-in-Do.new.out.items ≡ text))
    (put_with_words c.args.out.now.items (codes "do") c.in-Do.client c.in-Do.words
    ∙ ap (λ event. c.args.out.now.items ++ line_of event) (sym c.in-Do.is))
    c.put_request-in-Do.ensures
