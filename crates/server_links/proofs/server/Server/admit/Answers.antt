use Rattle.std.proofs.Common.{◌≡◌, ◌++◌, ◌∷◌, ◌∙◌, [], List, ap, arith, subst, sym, ℕ}
use Rattle.serial_model.specs.History.{is_stopped}
use Rattle.server_links.specs.DropNames.{AreKept}
use Rattle.server_links.specs.ServerState.{ServerState}
use Rattle.server_links.proofs.Drops.{admit_none, admit_past, kept_admit}
use Rattle.server_links.proofs.server.Server.admit.Goals as goal

pub invariant_of-self-in-Admitted : goal.invariant_of-self-in-Admitted
invariant_of-self-in-Admitted c =
    let i = c.self.inside in
    let new = c.play-reply.new.book in
    let name = c.args.name.now in
    let added = admit_past i.book.limits i.book.past new.past c.in-Admitted.entry c.in-Admitted.id
    c.in-Admitted.ensures.step in
    let names : c.add.new.self ≡ i.names ++ name ∷ [] = grind arith in
    let copies : c.push_reserved.new.self.items ≡ i.copies.items ++ name ∷ [] = grind arith in (
      c.play-reply.ensures.notes c.self.invariant.0,
      subst (λ l. AreKept l new.past c.add.new.self c.push_reserved.new.self.items)
          (sym c.play-reply.ensures.limits)
          (subst (λ ns. AreKept i.book.limits new.past ns c.push_reserved.new.self.items)
          (sym names)
          (subst (λ ns. AreKept i.book.limits new.past (i.names ++ name ∷ []) ns) (sym copies)
          (kept_admit i.book.limits i.book.past name i.names i.copies.items c.self.invariant.1
          new.past added))),
      c.self.invariant.2 ∙ sym c.play-reply.ensures.limits,
      c.self.invariant.3,
    )

pub returns-in-Admitted-clause-gives : goal.returns-in-Admitted-clause-gives
returns-in-Admitted-clause-gives c =
    let s = c.args.self.now in (
      admit_past s.book.limits s.book.past c.play-reply.new.book.past c.in-Admitted.entry
          c.in-Admitted.id (grind arith),
      grind arith,
      grind arith,
    )

pub invariant_of-self-2 : goal.invariant_of-self-2
invariant_of-self-2 c =
    let i = c.self.inside in
    let new = c.play-reply.new.book in
    let on : is_stopped i.book.limits i.book.past ≡ _ =
    ap (λ (s : ServerState). is_stopped s.book.limits s.book.past) c.self.view_is
    ∙ c.requires.goes_on in
    let same = admit_none i.book.limits i.book.past new.past c.play-reply.result
    c.play-reply.ensures.step on c.in_default.not-Admitted in
    let names = c.remove_last.ensures i.names c.args.name.now (grind arith) in (
      c.play-reply.ensures.notes c.self.invariant.0,
      subst (λ l. AreKept l new.past c.remove_last.new.self c.reserve.new.self.items)
          (sym c.play-reply.ensures.limits)
          (subst (λ p. AreKept i.book.limits p c.remove_last.new.self c.reserve.new.self.items)
          (sym same)
          (subst (λ ns. AreKept i.book.limits i.book.past ns c.reserve.new.self.items) (sym names)
          (subst (λ ns. AreKept i.book.limits i.book.past i.names ns)
          (sym c.reserve.ensures.items) c.self.invariant.1))),
      c.self.invariant.2 ∙ sym c.play-reply.ensures.limits,
      c.self.invariant.3,
    )

pub returns : goal.returns
returns c =
    let s = c.args.self.now in
    let i = c.self.inside in
    let same = admit_none s.book.limits s.book.past c.play-reply.new.book.past c.play-reply.result
    (grind arith) c.requires.goes_on c.in_default.not-Admitted in
    let names = c.remove_last.ensures i.names c.args.name.now (grind arith) in
    let lines = c.take_back-2.ensures c.args.lines.now c.args.line (grind arith) in
    record {
      limits = grind arith;
      clock = grind arith;
      gives = (same, names ∙ ap (λ (x : ServerState). x.names) c.self.view_is, lines);
    }
