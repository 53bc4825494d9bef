use Rattle.std.proofs.Common.{ap, sym, ◌∙◌, arith}
use Rattle.shared_cache.specs.Log.{handshake_length}
use Rattle.shared_cache.specs.ClientFields.{Client}
use Rattle.shared_cache.proofs.Handshakes.{whole, partial}
use Rattle.shared_cache.proofs.client.ClientState.greeted.Goals as goal

pub returns-then-is_told-clause-length : goal.returns-then-is_told-clause-length
returns-then-is_told-clause-length c =
    c.handshake_length-all.ensures.length
    ∙ ap (λ (st : Client). handshake_length st.setup.mode) c.self.view_is
    ∙ sym (whole c.args.self.now.setup.mode c.args.self.now.past
    (sym c.is_told.ensures ∙ c.if-is_told.true))

pub returns-else-is_told-clause-length : goal.returns-else-is_told-clause-length
returns-else-is_told-clause-length c =
    let all = c.handshake_length-all.ensures.length
    ∙ ap (λ (st : Client). handshake_length st.setup.mode) c.self.view_is in
    omega (
      arith,
      all,
      partial c.args.self.now.setup.mode c.args.self.now.past
          (sym c.is_told.ensures ∙ c.if-is_told.false),
    )
