use Rattle.std.proofs.Common.{◌≡◌, ◌+◌, length, arith, ap, sym, ◌∙◌}
use Rattle.shared_cache.specs.declared.log.Wire.TheVariants.{Main, Side}
use Rattle.shared_cache.specs.Log.{handshake}
use Rattle.shared_cache.specs.Held.{commands}
use Rattle.shared_cache.specs.Held.{Setup}
use Rattle.shared_cache.specs.ClientFields.{Client}
use Rattle.shared_cache.proofs.Handshakes.{put_count, side_put_count}
use Rattle.shared_cache.proofs.client.ClientState.has_put.Goals as goal

pub returns-in-Main : goal.returns-in-Main
returns-in-Main c =
    let i = c.self.inside in
    let s : Setup = record { mode = i.mode; capacity = i.capacity; log_max = i.log_max } in
    let log = i.log in
    let begun = c.greeted.ensures.length
    ∙ sym (ap (λ (st : Client). length (handshake st.setup.mode Main st.past)) c.self.view_is) in
    let e : c.greeted.result + c.len.result ≡ length (commands s Main log)
    = omega (
      arith,
      begun,
      put_count s log,
      c.self.invariant.reflects.pending_count,
      c.len.ensures.count,
    ) in
    e
    ∙ ap (λ (st : Client). length (commands st.setup Main st.past)) c.self.view_is
    ∙ ap (λ w. length (commands c.args.self.now.setup w c.args.self.now.past)) (sym c.in-Main.is)

pub returns-in-Side : goal.returns-in-Side
returns-in-Side c =
    let i = c.self.inside in
    let s : Setup = record { mode = i.mode; capacity = i.capacity; log_max = i.log_max } in
    c.side_length.ensures
    ∙ sym (side_put_count s (i.log))
    ∙ ap (λ (st : Client). length (commands st.setup Side st.past)) c.self.view_is
    ∙ ap (λ w. length (commands c.args.self.now.setup w c.args.self.now.past)) (sym c.in-Side.is)
