-- What the code of a client keeps of its setup and log: its shape, how many values it got on each
-- link, and the name of Main.
use Rattle.std.proofs.Common.{◌≡◌, ◌+◌, ℕ, List, [], ◌∷◌, ◌++◌, Bool, cond, length, sym, ap, subst}
use Rattle.std.proofs.Common.{◌∙◌, arith, length-append}
use Rattle.std.specs.Prelude.{if◌then◌else◌}
use Rattle.resp_value.specs.declared.value.Value.{Value}
use Rattle.shared_cache.specs.declared.log.Shape.{Shape}
use Rattle.shared_cache.specs.declared.log.Wire.{Wire}
use Rattle.shared_cache.specs.declared.log.Wire.TheVariants.{Main, Side}
use Rattle.shared_cache.specs.declared.log.LogEntry.{LogEntry}
use Rattle.shared_cache.specs.declared.log.ClientCall.{ClientCall}
use Rattle.shared_cache.specs.declared.log.ClientReply.{ClientReply}
use Rattle.shared_cache.specs.declared.log.ClientReply.TheVariants.{Noted}
use Rattle.shared_cache.specs.ClientFields.{Client, IsClientMode}
use Rattle.shared_cache.specs.Held.{Setup}
use Rattle.shared_cache.specs.Laws.{gots}
use Rattle.shared_cache.specs.Log.{is_wire}
use Rattle.shared_cache.specs.Steps.{ClientTurn, client_step}
use Rattle.world_run.specs.WorldState.{link_on}
use Rattle.world_run.specs.MemberTurns.{IsNoValue}
use Rattle.world_run.proofs.Answering.{GotPast, gots_kept}

abbrev pub Counts : Shape → ℕ → ℕ → List ℕ → List ℕ → Client → Type 0
Counts shape main side link name c =
    IsClientMode c.setup.mode × (shape ≡ c.setup.mode.shape)
    × (main ≡ length (gots Main c.past)) × (side ≡ length (gots Side c.past))
    × (link ≡ link_on Main name)

module _ (shape : Shape) (main side : ℕ) (link name : List ℕ) (old new : Client)
    (setup : new.setup ≡ old.setup) where
  pub counts_by : (main' side' : ℕ) → main' ≡ length (gots Main new.past)
      → side' ≡ length (gots Side new.past) → Counts shape main side link name old
      → Counts shape main' side' link name new
  counts_by main' side' on_main on_side is = (
    subst (λ (s : Setup). IsClientMode s.mode) (sym setup) is.0,
    is.1 ∙ ap (λ (s : Setup). s.mode.shape) (sym setup),
    on_main,
    on_side,
    is.4,
  )

  -- no value is got
  pub counts_kept : ((u : Wire) → gots u new.past ≡ gots u old.past)
      → Counts shape main side link name old → Counts shape main side link name new
  counts_kept same is =
      counts_by main side (is.2 ∙ ap length (sym (same Main))) (is.3 ∙ ap length (sym (same Side)))
      is

pub turn_gots : (u : Wire) (s : Setup) (log past : List LogEntry) (c : ClientCall)
    (reply : ClientReply) → IsNoValue c
    → client_step s log c ≡ record { reply = reply; past = past } → gots u past ≡ gots u log
turn_gots u s log past c reply none is =
    sym (ap (λ (t : ClientTurn). gots u t.past) is) ∙ gots_kept u s log c none

by_one : (b : Bool) (vs : List Value) (v : Value)
    → length (cond b (vs ++ v ∷ []) vs) ≡ cond b (length vs + 1) (length vs)
by_one b vs v = grind (arith, length-append)

-- a value is got on a link
pub got_count : (w u : Wire) (log new : List LogEntry) (v : Value) → GotPast w log v Noted new
    → length (gots u new) ≡ (if is_wire w u then length (gots u log) + 1 else length (gots u log))
unfolding GotPast
got_count w u log new v is =
    ap (λ l. length (gots u l)) is ∙ by_one (is_wire w u) (gots u log) v
