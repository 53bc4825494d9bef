-- What the status of a script's run rests on.
use Rattle.std.proofs.Common.{arith, ◌≡◌, ℕ, List, [], None, Ok, Err, Result, refl, sym, subst, inl}
use Rattle.std.proofs.Common.{inr, Bool, true, false}
use Rattle.std.specs.declared.option.Option.{Option}
use Rattle.edge_links.specs.declared.counts.Counts.{Counts}
use Rattle.edge_links.specs.Counts.{Counted}
use Rattle.edge_lines.specs.declared.lines.SinkFailed.{SinkFailed}
use Rattle.command_line.specs.declared.settings.ScriptSettings.{ScriptSettings}
use Rattle.resp_value.specs.declared.value.Proto.TheVariants.{Three}
use Rattle.shared_cache.specs.ClientFields.{IsClientMode}
use Rattle.shared_cache.specs.declared.log.Shape.TheVariants.{Single}
use Rattle.shared_cache.specs.Held.{Setup}
use Rattle.script_program.specs.declared.run.ScriptEnd.{ScriptEnd}
use Rattle.script_program.specs.declared.run.ScriptEnd.TheVariants as end
use Rattle.script_program.specs.declared.run.ScriptSession.{ScriptSession}
use Rattle.script_program.specs.Written.{EndRests, EndWrites, WritesScript}
use Rattle.redis_program.specs.declared.status.Ending.TheVariants as ending
use Rattle.redis_program.specs.declared.status.Status.{Status}
use Rattle.redis_program.specs.declared.status.Status.TheVariants as status
use Rattle.redis_program.specs.Playing.{LastGives}
use Rattle.redis_program.specs.Scripting.{ScriptGives, client_of, script_status, shape_by}

module _ {L : Type 0} (left contents : L → Option (List ℕ)) (counts : L → Counts) (client : Setup)
    (input : Option (List ℕ)) (session : Option (ScriptSession L)) (in0 in1 net0 net1 : Counts)
    (out0 out1 : Option (List ℕ)) where
  abbrev Written : Result ScriptEnd SinkFailed → Type 0
  Written r =
      WritesScript left contents counts client input session r in0 in1 net0 net1 out0 out1

  rests_of : (e : ScriptEnd) → Written (Ok e) → EndRests e in0 in1 net0 net1
  rests_of e w = subst (λ x. EndRests x in0 in1 net0 net1) (sym w.writes.0) w.rests

  -- all of the script was read
  pub script_done : (r : Result ScriptEnd SinkFailed) → script_status r ≡ status.Done → Written r
      → Counted in0.ends in1.ends
  script_done r h w = grind (arith, rests_of)

  pub script_read : (r : Result ScriptEnd SinkFailed) → script_status r ≡ status.ReadFault
      → Written r → Counted in0.faults in1.faults
  script_read r h w = grind (arith, rests_of)

  pub script_net : (r : Result ScriptEnd SinkFailed) → script_status r ≡ status.NetFault
      → Written r → Counted net0.faults net1.faults
  script_net r h w = grind (arith, rests_of)

-- one link is of the third protocol
pub client_mode : (s : ScriptSettings) → (s.redirect ≡ false → s.resp ≡ Three)
    → IsClientMode (client_of s).mode
client_mode s pushes = by_case s.redirect pushes
  where
    by_case : (b : Bool) → (b ≡ false → s.resp ≡ Three) → shape_by b ≡ Single → s.resp ≡ Three
    by_case true p is = absurd (let no : ⊥ = cc in no)
    by_case false p is = p refl

-- where memory for the words is wanting, what is answered is what a script may come to as well
pub wordless_script : {L : Type 0} (answer : Status) (old new : Option (List ℕ)) (k0 k1 : Counts)
    → LastGives ending.NoMemory answer old new k0 k1 → (s : ScriptSettings)
    (left contents : L → Option (List ℕ)) (counts : L → Counts) (input : Option (List ℕ))
    (source net : Counts)
    → ScriptGives s left contents counts input None answer source source net net old new
wordless_script answer old new k0 k1 last s left contents counts input source net =
    elim last [
      | inl h ↦ gives (Ok end.NoMemory) h.0 (refl, h.1)
      | inr (inl h) ↦ gives (Ok end.NoMemory) h.0 (refl, h.1)
      | inr (inr (inl h)) ↦ gives (Err (record {})) h.0 h.2
      | inr (inr (inr h)) ↦ gives (Err (record {})) h.0 h.2
    ]
  where
    gives : (r : Result ScriptEnd SinkFailed) → answer ≡ script_status r
        → EndWrites r end.NoMemory [] old new
        → ScriptGives s left contents counts input None answer source source net net old new
    gives r is wrote = record {
      end = r;
      status = is;
      writes = record {
        end = end.NoMemory;
        text = [];
        comes = refl;
        rests = (refl, refl);
        writes = wrote;
      };
    }
