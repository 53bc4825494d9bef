-- What a server's run and a script's come to where nothing at their edges failed.
use Rattle.std.proofs.Common.{◌≡◌, ℕ, List, [], Ok, Err, Result, inl, inr, refl, sym, subst}
use Rattle.std.specs.Prelude.{IfSome, OnErr}
use Rattle.std.specs.declared.option.Option.{Option}
use Rattle.std.specs.declared.option.Option.TheVariants.{None, Some}
use Rattle.edge_links.specs.declared.counts.Counts.{Counts}
use Rattle.edge_links.specs.Counts.{Counted, nought}
use Rattle.edge_lines.specs.declared.lines.SinkFailed.{SinkFailed}
use Rattle.command_line.specs.declared.settings.ScriptSettings.{ScriptSettings}
use Rattle.command_line.specs.declared.settings.ServeSettings.{ServeSettings}
use Rattle.conn_pool.proofs.Complete.{completes as pool_completes}
use Rattle.conn_pool.specs.Complete.{Completes as PoolCompletes}
use Rattle.conn_pool.specs.declared.serve.Served.{Served}
use Rattle.serve_run.specs.Runs.{NetGave, Runs, ServesAll}
use Rattle.serve_run.specs.Written.{RunWrites}
use Rattle.serve_run.specs.declared.run.ServeEnd.{ServeEnd}
use Rattle.serve_run.specs.declared.run.ServeEnd.TheVariants as end
use Rattle.script_program.proofs.Completing.{completes}
use Rattle.script_program.specs.declared.run.ScriptEnd.{ScriptEnd}
use Rattle.script_program.specs.declared.run.ScriptEnd.TheVariants as script_end
use Rattle.script_program.specs.declared.run.ScriptSession.{ScriptSession}
use Rattle.redis_program.specs.declared.status.Ending.TheVariants as ending
use Rattle.redis_program.specs.declared.status.Status.{Status}
use Rattle.redis_program.specs.declared.status.Status.TheVariants as status
use Rattle.redis_program.specs.Complete.{IsAccepting, ScriptCompletes, ServeCompletes}
use Rattle.redis_program.specs.Headline.{limits_of}
use Rattle.redis_program.specs.Playing.{LastGives}
use Rattle.redis_program.specs.Scripting.{ScriptGives, script_status}
use Rattle.redis_program.specs.Serving.{ServeGives, served_status}

-- ---- a server

module _ {A L : Type 0} (settings : ServeSettings) (counts : A → Counts)
    (left : A → Option (List L)) (net0 net1 : Counts)
    (net : Counted net0.faults net1.faults → ⊥) where
  pool : (s : Served A)
      → ServesAll (limits_of settings.limits) settings.connections counts left s
      → (Counted nought.faults (counts s.acceptor).faults → ⊥)
      → PoolCompletes (limits_of settings.limits) settings.connections nought (counts s.acceptor)
      s.reports.items s.book s.accept_failed
  pool s h accepting =
      subst (λ c. PoolCompletes (limits_of settings.limits) settings.connections c
      (counts s.acceptor) s.reports.items s.book s.accept_failed) h.fresh
      (pool_completes (limits_of settings.limits) settings.connections (counts h.acceptor)
      (counts s.acceptor) s.reports.items s.book s.accept_failed
      (λ rose. accepting (subst (λ (c : Counts). Counted c.faults (counts s.acceptor).faults)
      h.fresh rose))
      h.failed h.over h.history)

  -- the end of what was served, where no fault of the net was counted
  by_end : (served : Option (Served A)) (e : ServeEnd) (text : List ℕ)
      → Runs settings.connections served text e
      → NetGave served e net0 net1 → IsAccepting counts served
      → IfSome served
      (λ s. ServesAll (limits_of settings.limits) settings.connections counts left s)
      → ServeCompletes settings counts served (served_status (Ok e))
  by_end None end.Done text r g a h = absurd r
  by_end None end.NetFault text r g a h = absurd (net g.0)
  by_end None end.NoMemory text r g a h = inl refl
  by_end (Some s) end.Done text r g a h = inr (s, refl, refl, pool s h a)
  by_end (Some s) end.NetFault text r g a h = absurd (a (subst (λ (c : Counts).
      Counted c.faults (counts s.acceptor).faults) h.fresh (h.failed r.1)))
  by_end (Some s) end.NoMemory text r g a h = inl refl

  pub serve_completes : (served : Option (Served A)) (answer : Status)
      (out0 out1 : Option (List ℕ)) (k0 k1 : Counts)
      → ServeGives settings counts left served answer out0 out1 net0 net1
      → (answer ≡ status.WriteFault → Counted k0.faults k1.faults)
      → (Counted k0.faults k1.faults → ⊥) → IsAccepting counts served
      → ServeCompletes settings counts served answer
  serve_completes served answer out0 out1 k0 k1 gives told sink accepting =
      by_answer gives.end gives.status gives.writes.4
    where
      by_answer : (r : Result ServeEnd SinkFailed) → answer ≡ served_status r
          → RunWrites r gives.writes.0 gives.writes.1 out0 out1
          → ServeCompletes settings counts served answer
      by_answer (Ok e) is w =
          subst (ServeCompletes settings counts served) (sym is)
          (subst (λ z. ServeCompletes settings counts served (served_status (Ok z))) (sym w.0)
          (by_end served gives.writes.0 gives.writes.1 gives.writes.2 gives.writes.3 accepting
          gives.serves))
      by_answer (Err f) is w = absurd (sink (told is))

-- ---- a script

pub script_completes : {L : Type 0} (s : ScriptSettings) (left contents : L → Option (List ℕ))
    (counts : L → Counts) (input : Option (List ℕ)) (session : Option (ScriptSession L))
    (answer : Status) (in0 in1 net0 net1 : Counts) (out0 out1 : Option (List ℕ))
    (k0 k1 : Counts)
    → ScriptGives s left contents counts input session answer in0 in1 net0 net1 out0 out1
    → (answer ≡ status.WriteFault → Counted k0.faults k1.faults)
    → (Counted in0.faults in1.faults → ⊥) → (Counted net0.faults net1.faults → ⊥)
    → (Counted k0.faults k1.faults → ⊥)
    → ScriptCompletes s left contents counts input session answer
script_completes s left contents counts input session answer in0 in1 net0 net1 out0 out1 k0 k1
    gives told source net sink = (
      gives.end,
      gives.status,
      completes left contents counts _ input session in0 in1 net0 net1
          out0 out1 k0 k1 source net sink gives.end gives.writes
          (by_end gives.end gives.status),
    )
  where
    by_end : (r : Result ScriptEnd SinkFailed) → answer ≡ script_status r
        → OnErr r (Counted k0.faults k1.faults)
    by_end (Ok e) is = tt
    by_end (Err f) is = told is

-- ---- where memory for the words is wanting

last_memory : (answer : Status) (old new : Option (List ℕ)) (k0 k1 : Counts)
    → LastGives ending.NoMemory answer old new k0 k1 → (Counted k0.faults k1.faults → ⊥)
    → answer ≡ status.NoMemory
last_memory answer old new k0 k1 last sink = elim last [
  | inl h ↦ h.0
  | inr (inl h) ↦ h.0
  | inr (inr (inl h)) ↦ absurd (sink h.1.0)
  | inr (inr (inr h)) ↦ absurd (sink h.1.0)
]

pub wordless_served : {A : Type 0} (settings : ServeSettings) (counts : A → Counts)
    (answer : Status) (old new : Option (List ℕ)) (k0 k1 : Counts)
    → LastGives ending.NoMemory answer old new k0 k1 → (Counted k0.faults k1.faults → ⊥)
    → ServeCompletes settings counts None answer
wordless_served settings counts answer old new k0 k1 last sink =
    inl (last_memory answer old new k0 k1 last sink)

pub wordless_played : {L : Type 0} (s : ScriptSettings) (left contents : L → Option (List ℕ))
    (counts : L → Counts) (input : Option (List ℕ)) (answer : Status)
    (old new : Option (List ℕ)) (k0 k1 : Counts)
    → LastGives ending.NoMemory answer old new k0 k1 → (Counted k0.faults k1.faults → ⊥)
    → ScriptCompletes s left contents counts input None answer
wordless_played s left contents counts input answer old new k0 k1 last sink =
    (Ok script_end.NoMemory, last_memory answer old new k0 k1 last sink, (tt, [], refl))
