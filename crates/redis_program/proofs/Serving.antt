-- What the status of a server's run rests on, and that no other run has it.
use Rattle.std.proofs.Common.{arith, ◌≡◌, ℕ, List, [], None, Ok, Err, refl, sym, ◌∙◌, inl, inr}
use Rattle.std.specs.declared.option.Option.{Option}
use Rattle.edge_links.specs.declared.counts.Counts.{Counts}
use Rattle.command_line.specs.declared.settings.ServeSettings.{ServeSettings}
use Rattle.serve_run.specs.declared.run.ServeEnd.TheVariants as end
use Rattle.redis_program.specs.declared.status.Ending.{Ending}
use Rattle.redis_program.specs.declared.status.Ending.TheVariants as ending
use Rattle.redis_program.specs.declared.status.Status.{Status}
use Rattle.redis_program.specs.declared.status.Status.TheVariants as status
use Rattle.redis_program.specs.Headline.{Writes, status_of}
use Rattle.redis_program.specs.Playing.{LastGives}
use Rattle.redis_program.specs.Serving.{ServeGives}

-- ---- the net's fault is no other's status

ending_not_net : (e : Ending) → status_of e ≡ status.NetFault → ⊥
ending_not_net x e = grind arith

pub world_not_net : (Ends : Ending → List ℕ → Type 0) (answer : Status) (old new : Option (List ℕ))
    → Writes Ends answer old new → answer ≡ status.NetFault → ⊥
world_not_net Ends answer old new w e = grind (arith, ending_not_net)

-- ---- where memory for the words is wanting

module _ (answer : Status) (old new : Option (List ℕ)) (k0 k1 : Counts)
    (last : LastGives ending.NoMemory answer old new k0 k1) where
  pub last_not_net : answer ≡ status.NetFault → ⊥
  last_not_net f = elim last [
    | inl h ↦ ending_not_net ending.NoMemory (sym h.0 ∙ f)
    | inr (inl h) ↦ ending_not_net ending.NoMemory (sym h.0 ∙ f)
    | inr (inr (inl h)) ↦ ending_not_net ending.WriteFault (sym h.0 ∙ f)
    | inr (inr (inr h)) ↦ ending_not_net ending.WriteFault (sym h.0 ∙ f)
  ]

  -- what is answered then is what a server may come to as well
  pub wordless : {A L : Type 0} (settings : ServeSettings) (counts : A → Counts)
      (left : A → Option (List L)) (net : Counts)
      → ServeGives settings counts left None answer old new net net
  wordless settings counts left net = elim last [
    | inl h ↦ record {
      end = Ok end.NoMemory;
      status = h.0;
      writes = (end.NoMemory, [], refl, refl, (refl, h.1));
      serves = tt;
    }
    | inr (inl h) ↦ record {
      end = Ok end.NoMemory;
      status = h.0;
      writes = (end.NoMemory, [], refl, refl, (refl, h.1));
      serves = tt;
    }
    | inr (inr (inl h)) ↦ record {
      end = Err (record {});
      status = h.0;
      writes = (end.NoMemory, [], refl, refl, h.2);
      serves = tt;
    }
    | inr (inr (inr h)) ↦ record {
      end = Err (record {});
      status = h.0;
      writes = (end.NoMemory, [], refl, refl, h.2);
      serves = tt;
    }
  ]
