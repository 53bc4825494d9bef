-- How the callers of a session leave its client, and what its pumps did.
use Rattle.std.specs.Prelude.{◌≡◌, ◌≤◌, ◌++◌, ⊤, ℕ, List, [], ◌∷◌, Bool, true, false}
use Rattle.std.specs.Prelude.{Option, Some, None, option_map}
use Rattle.turn_lock.specs.History.{IsPrefix}
use Rattle.turn_lock.specs.declared.rule.TheConstants.{LAST_TICKET}
use Rattle.turn_lock.specs.Own.{past_of, turns_of, IsWithin, Grows}
use Rattle.edge_links.specs.declared.counts.Counts.{Counts}
use Rattle.shared_cache.specs.declared.log.Wire.{Wire}
use Rattle.shared_cache.specs.declared.log.Wire.TheVariants.{Main, Side}
use Rattle.shared_cache.specs.declared.log.LogEntry.{LogEntry}
use Rattle.shared_cache.specs.declared.log.LogEntry.TheVariants as entry
use Rattle.shared_cache.specs.Log.{is_ended}
use Rattle.shared_cache.specs.Held.{Setup}
use Rattle.shared_client.specs.Turns.{Place, Turn, setup_at}
use Rattle.client_link.specs.declared.pump_end.PumpEnd.{PumpEnd}
use Rattle.client_link.specs.Pumps.{EndCounts}
use Rattle.script_text.specs.declared.script_line.ScriptLine.{ScriptLine}
use Rattle.script_text.specs.Scripts.{most_threads}
use Rattle.script_run.specs.declared.answer.Answer.{Answer}
use Rattle.script_run.specs.declared.session.PumpedLink.{PumpedLink}
use Rattle.script_run.specs.Lines.{PlaysThreads}
use Rattle.script_run.specs.Session.{LinkEnd, PumpedBy, SidePumped}

-- a link ends, or is found ended, or no ticket is left
pub data Leaves (w : Wire) (old new : Place) : Type 0 where
  Ending : (past : List LogEntry) → Grows old new ((entry.End w, past) ∷ [])
      → IsPrefix (past_of old) past → Leaves w old new
  Found : Grows old new [] → is_ended (setup_at old).mode w (past_of new) ≡ true
      → Leaves w old new
  Worn : Grows old new [] → LAST_TICKET ≤ new.tickets → Leaves w old new

-- the same of Side, where there is one
abbrev pub LeavesSide : Bool → Place → Place → Type 0
LeavesSide true old new = Leaves Side old new
LeavesSide false old new = new ≡ old

-- all lines are played, and then Main ends, and Side where there is one
pub record Calls (lines : List ScriptLine) (answers : List (List Answer)) (has_side : Bool)
    (old new : Place) : Type 0 where
  pub played : Place
  pub plays : PlaysThreads lines most_threads answers old played
  pub left : Place
  pub leaves : Leaves Main played left
  pub side_leaves : LeavesSide has_side left new

-- ---- the links

-- what came of a link by its pump
abbrev pub link_end : {L : Type 0} → (L → Option (List ℕ)) → (L → Option (List ℕ)) → (L → Counts)
    → L → PumpedLink L → LinkEnd
link_end left contents counts link p = record {
  end = p.end;
  left0 = left link;
  left1 = left p.link;
  link0 = contents link;
  link1 = contents p.link;
  counts0 = counts link;
  counts1 = counts p.link;
}

-- the same of Side, where there is one
abbrev pub side_end : {L : Type 0} → (L → Option (List ℕ)) → (L → Option (List ℕ)) → (L → Counts)
    → Option L → Option (PumpedLink L) → Option LinkEnd
side_end left contents counts (Some link) (Some p) = Some (link_end left contents counts link p)
side_end left contents counts o None = None
side_end left contents counts None (Some p) = None

-- why the pump of Side ended, where there is one
abbrev pub side_pump : {L : Type 0} → Option (PumpedLink L) → Option PumpEnd
side_pump side = option_map (λ p. p.end) side

-- Side is there in the end where it was, with its counts
abbrev pub SideCounts : {L : Type 0} → (L → Counts) → Option L → Option (PumpedLink L) → Type 0
SideCounts counts None None = ⊤
SideCounts counts (Some link) (Some p) = EndCounts p.end (counts link) (counts p.link)
SideCounts counts None (Some p) = ⊥
SideCounts counts (Some link) None = ⊥

-- what the pumps of all links did, whose seats were joined in the end
pub record BothPump (s : Setup) (main : LinkEnd) (side : Option LinkEnd) (k : Place) : Type 0 where
  pub pumped : List Turn
  pub side_pumped : List Turn
  pub own : turns_of k ≡ pumped ++ side_pumped
  pub within : IsWithin k
  pub main_pumps : PumpedBy s Main main pumped (past_of k) k.tickets
  pub side_pumps : SidePumped s side side_pumped (past_of k) k.tickets
