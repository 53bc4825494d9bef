-- The values that a link gave are got, one after another.
use Rattle.std.proofs.Common.{◌≡◌, ◌<◌, ℕ, List, [], ◌∷◌, ◌++◌, length, true, Some, Ok, refl, sym}
use Rattle.std.proofs.Common.{ap, subst, ◌∙◌, append_assoc, append-nil, arith}
use Rattle.std.specs.Prelude.{Option}
use Rattle.std.specs.List.{All}
use Rattle.std.proofs.lemmas.List.Elements.{All-cons}
use Rattle.resp_value.specs.Tree.{Tree}
use Rattle.resp_value.specs.ValueTree.{tree_of}
use Rattle.resp_value.specs.declared.value.Value.{Value}
use Rattle.resp_stream.specs.declared.fault.StreamFault.{StreamFault}
use Rattle.resp_stream.specs.declared.fault.FaultPlace.{FaultPlace}
use Rattle.resp_stream.specs.Parsed.{Whole}
use Rattle.resp_stream.specs.Parse.{Batch, parse_values}
use Rattle.resp_stream.specs.Readers.{IsFaultOf, FaultGives, ValueGives}
use Rattle.resp_stream.specs.Stream.{Stream, moved_on, fault_place}
use Rattle.resp_stream.specs.Value.{value_at}
use Rattle.resp_stream.proofs.Parse.{takes_values}
use Rattle.turn_lock.specs.Own.{past_of, IsWithin, Grows}
use Rattle.turn_lock.proofs.Growing.{grows_none, grows_then}
use Rattle.shared_cache.specs.declared.log.Wire.{Wire}
use Rattle.shared_cache.specs.declared.log.LogEntry.TheVariants as entry
use Rattle.shared_cache.specs.declared.log.ClientCall.TheVariants as call
use Rattle.shared_cache.specs.declared.log.ClientRefusal.{ClientRefusal}
use Rattle.shared_cache.specs.declared.log.ClientRefusal.TheVariants as refusal
use Rattle.shared_cache.specs.Log.{is_ended}
use Rattle.shared_cache.specs.Steps.{is_log_full}
use Rattle.shared_client.specs.Turns.{Place, Turn, setup_in, setup_at, Gets, GetsNot, EndsBy}
use Rattle.shared_client.specs.Turns.{Refuses}
use Rattle.client_link.specs.declared.pump_end.PumpEnd.{PumpEnd}
use Rattle.client_link.specs.declared.pump_end.PumpEnd.TheVariants as ended
use Rattle.client_link.specs.Pumps.{IsWork, IsStop, end_by, gots_in, gave, GetsPart, GettingStops}
use Rattle.resp_stream.proofs.Values.{values_whole, values_bad}
use Rattle.client_link.proofs.Steps.{got_down, got_full}

-- what was got so far, and what is left of the stream
pub record Getting (w : Wire) (before now : Stream) (old new : Place) : Type 0 where
  pub turns : List Turn
  pub grows : Grows old new turns
  pub work : All (IsWork w) turns
  pub gave_none : gave (setup_at old) turns ≡ []
  pub items : (parse_values before).items ≡ gots_in turns ++ (parse_values now).items
  pub stream_is : (parse_values now).stream ≡ (parse_values before).stream
  pub fault_is : (parse_values now).fault ≡ (parse_values before).fault

pub getting_none : (w : Wire) (s : Stream) (k : Place) → IsWithin k → Getting w s s k k
getting_none w s k is = grind (arith, grows_none)

module _ (w : Wire) (before now : Stream) (old new : Place) (r : Getting w before now old new)
  where
    setup_same : setup_at new ≡ setup_at old
    setup_same = ap setup_in r.grows.setup

    module _ (value : Value) (s : Stream) (is : value_at now.rest ≡ Whole (tree_of value) s.rest)
        (moved : s ≡ moved_on now s.rest) where
      whole : parse_values now ≡ record {
        items = tree_of value ∷ (parse_values s).items;
        stream =
            (parse_values s).stream;
        fault = (parse_values s).fault;
      }
      whole = grind (arith, values_whole)

      items_then : (parse_values before).items
          ≡ (gots_in r.turns ++ tree_of value ∷ []) ++ (parse_values s).items
      items_then = grind (arith, whole, append_assoc)

      -- the value was got
      pub getting_more : (last : Place) → Gets w value new last → Getting w before s old last
      getting_more last g =
          let t : Turn = (entry.Got w value, g.past) in
          record {
            turns = t ∷ r.turns;
            grows = grows_then old new last r.turns (t ∷ []) r.grows g.grows;
            work = All-cons (IsWork w) t r.turns refl r.work;
            gave_none = append-nil (gave (setup_at old) r.turns) ∙ r.gave_none;
            items = items_then;
            stream_is = sym (ap (λ (p : Batch Tree). p.stream) whole) ∙ r.stream_is;
            fault_is = sym (ap (λ (p : Batch Tree). p.fault) whole) ∙ r.fault_is;
          }

      -- the value ended the link
      ends : (c : ClientRefusal) (last : Place) → EndsBy w value c new last
          → GetsPart w (ended.Refused c) before old last
      ends c last g =
          let t : Turn = (entry.Bad w value, g.past) in
          record {
            turns = r.turns;
            ending = t ∷ [];
            grows = grows_then old new last r.turns (t ∷ []) r.grows g.grows;
            work = r.work;
            gave_none = r.gave_none;
            gots = ((parse_values s).items, sym items_then);
            stops = grind (arith, setup_same);
          }

      -- the value was not taken
      left : (cause : PumpEnd) (last : Place) → Grows new last []
          → GettingStops w cause before [] r.turns (setup_at old) last
          → GetsPart w cause before old last
      left cause last g stop = record {
        turns = r.turns;
        ending = [];
        grows = grows_then old new last r.turns [] r.grows g;
        work = r.work;
        gave_none = r.gave_none;
        gots = ((parse_values now).items, sym r.items);
        stops = stop;
      }

      down : (u : Wire) (last : Place) → Refuses (call.Got w value) (refusal.Down u) new last
          → IsStop w ended.Done last
      down u last h =
          subst (λ s. is_ended s.mode w (past_of last) ≡ true)
          (sym (ap setup_in h.1.grows.setup))
          (got_down (setup_at new) (past_of last) w value u h.1.step)

      full : (n : ℕ) (last : Place) → Refuses (call.Got w value) (refusal.LogFull n) new last
          → IsStop w ended.LogFull last
      full n last h =
          subst (λ s. is_log_full s (past_of last) ≡ true)
          (sym (ap setup_in h.1.grows.setup))
          (got_full (setup_at new) (past_of last) w value n h.1.step)

      pub getting_stops : (c : ClientRefusal) (last : Place) → GetsNot w value c new last
          → GetsPart w (end_by c) before old last
      getting_stops (refusal.Down u) last h =
          left ended.Done last h.1.grows (refl, down u last h)
      getting_stops (refusal.LogFull n) last h =
          left ended.LogFull last h.1.grows (refl, full n last h)
      getting_stops refusal.NoMemory last h = left ended.NoMemory last h.1.grows (refl, tt)
      getting_stops refusal.Worn last h = left ended.Worn last h.1.grows (refl, h.1.tickets)
      getting_stops (refusal.Unexpected u) last h = ends (refusal.Unexpected u) last h
      getting_stops (refusal.BadPush u) last h = ends (refusal.BadPush u) last h
      getting_stops (refusal.SetupRefused u) last h = ends (refusal.SetupRefused u) last h
      getting_stops c last h = absurd h.0

    faulty : (f : StreamFault) → IsFaultOf value_at now f
        → GetsPart w (ended.BadStream f) before old new
    faulty f bad = grind (arith, values_bad, append-nil)

    -- the bytes are at fault
    pub gets_bad : (s : Stream) (f : StreamFault) (place : FaultPlace)
        → FaultGives value_at now now s f → Some place ≡ fault_place f
        → GetsPart w (ended.BadStream f) before old new
    gets_bad s f place g at = grind (arith, faulty)

pub getting_less : (now new : Stream) (value : Value)
    → value_at now.rest ≡ Whole (tree_of value) new.rest → length new.rest < length now.rest
getting_less now new value is = takes_values.some now (tree_of value) new.rest is

pub part_none : (w : Wire) (before : Stream) (k : Place) → IsWithin k
    → GetsPart w ended.NoMemory before k k
part_none w before k is = grind (arith, getting_none)

pub gives_at : (old new : Stream) (r s : Option Value) → ValueGives old new (Ok r) → r ≡ s
    → ValueGives old new (Ok s)
gives_at old new r s g e = subst (λ x. ValueGives old new (Ok x)) e g
