-- Values that a client's end has read, got one after another.
use Rattle.std.proofs.Common.{◌≡◌, ◌<◌, List, length, sym, subst, arith}
use Rattle.resp_value.specs.declared.value.Value.{Value}
use Rattle.resp_value.specs.Tree.{Tree}
use Rattle.resp_value.specs.ValueTree.{tree_of, value_of}
use Rattle.resp_value.proofs.OneToOne.{value_back}
use Rattle.resp_stream.specs.Parsed.{Whole}
use Rattle.resp_stream.specs.Parse.{parse_values}
use Rattle.resp_stream.specs.Stream.{Stream, moved_on}
use Rattle.resp_stream.specs.Value.{value_at}
use Rattle.resp_stream.proofs.Parse.{takes_values}
use Rattle.resp_stream.proofs.Values.{values_bad, values_more, values_whole}
use Rattle.script_text.specs.declared.line.Line.{Line}
use Rattle.server_links.specs.declared.fault.WorldFault.{WorldFault}
use Rattle.server_links.specs.Outcome.{Stops, and_then}
use Rattle.server_links.proofs.Items as items
use Rattle.server_links.proofs.Items.{Reads, Runner, Runs}
use Rattle.server_links.proofs.Outcomes.{Ends}
use Rattle.world_run.specs.WorldState.{LinkEnd}
use Rattle.world_run.specs.Members.{Seat, with_reader}
use Rattle.world_run.specs.ClientMoves.{got, got_all, got_one, next_read, turn}

pub reads_less : (now new : Stream) (t : Tree) → value_at now.rest ≡ Whole t new.rest
    → length new.rest < length now.rest
reads_less now new t is = takes_values.some now t new.rest is

-- a value that is got leaves the reader
pub got_reader : (v : Value) (e : LinkEnd) (s : Seat) → (got v e s).state.reader ≡ s.reader
unfolding turn and_then
got_reader v e s = grind arith

abbrev pub values : LinkEnd → Runner Seat Tree
values e = record {
  read = value_at;
  past = λ r. r;
  all = parse_values;
  reader = λ s. s.reader;
  with_reader = with_reader;
  next = next_read;
  brings = λ t. got (value_of t) e;
  one = λ t. got_one t e;
  run = λ ts. got_all ts e;
}

pub values_run : (e : LinkEnd) → Runs (values e)
unfolding got_one got_all
values_run e = grind (arith, values_whole, values_more, values_bad)

-- the value that begins what was read is got
module _ (e : LinkEnd) (s0 s : Seat) (lines0 lines : List Line)
    (h : Reads (values e) s0 s lines0 lines) (v : Value) (new : Stream)
    (is : value_at s.reader.rest ≡ Whole (tree_of v) new.rest)
    (moved : new ≡ moved_on s.reader new.rest) (t : Seat) (lines1 : List Line) where
  pub reads_more : t.reader ≡ new → Ends (got v e (with_reader s new)) lines t lines1
      → Reads (values e) s0 t lines0 lines1
  reads_more same g =
      items.reads_more (values e) (values_run e) s0 s lines0 lines h (tree_of v) new is moved t
      lines1 same
      (subst (λ x. Ends (got x e (with_reader s new)) lines t lines1) (sym (value_back v)) g)

  pub reads_stop : (fault : WorldFault) → Stops (got v e (with_reader s new)) lines fault t lines1
      → Stops (items.read_all (values e) s0) lines0 fault t lines1
  reads_stop fault g =
      items.reads_stop (values e) (values_run e) s0 s lines0 lines h (tree_of v) new is moved fault
      t lines1
      (subst (λ x. Stops (got x e (with_reader s new)) lines fault t lines1) (sym (value_back v)) g)
