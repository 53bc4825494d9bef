-- What runs of a further piece, and what is read behind it.
use Rattle.std.proofs.Common.{◌≡◌, ◌∙◌, sym, ap, subst, ℕ, List, ◌++◌, None, append_assoc}
use Rattle.std.specs.Prelude.{Option}
use Rattle.resp_value.specs.Lists.{IsPrefix}
use Rattle.resp_stream.specs.Parse.{parse, requests_of}
use Rattle.resp_stream.specs.Stream.{Stream, fed}
use Rattle.resp_stream.proofs.Onward.{GoesOn, goes_further, requests_join}
use Rattle.conn_worker.specs.declared.connection.Connection.{Connection}
use Rattle.conn_worker.specs.declared.connection.Stop.{Stop}
use Rattle.conn_worker.specs.Quits.{fault_in, stop_behind, stop_in, up_to_quit}
use Rattle.conn_worker.specs.Visits.{fed_connection, stop_of_reader}
use Rattle.conn_worker.specs.Parts.{Requests}
use Rattle.conn_worker.proofs.Stopping.{none_stopped, stop_joined, until_joined}

-- what was read stops nothing, and is read on from the reader
module _ (heard piece : List ℕ) (reader : Stream) (on : GoesOn parse heard reader)
    (sound : stop_in heard ≡ None) where
  pub until_further : up_to_quit (requests_of (heard ++ piece))
      ≡ requests_of heard ++ up_to_quit (parse (fed reader piece)).items
  until_further =
      ap up_to_quit (on.further piece)
      ∙ until_joined (requests_of heard) (parse (fed reader piece)).items
      (none_stopped (requests_of heard) (fault_in heard) sound).0

  pub stop_further : stop_in (heard ++ piece)
      ≡ stop_behind (parse (fed reader piece)).items (parse (fed reader piece)).fault
  stop_further =
      ap (λ z. stop_behind z (fault_in (heard ++ piece))) (on.further piece)
      ∙ ap (stop_behind (requests_of heard ++ (parse (fed reader piece)).items)) (on.faults piece)
      ∙ stop_joined (requests_of heard) (parse (fed reader piece)).items
      (parse (fed reader piece)).fault
      (none_stopped (requests_of heard) (fault_in heard) sound).0

-- where nothing stops the reader, it reads on behind the piece
pub read_further : (heard piece : List ℕ) (c after : Connection) (stop : Option Stop)
    → GoesOn parse heard c.reader → stop ≡ stop_of_reader (fed_connection c piece)
    → (stop ≡ None → after.reader ≡ (parse (fed c.reader piece)).stream)
    → stop ≡ None → GoesOn parse (heard ++ piece) after.reader
read_further heard piece c after stop on is reader none =
    let p = parse (fed c.reader piece) in
    subst (GoesOn parse (heard ++ piece)) (sym (reader none))
    (goes_further parse heard piece c.reader requests_join on
    (none_stopped p.items p.fault (sym is ∙ none)).1)

-- behind what ran, some of what runs of the piece
pub prefix_behind : (front some until ran all : Requests) → ran ≡ front ++ some
    → all ≡ front ++ until → IsPrefix some until → IsPrefix ran all
prefix_behind front some until ran all is whole part = (
  part.0,
  ap (λ z. z ++ part.0) is ∙ append_assoc front some part.0 ∙ ap (λ z. front ++ z) part.1
      ∙ sym whole,
)
