-- Requests that are read and run one after another.
use Rattle.std.proofs.Common.{◌≡◌, ◌<◌, ℕ, List, length, arith}
use Rattle.resp_stream.specs.Parsed.{Whole}
use Rattle.resp_stream.specs.Parse.{parse}
use Rattle.resp_stream.specs.Readers.{skipped}
use Rattle.resp_stream.specs.Request.{request_at, skip_empty}
use Rattle.resp_stream.specs.Stream.{Stream}
use Rattle.resp_stream.proofs.Parse.{parse_whole, parse_more, parse_bad, shorter}
use Rattle.serial_model.specs.declared.history.BookCall.TheVariants as call
use Rattle.server_links.specs.Moves.{next_read, turn, run_one, run_all}
use Rattle.server_links.specs.Session.{Session, with_link, with_reader}
use Rattle.server_links.proofs.Items.{Runner, Runs}

abbrev pub requests : Runner Session (List (List ℕ))
requests = record {
  read = request_at;
  past = skipped;
  all = parse;
  reader = λ s. s.link.reader;
  with_reader = λ s r. with_link s (with_reader s.link r);
  next = next_read;
  brings = λ words s. turn (call.Run s.link.id words s.now) words s;
  one = run_one;
  run = run_all;
}

pub requests_run : Runs requests
unfolding run_one run_all
requests_run = grind (arith, parse_whole, parse_more, parse_bad)

pub reads_less : (now new : Stream) (words : List (List ℕ))
    → request_at (skip_empty now.rest) ≡ Whole words new.rest → length new.rest < length now.rest
reads_less now new words is = shorter now.rest new.rest words is
