-- What an event does to a world, and what it prints.
use Rattle.std.specs.Prelude.{ℕ, List, [], ◌∷◌, ◌++◌, max, position, Result}
use Rattle.std.specs.declared.option.Option.{Option}
use Rattle.std.specs.declared.option.Option.TheVariants.{None, Some}
use Rattle.std.specs.Str.{bytes_eq}
use Rattle.serial_model.specs.declared.history.Entry.{Entry}
use Rattle.serial_model.specs.declared.history.BookCall.TheVariants as call
use Rattle.serial_model.specs.declared.history.BookReply.{BookReply}
use Rattle.serial_model.specs.declared.history.BookReply.TheVariants.{Admitted, Refused, Ticked}
use Rattle.serial_model.specs.declared.history.BookRefusal.TheVariants as refusal
use Rattle.serial_model.specs.Steps.{Turn, book_step}
use Rattle.server_links.specs.LinkEvent.{LinkEvent, Raw, Put, Over, Now, Tick}
use Rattle.serial_model.specs.History.{latest}
use Rattle.script_text.specs.declared.line.Line.TheVariants as line
use Rattle.script_text.specs.declared.line.Line.{Line}
use Rattle.server_links.specs.declared.fault.WorldFault.{WorldFault}
use Rattle.server_links.specs.declared.fault.WorldFault.TheVariants.{NoName, NameTaken}
use Rattle.server_links.specs.declared.fault.WorldFault.TheVariants as fault
use Rattle.server_links.specs.declared.link.Link.{Link}
use Rattle.server_links.specs.LinksState.{LinksState, fresh_link, names}
use Rattle.server_links.specs.EntryLines.{dropped_lines, reply_lines}
use Rattle.server_links.specs.Moves.{move_of}
use Rattle.server_links.specs.Outcome.{Outcome, Gives, refuses, stays, within}
use Rattle.server_links.specs.Session.{Session, session_at, with_session}

abbrev pub Stepped : Type 0
Stepped = Outcome LinksState

-- the place of a link by its name
abbrev pub place_of : List ℕ → LinksState → Option ℕ
place_of name w = position (λ (l : Link). bytes_eq l.name name) w.links

-- a move over the link at this place
unfoldable pub over : ℕ → (Session → Outcome Session) → LinksState → Stepped
over at move w = within (with_session at w) (move (session_at at w))

abbrev pub over_named : Option ℕ → (Session → Outcome Session) → LinksState → Stepped
over_named None move w = refuses w NoName
over_named (Some at) move w = over at move w

-- a connection that was admitted has a link of its own, with nothing in flight
abbrev pub with_admitted : LinksState → List ℕ → BookReply → List Entry → LinksState
with_admitted w name (Admitted e id) past =
    record {
      limits = w.limits;
      now = w.now;
      past = past;
      links = w.links
          ++ fresh_link id name ∷ [];
    }
with_admitted w name reply past = w

-- the number of the refusal of a server that a SHUTDOWN stopped
abbrev pub stopped_number : ℕ
stopped_number = 4

abbrev pub stopped_fault : BookReply → Option WorldFault
stopped_fault (Refused refusal.Stopped) = Some (fault.Refused stopped_number)
stopped_fault reply = None

abbrev pub admitting : LinksState → List ℕ → Turn → Stepped
admitting w name t = record {
  state = with_admitted w name t.reply t.past;
  lines = reply_lines name [] t.reply;
  fault = stopped_fault t.reply;
  points = (w, []) ∷ [];
}

abbrev pub raw_step : LinksState → List ℕ → Option ℕ → Stepped
raw_step w name (Some at) = refuses w NameTaken
raw_step w name None = admitting w name (book_step w.limits w.past call.Admit)

abbrev pub tick_line : ℕ → BookReply → List Line
tick_line moment (Ticked e) = line.Tick e moment ∷ []
tick_line moment reply = []

-- the lines of a Tick at a moment; a quiet one prints none
abbrev pub tick_lines : LinksState → ℕ → Turn → List Line
tick_lines w moment t = tick_line moment t.reply
    ++ dropped_lines w.limits (names w.links) t.reply t.past

abbrev pub ticking : LinksState → Turn → Stepped
ticking w t = record {
  state = record { limits = w.limits; now = w.now; past = t.past; links = w.links };
  lines = tick_lines w (max w.now (latest w.past)) t;
  fault = stopped_fault t.reply;
  points = (w, []) ∷ [];
}

-- the keys that are due by the clock leave
unfoldable pub tick : LinksState → Stepped
tick w = ticking w (book_step w.limits w.past (call.Tick w.now))

-- the link that an event names, where it is an event of one link that there is
abbrev pub link_named : LinkEvent → Option (List ℕ)
link_named (Raw name) = None
link_named (Put name bytes) = Some name
link_named (Over name move) = Some name
link_named (Now moment) = None
link_named Tick = None

unfoldable pub step : LinksState → LinkEvent → Stepped
step w (Raw name) = raw_step w name (place_of name w)
step w (Put name bytes) = over_named (place_of name w) (move_of (Put name bytes)) w
step w (Over name move) = over_named (place_of name w) (move_of (Over name move)) w
step w (Now moment) =
    stays (record { limits = w.limits; now = moment; past = w.past; links = w.links })
step w Tick = tick w

-- What was done is the step, and its lines were appended. Where memory ran out, the world and the
-- lines are those of a point on the way: a move over a link leaves all other links as they were,
-- and of its own link what was done before stands, whole.
abbrev pub StepGives : LinksState → LinkEvent → List Line → Result (Unit {0}) WorldFault
    → LinksState → List Line → Type 0
StepGives w event lines result new lines' = Gives (step w event) lines result new lines'
