-- What an event of the links leaves of them, wherever it comes to, and what it prints of reading.
use Rattle.std.proofs.Common.{◌≡◌, ◌+◌, ◌<◌, ℕ, List, [], ◌∷◌, ◌++◌, Bool, false, Some}
use Rattle.std.proofs.Common.{None, Option, length, drop, refl, ap, ◌∙◌, arith, append-nil}
use Rattle.std.proofs.Common.{length-append, length-set, eq-eqb}
use Rattle.std.specs.Str.{bytes_eq}
use Rattle.std.proofs.lemmas.Bool.{eqb-true, cases_lt}
use Rattle.std.proofs.lemmas.List.{get_or-set_same, get_or-set_other, get_or_push}
use Rattle.std.proofs.lemmas.List.{get_or_append_left}
use Rattle.resp_stream.specs.declared.fault.FaultPlace.{FaultPlace}
use Rattle.serial_model.specs.declared.history.Entry.{Entry}
use Rattle.serial_model.specs.declared.history.Entry.TheVariants as entry
use Rattle.serial_model.specs.declared.history.BookReply.{BookReply}
use Rattle.serial_model.specs.EntryEffects.{dropped_by}
use Rattle.serial_model.specs.History.{admitted}
use Rattle.serial_model.specs.Steps.{Turn, admitting as joining}
use Rattle.serial_model.proofs.StepCases.{by_admit}
use Rattle.script_text.specs.declared.line.Line.{Line}
use Rattle.script_text.specs.declared.line.Line.TheVariants as line
use Rattle.server_links.specs.declared.fault.WorldFault.{WorldFault}
use Rattle.server_links.specs.declared.fault.WorldFault.TheVariants.{NoName, NothingThere}
use Rattle.server_links.specs.declared.link.Link.{Link}
use Rattle.server_links.specs.declared.link.LinkMove.TheVariants as moves
use Rattle.server_links.specs.EntryLines.{reply_lines}
use Rattle.server_links.specs.LinkEvent.{LinkEvent, Raw, Put, Over, Now, Tick}
use Rattle.server_links.specs.LinksState.{LinksState, at_place, fresh_link, names}
use Rattle.server_links.specs.LinkSteps.{admitting, over, over_named, place_of, raw_step, step}
use Rattle.server_links.specs.Moves.{turned, turn, run_one, run_all, run_requests, run_fed, close}
use Rattle.server_links.specs.Moves.{stop, stop_open, serve_all, serve, take_down}
use Rattle.server_links.specs.Moves.{end_down, with_end, send}
use Rattle.server_links.specs.Moves.{read_lines, eof_lines}
use Rattle.server_links.specs.Moves.{receive_all, receive, move_of}
use Rattle.server_links.specs.OneHistory.{read_on}
use Rattle.server_links.specs.Outcome.{Outcome, and_then, does, refuses, stays, within}
use Rattle.server_links.specs.Session.{Session, session_at, with_session}
use Rattle.server_links.specs.Transcript.{up_to}
use Rattle.server_links.proofs.Carries.{mute_turn, read_more, told}
use Rattle.server_links.proofs.Drops.{drops_unread}
use Rattle.server_links.proofs.Names.{names_itself, placed, unplaced}
use Rattle.server_links.proofs.Outcomes.{Meets, meets_stays, meets_once, meets_refuses, meets_then}
use Rattle.server_links.proofs.Outcomes.{meets_weaker, meets_within}
use Rattle.server_links.proofs.Moments.{tick_goes_on}
use Rattle.server_links.proofs.Moving.{every_move}
use Rattle.world_run.proofs.Members.{LinkGrows}

-- ---- what grows

pub grows_none : (w : LinksState) → LinkGrows w w
grows_none w = grind arith

module _ (w : LinksState) (at : ℕ) (below : at < length w.links) (t : Session)
    (named : t.link.name ≡ (at_place w.links at).name) where
  over_names : (i : ℕ) → (at_place (with_session at w t).links i).name
      ≡ (at_place w.links i).name
  over_names i = grind (arith, eqb-true, get_or-set_same, get_or-set_other, eq-eqb)

  over_size : length (with_session at w t).links ≡ length w.links
  over_size = length-set w.links at t.link

  over_grows : (entries : List Entry) → t.past ≡ entries ++ w.past
      → LinkGrows w (with_session at w t)
  over_grows entries grows = grind (arith, over_size, over_names)

-- the links have grown, and nothing was read on another link
pub record LinkMoved (w : LinksState) (name : List ℕ) (v : LinksState) (ls : List Line) : Type 0
  where
    pub grows : LinkGrows w v
    pub mute : (n : List ℕ) → bytes_eq name n ≡ false → read_on n ls ≡ []

moved_none : (w : LinksState) (name : List ℕ) → LinkMoved w name w []
moved_none w name = record { grows = grows_none w; mute = λ n e. refl }

over_moved : (at : ℕ) (event : LinkEvent) (w : LinksState) (name : List ℕ)
    → at < length w.links → (at_place w.links at).name ≡ name
    → Meets (LinkMoved w name) (LinkMoved w name) (over at (move_of event) w)
unfolding over
over_moved at event w name below is =
    let c = (every_move event (session_at at w)).carries in
    meets_within (with_session at w) (LinkMoved w name) (LinkMoved w name)
    (move_of event (session_at at w)) (record {
      ends = λ e. (let d = c.ends e in record {
        grows = over_grows w at below (move_of event (session_at at w)).state d.named d.entries
            d.grows;
        mute = λ n q. d.mute n (ap (λ x. bytes_eq x n) is ∙ q);
      });
      all = λ t ls r. (let d = c.all t ls r in record {
        grows = over_grows w at below t d.named d.entries d.grows;
        mute = λ n q. d.mute n (ap (λ x. bytes_eq x n) is ∙ q);
      });
    })

named_moved : (name : List ℕ) (event : LinkEvent) (w : LinksState)
    → Meets (LinkMoved w name) (LinkMoved w name) (over_named (place_of name w) (move_of event) w)
named_moved name event w = grind (arith, meets_refuses, moved_none, placed, over_moved)

-- a link more
made_grows : (w : LinksState) (id : ℕ) (name : List ℕ) → place_of name w ≡ None
    → LinkGrows w (record {
      limits = w.limits;
      now = w.now;
      past = entry.Admit id ∷ w.past;
      links = w.links ++ fresh_link id name ∷ [];
    })
made_grows w id name free =
    let new = w.links ++ fresh_link id name ∷ [] in
    let size = length-append w.links (fresh_link id name ∷ []) in
    let old : (i : ℕ) → i < length w.links → at_place new i ≡ at_place w.links i =
    λ i lt. get_or_append_left w.links (fresh_link id name ∷ []) (fresh_link 0 []) i lt in
    let last : (i : ℕ) → i ≡ length w.links → (at_place new i).name ≡ name =
    grind (arith, get_or_push) in
    record {
      limits = refl;
      size = omega (arith, size);
      names = λ i lt. ap (λ (x : Link). x.name) (old i lt);
      entries = entry.Admit id ∷ [];
      grows = refl;
      unique = grind (arith, cases_lt, unplaced);
    }

raw_moved : (name : List ℕ) (w : LinksState)
    → Meets (LinkMoved w name) (LinkMoved w name) (raw_step w name (place_of name w))
raw_moved name w =
    let M : LinksState → List Line → Type 0 = LinkMoved w name in
    elim (place_of name w) as (λ p. place_of name w ≡ p → Meets M M (raw_step w name p)) [
      | Some at ↦ grind (arith, meets_refuses, moved_none)
      | None ↦ λ free. by_admit w.limits w.past (λ t. Meets M M (admitting w name t))
          (meets_once M M w w [] _ (λ none. moved_none w name) (moved_none w name)
          (moved_none w name))
          (λ on.
          let id = admitted w.past + 1 in
          let m : M (admitting w name (joining w.past)).state
          (line.Admit (length w.past + 1) name id ∷ []) =
          record { grows = made_grows w id name free; mute = λ n q. refl } in
          meets_once M M w _ _ None (λ none. m) (moved_none w name) m)
    ] refl

-- the links are the same ones
same_grows : (w : LinksState) (now : ℕ) (entries : List Entry) → LinkGrows w (record {
  limits = w.limits;
  now = now;
  past = entries ++ w.past;
  links = w.links;
})
same_grows w now entries = record {
  limits = refl;
  size = omega arith;
  names = λ i lt. refl;
  entries = entries;
  grows = refl;
  unique = λ u. u;
}

-- an event that is of no link has the empty name
unfoldable pub name_of_event : LinkEvent → List ℕ
name_of_event (Raw name) = name
name_of_event (Put name bytes) = name
name_of_event (Over name move) = name
name_of_event (Now moment) = []
name_of_event Tick = []

pub step_moved : (w : LinksState) (event : LinkEvent)
    → Meets (LinkMoved w (name_of_event event)) (LinkMoved w (name_of_event event)) (step w event)
unfolding step name_of_event
step_moved w (Raw name) = raw_moved name w
step_moved w (Put name bytes) = named_moved name (Put name bytes) w
step_moved w (Over name move) = named_moved name (Over name move) w
step_moved w (Now moment) = grind (arith, same_grows, meets_stays)
step_moved w Tick =
    tick_goes_on w (LinkMoved w []) (moved_none w [])
    (λ moment e. record {
      grows = same_grows w w.now (entry.Tick moment ∷ []);
      mute = λ n q. drops_unread n e (names w.links)
          (dropped_by w.limits (entry.Tick moment ∷ w.past));
    })

-- ---- nothing is read

unfoldable pub Mute : List Line → Type 0
Mute ls = (n : List ℕ) → read_on n ls ≡ []

unfoldable pub Mutes : {S : Type 0} → Outcome S → Type 0
Mutes m = Meets (λ s ls. Mute ls) (λ s ls. Mute ls) m

nothing_read : Mute []
unfolding Mute
nothing_read n = refl

pub mute_both : (a b : List Line) → Mute a → Mute b → Mute (a ++ b)
unfolding Mute
mute_both a b f g n = read_more n a b ∙ ap (λ x. x ++ read_on n b) (f n) ∙ g n

mutes_stays : {S : Type 0} → (s : S) → Mutes (stays s)
unfolding Mutes
mutes_stays s = meets_stays (λ t ls. Mute ls) (λ t ls. Mute ls) s nothing_read nothing_read

mutes_refuses : {S : Type 0} → (s : S) (f : WorldFault) → Mutes (refuses s f)
unfolding Mutes
mutes_refuses s f = meets_refuses (λ t ls. Mute ls) (λ t ls. Mute ls) s f nothing_read

mutes_once : {S : Type 0} → (old new : S) (lines : List Line) (fault : Option WorldFault)
    → Mute lines
    → Mutes (record { state = new; lines = lines; fault = fault; points = (old, []) ∷ [] })
unfolding Mutes
mutes_once old new lines fault m = grind (arith, meets_once, nothing_read)

mutes_then : {S : Type 0} → (m : Outcome S) (next : S → Outcome S) → Mutes m
    → ((t : S) → Mutes (next t)) → Mutes (and_then m next)
unfolding Mutes
mutes_then m next h g =
    meets_then (λ t ls. Mute ls) (λ t ls. Mute ls) (λ t ls. Mute ls) m next h
    (grind (arith, meets_weaker, mute_both))

mute_reply : (link : List ℕ) (words : List (List ℕ)) (reply : BookReply)
    → Mute (reply_lines link words reply)
unfolding Mute
mute_reply link words reply n = grind arith

mute_told : (s : Session) (words : List (List ℕ)) (t : Turn) → Mute (told s words t)
unfolding Mute
mute_told s words t n = mute_turn n s.limits s.names s.link.name words t

mutes_turned : (s : Session) (words : List (List ℕ)) (t : Turn) → Mutes (turned s words t)
mutes_turned s words t = mutes_once s _ _ _ (mute_told s words t)

mutes_does : (s new : Session) → Mutes (does s new [])
mutes_does s new = mutes_once s new [] None nothing_read

mutes_run_all : (requests : List (List (List ℕ))) (s : Session) → Mutes (run_all requests s)
unfolding run_all run_one turn
mutes_run_all [] s = mutes_stays s
mutes_run_all (words ∷ requests) s =
    mutes_then (run_one words s) (run_all requests)
    (mutes_then _ _ (mutes_does s _) (λ t. mutes_turned t words _)) (mutes_run_all requests)

mutes_close : (s : Session) → Mutes (close s)
unfolding close turn
mutes_close s = mutes_turned s [] _

mutes_stop_open : (place : Option FaultPlace) (eof : Bool) (s : Session)
    → Mutes (stop_open place eof s)
unfolding Mute
mutes_stop_open place eof s = grind (arith, mutes_then, mutes_once, mutes_close, mutes_stays)

mutes_stop : (place : Option FaultPlace) (eof : Bool) (s : Session) → Mutes (stop place eof s)
mutes_stop place eof s = grind (arith, mutes_stop_open, mutes_stays)

mutes_run_fed : (eof : Bool) (s : Session) → Mutes (run_fed eof s)
unfolding run_fed run_requests
mutes_run_fed eof s = grind (arith, mutes_then, mutes_run_all, mutes_does, mutes_stop)

mutes_serve : (count : Option ℕ) (s : Session) → Mutes (serve count s)
unfolding serve_all
mutes_serve count s =
    grind (arith, mutes_then, mutes_does, mutes_run_fed, mutes_stays, mutes_refuses)

mutes_take : (most : ℕ) (s : Session) → Mutes (take_down most s)
unfolding take_down
mutes_take most s = mutes_then _ _ (mutes_turned s [] _) (λ t. mutes_does t _)

-- and perhaps an EOF behind it
mutes_down : (most : ℕ) (s : Session) → Mutes (and_then (take_down most s) end_down)
mutes_down most s =
    mutes_then (take_down most s) end_down (mutes_take most s) (λ t. mutes_stays (with_end t))

mutes_send : (count : Option ℕ) (s : Session) → Mutes (send count s)
mutes_send count s = grind (arith, mutes_down, mutes_stays, mutes_refuses)

-- an event by which no client's end reads
unfoldable pub IsUnread : LinkEvent → Type 0
IsUnread (Raw name) = Unit {0}
IsUnread (Put name bytes) = Unit {0}
IsUnread (Over name (moves.Serve count)) = Unit {0}
IsUnread (Over name (moves.Send count)) = Unit {0}
IsUnread (Over name (moves.Recv count)) = ⊥
IsUnread (Over name moves.Flow) = ⊥
IsUnread (Over name moves.HangUp) = Unit {0}
IsUnread (Over name moves.Cut) = Unit {0}
IsUnread (Now moment) = Unit {0}
IsUnread Tick = Unit {0}

mutes_move : (event : LinkEvent) (s : Session) → IsUnread event → Mutes (move_of event s)
unfolding IsUnread
mutes_move event s h = grind (arith, mutes_does, mutes_serve, mutes_send, mutes_stays)

mutes_named : (p : Option ℕ) (event : LinkEvent) (w : LinksState) → IsUnread event
    → Mutes (over_named p (move_of event) w)
unfolding over Mutes
mutes_named None event w h = mutes_refuses w NoName
mutes_named (Some at) event w h =
    meets_within (with_session at w) (λ t ls. Mute ls) (λ t ls. Mute ls) _
    (mutes_move event (session_at at w) h)

mutes_raw : (name : List ℕ) (p : Option ℕ) (w : LinksState) → Mutes (raw_step w name p)
mutes_raw name p w = grind (arith, mutes_refuses, mutes_once, mute_reply)

pub step_mutes : (w : LinksState) (event : LinkEvent) → IsUnread event → Mutes (step w event)
unfolding step Mutes Mute
step_mutes w (Raw name) h = mutes_raw name (place_of name w) w
step_mutes w (Put name bytes) h = mutes_named (place_of name w) (Put name bytes) w h
step_mutes w (Over name move) h = mutes_named (place_of name w) (Over name move) w h
step_mutes w (Now moment) h = mutes_stays _
step_mutes w Tick h =
    tick_goes_on w (λ t ls. Mute ls) nothing_read
    (λ moment e n. drops_unread n e (names w.links)
    (dropped_by w.limits (entry.Tick moment ∷ w.past)))

-- ---- what is read

read_own : (name bytes : List ℕ) → read_on name (read_lines name bytes) ≡ bytes
read_own name bytes = grind (arith, names_itself, append-nil)

eof_own : (link name : List ℕ) (b : Bool) → read_on name (eof_lines link b) ≡ []
eof_own link name b = grind arith

-- what a client's end reads of its link
pub record HasRead (name bytes : List ℕ) (left : Option ℕ) (m : Outcome Session) : Type 0 where
  pub reads : m.fault ≡ None → read_on name m.lines ≡ up_to left bytes
  pub leaves : (n : ℕ) → left ≡ Some n → m.fault ≡ None → m.state.link.down.bytes ≡ drop n bytes

refused : Some NothingThere ≡ None → ⊥
refused e = cc

received : (count : Option ℕ) (s : Session)
    → HasRead s.link.name s.link.down.bytes count (receive count s)
unfolding receive_all and_then
received count s = grind (arith, read_more, eof_own, append-nil, read_own, refused)

pub record StepReads (w : LinksState) (name : List ℕ) (at : ℕ) (count : Option ℕ) : Type 0 where
  pub reads : (step w (Over name (moves.Recv count))).fault ≡ None
      → read_on name (step w (Over name (moves.Recv count))).lines
      ≡ up_to count (at_place w.links at).down.bytes
  pub leaves : (n : ℕ) → count ≡ Some n
      → (step w (Over name (moves.Recv count))).fault ≡ None
      → (at_place (step w (Over name (moves.Recv count))).state.links at).down.bytes
      ≡ drop n (at_place w.links at).down.bytes

pub step_reads : (w : LinksState) (name : List ℕ) (at : ℕ) (count : Option ℕ)
    → place_of name w ≡ Some at → StepReads w name at count
unfolding step over within
step_reads w name at count is =
    let p = placed name w at is in
    let r = received count (session_at at w) in
    grind (arith, get_or-set_same)
