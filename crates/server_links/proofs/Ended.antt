-- Links that are over stay so whatever happens, and nothing flows over them.
use Rattle.std.proofs.Common.{◌≡◌, ◌+◌, ◌<◌, ℕ, List, [], ◌∷◌, ◌++◌, true, false, Some, None}
use Rattle.std.proofs.Common.{Option, Result, Ok, length, refl, sym, ap, subst, ◌∙◌, append-nil}
use Rattle.std.proofs.Common.{arith, eq-eqb}
use Rattle.std.proofs.lemmas.Bool.{both_ways, cases_lt, eqb-true}
use Rattle.std.proofs.lemmas.Bool.Decides.{nat_tests}
use Rattle.std.proofs.lemmas.List.{get_or-set_same, get_or-set_other, get_or_append_left}
use Rattle.std.proofs.lemmas.List.{get_or_past, set-get_or}
use Rattle.serial_model.specs.declared.history.Entry.{Entry}
use Rattle.serial_model.specs.declared.history.Entry.TheVariants as entry
use Rattle.serial_model.specs.History.{admitted, is_admitted, reads_on}
use Rattle.serial_model.proofs.StepCases.{by_admit}
use Rattle.script_text.specs.declared.line.Line.{Line}
use Rattle.server_links.specs.declared.direction.Direction.{Direction}
use Rattle.server_links.specs.declared.fault.WorldFault.{WorldFault}
use Rattle.server_links.specs.declared.fault.WorldFault.TheVariants.{NameTaken}
use Rattle.server_links.specs.declared.link.Link.{Link}
use Rattle.server_links.specs.declared.link.LinkMove.TheVariants as moves
use Rattle.server_links.specs.Directions.{is_queued, past_eof, spent, without_bytes}
use Rattle.server_links.specs.LinkEvent.{LinkEvent, Over, Raw}
use Rattle.server_links.specs.LinkSteps.{admitting, over, over_named, place_of, raw_step, step}
use Rattle.server_links.specs.LinksState.{Fits, IsOver, LinksState, at_place, fresh_link}
use Rattle.server_links.specs.Moves.{eof_lines, flow, move_of, read_eof, read_lines, receive_all}
use Rattle.server_links.specs.Moves.{send_all, serve_all}
use Rattle.server_links.specs.Session.{Session, session_at, with_down, with_link, with_session}
use Rattle.server_links.proofs.Carries.{Carries}
use Rattle.server_links.proofs.Endings.{there_on, unread_on}
use Rattle.server_links.proofs.Outcomes.{Ends, Meets, after_ends, gives_within, meets_once}
use Rattle.server_links.proofs.Outcomes.{meets_refuses}

-- a link whose connection is read on is not over
pub not_over : (w : LinksState) (at : ℕ)
    → reads_on w.limits w.past (at_place w.links at).id ≡ true → IsOver w at → ⊥
not_over w at on over = both_ways _ over.unread on

-- a link whose connection is read no more is, once the EOF on the way down was read
pub over_found : (w : LinksState) (at : ℕ) → Fits w.past w.links → at < length w.links
    → reads_on w.limits w.past (at_place w.links at).id ≡ false
    → (at_place w.links at).down ≡ spent → IsOver w at
over_found w at fits below off read =
    let there : is_admitted w.past (at + 1) ≡ true = grind (arith, nat_tests) in
    record {
      there = ap (is_admitted w.past) (fits.ids at below) ∙ there;
      unread = off;
      read = read;
    }

-- ---- nothing flows

module _ (s : Session) (unread : reads_on s.limits s.past s.link.id ≡ false)
    (read : s.link.down ≡ spent) (lines : List Line) where
  serve_idle : Ends (serve_all s) lines s lines
  unfolding serve_all
  serve_idle = grind (arith, append-nil)

  send_idle : Ends (send_all s) lines s lines
  send_idle = grind (arith, append-nil)

  receive_idle : Ends (receive_all s) lines s lines
  unfolding receive_all
  receive_idle =
      let name = s.link.name in
      let bytes : read_lines name s.link.down.bytes ≡ [] =
      ap (λ (d : Direction). read_lines name d.bytes) read in
      let eof : eof_lines name (is_queued s.link.down.eof) ≡ [] =
      ap (λ (d : Direction). eof_lines name (is_queued d.eof)) read in
      after_ends _ read_eof lines s lines s lines (
        refl,
        ap (λ d. with_link s (with_down s.link d)) (read ∙ sym (ap without_bytes read)),
        sym (append-nil lines) ∙ ap (λ l. lines ++ l) (sym bytes),
      ) (
        refl,
        ap (λ d. with_link s (with_down s.link d)) (read ∙ sym (ap past_eof read)),
        sym (append-nil lines) ∙ ap (λ l. lines ++ l) (sym eof),
      )

  flow_idle : Ends (flow s) lines s lines
  unfolding flow
  flow_idle =
      after_ends (serve_all s) _ lines s lines s lines serve_idle
      (after_ends (send_all s) receive_all lines s lines s lines send_idle receive_idle)

-- a flow of a link that is over does nothing
pub over_idle : (name : List ℕ) (w : LinksState) (at : ℕ) (lines : List Line)
    → place_of name w ≡ Some at → IsOver w at
    → Ends (step w (Over name moves.Flow)) lines w lines
unfolding step over
over_idle name w at lines found is =
    let e : LinkEvent = Over name moves.Flow in
    let r : Result (Unit {0}) WorldFault = Ok (tt {0}) in
    let same : with_session at w (session_at at w) ≡ w = grind (arith, set-get_or) in
    subst (λ p. Ends (over_named p (move_of e) w) lines w lines) (sym found)
    (subst (λ x. Ends (over at (move_of e) w) lines x lines) same
    (gives_within (with_session at w) (move_of e (session_at at w)) lines r (session_at at w) lines
    (flow_idle (session_at at w) is.unread is.read lines)))

-- ---- what is over stays so

-- only where there is a link
pub over_below : (w : LinksState) (at : ℕ) → IsOver w at → at < length w.links
over_below w at is = grind (arith, cases_lt, get_or_past)

-- links that are over, and the names of all
pub record StayOver (w v : LinksState) : Type 0 where
  pub over : (at : ℕ) → IsOver w at → IsOver v at
  pub named : (at : ℕ) → at < length w.links
      → (at_place v.links at).name ≡ (at_place w.links at).name

pub over_same : (w : LinksState) → StayOver w w
over_same w = record { over = λ at is. is; named = λ at lt. refl }

pub over_both : (w u v : LinksState) → length u.links ≡ length w.links → StayOver w u
    → StayOver u v → StayOver w v
over_both w u v size a b = grind arith

-- a link that stays the connection's, with its way down
pub over_by : (w : LinksState) (at : ℕ) (past : List Entry) (links : List Link)
    (entries : List Entry)
    → past ≡ entries ++ w.past → (at_place links at).id ≡ (at_place w.links at).id
    → (at_place links at).down ≡ spent → IsOver w at
    → IsOver (record { limits = w.limits; now = w.now; past = past; links = links }) at
over_by w at past links entries grows id down is =
    let c = (at_place w.links at).id in
    record {
      there = ap (is_admitted past) id ∙ ap (λ p. is_admitted p c) grows
          ∙ there_on w.limits c entries w.past is.there;
      unread = ap (reads_on w.limits past) id ∙ ap (λ p. reads_on w.limits p c) grows
          ∙ unread_on w.limits c entries w.past is.there is.unread;
      read = down;
    }

-- a move over the link at this place
pub over_moved : (w : LinksState) (at : ℕ) (t : Session) (ls : List Line)
    → Carries (session_at at w) t ls → StayOver w (with_session at w t)
over_moved w at t ls c =
    grind (arith, get_or-set_same, get_or-set_other, eqb-true, eq-eqb, over_below, over_by)

-- a link is made
made_over : (w : LinksState) (link : Link) (id : ℕ) → StayOver w (record {
  limits = w.limits;
  now = w.now;
  past = entry.Admit id ∷ w.past;
  links = w.links ++ link ∷ [];
})
made_over w link id =
    let links = w.links ++ link ∷ [] in
    let there : (at : ℕ) → at < length w.links → at_place links at ≡ at_place w.links at =
    λ at lt. grind (arith, get_or_append_left) in
    record {
      over = λ at is.
          let same = there at (over_below w at is) in
          over_by w at (entry.Admit id ∷ w.past) links (entry.Admit id ∷ []) refl
          (ap (λ (x : Link). x.id) same) (ap (λ (x : Link). x.down) same ∙ is.read) is;
      named = λ at lt. ap (λ (x : Link). x.name) (there at lt);
    }

abbrev MadeOver : Option ℕ → LinksState → LinksState → List Line → Type 0
MadeOver p w v ls = StayOver w v × (p ≡ None)

raw_over_by : (name : List ℕ) (p : Option ℕ) (w : LinksState)
    → Meets (MadeOver p w) (λ v ls. StayOver w v) (raw_step w name p)
raw_over_by name (Some at) w =
    meets_refuses (MadeOver (Some at) w) (λ v ls. StayOver w v) w NameTaken (over_same w)
raw_over_by name None w =
    let W : LinksState → List Line → Type 0 = λ v ls. StayOver w v in
    let id = admitted w.past + 1 in
    let made = made_over w (fresh_link id name) id in
    by_admit w.limits w.past (λ t. Meets (MadeOver None w) W (admitting w name t))
    (meets_once (MadeOver None w) W w w [] _ (λ e. (over_same w, refl)) (over_same w)
    (over_same w))
    (λ on. meets_once (MadeOver None w) W w _ _ None (λ e. (made, refl)) (over_same w) made)

-- and where it was made, its name was free
pub raw_over : (name : List ℕ) (w : LinksState)
    → Meets (λ v ls. StayOver w v × (place_of name w ≡ None)) (λ v ls. StayOver w v)
    (step w (Raw name))
unfolding step
raw_over name w = raw_over_by name (place_of name w) w
