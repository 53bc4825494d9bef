-- What stands of a world once its clock is set, and after a Tick.
use Rattle.std.proofs.Common.{◌≡◌, ◌+◌, ◌<◌, ℕ, List, [], ◌∷◌, ◌++◌, None, Some, length, refl, sym}
use Rattle.std.proofs.Common.{ap, subst, ◌∙◌, append-nil, append_assoc, Ok, inl, Result, arith}
use Rattle.std.proofs.Common.{false, filter}
use Rattle.std.specs.Prelude.{max}
use Rattle.serial_model.specs.declared.history.Limits.{Limits}
use Rattle.serial_model.specs.declared.history.Entry.{Entry}
use Rattle.serial_model.specs.declared.history.Entry.TheVariants as entry
use Rattle.serial_model.specs.declared.history.BookCall.TheVariants as call
use Rattle.serial_model.specs.declared.history.BookReply.{BookReply}
use Rattle.serial_model.specs.declared.history.BookReply.TheVariants.{Ran, Ticked, Quiet, Refused}
use Rattle.serial_model.specs.declared.history.BookRefusal.TheVariants as refusal
use Rattle.serial_model.specs.EntryEffects.{dropped_by, drops_at}
use Rattle.serial_model.specs.History.{IsLegal, expired, is_stopped, latest, state}
use Rattle.serial_model.specs.Laws.{Extends}
use Rattle.serial_model.specs.Steps.{BookStep, Turn, book_step}
use Rattle.serial_model.proofs.Others.{others_extend}
use Rattle.serial_model.proofs.StepCases.{by_tick}
use Rattle.serial_model.proofs.Turning.{step_legal}
use Rattle.script_text.specs.declared.line.Line.{Line}
use Rattle.script_text.specs.declared.line.Line.TheVariants as line
use Rattle.server_links.specs.declared.fault.WorldFault.{WorldFault}
use Rattle.server_links.specs.declared.fault.WorldFault.TheVariants.{NoMemory}
use Rattle.server_links.specs.declared.fault.WorldFault.TheVariants as fault
use Rattle.server_links.specs.declared.link.Link.{Link}
use Rattle.server_links.specs.EntryLines.{drop_lines, dropped_lines, entry_lines, is_entry_line}
use Rattle.server_links.specs.LinkSteps.{stopped_number, tick, tick_lines, ticking}
use Rattle.server_links.specs.LinksState.{Fits, LinksState, at_place, names}
use Rattle.server_links.specs.OneHistory.{read_on}
use Rattle.server_links.specs.Outcome.{Gives, Stops}
use Rattle.server_links.specs.ServerState.{ServerState}
use Rattle.server_links.specs.Session.{Session, session_at, with_past, world}
use Rattle.server_links.specs.Turns.{EndsTick}
use Rattle.server_links.proofs.Accounts.{Account}
use Rattle.server_links.proofs.Carries.{read_more, entries_more}
use Rattle.server_links.proofs.Drops.{drops_are_entries, drops_unread}
use Rattle.server_links.proofs.LinksStand.{Stands, PartStands, stands_part, stands_same}
use Rattle.server_links.proofs.LinksStand.{other_account}
use Rattle.server_links.proofs.Outcomes.{Meets, gives_reached, meets_once}

-- a world after a Tick that took out a key
abbrev pub ticked_at : ℕ → LinksState → LinksState
ticked_at moment w = record w { past = entry.Tick moment ∷ w.past }

-- whom it dropped
abbrev pub tick_drops : ℕ → ℕ → LinksState → List Line
tick_drops e moment w =
    drop_lines e (names w.links) (dropped_by w.limits (entry.Tick moment ∷ w.past))

module _ (l : Limits) (heard : ℕ → List ℕ) (said : List ℕ
    → List ℕ) (lines : List Line) (w : LinksState) (s : Stands l heard said lines w) where
  pub still_stands : Stands l (λ i. heard i ++ []) (λ n. said n ++ []) (lines ++ []) w
  still_stands = grind (arith, append-nil, stands_same)

  pub still_part : PartStands l (λ n. said n ++ []) (lines ++ []) w
  still_part = stands_part l _ _ _ _ still_stands

  -- a Tick that takes out a key
  module _ (moment : ℕ) (legal : IsLegal w.limits (entry.Tick moment ∷ w.past))
      (extends : (c : ℕ) → Extends w.limits c w.past (entry.Tick moment ∷ w.past)) where
    abbrev e : ℕ
    e = length w.past + 1

    abbrev pub lines_then : List Line
    lines_then = line.Tick e moment ∷ tick_drops e moment w

    same_lines : (n : List ℕ) → read_on n (lines ++ lines_then) ≡ read_on n lines
    same_lines n =
        read_more n lines lines_then
        ∙ ap (λ x. read_on n lines ++ x)
        (drops_unread n e (names w.links) (dropped_by w.limits (entry.Tick moment ∷ w.past)))
        ∙ append-nil (read_on n lines)

    ticked_account : (i : ℕ) → i < length w.links
        → Account (heard i ++ []) (said (at_place w.links i).name ++ [])
        (read_on (at_place w.links i).name (lines ++ lines_then))
        (session_at i (ticked_at moment w))
    ticked_account i lt =
        let x = at_place w.links i in
        let t : Session = with_past (session_at i w) (entry.Tick moment ∷ w.past) in
        subst (λ h. Account h (said x.name ++ []) (read_on x.name (lines ++ lines_then)) t)
        (sym (append-nil (heard i)))
        (subst (λ d. Account (heard i) d (read_on x.name (lines ++ lines_then)) t)
        (sym (append-nil (said x.name)))
        (subst (λ r. Account (heard i) (said x.name) r t) (sym (same_lines x.name))
        (other_account (heard i) (said x.name) (read_on x.name lines) (session_at i w)
        (entry.Tick moment ∷ []) (entry.Tick moment ∷ w.past) refl (grind arith)
        (extends x.id) (s.accounts i lt))))

    ticked_printed : filter is_entry_line (lines ++ lines_then)
        ≡ entry_lines w.limits (names w.links) (entry.Tick moment ∷ w.past)
    unfolding dropped_by
    ticked_printed =
        entries_more lines lines_then
        ∙ ap (λ x. x ++ line.Tick e moment ∷ filter is_entry_line (tick_drops e moment w))
        s.history.printed
        ∙ ap (λ x. entry_lines w.limits (names w.links) w.past ++ line.Tick e moment ∷ x)
        (drops_are_entries e (names w.links)
        (drops_at w.limits (entry.Tick moment) (state w.limits w.past)))

    pub ticked_stands : Stands l (λ i. heard i ++ []) (λ n. said n ++ []) (lines ++ lines_then)
        (ticked_at moment w)
    ticked_stands = record {
      history = record {
        limits = s.history.limits;
        legal = legal;
        links = s.history.links;
        ids = s.history.ids;
        printed = ticked_printed;
      };
      unique = s.unique;
      accounts = ticked_account;
      unread = λ n none. same_lines n ∙ s.unread n none;
      unsaid = λ n none. append-nil (said n) ∙ s.unsaid n none;
      unheard = λ i le. append-nil (heard i) ∙ s.unheard i le;
    }

  ByTick : LinksState → List Line → Type 0
  ByTick v ls = Stands l (λ i. heard i ++ []) (λ n. said n ++ []) (lines ++ ls) v

  PartByTick : LinksState → List Line → Type 0
  PartByTick v ls = PartStands l (λ n. said n ++ []) (lines ++ ls) v

  pub tick_stands : Meets
      (λ v ls. Stands l (λ i. heard i ++ []) (λ n. said n ++ []) (lines ++ ls) v)
      (λ v ls. PartStands l (λ n. said n ++ []) (lines ++ ls) v) (tick w)
  unfolding tick ByTick PartByTick
  tick_stands =
      let legal = step_legal w.limits w.past (call.Tick w.now) s.history.legal in
      let extends = λ (c : ℕ). others_extend w.limits c w.past (call.Tick w.now) tt in
      by_tick w.limits w.past (λ t. IsLegal w.limits t.past
      → ((c : ℕ) → Extends w.limits c w.past t.past) → Meets ByTick PartByTick (ticking w t)) w.now
      (λ h x. meets_once ByTick PartByTick w _ _ _ (λ none. still_stands) still_part still_part)
      (λ h x. meets_once ByTick PartByTick w _ _ _ (λ none. still_stands) still_part still_part)
      (λ on some h x.
      let m = ticked_stands (max w.now (latest w.past)) h x in
      meets_once ByTick PartByTick w _ _ None (λ none. m) still_part (stands_part l _ _ _ _ m))
      legal extends

-- the entries of a history go in front
pub tick_goes_on : (w : LinksState) (P : LinksState → List Line → Type 0)
    → P w [] → ((moment e : ℕ) → P (ticked_at moment w)
    (line.Tick e moment ∷ tick_drops e moment w)) → Meets P P (tick w)
unfolding tick
tick_goes_on w P same more =
    by_tick w.limits w.past (λ t. Meets P P (ticking w t)) w.now
    (meets_once P P w _ _ _ (λ none. same) same same)
    (meets_once P P w _ _ _ (λ none. same) same same)
    (λ on some.
    let m = more (max w.now (latest w.past)) (length w.past + 1) in
    meets_once P P w _ _ None (λ none. m) same m)

-- ---- a Tick as it is played

-- its replies
abbrev IsTickReply : ℕ → BookReply → Type 0
IsTickReply e (Ticked n) = e ≡ n
IsTickReply e Quiet = Unit {0}
IsTickReply e (Refused refusal.Stopped) = Unit {0}
IsTickReply e reply = ⊥

module _ (w : LinksState) where
  abbrev pub after : List Entry → LinksState
  after past = record { limits = w.limits; now = w.now; past = past; links = w.links }

  abbrev pub played : BookReply → List Entry → Type 0
  played reply past =
      book_step w.limits w.past (call.Tick w.now) ≡ record { reply = reply; past = past }

  replied : (reply : BookReply) (past : List Entry) → played reply past
      → IsTickReply (length w.past + 1) reply
  replied reply past is =
      subst (λ (t : Turn). IsTickReply (length w.past + 1) t.reply) is
      (by_tick w.limits w.past (λ t. IsTickReply (length w.past + 1) t.reply) w.now tt tt
      (λ on some. refl))

  -- it is an entry
  pub tick_ticked : (e n m : ℕ) (past : List Entry) (lines : List Line) → played (Ticked e) past
      → n ≡ length w.past + 1 → m ≡ max w.now (latest w.past)
      → Gives {A = Unit {0}} (tick w) lines (Ok tt) (after past)
      ((lines ++ line.Tick n m ∷ []) ++ dropped_lines w.limits (names w.links) (Ticked e) past)
  unfolding tick
  tick_ticked e n m past lines is number moment =
      let drops = dropped_lines w.limits (names w.links) (Ticked e) past in
      let at = max w.now (latest w.past) in
      subst (λ (t : Turn). Gives {A = Unit {0}} (ticking w t) lines (Ok tt) (after past)
      ((lines ++ line.Tick n m ∷ []) ++ drops)) (sym is) (
        refl,
        refl,
        append_assoc lines (line.Tick n m ∷ []) drops
            ∙ ap (λ x. lines ++ line.Tick x m ∷ drops) (number ∙ replied (Ticked e) past is)
            ∙ ap (λ x. lines ++ line.Tick e x ∷ drops) moment,
      )

  -- memory ran out before it
  pub tick_before : (lines : List Line) → Stops (tick w) lines NoMemory w lines
  unfolding tick
  tick_before lines = ([], inl (refl, refl), sym (append-nil lines))

  -- it is no entry
  pub tick_other : (reply : BookReply) (past : List Entry) (lines : List Line)
      (r : Result (Unit {0}) WorldFault) → BookStep w.limits w.past (call.Tick w.now) reply past
      → ((e : ℕ) → reply ≡ Ticked e → ⊥) → EndsTick reply r
      → Gives (tick w) lines r (after past) lines
  unfolding tick
  tick_other (Ticked e) past lines r is a ends = absurd (a e refl)
  tick_other Quiet past lines r is a ends =
      subst (λ x. Gives (tick w) lines x (after past) lines) (sym ends)
      (subst (λ (t : Turn). Gives {A = Unit {0}} (ticking w t) lines (Ok tt) (after past) lines)
      (sym is) (refl, refl, sym (append-nil lines)))
  tick_other (Refused refusal.NoMemory) past lines r is a ends =
      subst (λ x. Gives (tick w) lines x (after past) lines) (sym ends)
      (subst (λ p. Stops (tick w) lines NoMemory (after p) lines) (sym is.0) (tick_before lines))
  tick_other (Refused refusal.Stopped) past lines r is a ends =
      subst (λ x. Gives (tick w) lines x (after past) lines) (sym ends)
      (subst (λ (t : Turn). Stops (ticking w t) lines (fault.Refused stopped_number) (after past)
      lines) (sym is) (refl, refl, sym (append-nil lines)))
  tick_other reply past lines r is a ends = absurd (replied reply past is)

  -- and drops nobody
  pub none_dropped : (reply : BookReply) (past : List Entry) (ns : List (List ℕ))
      → BookStep w.limits w.past (call.Tick w.now) reply past
      → ((e : ℕ) → reply ≡ Ticked e → ⊥) → dropped_lines w.limits ns reply past ≡ []
  none_dropped (Ticked e) past ns is a = absurd (a e refl)
  none_dropped (Ran e) past ns is a = absurd (replied (Ran e) past is)
  none_dropped reply past ns is a = refl

-- ---- beside links

-- a turn of the server changes the history alone
pub world_after : (server new : ServerState) (links : List Link)
    → new.book.limits ≡ server.book.limits → new.clock ≡ server.clock
    → world new links ≡ after (world server links) new.book.past
world_after server new links limits clock =
    ap (λ l. record { limits = l; now = new.clock; past = new.book.past; links = links }) limits
    ∙ ap (λ n. record {
      limits = server.book.limits;
      now = n;
      past = new.book.past;
      links = links;
    }) clock

pub tick_fits : {A : Type 0} → (server new : ServerState) (links : List Link)
    (lines lines' : List Line) (r : Result A WorldFault)
    → Gives (tick (world server links)) lines r (world new links) lines'
    → Fits server.book.past links → Fits new.book.past links
tick_fits server new links lines lines' r gives f =
    let w = world server links in
    let g = gives_reached (tick w) lines r (world new links) lines' gives in
    (tick_goes_on w (λ v ls. Fits v.past links) f
    (λ moment e. record { count = f.count; ids = f.ids })).all (world new links) g.0 g.1
