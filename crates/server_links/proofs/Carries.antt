-- What every move over one link leaves of the rest: the names, the other connections, and a history
-- whose new entries have their lines.
use Rattle.std.proofs.Common.{◌≡◌, ◌+◌, ℕ, List, [], ◌∷◌, ◌++◌, false, length, max}
use Rattle.std.proofs.Common.{filter, refl, sym, ap, subst, ◌∙◌, arith, append_assoc, append-nil}
use Rattle.std.specs.Prelude.{◌==◌}
use Rattle.std.specs.Str.{bytes_eq}
use Rattle.std.proofs.lemmas.Grind.{flat_map-append}
use Rattle.serial_model.specs.declared.history.Limits.{Limits}
use Rattle.serial_model.specs.declared.history.Entry.{Entry}
use Rattle.serial_model.specs.declared.history.Entry.TheVariants as entry
use Rattle.serial_model.specs.declared.history.BookCall.{BookCall}
use Rattle.serial_model.specs.declared.history.BookCall.TheVariants as call
use Rattle.serial_model.specs.declared.history.BookReply.{BookReply}
use Rattle.serial_model.specs.EntryEffects.{drops_at, dropped_by}
use Rattle.serial_model.specs.History.{admitted, latest, state, IsLegal}
use Rattle.serial_model.specs.Steps.{Turn, book_step}
use Rattle.serial_model.specs.Laws.{Extends}
use Rattle.serial_model.proofs.Others.{extends_none, extends_more, others_extend}
use Rattle.serial_model.proofs.StepCases.{by_close, by_run, by_take}
use Rattle.serial_model.proofs.Turning.{step_legal}
use Rattle.script_text.specs.declared.line.Line.{Line}
use Rattle.script_text.specs.declared.line.Line.TheVariants as line
use Rattle.server_links.specs.declared.link.Link.{Link}
use Rattle.server_links.specs.Clock.{AreTimedBy, moments}
use Rattle.server_links.specs.Directions.{spent}
use Rattle.server_links.specs.EntryLines.{dropped_lines, entry_lines, is_entry_line, name_of}
use Rattle.server_links.specs.EntryLines.{reply_lines}
use Rattle.server_links.specs.OneHistory.{read_by, read_on}
use Rattle.server_links.specs.Session.{Session, with_past, with_link}
use Rattle.server_links.proofs.Clock.{by_both, latest_is}
use Rattle.server_links.proofs.Drops.{dropped_unread, drops_are_entries}
use Rattle.server_links.proofs.Endings.{took_length}

pub read_more : (name : List ℕ) (xs ys : List Line)
    → read_on name (xs ++ ys) ≡ read_on name xs ++ read_on name ys
read_more name xs ys = flat_map-append (read_by name) xs ys

pub entries_more : (xs ys : List Line) → filter is_entry_line (xs ++ ys)
    ≡ filter is_entry_line xs ++ filter is_entry_line ys
entries_more [] ys = refl
entries_more (x ∷ xs) ys = grind (arith, filter, entries_more xs ys)

pub record Carries (s t : Session) (lines : List Line) : Type 0 where
  pub limits : t.limits ≡ s.limits
  pub now : t.now ≡ s.now
  pub names : t.names ≡ s.names
  pub id : t.link.id ≡ s.link.id
  pub named : t.link.name ≡ s.link.name
  pub legal : IsLegal s.limits s.past → IsLegal s.limits t.past
  pub count : admitted t.past ≡ admitted s.past
  pub entries : List Entry
  pub grows : t.past ≡ entries ++ s.past
  pub timed : IsLegal s.limits s.past → AreTimedBy s.now (moments entries) (moments s.past)
  pub others : (c : ℕ) → (s.link.id == c) ≡ false → Extends s.limits c s.past t.past
  pub mute : (name : List ℕ) → bytes_eq s.link.name name ≡ false → read_on name lines ≡ []
  pub stays_spent : s.link.down ≡ spent → t.link.down ≡ spent
  pub printed : name_of s.names s.link.id ≡ s.link.name
      → entry_lines s.limits s.names t.past ≡ entry_lines s.limits s.names s.past
      ++ filter is_entry_line lines

pub carries_more : (s t u : Session) (a b : List Line) → Carries s t a → Carries t u b
    → Carries s u (a ++ b)
carries_more s t u a b f g = record {
  limits = g.limits ∙ f.limits;
  now = g.now ∙ f.now;
  names = g.names ∙ f.names;
  id = g.id ∙ f.id;
  named = g.named ∙ f.named;
  legal = λ h. subst (λ l. IsLegal l u.past) f.limits
      (g.legal (subst (λ l. IsLegal l t.past) (sym f.limits) (f.legal h)));
  count = g.count ∙ f.count;
  entries = g.entries ++ f.entries;
  grows = g.grows ∙ ap (λ p. g.entries ++ p) f.grows
      ∙ sym (append_assoc g.entries f.entries s.past);
  timed = λ h. by_both s.now g.entries f.entries s.past
      (subst (λ p. AreTimedBy s.now (moments g.entries) (moments p)) f.grows
      (subst (λ n. AreTimedBy n (moments g.entries) (moments t.past)) f.now
      (g.timed (subst (λ l. IsLegal l t.past) (sym f.limits) (f.legal h)))))
      (f.timed h);
  others = λ c n.
      extends_more s.limits c s.past t.past u.past (f.others c n)
      (subst (λ l. Extends l c t.past u.past) f.limits (g.others c (ap (λ i. i == c) f.id ∙ n)));
  mute = λ name n. read_more name a b ∙ ap (λ r. r ++ read_on name b) (f.mute name n)
      ∙ g.mute name (ap (λ x. bytes_eq x name) f.named ∙ n);
  stays_spent = λ h. g.stays_spent (f.stays_spent h);
  printed = λ n.
      subst (λ ns. entry_lines s.limits ns u.past ≡ entry_lines s.limits ns t.past
      ++ filter is_entry_line b) f.names
      (subst (λ l. entry_lines l t.names u.past ≡ entry_lines l t.names t.past
      ++ filter is_entry_line b) f.limits
      (g.printed (ap (λ ns. name_of ns t.link.id) f.names ∙ ap (name_of s.names) f.id ∙ n
      ∙ sym f.named)))
      ∙ ap (λ l. l ++ filter is_entry_line b) (f.printed n)
      ∙ append_assoc (entry_lines s.limits s.names s.past) (filter is_entry_line a)
      (filter is_entry_line b)
      ∙ ap (λ l. entry_lines s.limits s.names s.past ++ l) (sym (entries_more a b));
}

same_entries : (entries ls : List Line) → filter is_entry_line ls ≡ []
    → entries ≡ entries ++ filter is_entry_line ls
same_entries entries ls none =
    sym (ap (λ x. entries ++ x) none ∙ append-nil entries)

-- a change of the link alone
pub carries_link : (s : Session) (new : Link) (lines : List Line) → new.id ≡ s.link.id
    → new.name ≡ s.link.name
    → ((name : List ℕ) → bytes_eq s.link.name name ≡ false → read_on name lines ≡ [])
    → filter is_entry_line lines ≡ [] → (s.link.down ≡ spent → new.down ≡ spent)
    → Carries s (with_link s new) lines
carries_link s new lines id named mute none still = record {
  limits = refl;
  now = refl;
  names = refl;
  id = id;
  named = named;
  legal = λ h. h;
  count = refl;
  entries = [];
  grows = refl;
  timed = λ h. tt;
  others = λ c n. extends_none s.limits c s.past;
  mute = mute;
  stays_spent = still;
  printed = λ n. same_entries (entry_lines s.limits s.names s.past) lines none;
}

pub carries_none : (s : Session) → Carries s s []
carries_none s = carries_link s s.link [] refl refl (λ name n. refl) refl (λ h. h)

-- ---- turns of the connection

-- what a turn of a connection's link prints, of this name, where these are the names of all links
abbrev pub turn_lines : Limits → List (List ℕ) → List ℕ → List (List ℕ) → Turn → List Line
turn_lines l names name words t =
    reply_lines name words t.reply ++ dropped_lines l names t.reply t.past

-- what a turn of the connection adds, and prints
record Adds (l : Limits) (id now : ℕ) (words : List (List ℕ)) (past : List Entry)
    (t : Turn) : Type 0 where
  count : admitted t.past ≡ admitted past
  entries : List Entry
  grows : t.past ≡ entries ++ past
  timed : IsLegal l past → AreTimedBy now (moments entries) (moments past)
  printed : (names : List (List ℕ)) → entry_lines l names t.past
      ≡ entry_lines l names past
      ++ filter is_entry_line (turn_lines l names (name_of names id) words t)

adds_nothing : (l : Limits) (id now : ℕ) (words : List (List ℕ)) (past : List Entry)
    (reply : BookReply)
    → ((names : List (List ℕ)) → turn_lines l names (name_of names id) words
    (record { reply = reply; past = past }) ≡ [])
    → Adds l id now words past (record { reply = reply; past = past })
adds_nothing l id now words past reply none = record {
  count = refl;
  entries = [];
  grows = refl;
  timed = λ legal. tt;
  printed = λ names. same_entries (entry_lines l names past)
      (turn_lines l names (name_of names id) words (record { reply = reply; past = past }))
      (ap (filter is_entry_line) (none names));
}

run_adds : (l : Limits) (past : List Entry) (id now : ℕ) (words : List (List ℕ))
    → Adds l id now words past (book_step l past (call.Run id words now))
unfolding dropped_by
run_adds l past id now words = by_run l past (Adds l id now words past) id words now
    (adds_nothing l id now words past _ (λ names. refl))
    (λ on. record {
      count = refl;
      entries = _ ∷ [];
      grows = refl;
      timed = λ legal. (ap (max now) (sym (latest_is l past legal)), tt);
      printed = λ names.
          let n = length past + 1 in
          ap (λ x. entry_lines l names past ++ line.Run n (name_of names id) words ∷ x)
          (sym (drops_are_entries n names
          (drops_at l (entry.Run id words (max now (latest past))) (state l past))));
    })

close_adds : (l : Limits) (past : List Entry) (id now : ℕ)
    → Adds l id now [] past (book_step l past (call.Close id))
close_adds l past id now =
    by_close l past (Adds l id now [] past) id
    (adds_nothing l id now [] past _ (λ names. refl))
    (λ on. record {
      count = refl;
      entries = _ ∷ [];
      grows = refl;
      timed = λ legal. tt;
      printed = λ names. refl;
    })

take_adds : (l : Limits) (past : List Entry) (id now most : ℕ)
    → Adds l id now [] past (book_step l past (call.Take id most))
take_adds l past id now most = by_take l past (Adds l id now [] past) id most
    (adds_nothing l id now [] past _ (λ names. refl))
    (adds_nothing l id now [] past _ (λ names. refl))
    (λ on some. record {
      count = refl;
      entries = _ ∷ [];
      grows = refl;
      timed = λ legal. tt;
      printed = λ names. ap (λ n. entry_lines l names past
          ++ line.Take (length past + 1) (name_of names id) n ∷ [])
          (took_length l past id most some);
    })

mute_reply : (name link : List ℕ) (words : List (List ℕ)) (reply : BookReply)
    → read_on name (reply_lines link words reply) ≡ []
mute_reply name link words reply = grind arith

-- none of it is read
pub mute_turn : (name : List ℕ) (l : Limits) (names : List (List ℕ)) (link : List ℕ)
    (words : List (List ℕ)) (t : Turn) → read_on name (turn_lines l names link words t) ≡ []
mute_turn name l names link words t =
    read_more name (reply_lines link words t.reply) (dropped_lines l names t.reply t.past)
    ∙ ap (λ x. x ++ read_on name (dropped_lines l names t.reply t.past))
    (mute_reply name link words t.reply)
    ∙ dropped_unread name l names t.reply t.past

-- of a session's link
abbrev pub told : Session → List (List ℕ) → Turn → List Line
told s words t = turn_lines s.limits s.names s.link.name words t

carries_turn : (s : Session) (c : BookCall) (words : List (List ℕ))
    → Adds s.limits s.link.id s.now words s.past (book_step s.limits s.past c)
    → ((d : ℕ) → (s.link.id == d) ≡ false
    → Extends s.limits d s.past (book_step s.limits s.past c).past)
    → let t : Turn = book_step s.limits s.past c in Carries s (with_past s t.past) (told s words t)
carries_turn s c words a others =
    let t = book_step s.limits s.past c in
    record {
      limits = refl;
      now = refl;
      names = refl;
      id = refl;
      named = refl;
      legal = step_legal s.limits s.past c;
      count = a.count;
      entries = a.entries;
      grows = a.grows;
      timed = a.timed;
      others = others;
      mute = λ name n. mute_turn name s.limits s.names s.link.name words t;
      stays_spent = λ h. h;
      printed = λ n.
          subst (λ x. entry_lines s.limits s.names t.past
          ≡ entry_lines s.limits s.names s.past
          ++ filter is_entry_line (turn_lines s.limits s.names x words t)) n (a.printed s.names);
    }

pub run_carries : (s : Session) (words : List (List ℕ)) →
    let t : Turn = book_step s.limits s.past (call.Run s.link.id words s.now) in
    Carries s (with_past s t.past) (told s words t)
run_carries s words =
    carries_turn s (call.Run s.link.id words s.now) words
    (run_adds s.limits s.past s.link.id s.now words)
    (λ d n. others_extend s.limits d s.past (call.Run s.link.id words s.now) n)

pub take_carries : (s : Session) (most : ℕ) →
    let t : Turn = book_step s.limits s.past (call.Take s.link.id most) in
    Carries s (with_past s t.past) (told s [] t)
take_carries s most =
    carries_turn s (call.Take s.link.id most) [] (take_adds s.limits s.past s.link.id s.now most)
    (λ d n. others_extend s.limits d s.past (call.Take s.link.id most) n)

pub close_carries : (s : Session) →
    let t : Turn = book_step s.limits s.past (call.Close s.link.id) in
    Carries s (with_past s t.past) (told s [] t)
close_carries s =
    carries_turn s (call.Close s.link.id) [] (close_adds s.limits s.past s.link.id s.now)
    (λ d n. others_extend s.limits d s.past (call.Close s.link.id) n)
