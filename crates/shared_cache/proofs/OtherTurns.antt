-- After a turn that neither asks nor gets, the fields are what the log says.
use Rattle.std.proofs.Common.{◌≡◌, ◌==◌, ◌+◌, ◌-◌, ◌<◌, ◌≤◌, ◌++◌, ◌||◌, ℕ, List, []}
use Rattle.std.proofs.Common.{◌∷◌, length, set, get_or, Bool, true, false, not, cond, Option}
use Rattle.std.proofs.Common.{Some, None, sym, ap, ◌∙◌, refl, arith, length-append}
use Rattle.std.proofs.Common.{ne_eqb, eq-eqb, length-set, inl, inr, ◌&&◌}
use Rattle.std.specs.List.{filter, flat_map, slice_get}
use Rattle.std.proofs.lemmas.Bool.{lt-ltb, leb-true, cases_eq, or_from, or_left}
use Rattle.std.specs.Prelude.{nat_le, nat_lt, drop}
use Rattle.std.proofs.lemmas.List.{get_or-set_same, get_or-set_other, drop_all}
use Rattle.resp_value.specs.Spelling.{request_spelling}
use Rattle.resp_value.specs.declared.value.Value.{Value}
use Rattle.resp_value.specs.declared.value.Proto.{Proto}
use Rattle.resp_value.specs.declared.value.Proto.TheVariants.{Two, Three}
use Rattle.command_words.specs.Queries.{key_of, names, writes, written_by}
use Rattle.command_words.specs.declared.written.Written.{Written}
use Rattle.shared_cache.specs.declared.entry.CacheEntry.{CacheEntry}
use Rattle.fill_mark.specs.declared.marks.Mark.{Mark}
use Rattle.shared_cache.specs.declared.log.Wire.{Wire}
use Rattle.shared_cache.specs.declared.log.Wire.TheVariants.{Main, Side}
use Rattle.shared_cache.specs.declared.log.LogEntry.{LogEntry}
use Rattle.shared_cache.specs.declared.log.Shape.{Shape}
use Rattle.shared_cache.specs.declared.log.Shape.TheVariants.{Single, Pair}
use Rattle.shared_cache.specs.declared.log.ClientMode.{ClientMode}
use Rattle.shared_cache.specs.declared.side.SideLink.{SideLink}
use Rattle.shared_cache.specs.declared.log.LogEntry.TheVariants.{Send, Poll, TakeOut, End, Bad}
use Rattle.shared_cache.specs.declared.entry.PendingReply.{PendingReply}
use Rattle.shared_cache.specs.declared.entry.PendingReply.TheVariants.{Waiting, There, Gone}
use Rattle.shared_cache.specs.Log.{steps_of, handshake, handshake_length, first_number, replies}
use Rattle.shared_cache.specs.Log.{reply, reply_in, is_ready, is_told, ends_wire, is_ended}
use Rattle.shared_cache.specs.Log.{caching_on}
use Rattle.shared_cache.specs.declared.lead.CachingWord.{CachingWord}
use Rattle.shared_cache.specs.Held.{Setup, Words, SentCommand, caching_command, led_by, send_lead}
use Rattle.shared_cache.specs.Held.{is_read, sent, open_fetch, left, last_use, held, held_for}
use Rattle.shared_cache.specs.Held.{held_in_place, numbers}
use Rattle.shared_cache.specs.Out.{is_polled, is_caller, is_callers, was_given, is_wanted}
use Rattle.shared_cache.specs.Out.{untaken}
use Rattle.shared_cache.specs.HeldKeys.{KeysHeld, found_in, listed, with_pairs, forgotten}
use Rattle.shared_cache.specs.ClientFields.{Fields, Reflects, IsLast, there, pending_at}
use Rattle.shared_cache.specs.ClientFields.{waits_for, names_for}
use Rattle.shared_cache.proofs.Fetches.{beyond, unless_none}
use Rattle.shared_cache.proofs.HeldLists.{held_none}
use Rattle.shared_cache.proofs.EndsLeft.{on_wire}
use Rattle.shared_cache.proofs.Keeps.{keeps_none, keeps_forgotten, keeps_same}
use Rattle.shared_cache.proofs.KeyPairs.{pairs_found}
use Rattle.shared_cache.proofs.Places.{pairs_placed}
use Rattle.shared_cache.proofs.HeldSteps.{held_send}
use Rattle.shared_cache.proofs.MarkLists.{marks_none, marks_filter, mark_unless}
use Rattle.shared_cache.proofs.Bytes.{bytes_of, untaken_more, untaken_same, untaken_took}
use Rattle.shared_cache.proofs.Bytes.{side_untaken_same, untaken_none}
use Rattle.shared_cache.proofs.Handshakes.{handshake_within}
use Rattle.shared_cache.proofs.LegalLogs.{ready_told}
use Rattle.shared_cache.proofs.FetchLaws.{unless_some}
use Rattle.shared_cache.proofs.Named.{names_more, fetches_kept}
use Rattle.shared_cache.proofs.PendingLists.{no_reply, has_reply, owed_gone, gone_is, waiting_is}
use Rattle.shared_cache.proofs.PendingLists.{there_is}
use Rattle.shared_cache.proofs.Led.{own, get_left, at_length, count_waits, owed_led, says_led}
use Rattle.shared_cache.proofs.Led.{marks_led}
use Rattle.shared_cache.proofs.StepCases.{poll_unwanted, poll_wanted, high, handed}
use Rattle.shared_cache.specs.Steps.{client_step, polling, refusing}
use Rattle.shared_cache.specs.declared.log.ClientCall.TheVariants as call
use Rattle.shared_cache.specs.declared.log.ClientReply.TheVariants.{Answer}
use Rattle.shared_cache.specs.declared.log.ClientRefusal.TheVariants.{NoNumber}

-- ---- what waits, by the commands that are sent

place_is : (m : ClientMode) (i : ℕ) → (i + first_number m) - first_number m ≡ i
place_is m i = omega arith

-- a number that was sent before is wanted as before
wanted_before : (s : Setup) (log : List LogEntry) (e : LogEntry) (cs : List SentCommand) (i : ℕ)
    → sent s (e ∷ log) ≡ sent s log ++ cs
    → is_polled (e ∷ log) (i + first_number s.mode) ≡ is_polled log (i + first_number s.mode)
    → i < length (sent s log)
    → is_wanted s (e ∷ log) (i + first_number s.mode) ≡ is_wanted s log (i + first_number s.mode)
wanted_before s log e cs i more polled lt =
    let n = i + first_number s.mode in
    let same : slice_get (sent s (e ∷ log)) (n - first_number s.mode)
    ≡ slice_get (sent s log) (n - first_number s.mode) =
    ap (λ l. slice_get l (n - first_number s.mode)) more
    ∙ get_left (sent s log) cs (n - first_number s.mode) (omega (arith, place_is s.mode i)) in
    λ j. (nat_lt (handshake_length s.mode) n && is_callers (same j)) && not (polled j)

and_true : (b : Bool) → (b && true) ≡ b
and_true true = refl
and_true false = refl

wanted_new : (s : Setup) (new : List LogEntry) (c : SentCommand) (i : ℕ)
    → slice_get (sent s new) i ≡ Some c → is_polled new (i + first_number s.mode) ≡ false
    → is_wanted s new (i + first_number s.mode) ≡ is_caller c.origin
wanted_new s new c i at polled =
    let n = i + first_number s.mode in
    let here : slice_get (sent s new) (n - first_number s.mode) ≡ Some c
    = ap (slice_get (sent s new)) (place_is s.mode i) ∙ at in
    let low : nat_lt (handshake_length s.mode) n ≡ true
    = lt-ltb (handshake_length s.mode) n (omega arith) in
    (λ j. (low j && is_callers (here j)) && not (polled j)) ∙ and_true (is_caller c.origin)

-- what is pending is as before where nothing is sent, handed out or got
pub pending_same : (s : Setup) (log new : List LogEntry) → sent s new ≡ sent s log
    → ((n : ℕ) → is_polled new n ≡ is_polled log n)
    → replies s.mode Main new ≡ replies s.mode Main log
    → (n : ℕ) → pending_at s new n ≡ pending_at s log n
pending_same s log new more polled got n = λ i.
    cond ((nat_lt (handshake_length s.mode) n
    && is_callers (slice_get (more i) (n - first_number s.mode))) && not (polled n i))
    (there (reply_in n (got i))) Gone

waits_at : (b : Bool) (o : Option Value) → o ≡ None → cond b (there o) Gone ≡ cond b Waiting Gone
waits_at b o e = ap (λ p. cond b (there p) Gone) e

-- the pending replies with a caller's command more, and with what goes before it
module _ (s : Setup) (log : List LogEntry) (e : LogEntry) (pending : List PendingReply)
    (replied : ℕ) (l : Option CachingWord) (ws : Words)
    (more : sent s (e ∷ log) ≡ sent s log ++ led_by l ws)
    (count : length pending ≡ length (sent s log))
    (each : (i : ℕ) → i < length pending
    → get_or pending i Gone ≡ pending_at s log (i + first_number s.mode))
    (polled : (n : ℕ) → is_polled (e ∷ log) n ≡ is_polled log n)
    (same : replies s.mode Main (e ∷ log) ≡ replies s.mode Main log)
    (replied_is : replied ≡ length (replies s.mode Main log))
    (within : replied ≤ length pending + handshake_length s.mode)
    (un : (n : ℕ) → replied < n → is_polled log n ≡ false) where
  kept_old : (i : ℕ) → i < length pending
      → get_or pending i Gone ≡ pending_at s (e ∷ log) (i + first_number s.mode)
  kept_old i lt =
      each i lt
      ∙ (λ j. cond (sym (wanted_before s log e (led_by l ws) i more
      (polled (i + first_number s.mode)) (omega (arith, count))) j)
      (there (reply_in (i + first_number s.mode) (sym same j))) Gone)

  waits_new : (i : ℕ) (c : SentCommand) → length pending ≤ i
      → slice_get (sent s (e ∷ log)) i ≡ Some c
      → pending_at s (e ∷ log) (i + first_number s.mode) ≡ cond (is_caller c.origin) Waiting Gone
  waits_new i c le at =
      let n = i + first_number s.mode in
      waits_at (is_wanted s (e ∷ log) n) (reply_in n (replies s.mode Main (e ∷ log)))
      (ap (reply_in n) same
      ∙ no_reply n (replies s.mode Main log) (omega arith))
      ∙ ap (λ b. cond b Waiting Gone)
      (wanted_new s (e ∷ log) c i at (polled n ∙ un n (omega arith)))

  pub pending_put : (i : ℕ) → i < length (pending ++ waits_for l)
      → get_or (pending ++ waits_for l) i Gone ≡ pending_at s (e ∷ log) (i + first_number s.mode)
  pending_put =
      says_led (λ i. pending_at s (e ∷ log) (i + first_number s.mode)) pending l ws kept_old
      (λ at. waits_new (length pending + length at.front) (own ws) (omega arith)
      (ap (λ cs. slice_get cs (length pending + length at.front))
      (more ∙ ap (λ cs. sent s log ++ cs) at.parts)
      ∙ ap (λ n. slice_get (sent s log ++ (at.front ++ own ws ∷ [])) (n + length at.front)) count
      ∙ at_length (sent s log) at.front [] (own ws)))
      (λ w zs at. waits_new (length pending) (caching_command w) (omega arith)
      (ap (λ cs. slice_get cs (length pending)) (more ∙ ap (λ cs. sent s log ++ cs) at)
      ∙ ap (λ n. slice_get (sent s log ++ (caching_command w ∷ zs)) n) (count ∙ omega arith)
      ∙ at_length (sent s log) [] zs (caching_command w)))

module _ (s : Setup) (log : List LogEntry) (f : Fields) (k : Reflects s log f) where
  reflects_end : (u w : Wire) → w ≡ u
      → Reflects s (End w ∷ log)
      (record f {
        marks = [];
        keys = with_pairs [] f.keys;
        ended = ends_wire s.mode.shape u Main (is_ready s.mode log) || f.ended;
        side = record f.side {
          ended = ends_wire s.mode.shape u Side (is_ready s.mode log) || f.side.ended;
        };
      })
  reflects_end u w e = record {
    queued_is = k.queued_is ∙ sym (untaken_same s log (End w ∷ log) refl refl refl);
    replied_is = k.replied_is;
    replied_within = k.replied_within;
    ready_is = k.ready_is;
    told_first = k.told_first;
    pending_count = k.pending_count;
    pending_is = k.pending_is;
    unpolled = k.unpolled;
    owed_is = k.owed_is;
    named_is = k.named_is;
    fetches_are = λ n q j g. absurd (let no : None ≡ Some q = g in cc);
    marks_is = sym (marks_none f.replied (numbers s log));
    keys_is = keeps_none s.capacity (last_use s log) (held s log) f.keys k.keys_is _
        (held_none (left s log) (replies s.mode Main log));
    ended_is = λ i. ends_wire s.mode.shape (sym e i) Main (is_ready s.mode log) || k.ended_is i;
    broken_is = k.broken_is;
    side_queued_is = k.side_queued_is ∙ sym (side_untaken_same s log (End w ∷ log) refl);
    side_replied_is = k.side_replied_is;
    side_within = k.side_within;
    side_id_is = k.side_id_is;
    side_is = λ i. ends_wire s.mode.shape (sym e i) Side (is_ready s.mode log) || k.side_is i;
  }

  reflects_bad : (u w : Wire) (v : Value) → w ≡ u
      → Reflects s (Bad w v ∷ log)
      (record f {
        marks = [];
        keys = with_pairs [] f.keys;
        ended = ends_wire s.mode.shape u Main (is_ready s.mode log) || f.ended;
        side = record f.side {
          ended = ends_wire s.mode.shape u Side (is_ready s.mode log) || f.side.ended;
        };
      })
  reflects_bad u w v e = record {
    queued_is = k.queued_is ∙ sym (untaken_same s log (Bad w v ∷ log) refl refl refl);
    replied_is = k.replied_is;
    replied_within = k.replied_within;
    ready_is = k.ready_is;
    told_first = k.told_first;
    pending_count = k.pending_count;
    pending_is = k.pending_is;
    unpolled = k.unpolled;
    owed_is = k.owed_is;
    named_is = k.named_is;
    fetches_are = λ n q j g. absurd (let no : None ≡ Some q = g in cc);
    marks_is = sym (marks_none f.replied (numbers s log));
    keys_is = keeps_none s.capacity (last_use s log) (held s log) f.keys k.keys_is _
        (held_none (left s log) (replies s.mode Main log));
    ended_is = λ i. ends_wire s.mode.shape (sym e i) Main (is_ready s.mode log) || k.ended_is i;
    broken_is = k.broken_is;
    side_queued_is = k.side_queued_is ∙ sym (side_untaken_same s log (Bad w v ∷ log) refl);
    side_replied_is = k.side_replied_is;
    side_within = k.side_within;
    side_id_is = k.side_id_is;
    side_is = λ i. ends_wire s.mode.shape (sym e i) Side (is_ready s.mode log) || k.side_is i;
  }

  pub reflects_last : (u : Wire) (e : LogEntry) → IsLast u e
      → Reflects s (e ∷ log) (record f {
        marks = [];
        keys = with_pairs [] f.keys;
        ended = ends_wire s.mode.shape u Main (is_ready s.mode log) || f.ended;
        side = record f.side {
          ended = ends_wire s.mode.shape u Side (is_ready s.mode log) || f.side.ended;
        };
      })
  reflects_last u (End w) e = reflects_end u w e
  reflects_last u (Bad w v) e = reflects_bad u w v e
  reflects_last u h e = absurd e

  -- the link of a wire stands
  pub stands_on : (w : Wire) → is_ended s.mode w log ≡ false
      → on_wire w f.ended f.side.ended ≡ false
  stands_on Main e = k.ended_is ∙ e
  stands_on Side e = k.side_is ∙ e

  -- ---- bytes are taken out

  pub reflects_take_main : (most : ℕ) (queued : List ℕ) → queued ≡ drop most f.queued
      → Reflects s (TakeOut Main most ∷ log) (record f { queued = queued })
  reflects_take_main most queued e = record {
    queued_is = e ∙ ap (drop most) k.queued_is ∙ sym (untaken_took s log Main most);
    replied_is = k.replied_is;
    replied_within = k.replied_within;
    ready_is = k.ready_is;
    told_first = k.told_first;
    pending_count = k.pending_count;
    pending_is = k.pending_is;
    unpolled = k.unpolled;
    owed_is = k.owed_is;
    named_is = k.named_is;
    fetches_are = k.fetches_are;
    marks_is = k.marks_is;
    keys_is = k.keys_is;
    ended_is = k.ended_is;
    broken_is = k.broken_is;
    side_queued_is =
        k.side_queued_is ∙ sym (side_untaken_same s log (TakeOut Main most ∷ log) refl);
    side_replied_is = k.side_replied_is;
    side_within = k.side_within;
    side_id_is = k.side_id_is;
    side_is = k.side_is;
  }

  pub reflects_take_side : (most : ℕ) (queued : List ℕ) → queued ≡ drop most f.side.queued
      → Reflects s (TakeOut Side most ∷ log)
      (record f { side = record f.side { queued = queued } })
  reflects_take_side most queued e = record {
    queued_is =
        k.queued_is ∙ sym (untaken_same s log (TakeOut Side most ∷ log) refl refl refl);
    replied_is = k.replied_is;
    replied_within = k.replied_within;
    ready_is = k.ready_is;
    told_first = k.told_first;
    pending_count = k.pending_count;
    pending_is = k.pending_is;
    unpolled = k.unpolled;
    owed_is = k.owed_is;
    named_is = k.named_is;
    fetches_are = k.fetches_are;
    marks_is = k.marks_is;
    keys_is = k.keys_is;
    ended_is = k.ended_is;
    broken_is = k.broken_is;
    side_queued_is = e ∙ ap (drop most) k.side_queued_is ∙ sym (untaken_took s log Side most);
    side_replied_is = k.side_replied_is;
    side_within = k.side_within;
    side_id_is = k.side_id_is;
    side_is = k.side_is;
  }

  -- ---- a Send

  -- a client that is ready was told
  pub told_now : is_ready s.mode log ≡ true → is_told s.mode log ≡ true
  told_now e =
      ready_told s log f.replied k.told_first k.replied_within
      (leb-true (handshake_length s.mode) f.replied (sym k.ready_is ∙ e))

  -- so many have no name any more, and no more than were sent
  pub unnamed_within : f.replied - handshake_length s.mode ≤ length (sent s log)
  unnamed_within = let w = k.replied_within in let h = handshake_within s.mode log in omega arith

  pub replied_numbers : f.replied ≤ numbers s log
  replied_numbers = let w = k.replied_within in let h = handshake_within s.mode log in omega arith

  pub reflects_send : (ws : Words) (w : Written) (l : Option CachingWord) (named : List Written)
      → is_ready s.mode log ≡ true → w ≡ written_by ws
      → l ≡ send_lead s.mode.caching (caching_on s.mode log) (is_read ws)
      → named ≡ f.named ++ names_for s.mode.shape (led_by l ws)
      → Reflects s (Send ws ∷ log) (record f {
        queued = f.queued ++ bytes_of (led_by l ws);
        named = named;
        pending = f.pending ++ waits_for l;
        owed = f.owed + 1;
        marks = filter (λ m. not (writes ws (key_of m.query))) f.marks;
        keys = with_pairs (forgotten w f.keys.pairs) f.keys;
      })
  reflects_send ws w l named ready by is names_are =
      let put : sent s (Send ws ∷ log) ≡ sent s log ++ led_by l ws
      = ap (λ o. sent s log ++ led_by o ws) (sym is) in
      let more = ap length put in
      let all = length-append (sent s log) (led_by l ws) in
      record {
        queued_is = ap (λ b. b ++ bytes_of (led_by l ws)) k.queued_is
            ∙ sym (untaken_more s log (Send ws ∷ log) (led_by l ws) refl put refl);
        replied_is = k.replied_is;
        replied_within = let w = k.replied_within in omega (arith, more, all);
        ready_is = k.ready_is;
        told_first = inl (told_now ready);
        pending_count = length-append f.pending (waits_for l)
            ∙ (λ i. k.pending_count i + count_waits l ws i) ∙ sym all ∙ sym more;
        pending_is =
            pending_put s log (Send ws) f.pending f.replied l ws put k.pending_count k.pending_is
            (λ n. refl) refl k.replied_is
            (let w = replied_numbers in omega (arith, k.pending_count)) k.unpolled;
        unpolled = k.unpolled;
        owed_is = ap (λ n. n + 1) k.owed_is ∙ sym (owed_led f.pending l);
        named_is =
            names_are
            ∙ ap (λ ns. ns ++ names_for s.mode.shape (led_by l ws)) k.named_is
            ∙ sym (names_more s.mode.shape (f.replied - handshake_length s.mode) (sent s log)
            (led_by l ws) unnamed_within)
            ∙ ap (λ cs. names_for s.mode.shape (drop (f.replied - handshake_length s.mode) cs))
            (sym put);
        fetches_are =
            fetches_kept s log (Send ws ∷ log) (led_by l ws) put
            (λ n q g. (unless_some (writes ws) (open_fetch s log n) q g).0) k.fetches_are;
        marks_is =
            ap (filter (λ (m : Mark). not (writes ws (key_of m.query)))) k.marks_is
            ∙ sym (marks_filter (open_fetch s log) (open_fetch s (Send ws ∷ log))
            (λ (m : Mark). not (writes ws (key_of m.query))) f.replied (numbers s log)
            (λ n le. mark_unless (writes ws) n (open_fetch s log n)))
            ∙ sym (marks_led (open_fetch s (Send ws ∷ log)) f.replied (numbers s log)
            (numbers s (Send ws ∷ log)) l ws (omega (arith, more, all))
            (λ j lt. unless_none (writes ws) (open_fetch s log j) (beyond s log j lt)));
        keys_is = keeps_same s.capacity (last_use s log) (last_use s log) _ _ _ (λ j. refl)
            (held_send s log ws
            ∙ ap (λ x. filter (λ (h : CacheEntry). not (names x (key_of h.query))) (held s log))
            (sym by))
            (keeps_forgotten s.capacity (last_use s log) (held s log) f.keys k.keys_is w);
        ended_is = k.ended_is;
        broken_is = k.broken_is;
        side_queued_is = k.side_queued_is ∙ sym (side_untaken_same s log (Send ws ∷ log) refl);
        side_replied_is = k.side_replied_is;
        side_within = k.side_within;
        side_id_is = k.side_id_is;
        side_is = k.side_is;
      }

  -- what a pending reply says of its number
  pub number_there : (i : ℕ) (v : Value) → i < length f.pending → get_or f.pending i Gone ≡ There v
      → i + first_number s.mode ≤ f.replied
  number_there i v lt e =
      let there_ = there_is (is_wanted s log (i + first_number s.mode))
      (reply s.mode log (i + first_number s.mode)) v (sym (k.pending_is i lt) ∙ e) in
      let le = has_reply (i + first_number s.mode) (replies s.mode Main log) v
      (ap there there_.1) in
      omega (arith, k.replied_is, le)

  pending_polled : (n i j : ℕ) → n ≡ i + first_number s.mode → i < length f.pending
      → j < length f.pending
      → get_or (set f.pending i Gone) j Gone ≡ pending_at s (Poll n ∷ log) (j + first_number s.mode)
  pending_polled n i j e lt l = elim (cases_eq j i) [
    | inl is ↦
        ap (λ x. get_or (set f.pending i Gone) x Gone) is
        ∙ get_or-set_same f.pending i Gone Gone lt
        ∙ sym (ap (λ b. cond b
        (there (reply_in (j + first_number s.mode) (replies s.mode Main log))) Gone)
        (handed s (Poll n ∷ log) (j + first_number s.mode)
        (or_left _ _ (eq-eqb _ _ (let g : n ≡ j + first_number s.mode = omega arith in g)))))
    | inr ne ↦
        get_or-set_other f.pending i j Gone Gone ne
        ∙ k.pending_is j l
        ∙ ap (λ b. cond (was_given s log (j + first_number s.mode)
        && not (b || is_polled log (j + first_number s.mode)))
        (there (reply_in (j + first_number s.mode) (replies s.mode Main log))) Gone)
        (sym (ne_eqb n (j + first_number s.mode) (λ same. ne (omega arith))))
  ]

  pub reflects_poll : (n i : ℕ) (v : Value) → n ≡ i + first_number s.mode → i < length f.pending
      → get_or f.pending i Gone ≡ There v
      → Reflects s (Poll n ∷ log) (record f { pending = set f.pending i Gone; owed = f.owed - 1 })
  reflects_poll n i v e lt is = record {
    queued_is = k.queued_is ∙ sym (untaken_same s log (Poll n ∷ log) refl refl refl);
    replied_is = k.replied_is;
    replied_within = k.replied_within;
    ready_is = k.ready_is;
    told_first = k.told_first;
    pending_count = length-set f.pending i Gone ∙ k.pending_count;
    pending_is = λ j l. pending_polled n i j e lt
        (let same = length-set f.pending i Gone in omega arith);
    unpolled = λ m l.
        let t = number_there i v lt is in
        or_from _ _ (ne_eqb _ _ (λ same. omega arith)) (k.unpolled m l);
    owed_is = let one = owed_gone f.pending i v is in let w = k.owed_is in omega arith;
    named_is = k.named_is;
    fetches_are = k.fetches_are;
    marks_is = k.marks_is;
    keys_is = k.keys_is;
    ended_is = k.ended_is;
    broken_is = k.broken_is;
    side_queued_is = k.side_queued_is ∙ sym (side_untaken_same s log (Poll n ∷ log) refl);
    side_replied_is = k.side_replied_is;
    side_within = k.side_within;
    side_id_is = k.side_id_is;
    side_is = k.side_is;
  }

  -- a Poll, by what stands for its number
  standing : (n : ℕ) → handshake_length s.mode < n → n ≤ length f.pending + handshake_length s.mode
      → get_or f.pending (n - handshake_length s.mode - 1) Gone ≡ pending_at s log n
  standing n low within =
      k.pending_is (n - handshake_length s.mode - 1) (omega arith)
      ∙ ap (pending_at s log)
      (let g : n - handshake_length s.mode - 1 + first_number s.mode ≡ n = omega arith in g)

  pub poll_past : (n : ℕ) → length f.pending + handshake_length s.mode < n
      → client_step s log (call.Poll n) ≡ refusing (NoNumber n) log
  poll_past n past = poll_unwanted s log n (high s log n (omega (arith, k.pending_count)))

  module _ (n : ℕ) (low : handshake_length s.mode < n)
      (within : n ≤ length f.pending + handshake_length s.mode) where
    pub poll_gone : get_or f.pending (n - handshake_length s.mode - 1) Gone ≡ Gone
        → client_step s log (call.Poll n) ≡ refusing (NoNumber n) log
    poll_gone e =
        poll_unwanted s log n
        (gone_is (is_wanted s log n) (reply s.mode log n) (sym (standing n low within) ∙ e))

    pub poll_waits : (over : Bool)
        → get_or f.pending (n - handshake_length s.mode - 1) Gone ≡ Waiting → f.ended ≡ over
        → client_step s log (call.Poll n) ≡ polling None n over log
    poll_waits over e ended =
        let w = waiting_is (is_wanted s log n) (reply s.mode log n)
        (sym (standing n low within) ∙ e) in
        poll_wanted s log n None over w.0 w.1 (sym k.ended_is ∙ ended)

    pub poll_there : (v : Value) → get_or f.pending (n - handshake_length s.mode - 1) Gone ≡ There v
        → client_step s log (call.Poll n) ≡ record { reply = Answer v; past = Poll n ∷ log }
    poll_there v e =
        let w = there_is (is_wanted s log n) (reply s.mode log n) v
        (sym (standing n low within) ∙ e) in
        poll_wanted s log n (Some v) (is_ended s.mode Main log) w.0 w.1 refl

  -- what the keys say of what is held
  pub query_found : (q : Words) (keys : KeysHeld) → keys ≡ f.keys
      → found_in q keys.pairs ≡ held_for q (held s log)
  query_found q keys e = grind (arith, pairs_found)

  pub entry_placed : (place : ℕ) (keys : KeysHeld) → keys ≡ f.keys
      → held_in_place place (listed keys.pairs) ≡ held_in_place place (held s log)
  entry_placed place keys e = grind (arith, pairs_placed)

  -- none is left where none is queued
  pub drained : (n : ℕ) → n ≡ length f.queued → (n == 0) ≡ (length (untaken s Main log) == 0)
  drained n e = ap (λ m. m == 0) (e ∙ ap length k.queued_is)

  pub side_drained : (n : ℕ) → n ≡ length f.side.queued
      → (n == 0) ≡ (length (untaken s Side log) == 0)
  side_drained n e = ap (λ m. m == 0) (e ∙ ap length k.side_queued_is)

-- ---- a new client

none_accepted : (shape : Shape) (p : Proto) → nat_le (length (steps_of Main shape p)) 0 ≡ false
none_accepted shape Two = refl
none_accepted shape Three = refl

pub reflects_none : (s : Setup) (queued : List ℕ) (side : SideLink) → 0 < s.capacity
    → queued ≡ flat_map request_spelling (handshake s.mode Main [])
    → side ≡ record {
      queued = flat_map request_spelling (handshake s.mode Side []);
      replied = 0;
      id = [];
      ended = false;
    }
    → Reflects s []
    (record {
      queued = queued;
      replied = 0;
      side = side;
      named = [];
      pending = [];
      owed = 0;
      marks = [];
      keys = record { pairs = []; most = s.capacity };
      ended =
          false;
      broken = false;
    })
reflects_none s queued side some e of_side = record {
  queued_is = e ∙ untaken_none s Main;
  replied_is = refl;
  replied_within = omega arith;
  ready_is = sym (none_accepted s.mode.shape s.mode.proto);
  told_first = inr refl;
  pending_count = refl;
  pending_is = λ i l. absurd (omega arith);
  unpolled = λ n l. refl;
  owed_is = refl;
  named_is = no_names s.mode.shape;
  fetches_are = λ n q j g. absurd (let no : None ≡ Some q = g in cc);
  marks_is = sym (marks_none 0 (numbers s []));
  keys_is = record {
    most_is = refl;
    some = some;
    within = omega arith;
    pairs_are = refl;
    by_use = tt;
  };
  ended_is = refl;
  broken_is = refl;
  side_queued_is = ap (λ (l : SideLink). l.queued) of_side ∙ untaken_none s Side;
  side_replied_is = ap (λ (l : SideLink). l.replied) of_side;
  side_within = let z = ap (λ (l : SideLink). l.replied) of_side in omega (arith, z);
  side_id_is = ap (λ (l : SideLink). l.id) of_side;
  side_is = ap (λ (l : SideLink). l.ended) of_side;
}
  where
    no_names : (shape : Shape) → [] ≡ names_for shape (drop (0 - handshake_length s.mode) [])
    no_names Single = refl
    no_names Pair = ap (names_for Pair)
        (sym (drop_all (0 - handshake_length s.mode) [] (omega arith)))
