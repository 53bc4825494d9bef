-- After an Ask the fields are what the log says.
use Rattle.std.proofs.Common.{◌≡◌, ◌+◌, ◌<◌, ◌++◌, ◌&&◌, ◌⊎◌, ℕ, List, [], ◌∷◌, length, Bool}
use Rattle.std.proofs.Common.{true, false, cond, Option, Some, None, sym, ap, ◌∙◌, refl, arith}
use Rattle.std.proofs.Common.{length-append, append-nil, inl, inr, ◌||◌, not, ◌-◌}
use Rattle.std.specs.Prelude.{is_some, drop}
use Rattle.std.proofs.lemmas.Bool.{or_cases, cases_Bool, cases_eq, and_parts, or_parts, or_from}
use Rattle.std.proofs.lemmas.Bool.{or_right}
use Rattle.command_words.specs.declared.written.Written.{Written}
use Rattle.std.proofs.lemmas.Slice.Eq.{bytes_eq-Decides, slice_eq-Decides}
use Rattle.command_words.specs.Queries.{key_of, same_query, writes}
use Rattle.fill_mark.specs.declared.marks.Mark.{Mark}
use Rattle.fill_mark.specs.Marks.{with_mark, without_query}
use Rattle.shared_cache.specs.declared.log.Wire.{Wire}
use Rattle.shared_cache.specs.declared.log.Wire.TheVariants.{Main, Side}
use Rattle.shared_cache.specs.declared.notices.Notice.{Notice}
use Rattle.shared_cache.specs.declared.log.ClientMode.{ClientMode}
use Rattle.shared_cache.specs.declared.log.LogEntry.{LogEntry}
use Rattle.shared_cache.specs.declared.log.LogEntry.TheVariants.{Ask, Send, Poll, TakeOut, Got}
use Rattle.shared_cache.specs.declared.entry.CacheEntry.{CacheEntry}
use Rattle.shared_cache.specs.declared.entry.PendingReply.{PendingReply}
use Rattle.shared_cache.specs.Notices.{notice_of, named_keys, invalidates, invalidates_as}
use Rattle.shared_cache.specs.Log.{is_ready, is_told, is_ended, is_broken, is_broken_notice}
use Rattle.shared_cache.specs.Log.{caching_on, replies, first_number}
use Rattle.shared_cache.specs.Log.{handshake_length, caching_on_for, covers}
use Rattle.shared_cache.specs.Held.{Setup, Key, Words, led_by, read_lead, put_read, numbered}
use Rattle.shared_cache.specs.Held.{numbers, held_for, used_at, other_than, asked, sent, unless}
use Rattle.shared_cache.specs.Held.{open_fetch, last_use, held, command_in, is_named, outdates}
use Rattle.shared_cache.specs.Held.{got_ends}
use Rattle.shared_cache.specs.Laws.{IsQuery}
use Rattle.shared_cache.specs.Steps.{read_number}
use Rattle.std.specs.Str.{bytes_eq}
use Rattle.lru.specs.LruCache.{promoted}
use Rattle.shared_cache.specs.HeldKeys.{with_pairs}
use Rattle.shared_cache.specs.ClientFields.{Fields, Reflects, marks_by, fetch_mark, waits_for}
use Rattle.shared_cache.specs.ClientFields.{names_for}
use Rattle.shared_cache.proofs.Fetches.{beyond, unless_none}
use Rattle.shared_cache.proofs.FetchLaws.{asked_some, open_was_sent, not_open}
use Rattle.shared_cache.proofs.Named.{FetchesAre, fetches_kept, command_kept, command_last}
use Rattle.shared_cache.proofs.Named.{within_sent, query_names, names_more}
use Rattle.shared_cache.proofs.Led.{led_some, count_waits, owed_led, marks_led, marks_read}
use Rattle.shared_cache.proofs.LastUses.{used_before}
use Rattle.shared_cache.proofs.Keeps.{keeps_promoted, keeps_same}
use Rattle.shared_cache.proofs.HeldSteps.{sent_hit, open_hit, held_hit, use_hit, sent_miss}
use Rattle.shared_cache.proofs.HeldSteps.{open_other, open_old, open_new, held_miss, use_miss}
use Rattle.shared_cache.proofs.MarkLists.{marks_filter, marks_same}
use Rattle.shared_cache.proofs.Bytes.{bytes_of, untaken_more, untaken_same, side_untaken_same}
use Rattle.shared_cache.proofs.OtherTurns.{pending_put, pending_same, told_now, unnamed_within}
use Rattle.shared_cache.proofs.OtherTurns.{replied_numbers}

-- ---- a broken redirection leaves no fetch open

broken_off : (m : ClientMode) (log : List LogEntry) → is_broken m log ≡ true
    → caching_on m log ≡ false
broken_off m log e = grind arith

asked_none : (o : Option CacheEntry) (m : ClientMode) (on : Bool) (before : ℕ) (q : Words) (n : ℕ)
    (old : Option Words) → on ≡ false → old ≡ None → asked o m on before q n old ≡ None
asked_none o m on before q n old e f = grind arith

broken_invalidates : (n : Notice) (keys : List Key) (k : Key) → is_broken_notice n ≡ true
    → invalidates_as n keys k ≡ true
broken_invalidates n keys k e = grind arith

all_end : (t : Key → Bool) (o : Option Words) → ((k : Key) → t k ≡ true) → unless t o ≡ None
all_end t None each = refl
all_end t (Some q) each = ap (λ b. cond b None (Some q)) (each (key_of q))

pub broken_none : (s : Setup) (log : List LogEntry) (n : ℕ) → is_broken s.mode log ≡ true
    → open_fetch s log n ≡ None
broken_none s [] n e = cc
broken_none s (Ask q ∷ log) n e = grind (arith, asked_none, broken_off, broken_none s log n e)
broken_none s (Send ws ∷ log) n e =
    unless_none (writes ws) (open_fetch s log n) (broken_none s log n e)
broken_none s (Poll m ∷ log) n e = broken_none s log n e
broken_none s (TakeOut w m ∷ log) n e = broken_none s log n e
broken_none s (Got w v ∷ log) n e =
    elim (or_cases (is_broken_notice (notice_of s.mode w v)) (is_broken s.mode log) e) [
      | inl b ↦
          all_end (got_ends s (sent s log) (length (replies s.mode Main log)) w v n)
          (open_fetch s log n)
          (λ k. or_right (outdates s (sent s log) (length (replies s.mode Main log)) w v n k)
          (invalidates s.mode w v k)
          (broken_invalidates (notice_of s.mode w v) (named_keys v) k b))
      | inr b ↦
          unless_none (got_ends s (sent s log) (length (replies s.mode Main log)) w v n)
          (open_fetch s log n) (broken_none s log n b)
    ]
broken_none s log n e = refl

none_or : (o : Option Words) → (o ≡ None) ⊎ ((q : Words) × (o ≡ Some q))
none_or None = inl refl
none_or (Some q) = inr (q, refl)

same_words : (p q : Words) → same_query p q ≡ true → p ≡ q
same_words p q e = (slice_eq-Decides bytes_eq-Decides p q (same_query p q) refl).0 e

other_stays : (q p : Words) (covered : List ℕ → Bool) → covered (key_of p) ≡ true
    → covered (key_of q) ≡ false → other_than q (Some p) ≡ Some p
other_stays q p covered is not_ = elim (cases_Bool (same_query p q)) [
  | inl same ↦
      let no : true ≡ false
      = sym is ∙ ap (λ x. covered (key_of x)) (same_words p q same) ∙ not_ in
      absurd (let none : ⊥ = cc in none)
  | inr other ↦ ap (λ b. cond b None (Some p)) other
]

some_of : (o : Option CacheEntry) → is_some o ≡ true → (h : CacheEntry) × (o ≡ Some h)
some_of o e = grind arith

-- ---- a hit

module _ (s : Setup) (log : List LogEntry) (f : Fields) (k : Reflects s log f) where
  hit_told : (q : Words) (h : CacheEntry) → held_for q (held s log) ≡ Some h
      → (is_told s.mode log ≡ true) ⊎ (sent s log ≡ [])
      → (is_told s.mode (Ask q ∷ log) ≡ true) ⊎ (sent s (Ask q ∷ log) ≡ [])
  hit_told q h e (inl told) = inl told
  hit_told q h e (inr none) = inr (sent_hit s log q h e ∙ none)

  reflects_hit_of : (q : Words) (h : CacheEntry) → held_for q (held s log) ≡ Some h
      → Reflects s (Ask q ∷ log) (record f {
        keys = with_pairs (promoted (bytes_eq (key_of q)) f.keys.pairs) f.keys;
      })
  reflects_hit_of q h e = record {
    queued_is =
        k.queued_is ∙ sym (untaken_same s log (Ask q ∷ log) refl (sent_hit s log q h e) refl);
    replied_is = k.replied_is;
    replied_within = let w = k.replied_within in omega (arith, ap length (sent_hit s log q h e));
    ready_is = k.ready_is;
    told_first = hit_told q h e k.told_first;
    pending_count = k.pending_count ∙ ap length (sym (sent_hit s log q h e));
    pending_is = λ i lt. k.pending_is i lt
        ∙ sym (pending_same s log (Ask q ∷ log) (sent_hit s log q h e) (λ n. refl) refl
        (i + first_number s.mode));
    unpolled = k.unpolled;
    owed_is = k.owed_is;
    named_is = k.named_is
        ∙ ap (λ cs. names_for s.mode.shape (drop (f.replied - handshake_length s.mode) cs))
        (sym (sent_hit s log q h e));
    fetches_are = fetches_kept s log (Ask q ∷ log) []
        (sent_hit s log q h e ∙ sym (append-nil (sent s log)))
        (λ n p g. sym (open_hit s log q h e n) ∙ g) k.fetches_are;
    marks_is = k.marks_is
        ∙ sym (marks_same (open_fetch s log) (open_fetch s (Ask q ∷ log)) f.replied (numbers s log)
        (λ m le. open_hit s log q h e m))
        ∙ ap (λ l. marks_by (open_fetch s (Ask q ∷ log)) f.replied (numbered s l))
        (sym (sent_hit s log q h e));
    keys_is = keeps_same s.capacity
        (λ j. used_at (Some q) j (length log + 1) (last_use s log j)) (last_use s (Ask q ∷ log))
        (held s log) (held s (Ask q ∷ log)) _ (use_hit s log q h e) (held_hit s log q h e)
        (keeps_promoted s.capacity (last_use s log) (held s log) f.keys k.keys_is (length log + 1)
        (used_before s log) q);
    ended_is = k.ended_is;
    broken_is = k.broken_is;
    side_queued_is = k.side_queued_is ∙ sym (side_untaken_same s log (Ask q ∷ log) refl);
    side_replied_is = k.side_replied_is;
    side_within = k.side_within;
    side_id_is = k.side_id_is;
    side_is = k.side_is;
  }

  pub reflects_hit : (q : Words) → is_some (held_for q (held s log)) ≡ true
      → Reflects s (Ask q ∷ log) (record f {
        keys = with_pairs (promoted (bytes_eq (key_of q)) f.keys.pairs) f.keys;
      })
  reflects_hit q e = let o = some_of (held_for q (held s log)) e in reflects_hit_of q o.0 o.1

  -- ---- a miss

  read_is : (q : Words) → held_for q (held s log) ≡ None
      → numbers s (Ask q ∷ log) ≡ read_number s log q
  read_is q e =
      let more = ap length (sent_miss s log q e) in
      omega (
        arith,
        more,
        length-append (sent s log) (put_read s.mode (caching_on_for s.mode log (key_of q)) q),
      )

  -- between the older numbers and the read's there is none that has a fetch
  none_between : (q : Words) → held_for q (held s log) ≡ None → (j : ℕ) → numbers s log < j
      → j < read_number s log q → open_fetch s (Ask q ∷ log) j ≡ None
  none_between q e j lt lt2 =
      open_other s log q e j (λ is. omega arith)
      ∙ ap (other_than q) (beyond s log j lt)

  older_gone : (q : Words) → held_for q (held s log) ≡ None
      → marks_by (open_fetch s (Ask q ∷ log)) f.replied (numbers s log)
      ≡ without_query q (marks_by (open_fetch s log) f.replied (numbers s log))
  older_gone q e = grind (arith, marks_filter, open_old)

  marks_on : (q : Words) (number : ℕ) → held_for q (held s log) ≡ None
      → number ≡ read_number s log q → caching_on_for s.mode log (key_of q) ≡ true
      → with_mark number q (marks_by (open_fetch s log) f.replied (numbers s log)) ≡ marks_by
      (open_fetch s (Ask q ∷ log)) f.replied (numbers s (Ask q ∷ log))
  marks_on q number e is on =
      let l = read_lead s.mode.caching (caching_on_for s.mode log (key_of q)) in
      let w = replied_numbers s log f k in
      sym (ap (marks_by (open_fetch s (Ask q ∷ log)) f.replied) (read_is q e)
      ∙ marks_read (open_fetch s (Ask q ∷ log)) f.replied (numbers s log) (read_number s log q) l q
      refl w (none_between q e)
      ∙ (λ i. older_gone q e i
      ++ fetch_mark (read_number s log q) (open_new s log q e true on i))
      ∙ ap (λ n. with_mark n q (marks_by (open_fetch s log) f.replied (numbers s log))) (sym is))

  -- a fetch of a key that is not covered ends no other, since none of its query is open
  other_same : (q : Words) (n : ℕ) → caching_on_for s.mode log (key_of q) ≡ false
      → is_ready s.mode log ≡ true → (f.ended || f.side.ended) ≡ false → f.broken ≡ false
      → other_than q (open_fetch s log n) ≡ open_fetch s log n
  other_same q n off ready open_ whole =
      elim (none_or (open_fetch s log n)) [
        | inl none ↦ ap (other_than q) none ∙ sym none
        | inr some ↦
            let w = open_was_sent s log n some.0 some.1 in
            let on = (and_parts (caching_on s.mode w.sooner) (covers s.mode.caching (key_of some.0))
            w.on).1 in
            let caching : caching_on s.mode log ≡ true =
            (λ i. ready i && (not ((sym k.ended_is ∙ (or_parts f.ended f.side.ended open_).0) i
            || (sym k.side_is ∙ (or_parts f.ended f.side.ended open_).1) i)
            && not ((sym k.broken_is ∙ whole) i))) in
            let uncovered : covers s.mode.caching (key_of q) ≡ false
            = sym (ap (λ b. b && covers s.mode.caching (key_of q)) caching) ∙ off in
            ap (other_than q) some.1
            ∙ other_stays q some.0 (covers s.mode.caching) on uncovered
            ∙ sym some.1
      ]

  same_uncovered : (q : Words) (n : ℕ) → held_for q (held s log) ≡ None
      → caching_on_for s.mode log (key_of q) ≡ false
      → is_ready s.mode log ≡ true → (f.ended || f.side.ended) ≡ false → f.broken ≡ false
      → open_fetch s (Ask q ∷ log) n ≡ open_fetch s log n
  same_uncovered q n e off ready open_ whole =
      elim (cases_eq n (read_number s log q)) [
        | inl is ↦
            let more = led_some (read_lead s.mode.caching
            (caching_on_for s.mode log (key_of q))) q in
            ap (open_fetch s (Ask q ∷ log)) is
            ∙ open_new s log q e false off
            ∙ sym (beyond s log (read_number s log q) (omega arith))
            ∙ ap (open_fetch s log) (sym is)
        | inr ne ↦ open_other s log q e n ne ∙ other_same q n off ready open_ whole
      ]

  -- its command names its key alone
  miss_fetches : (q : Words) → IsQuery q → held_for q (held s log) ≡ None
      → FetchesAre s (Ask q ∷ log)
  miss_fetches q query e n p j g =
      elim (asked_some (held_for q (held s log)) s.mode (caching_on_for s.mode log (key_of q))
      (numbers s log) q n (open_fetch s log n) p g) [
        | inl old ↦
            ap (λ l. is_named (command_in s l n) j) (sent_miss s log q e)
            ∙ ap (λ c. is_named c j)
            (command_kept s (sent s log)
            (put_read s.mode (caching_on_for s.mode log (key_of q)) q) n
            (within_sent s log n p old))
            ∙ k.fetches_are n p j old
        | inr new ↦
            let l = read_lead s.mode.caching (caching_on_for s.mode log (key_of q)) in
            ap (λ cs. is_named (command_in s cs n) j) (sent_miss s log q e)
            ∙ ap (λ c. is_named c j) (command_last s (sent s log) l q n new.number_is)
            ∙ query_names q j query
            ∙ ap (λ x. bytes_eq j (key_of x)) new.query_is
      ]

  reflects_miss : (q : Words) (new : List Mark) (named : List Written) → IsQuery q
      → is_ready s.mode log ≡ true → held_for q (held s log) ≡ None
      → named ≡ f.named ++ names_for s.mode.shape
      (put_read s.mode (caching_on_for s.mode log (key_of q)) q)
      → new ≡ marks_by (open_fetch s (Ask q ∷ log)) f.replied (numbers s (Ask q ∷ log))
      → Reflects s (Ask q ∷ log)
      (record f {
        queued = f.queued
            ++ bytes_of (put_read s.mode (caching_on_for s.mode log (key_of q)) q);
        named = named;
        pending = f.pending
            ++ waits_for (read_lead s.mode.caching (caching_on_for s.mode log (key_of q)));
        owed = f.owed + 1;
        marks = new;
      })
  reflects_miss q new named query ready e names_are is =
      let l = read_lead s.mode.caching (caching_on_for s.mode log (key_of q)) in
      let more = ap length (sent_miss s log q e) in
      let all = length-append (sent s log) (led_by l q) in
      record {
        queued_is = ap (λ b. b ++ bytes_of (led_by l q)) k.queued_is
            ∙ sym (untaken_more s log (Ask q ∷ log) (led_by l q) refl (sent_miss s log q e) refl);
        replied_is = k.replied_is;
        replied_within = let w = k.replied_within in omega (arith, more, all);
        ready_is = k.ready_is;
        told_first = inl (told_now s log f k ready);
        pending_count = length-append f.pending (waits_for l)
            ∙ (λ i. k.pending_count i + count_waits l q i) ∙ sym all ∙ sym more;
        pending_is =
            pending_put s log (Ask q) f.pending f.replied l q (sent_miss s log q e)
            k.pending_count k.pending_is
            (λ n. refl) refl k.replied_is
            (let w = replied_numbers s log f k in omega (arith, k.pending_count)) k.unpolled;
        unpolled = k.unpolled;
        owed_is = ap (λ n. n + 1) k.owed_is ∙ sym (owed_led f.pending l);
        named_is =
            names_are
            ∙ ap (λ ns. ns ++ names_for s.mode.shape (led_by l q)) k.named_is
            ∙ sym (names_more s.mode.shape (f.replied - handshake_length s.mode) (sent s log)
            (led_by l q) (unnamed_within s log f k))
            ∙ ap (λ cs. names_for s.mode.shape (drop (f.replied - handshake_length s.mode) cs))
            (sym (sent_miss s log q e));
        fetches_are = miss_fetches q query e;
        marks_is = is;
        keys_is = keeps_same s.capacity (last_use s log) (last_use s (Ask q ∷ log)) (held s log)
            (held s (Ask q ∷ log)) f.keys (use_miss s log q e)
            (held_miss s log q e
            (let w = replied_numbers s log f k in omega (arith, k.replied_is)))
            k.keys_is;
        ended_is = k.ended_is;
        broken_is = k.broken_is;
        side_queued_is = k.side_queued_is ∙ sym (side_untaken_same s log (Ask q ∷ log) refl);
        side_replied_is = k.side_replied_is;
        side_within = k.side_within;
        side_id_is = k.side_id_is;
        side_is = k.side_is;
      }

  -- what a miss leaves
  abbrev asks : Words → List Mark → List Written → Fields
  asks q new named =
      record f {
        queued = f.queued
            ++ bytes_of (put_read s.mode (caching_on_for s.mode log (key_of q)) q);
        named = named;
        pending = f.pending
            ++ waits_for (read_lead s.mode.caching (caching_on_for s.mode log (key_of q)));
        owed = f.owed + 1;
        marks = new;
      }

  abbrev AreNames : Words → List Written → Type 0
  AreNames q named =
      named ≡ f.named ++ names_for s.mode.shape
      (put_read s.mode (caching_on_for s.mode log (key_of q)) q)

  -- with caching on the fetch is open
  reflects_fetch : (q : Words) (number : ℕ) (named : List Written) → IsQuery q
      → is_ready s.mode log ≡ true → held_for q (held s log) ≡ None
      → AreNames q named
      → number ≡ read_number s log q → caching_on_for s.mode log (key_of q) ≡ true
      → Reflects s (Ask q ∷ log) (asks q (with_mark number q f.marks) named)
  reflects_fetch q number named query ready e names_are is on =
      reflects_miss q (with_mark number q f.marks) named query ready e names_are
      (ap (with_mark number q) k.marks_is ∙ marks_on q number e is on)

  marks_off : (q : Words) → held_for q (held s log) ≡ None
      → caching_on_for s.mode log (key_of q) ≡ false
      → ((n : ℕ) → open_fetch s (Ask q ∷ log) n ≡ open_fetch s log n)
      → f.marks ≡ marks_by (open_fetch s (Ask q ∷ log)) f.replied (numbers s (Ask q ∷ log))
  marks_off q e off same =
      k.marks_is
      ∙ sym (marks_led (open_fetch s log) f.replied (numbers s log) (read_number s log q)
      (read_lead s.mode.caching (caching_on_for s.mode log (key_of q))) q refl
      (λ j lt. beyond s log j lt))
      ∙ sym (marks_same (open_fetch s log) (open_fetch s (Ask q ∷ log)) f.replied
      (read_number s log q) (λ m le. same m))
      ∙ ap (marks_by (open_fetch s (Ask q ∷ log)) f.replied) (sym (read_is q e))

  -- a fetch is open while no link has ended
  over_none : (w : Wire) (new : List LogEntry) (n : ℕ) → is_ended s.mode w new ≡ true
      → open_fetch s new n ≡ None
  over_none w new n over = elim (none_or (open_fetch s new n)) [
    | inl none ↦ none
    | inr some ↦ absurd (not_open s w new n some.0 some.1 over)
  ]

  reflects_unmarked : (q : Words) (named : List Written) → IsQuery q
      → held_for q (held s log) ≡ None → AreNames q named
      → caching_on_for s.mode log (key_of q) ≡ false
      → is_ready s.mode log ≡ true → f.ended ≡ false
      → Reflects s (Ask q ∷ log) (asks q f.marks named)
  reflects_unmarked q named query e names_are off ready open_ = elim (cases_Bool f.broken) [
    | inl sure ↦
        let b : is_broken s.mode log ≡ true = sym k.broken_is ∙ sure in
        reflects_miss q f.marks named query ready e names_are
        (marks_off q e off (λ n. broken_none s (Ask q ∷ log) n b ∙ sym (broken_none s log n b)))
    | inr whole ↦ elim (cases_Bool f.side.ended) [
      | inl over ↦
          let b : is_ended s.mode Side log ≡ true = sym k.side_is ∙ over in
          reflects_miss q f.marks named query ready e names_are
          (marks_off q e off
          (λ n. over_none Side (Ask q ∷ log) n b ∙ sym (over_none Side log n b)))
      | inr stands ↦
          reflects_miss q f.marks named query ready e names_are
          (marks_off q e off
          (λ n. same_uncovered q n e off ready (or_from f.ended f.side.ended open_ stands) whole))
    ]
  ]

  pub reflects_ask : (q : Words) (number : ℕ) (on : Bool) (bytes : List ℕ)
      (waits : List PendingReply) (named : List Written) (new : List Mark) → IsQuery q
      → held_for q (held s log) ≡ None → number ≡ handshake_length s.mode + length waits
      → on ≡ caching_on_for s.mode log (key_of q)
      → is_ready s.mode log ≡ true → f.ended ≡ false
      → bytes ≡ f.queued ++ bytes_of (put_read s.mode on q)
      → waits ≡ f.pending ++ waits_for (read_lead s.mode.caching on)
      → named ≡ f.named ++ names_for s.mode.shape (put_read s.mode on q)
      → new ≡ cond on (with_mark number q f.marks) f.marks
      → Reflects s (Ask q ∷ log)
      (record f { queued = bytes; named = named; pending = waits; owed = f.owed + 1; marks = new })
  reflects_ask q number on bytes waits named new query e count same ready open_ b p ns m =
      let l = read_lead s.mode.caching (caching_on_for s.mode log (key_of q)) in
      let more : length waits ≡ length f.pending + length (waits_for l)
      = ap length (p ∙ ap (λ o. f.pending ++ waits_for (read_lead s.mode.caching o)) same)
      ∙ length-append f.pending (waits_for l) in
      let is : number ≡ read_number s log q
      = omega (arith, count, more, count_waits l q, k.pending_count) in
      let names_are : AreNames q named
      = ns ∙ ap (λ o. f.named ++ names_for s.mode.shape (put_read s.mode o q)) same in
      elim (cases_Bool on) [
        | inl sure ↦ rw (
          b ∙ ap (λ o. f.queued ++ bytes_of (put_read s.mode o q)) same,
          p ∙ ap (λ o. f.pending ++ waits_for (read_lead s.mode.caching o)) same,
          m ∙ ap (λ x. cond x (with_mark number q f.marks) f.marks) sure,
        )
            (reflects_fetch q number named query ready e names_are is (sym same ∙ sure))
        | inr off ↦ rw (
          b ∙ ap (λ o. f.queued ++ bytes_of (put_read s.mode o q)) same,
          p ∙ ap (λ o. f.pending ++ waits_for (read_lead s.mode.caching o)) same,
          m ∙ ap (λ x. cond x (with_mark number q f.marks) f.marks) off,
        )
            (reflects_unmarked q named query e names_are (sym same ∙ off) ready open_)
      ]
