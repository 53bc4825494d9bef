-- Of two links no reply comes to a later command that names the key of an open fetch.
use Rattle.std.proofs.Common.{◌≡◌, ◌+◌, ◌-◌, ◌<◌, ◌≤◌, ◌++◌, ◌&&◌, ℕ, zero, suc, List, []}
use Rattle.std.proofs.Common.{◌∷◌}
use Rattle.std.proofs.Common.{length, map, Bool, true, false, cond, Some, None, sym, ap, ◌∙◌}
use Rattle.std.proofs.Common.{refl, inl, inr, arith}
use Rattle.std.specs.List.{slice_get}
use Rattle.std.proofs.lemmas.Bool.{cases_lt, lt-ltb, or_parts}
use Rattle.resp_value.specs.declared.value.Value.{Value}
use Rattle.command_words.specs.Queries.{key_of, writes, names_key}
use Rattle.shared_cache.specs.declared.log.Wire.{Wire}
use Rattle.shared_cache.specs.declared.log.Wire.TheVariants.{Main, Side}
use Rattle.shared_cache.specs.declared.log.Shape.TheVariants.{Pair}
use Rattle.shared_cache.specs.declared.log.LogEntry.{LogEntry}
use Rattle.shared_cache.specs.declared.log.LogEntry.TheVariants.{Ask, Send, Poll, TakeOut, Got}
use Rattle.shared_cache.specs.declared.notices.Notice.{Notice}
use Rattle.shared_cache.specs.declared.notices.Notice.TheVariants.{Reply}
use Rattle.shared_cache.specs.Notices.{notice_of, invalidates}
use Rattle.shared_cache.specs.Log.{handshake, handshake_length, first_number, is_wire, with_reply}
use Rattle.shared_cache.specs.Log.{replies, caching_on_for}
use Rattle.shared_cache.specs.Held.{Setup, Words, SentCommand, held_for, held, numbers, read_lead}
use Rattle.shared_cache.specs.Held.{sent, commands, open_fetch, command_in, is_named, may_overtake}
use Rattle.shared_cache.specs.Held.{outdates, got_ends}
use Rattle.shared_cache.specs.Laws.{LegalLog, NoLaterReply}
use Rattle.shared_cache.proofs.CommandLists.{commands_grow}
use Rattle.shared_cache.proofs.FetchLaws.{unless_some, asked_some, open_was_sent}
use Rattle.shared_cache.proofs.Handshakes.{whole, handshake_same}
use Rattle.shared_cache.proofs.CommandLaws.{told_by_open}
use Rattle.shared_cache.proofs.Led.{led_some}
use Rattle.shared_cache.proofs.LegalLogs.{replies_within, replies_within_put}

-- ---- a command at its place

get_back : (xs rest : List Words) (i : ℕ) (w : Words) → i < length xs
    → slice_get (xs ++ rest) i ≡ Some w → slice_get xs i ≡ Some w
get_back [] rest i w lt e = absurd (omega (arith, lt))
get_back (x ∷ xs) rest zero w lt e = e
get_back (x ∷ xs) rest (suc i) w lt e = get_back xs rest i w (omega (arith, lt)) e

get_rest : (xs ys : List Words) (i : ℕ) → slice_get (xs ++ ys) (length xs + i) ≡ slice_get ys i
get_rest [] ys i = ap (slice_get ys) (let g : 0 + i ≡ i = omega arith in g)
get_rest (x ∷ xs) ys i =
    ap (slice_get (x ∷ (xs ++ ys))) (let g : suc (length xs) + i ≡ suc (length xs + i) = omega arith
    in g)
    ∙ get_rest xs ys i

-- a command that was sent, by its words
record IsSent (cs : List SentCommand) (i : ℕ) (ws : Words) : Type 0 where
  command : SentCommand
  there : slice_get cs i ≡ Some command
  words_are : command.words ≡ ws

get_sent : (cs : List SentCommand) (i : ℕ) (ws : Words)
    → slice_get (map (λ (c : SentCommand). c.words) cs) i ≡ Some ws → IsSent cs i ws
get_sent [] i ws e = absurd (let none : ⊥ = cc in none)
get_sent (c ∷ cs) zero ws e =
    record { command = c; there = refl; words_are = (let same : c.words ≡ ws = cc in same) }
get_sent (c ∷ cs) (suc i) ws e =
    let t = get_sent cs i ws e in
    record { command = t.command; there = t.there; words_are = t.words_are }

-- the number of an open fetch is behind the handshake's
behind : (s : Setup) (log : List LogEntry) (n : ℕ) (q : Words) → open_fetch s log n ≡ Some q
    → handshake_length s.mode < n
behind s log n q f =
    let w = open_was_sent s log n q f in
    omega (
      arith,
      w.number_is,
      led_some (read_lead s.mode.caching (caching_on_for s.mode w.sooner (key_of q))) q,
    )

-- ---- the reply that comes

reply_more : (here : Bool) (k : Notice) (v : Value) (vs : List Value) (j : ℕ)
    → length vs ≤ j → j < length (with_reply here k v vs)
    → (here ≡ true) × (k ≡ Reply) × (j ≡ length vs)
reply_more true Reply v vs j ge lt = (refl, refl, omega (arith, ge, lt))
reply_more true k v vs j ge lt = absurd (omega (arith, ge, lt))
reply_more false k v vs j ge lt = absurd (omega (arith, ge, lt))

on_main : (w : Wire) → is_wire w Main ≡ true → w ≡ Main
on_main Main e = refl
on_main Side e = absurd (let no : false ≡ true = e in cc)

not_named : (b c : Bool) → b ≡ true → (b && (true && c)) ≡ false → c ≡ false
not_named b c e h = sym (ap (λ x. x && (true && c)) e) ∙ h

module _ (s : Setup) (log : List LogEntry) (two : s.mode.shape ≡ Pair) (l : LegalLog s log)
    (n : ℕ) (q : Words) (f : open_fetch s log n ≡ Some q) (j : ℕ) (ws : Words) (le : n ≤ j) where
  -- the newest reply is to the command of that place
  newest_spares : (v : Value) → notice_of s.mode Main v ≡ Reply
      → j ≡ length (replies s.mode Main log)
      → outdates s (sent s log) (length (replies s.mode Main log)) Main v n (key_of q) ≡ false
      → slice_get (commands s Main log) j ≡ Some ws → names_key ws (key_of q) ≡ false
  newest_spares v reply last spares at =
      let h = handshake_length s.mode in
      let low = behind s log n q f in
      let all = whole s.mode log (told_by_open s log n q l f) in
      let place : j ≡ length (handshake s.mode Main log) + (j - h) = omega (arith, all, low, le) in
      let here = get_sent (sent s log) (j - h) ws
      (sym (get_rest (handshake s.mode Main log)
      (map (λ (c : SentCommand). c.words) (sent s log)) (j - h))
      ∙ ap (slice_get (commands s Main log)) (sym place) ∙ at) in
      let number : length (replies s.mode Main log) + 1 - first_number s.mode ≡ j - h
      = omega (arith, last, low, le) in
      let command : command_in s (sent s log) (length (replies s.mode Main log) + 1)
      ≡ Some here.command =
      ap (λ b. cond b (slice_get (sent s log)
      (length (replies s.mode Main log) + 1 - first_number s.mode)) None)
      (lt-ltb h (length (replies s.mode Main log) + 1) (omega (arith, last, low, le)))
      ∙ ap (slice_get (sent s log)) number ∙ here.there in
      let overtakes : may_overtake (notice_of s.mode Main v) Main s.mode.shape ≡ true
      = λ i. may_overtake (reply i) Main (two i) in
      ap (λ x. names_key x (key_of q)) (sym here.words_are)
      ∙ ap (λ c. is_named c (key_of q)) (sym command)
      ∙ not_named (may_overtake (notice_of s.mode Main v) Main s.mode.shape)
      (is_named (command_in s (sent s log) (length (replies s.mode Main log) + 1)) (key_of q))
      overtakes
      (ap (λ b. may_overtake (notice_of s.mode Main v) Main s.mode.shape && (b
      && is_named (command_in s (sent s log) (length (replies s.mode Main log) + 1)) (key_of q)))
      (sym (lt-ltb n (length (replies s.mode Main log) + 1) (omega (arith, last, le))))
      ∙ spares)

-- an older reply is to a command that was there
older_there : (s : Setup) (e : LogEntry) (log : List LogEntry) (j : ℕ) (ws : Words)
    → LegalLog s (e ∷ log) → j < length (replies s.mode Main log)
    → slice_get (commands s Main (e ∷ log)) j ≡ Some ws
    → slice_get (commands s Main log) j ≡ Some ws
older_there s e log j ws l lt at =
    let p = commands_grow s Main e log (inr l) in
    let within = replies_within_put s log l.0 in
    get_back (commands s Main log) p.0 j ws (omega (arith, lt, within))
    (ap (λ cs. slice_get cs j) p.1 ∙ at)

pub no_later_reply : NoLaterReply
no_later_reply s (Ask p ∷ log) n q two l f j ws le lt at =
    elim (asked_some (held_for p (held s log)) s.mode (caching_on_for s.mode log (key_of p))
    (numbers s log) p n (open_fetch s log n) q f) [
      | inl old ↦
          no_later_reply s log n q two l.0 old j ws le lt
          (older_there s (Ask p) log j ws l lt at)
      | inr new ↦
          absurd (omega (
            arith,
            new.number_is,
            led_some (read_lead s.mode.caching (caching_on_for s.mode log (key_of p))) p,
            replies_within s log l.0,
            le,
            lt,
          ))
    ]
no_later_reply s (Send ws2 ∷ log) n q two l f j ws le lt at =
    no_later_reply s log n q two l.0 (unless_some (writes ws2) (open_fetch s log n) q f).0 j ws le
    lt (older_there s (Send ws2) log j ws l lt at)
no_later_reply s (Poll m ∷ log) n q two l f j ws le lt at =
    no_later_reply s log n q two l.0 f j ws le lt at
no_later_reply s (TakeOut w m ∷ log) n q two l f j ws le lt at =
    no_later_reply s log n q two l.0 f j ws le lt at
no_later_reply s (Got w v ∷ log) n q two l f j ws le lt at =
    let u = unless_some (got_ends s (sent s log) (length (replies s.mode Main log)) w v n)
    (open_fetch s log n) q f in
    elim (cases_lt j (length (replies s.mode Main log))) [
      | inl older ↦
          no_later_reply s log n q two l.0 u.0 j ws le older
          (older_there s (Got w v) log j ws l older at)
      | inr newest ↦
          let r = reply_more (is_wire w Main) (notice_of s.mode w v) v (replies s.mode Main log) j
          newest lt in
          on_last s log two l.0 n q j ws le w v (on_main w r.0) r.1 r.2 u.0 u.1
          (sym (ap (λ h. slice_get (h ++ map (λ (c : SentCommand). c.words) (sent s log)) j)
          (handshake_same s.mode (Got w v) log (told_by_open s log n q l.0 u.0))) ∙ at)
    ]
  where
    on_last : (s : Setup) (log : List LogEntry) → s.mode.shape ≡ Pair → LegalLog s log
        → (n : ℕ) (q : Words) (j : ℕ) (ws : Words) → n ≤ j → (w : Wire) (v : Value) → w ≡ Main
        → notice_of s.mode w v ≡ Reply → j ≡ length (replies s.mode Main log)
        → open_fetch s log n ≡ Some q
        → got_ends s (sent s log) (length (replies s.mode Main log)) w v n (key_of q) ≡ false
        → slice_get (commands s Main log) j ≡ Some ws → names_key ws (key_of q) ≡ false
    on_last s log two l n q j ws le Main v is reply last f spared at =
        newest_spares s log two l n q f j ws le v reply last
        (or_parts (outdates s (sent s log) (length (replies s.mode Main log)) Main v n (key_of q))
        (invalidates s.mode Main v (key_of q)) spared).0 at
    on_last s log two l n q j ws le Side v is reply last f spared at =
        absurd (let no : Side ≡ Main = is in cc)
no_later_reply s e n q two l f j ws le lt at = absurd (let none : ⊥ = cc in none)
