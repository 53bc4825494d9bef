-- The laws of open fetches and of what is held, by induction along the log.
use Rattle.std.proofs.Common.{◌≡◌, ◌+◌, ◌-◌, ◌<◌, ◌≤◌, ◌++◌, zero, suc, ◌&&◌, ◌||◌, ◌⊎◌, ℕ, List}
use Rattle.std.proofs.Common.{[], ◌∷◌, length, Bool, true, false, not, Option, Some, None, sym, ap}
use Rattle.std.proofs.Common.{◌∙◌, refl, subst, inl, inr, arith, ne_eqb, append_assoc}
use Rattle.std.proofs.Common.{length-append}
use Rattle.std.proofs.lemmas.Bool.{and_parts, or_parts, not-true}
use Rattle.std.specs.List.{slice_get}
use Rattle.std.specs.Prelude.{map}
use Rattle.resp_value.specs.declared.value.Value.{Value}
use Rattle.command_words.specs.Queries.{key_of, writes}
use Rattle.shared_cache.specs.declared.log.Wire.{Wire}
use Rattle.shared_cache.specs.declared.log.Wire.TheVariants.{Main, Side}
use Rattle.shared_cache.specs.declared.log.ClientMode.{ClientMode}
use Rattle.shared_cache.specs.declared.log.LogEntry.{LogEntry}
use Rattle.shared_cache.specs.declared.log.LogEntry.TheVariants.{Ask, Send, Poll, TakeOut, Got}
use Rattle.shared_cache.specs.declared.entry.CacheEntry.{CacheEntry}
use Rattle.shared_cache.specs.Log.{handshake, handshake_length, replies, reply_in, is_ended}
use Rattle.shared_cache.specs.Log.{is_ready, is_broken}
use Rattle.shared_cache.specs.Log.{caching_on, caching_on_for, covers}
use Rattle.shared_cache.specs.declared.lead.CachingWord.{CachingWord}
use Rattle.shared_cache.specs.declared.lead.CachingWord.TheVariants.{Yes}
use Rattle.shared_cache.specs.Held.{Setup, Key, Words, SentCommand, put_ask, put_read}
use Rattle.shared_cache.specs.Held.{caching_command, led_by, read_lead}
use Rattle.shared_cache.specs.Steps.{read_number}
use Rattle.shared_cache.specs.Held.{held_for, unless, asked, hold, held_by, ends, numbers, sent}
use Rattle.shared_cache.specs.Held.{open_fetch, held, commands, got_ends}
use Rattle.resp_value.specs.Lists.{IsPrefix}
use Rattle.shared_cache.specs.Laws.{Every, WasSent, IsFetch, OpenWasSent, PlaceIsQuery}
use Rattle.shared_cache.specs.Laws.{InTurn, MarkBeforeRead}
use Rattle.shared_cache.specs.Laws.{OpenWires, HeldIsFetch, EndedHoldsNothing}
use Rattle.shared_cache.proofs.Every.{every_append, every_weaker}
use Rattle.shared_cache.proofs.CommandLists.{before_turn, commands_grow}
use Rattle.shared_cache.proofs.LegalLogs.{newest, told_when_ready}
use Rattle.shared_cache.proofs.Handshakes.{whole, told_of_one}
use Rattle.shared_cache.proofs.Led.{own, led_some}

-- ---- open fetches

pub unless_some : (t : Key → Bool) (o : Option Words) (q : Words) → unless t o ≡ Some q
    → (o ≡ Some q) × (t (key_of q) ≡ false)
unless_some t o q e = grind arith

pub record IsNew (o : Option CacheEntry) (m : ClientMode) (on : Bool) (before : ℕ) (p : Words)
    (n : ℕ) (q : Words) : Type 0 where
  pub missed : o ≡ None
  pub number_is : n ≡ before + length (put_read m on p)
  pub turned_on : on ≡ true
  pub query_is : p ≡ q

pub asked_some : (o : Option CacheEntry) (m : ClientMode) (on : Bool) (before : ℕ) (p : Words)
    (n : ℕ) (old : Option Words) (q : Words)
    → asked o m on before p n old ≡ Some q → (old ≡ Some q) ⊎ IsNew o m on before p n q
asked_some o m on before p n old q e = grind arith

one_later : (s : Setup) (log : List LogEntry) (n : ℕ) (q : Words) (e : LogEntry)
    → ends s log n e (key_of q) ≡ false → WasSent s log n q → WasSent s (e ∷ log) n q
one_later s log n q e spares w = record {
  later = e ∷ w.later;
  sooner = w.sooner;
  log_is = ap (λ l. e ∷ l) w.log_is;
  number_is = w.number_is;
  missed = w.missed;
  on = w.on;
  spared = (subst (λ l. ends s l n e (key_of q) ≡ false) w.log_is spares, w.spared);
}

pub open_was_sent : OpenWasSent
open_was_sent s (Ask p ∷ log) n q f =
    elim (asked_some (held_for p (held s log)) s.mode (caching_on_for s.mode log (key_of p))
    (numbers s log) p n (open_fetch s log n) q f) [
      | inl old ↦ one_later s log n q (Ask p) refl (open_was_sent s log n q old)
      | inr new ↦ record {
        later = [];
        sooner = log;
        log_is = ap (λ x. Ask x ∷ log) new.query_is;
        number_is = new.number_is ∙ ap (read_number s log) new.query_is;
        missed = ap (λ x. held_for x (held s log)) (sym new.query_is) ∙ new.missed;
        on = ap (λ x. caching_on_for s.mode log (key_of x)) (sym new.query_is) ∙ new.turned_on;
        spared = tt;
      }
    ]
open_was_sent s (Send ws ∷ log) n q f = let u = unless_some (writes ws) (open_fetch s log n) q f in
    one_later s log n q (Send ws) u.1 (open_was_sent s log n q u.0)
open_was_sent s (Poll m ∷ log) n q f = one_later s log n q (Poll m) refl (open_was_sent s log n q f)
open_was_sent s (TakeOut w m ∷ log) n q f =
    one_later s log n q (TakeOut w m) refl (open_was_sent s log n q f)
open_was_sent s (Got w v ∷ log) n q f = let u =
    unless_some (got_ends s (sent s log) (length (replies s.mode Main log)) w v n)
    (open_fetch s log n) q f in
    one_later s log n q (Got w v) u.1 (open_was_sent s log n q u.0)
open_was_sent s e n q f = cc

pub open_wires : OpenWires
open_wires s (Ask p ∷ log) n q f =
    elim (asked_some (held_for p (held s log)) s.mode (caching_on_for s.mode log (key_of p))
    (numbers s log) p n (open_fetch s log n) q f) [
      | inl old ↦ open_wires s log n q old
      | inr new ↦
          let on = and_parts (caching_on s.mode log) (covers s.mode.caching (key_of p))
          new.turned_on in
          let a = and_parts (is_ready s.mode log)
          (not (is_ended s.mode Main log || is_ended s.mode Side log) && not (is_broken s.mode log))
          on.0 in
          let b = and_parts (not (is_ended s.mode Main log || is_ended s.mode Side log))
          (not (is_broken s.mode log)) a.1 in
          or_parts (is_ended s.mode Main log) (is_ended s.mode Side log)
          (not-true (is_ended s.mode Main log || is_ended s.mode Side log) b.0)
    ]
open_wires s (Send ws ∷ log) n q f =
    open_wires s log n q (unless_some (writes ws) (open_fetch s log n) q f).0
open_wires s (Poll m ∷ log) n q f = open_wires s log n q f
open_wires s (TakeOut w m ∷ log) n q f = open_wires s log n q f
open_wires s (Got w v ∷ log) n q f =
    open_wires s log n q
    (unless_some (got_ends s (sent s log) (length (replies s.mode Main log)) w v n)
    (open_fetch s log n) q f).0
open_wires s e n q f = cc

-- ---- the command of an open fetch

at_end : (n : ℕ) (front : List Words) (xs ys : List SentCommand) (c : SentCommand)
    → n ≡ length front + length xs
    → slice_get (front ++ map (λ c. c.words) (xs ++ c ∷ ys)) n ≡ Some c.words
at_end n [] [] ys c e = ap (λ i. slice_get (c.words ∷ map (λ (d : SentCommand). d.words) ys) i) e
at_end n [] (x ∷ xs) ys c e = grind (arith, at_end (length xs) [] xs ys c (omega arith))
at_end n (f ∷ front) xs ys c e = grind (arith, at_end (length front + length xs) front xs ys c refl)

-- the last of a led command's is the caller's
at_led : (n : ℕ) (front : List Words) (xs : List SentCommand) (l : Option CachingWord) (ws : Words)
    → n ≡ length front + length xs + length (led_by l ws)
    → slice_get (front ++ map (λ c. c.words) (xs ++ led_by l ws)) (n - 1) ≡ Some ws
at_led n front xs None ws e = at_end (n - 1) front xs [] (own ws) (omega arith)
at_led n front xs (Some w) ws e =
    ap (λ l. slice_get (front ++ map (λ (c : SentCommand). c.words) l) (n - 1))
    (sym (append_assoc xs (caching_command w ∷ []) (own ws ∷ [])))
    ∙ at_end (n - 1) front (xs ++ caching_command w ∷ []) [] (own ws)
    (omega (arith, length-append xs (caching_command w ∷ [])))

get_grows : (xs ys : List Words) (i : ℕ) (x : Words) → IsPrefix xs ys → slice_get xs i ≡ Some x
    → slice_get ys i ≡ Some x
get_grows [] ys i h p e = cc
get_grows (w ∷ xs) ys zero h p e = ap (λ l. slice_get l 0) (sym p.1) ∙ e
get_grows (w ∷ xs) ys (suc i) x p e = grind (arith, get_grows xs (xs ++ p.0) i x (p.0, refl) e)

place_later : (s : Setup) (e : LogEntry) (log : List LogEntry) (n : ℕ) (q : Words)
    → InTurn s (e ∷ log) → (0 < n) × (slice_get (commands s Main log) (n - 1) ≡ Some q) → (0 < n)
    × (slice_get (commands s Main (e ∷ log)) (n - 1) ≡ Some q)
place_later s e log n q turn p = (
  p.0,
  get_grows (commands s Main log) (commands s Main (e ∷ log)) (n - 1) q
      (commands_grow s Main e log turn) p.1,
)

-- an Ask comes behind the handshake
asked_whole : (s : Setup) (p : Words) (log : List LogEntry) → InTurn s (Ask p ∷ log)
    → length (handshake s.mode Main log) ≡ handshake_length s.mode
asked_whole s p log (inl one) = whole s.mode log (told_of_one s.mode log one)
asked_whole s p log (inr l) =
    whole s.mode log (told_when_ready s log l.0 (newest s log (Ask p) l).1)

pub place_is_query : PlaceIsQuery
place_is_query s (Ask p ∷ log) n q turn f =
    elim (asked_some (held_for p (held s log)) s.mode (caching_on_for s.mode log (key_of p))
    (numbers s log) p n (open_fetch s log n) q f) [
      | inl old ↦
          place_later s (Ask p) log n q turn
          (place_is_query s log n q (before_turn s (Ask p) log turn) old)
      | inr new ↦ (
        omega (
          arith,
          new.number_is,
          led_some (read_lead s.mode.caching (caching_on_for s.mode log (key_of p))) p,
        ),
        ap (λ o. slice_get
            (handshake s.mode Main log ++ map (λ (c : SentCommand). c.words)
            (sent s log ++ put_ask o s.mode (caching_on_for s.mode log (key_of p)) p)) (n - 1))
            new.missed
            ∙ at_led n (handshake s.mode Main log) (sent s log)
            (read_lead s.mode.caching (caching_on_for s.mode log (key_of p))) p
            (omega (arith, new.number_is, asked_whole s p log turn))
            ∙ ap Some new.query_is,
      )
    ]
place_is_query s (Send ws ∷ log) n q turn f =
    place_later s (Send ws) log n q turn
    (place_is_query s log n q (before_turn s (Send ws) log turn)
    (unless_some (writes ws) (open_fetch s log n) q f).0)
place_is_query s (Poll m ∷ log) n q turn f =
    place_is_query s log n q (before_turn s (Poll m) log turn) f
place_is_query s (TakeOut w m ∷ log) n q turn f =
    place_is_query s log n q (before_turn s (TakeOut w m) log turn) f
place_is_query s (Got w v ∷ log) n q turn f =
    place_later s (Got w v) log n q turn
    (place_is_query s log n q (before_turn s (Got w v) log turn)
    (unless_some (got_ends s (sent s log) (length (replies s.mode Main log)) w v n)
    (open_fetch s log n) q f).0)
place_is_query s e n q turn f = cc

-- what goes before a led command
at_lead : (n : ℕ) (front : List Words) (xs : List SentCommand) (l : Option CachingWord)
    (w : CachingWord) (ws : Words) → l ≡ Some w
    → n ≡ length front + length xs + length (led_by l ws)
    → (1 < n) × (slice_get (front ++ map (λ c. c.words) (xs ++ led_by l ws)) (n - 2)
    ≡ Some (caching_command w).words)
at_lead n front xs None w ws is e = absurd (let no : ⊥ = cc in no)
at_lead n front xs (Some v) w ws is e =
    let same : v ≡ w = cc in (
      omega (arith, e),
      at_end (n - 2) front xs (own ws ∷ []) (caching_command v) (omega (arith, e))
          ∙ ap (λ u. Some (caching_command u).words) same,
    )

marked_later : (s : Setup) (e : LogEntry) (log : List LogEntry) (n : ℕ) (w : Words)
    → InTurn s (e ∷ log)
    → (1 < n) × (slice_get (commands s Main log) (n - 2) ≡ Some w)
    → (1 < n) × (slice_get (commands s Main (e ∷ log)) (n - 2) ≡ Some w)
marked_later s e log n w turn p = (
  p.0,
  get_grows (commands s Main log) (commands s Main (e ∷ log)) (n - 2) w
      (commands_grow s Main e log turn) p.1,
)

pub mark_before_read : MarkBeforeRead
mark_before_read s (Ask p ∷ log) n q by turn f =
    let on = caching_on_for s.mode log (key_of p) in
    elim (asked_some (held_for p (held s log)) s.mode on
    (numbers s log) p n (open_fetch s log n) q f) [
      | inl old ↦
          marked_later s (Ask p) log n (caching_command Yes).words turn
          (mark_before_read s log n q by (before_turn s (Ask p) log turn) old)
      | inr new ↦
          let lead : read_lead s.mode.caching on ≡ Some Yes
          = λ i. read_lead (by i) (new.turned_on i) in
          subst (λ o. (1 < n) × (slice_get
          (handshake s.mode Main log ++ map (λ (c : SentCommand). c.words)
          (sent s log ++ put_ask o s.mode on p)) (n - 2) ≡ Some (caching_command Yes).words))
          (sym new.missed)
          (at_lead n (handshake s.mode Main log) (sent s log) (read_lead s.mode.caching on) Yes p
          lead (omega (arith, new.number_is, asked_whole s p log turn)))
    ]
mark_before_read s (Send ws ∷ log) n q by turn f =
    marked_later s (Send ws) log n (caching_command Yes).words turn
    (mark_before_read s log n q by (before_turn s (Send ws) log turn)
    (unless_some (writes ws) (open_fetch s log n) q f).0)
mark_before_read s (Poll m ∷ log) n q by turn f =
    mark_before_read s log n q by (before_turn s (Poll m) log turn) f
mark_before_read s (TakeOut w m ∷ log) n q by turn f =
    mark_before_read s log n q by (before_turn s (TakeOut w m) log turn) f
mark_before_read s (Got w v ∷ log) n q by turn f =
    marked_later s (Got w v) log n (caching_command Yes).words turn
    (mark_before_read s log n q by (before_turn s (Got w v) log turn)
    (unless_some (got_ends s (sent s log) (length (replies s.mode Main log)) w v n)
    (open_fetch s log n) q f).0)
mark_before_read s e n q by turn f = cc

-- ---- what is held

abbrev Fetched : (ℕ → Option Words) → List Value → CacheEntry → Type 0
Fetched open_of vs h = (open_of h.number ≡ Some h.query) × (reply_in h.number vs ≡ Some h.value)
    × (h.number ≤ length vs)

hold_every : (open_of : ℕ → Option Words) (o : Option Words) (gone : Bool) (v : Value)
    (vs : List Value) → open_of (length vs + 1) ≡ o
    → Every (Fetched open_of (v ∷ vs)) (hold o gone v (length vs + 1))
hold_every open_of o gone v vs e = grind arith

held_every : (open_of : ℕ → Option Words) (left_of : ℕ → Bool) (vs : List Value)
    → Every (Fetched open_of vs) (held_by open_of left_of vs)
held_every open_of left_of [] = tt
held_every open_of left_of (v ∷ vs) =
    grind (arith, every_append, every_weaker, ne_eqb, hold_every, held_every open_of left_of vs)

pub held_is_fetch : HeldIsFetch
held_is_fetch s log = grind (arith, every_weaker, held_every)

-- ---- nothing is held after an end

pub not_open : (s : Setup) (w : Wire) (log : List LogEntry) (n : ℕ) (q : Words)
    → open_fetch s log n ≡ Some q → is_ended s.mode w log ≡ true → ⊥
not_open s w log n q f e = grind (arith, open_wires)

none_fetched : (s : Setup) (w : Wire) (log : List LogEntry) (hs : List CacheEntry)
    → Every (IsFetch s log) hs → is_ended s.mode w log ≡ true → hs ≡ []
none_fetched s w log [] all e = refl
none_fetched s w log (h ∷ hs) all e = absurd (not_open s w log h.number h.query all.0.fetch e)

pub ended_holds_nothing : EndedHoldsNothing
ended_holds_nothing s w log e = none_fetched s w log (held s log) (held_is_fetch s log) e
