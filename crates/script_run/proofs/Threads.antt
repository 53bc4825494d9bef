-- The lines of a thread one after another, and the threads of a script.
use Rattle.std.proofs.Common.{◌≡◌, ◌≤◌, ◌+◌, ◌-◌, ◌<◌, ◌==◌, ℕ, suc, List, [], ◌∷◌, ◌++◌, Bool}
use Rattle.std.proofs.Common.{cond, length, refl, sym, ap, ◌∙◌, arith, append-nil, append_assoc}
use Rattle.std.proofs.Common.{length-append, take, drop, slice_index_or, eq-eqb, ne_eqb}
use Rattle.std.proofs.lemmas.List.{take_more, take-append-drop}
use Rattle.std.proofs.Math.Nat.{le-max_left, le-max_right}
use Rattle.turn_lock.specs.History.{IsPrefix}
use Rattle.turn_lock.specs.Seats.{Known, split_seat, joined_seat}
use Rattle.turn_lock.specs.Own.{own_list, with_pasts, past_of, turns_of, IsWithin, Grows}
use Rattle.turn_lock.proofs.Growing.{grows_then, grows_past}
use Rattle.turn_lock.proofs.Owning.{own_joined, pasts_begins, pasts_within, within_append}
use Rattle.turn_lock.proofs.Owning.{within_begins}
use Rattle.turn_lock.proofs.Turning.{begins_trans, entries_begin}
use Rattle.shared_cache.specs.declared.log.LogEntry.{LogEntry}
use Rattle.shared_cache.specs.Held.{Setup}
use Rattle.shared_client.specs.Turns.{Place, Turn, setup_at, setup_in}
use Rattle.script_text.specs.declared.script_line.ScriptCall.{ScriptCall}
use Rattle.script_text.specs.declared.script_line.ScriptLine.{ScriptLine}
use Rattle.script_run.specs.declared.answer.Answer.{Answer}
use Rattle.script_run.specs.Lines.{Between, PlaysLine, calls_of, CameIn, AllCame, PlaysThread}
use Rattle.script_run.specs.Lines.{ThreadCame, ThreadsCame, PlaysThreads}

-- ---- turns one after another

between_more : (before : List LogEntry) (ts : List Turn) (after more : List LogEntry)
    → Between before ts after → IsPrefix after more → Between before ts more
between_more before [] after more b p = begins_trans before after more b p
between_more before (t ∷ ts) after more b p =
    (begins_trans (t.0 ∷ t.1) after more b.0 p, b.1)

between_then : (a b c : List LogEntry) (xs ys : List Turn) → Between a xs b → Between b ys c
    → Between a (ys ++ xs) c
between_then a b c xs [] p q = between_more a xs b c p q
between_then a b c xs (y ∷ ys) p q = (q.0, between_then a b y.1 xs ys p q.1)

none_first : (a : List LogEntry) → IsPrefix [] a
none_first a = (a, append-nil a)

between_all : (before : List LogEntry) (ts : List Turn) (after : List LogEntry)
    → Between before ts after → Between [] ts after
between_all before [] after b = none_first after
between_all before (t ∷ ts) after b = (b.0, between_all before ts t.1 b.1)

-- ---- the lines of a thread

pub calls_append : (thread : ℕ) (xs ys : List ScriptLine)
    → calls_of thread (xs ++ ys) ≡ calls_of thread xs ++ calls_of thread ys
calls_append thread [] ys = refl
calls_append thread (x ∷ xs) ys = by_case (x.thread == thread) (calls_append thread xs ys)
  where
    by_case : (b : Bool) → calls_of thread (xs ++ ys) ≡ calls_of thread xs ++ calls_of thread ys
        → cond b (x.call ∷ calls_of thread (xs ++ ys)) (calls_of thread (xs ++ ys))
        ≡ cond b (x.call ∷ calls_of thread xs) (calls_of thread xs) ++ calls_of thread ys
    by_case b same = grind arith

module _ (s : Setup) where
  in_more : (c : ScriptCall) (a : Answer) (ts : List Turn) (log more : List LogEntry) (t u : ℕ)
      → CameIn s c a ts log t → IsPrefix log more → t ≤ u → CameIn s c a ts more u
  in_more c a ts log more t u h p le = record {
    seen = h.seen;
    ticket = h.ticket;
    in_order = h.in_order;
    begins = begins_trans h.seen log more h.begins p;
    not_more = omega (arith, h.not_more, le);
    came = h.came;
  }

  pub all_grow : (cs : List ScriptCall) (rs : List Answer) (ts : List Turn)
      (log more : List LogEntry) (t u : ℕ) → AllCame s cs rs ts log t → IsPrefix log more → t ≤ u
      → AllCame s cs rs ts more u
  all_grow [] (a ∷ rs) ts log more t u h p le = absurd h
  all_grow (c ∷ cs) (a ∷ rs) ts log more t u h p le =
      grind (arith, in_more, all_grow cs rs h.1 log more t u h.4 p le)
  all_grow cs [] ts log more t u h p le = h

  -- calls behind them may be left
  all_left : (cs more : List ScriptCall) (rs : List Answer) (ts : List Turn)
      (log : List LogEntry) (t : ℕ) → AllCame s cs rs ts log t → AllCame s (cs ++ more) rs ts log t
  all_left [] more (a ∷ rs) ts log t h = absurd h
  all_left (c ∷ cs) more [] ts log t h = h
  all_left (c ∷ cs) more (a ∷ rs) ts log t h = grind (arith, all_left cs more rs h.1 log t h.4)
  all_left [] more [] ts log t h = h

  all_then : (cs : List ScriptCall) (rs : List Answer) (ts : List Turn) (log : List LogEntry)
      (t : ℕ) (c : ScriptCall) (a : Answer) (mine : List Turn) → AllCame s cs rs ts log t
      → length rs ≡ length cs → CameIn s c a mine log t
      → AllCame s (cs ++ c ∷ []) (rs ++ a ∷ []) (mine ++ ts) log t
  all_then [] [] ts log t c a mine h e i = grind (arith, append-nil)
  all_then (c' ∷ cs) [] ts log t c a mine h e i = absurd (omega (arith, e))
  all_then [] (a' ∷ rs) ts log t c a mine h e i = absurd h
  all_then (c' ∷ cs) (a' ∷ rs) ts log t c a mine h e i =
      grind (arith, append_assoc, all_then cs rs h.1 log t c a mine h.4 (omega (arith, e)) i)

setup_kept : (old new : Place) (ts : List Turn) → Grows old new ts
    → setup_at new ≡ setup_at old
setup_kept old new ts g = ap setup_in g.setup

pub no_line : (k : Place) → IsWithin k → PlaysThread [] [] k k
no_line k w = grind arith

-- a thread plays one more line
pub line_then : (cs : List ScriptCall) (rs : List Answer) (c : ScriptCall) (a : Answer)
    (old k new : Place) → PlaysThread cs rs old k → length rs ≡ length cs → PlaysLine c a k new
    → PlaysThread (cs ++ c ∷ []) (rs ++ a ∷ []) old new
line_then cs rs c a old k new h e l =
    let same : setup_at k ≡ setup_at old = setup_kept old k _ h.grows in
    let p : IsPrefix (past_of k) (past_of new) = grows_past k new _ l.grows in
    record {
      turns = l.turns ++ h.turns;
      grows = grows_then old k new h.turns l.turns h.grows l.grows;
      between = grind (arith, between_then);
      came = grind (arith, all_then, all_grow, between_all);
    }

-- ---- the lines of a script, of which some are the thread's

module _ (thread : ℕ) (lines : List ScriptLine) (i : ℕ) (line : ScriptLine)
    (is : line ≡ slice_index_or lines i line) (lt : i < length lines) where
  abbrev so_far : List ScriptCall
  so_far = calls_of thread (take i lines)

  next_calls : calls_of thread (take (i + 1) lines)
      ≡ so_far ++ cond (line.thread == thread) (line.call ∷ []) []
  next_calls =
      ap (calls_of thread) (grind (arith, take_more))
      ∙ calls_append thread (take i lines) (line ∷ [])

  pub line_passed : (rs : List Answer) (old k : Place) → (line.thread ≡ thread → ⊥)
      → PlaysThread so_far rs old k → length rs ≡ length so_far
      → PlaysThread (calls_of thread (take (i + 1) lines)) rs old k
      × (length rs ≡ length (calls_of thread (take (i + 1) lines)))
  line_passed rs old k ne h e = grind (arith, next_calls, ne_eqb, append-nil)

  pub line_played : (rs : List Answer) (a : Answer) (old k new : Place) → line.thread ≡ thread
      → PlaysThread so_far rs old k → length rs ≡ length so_far → PlaysLine line.call a k new
      → PlaysThread (calls_of thread (take (i + 1) lines)) (rs ++ a ∷ []) old new
      × (length (rs ++ a ∷ []) ≡ length (calls_of thread (take (i + 1) lines)))
  line_played rs a old k new m h e l =
      grind (arith, so_far, length-append, line_then, next_calls, eq-eqb)

-- what the loop over the lines holds to, of other names for the same
pub held : (thread : ℕ) (lines : List ScriptLine) (i : ℕ) (old : Place) (rs : List Answer)
    (k : Place) (items : List Answer) (new : Place) → items ≡ rs → new ≡ k
    → PlaysThread (calls_of thread (take i lines)) rs old k
    × (length rs ≡ length (calls_of thread (take i lines))) × (k.lock ≡ old.lock) × IsWithin k
    → PlaysThread (calls_of thread (take i lines)) items old new
    × (length items ≡ length (calls_of thread (take i lines))) × (new.lock ≡ old.lock)
    × IsWithin new
held thread lines i old rs k items new rs_is k_is h = rw (rs_is, k_is) h

-- what was played of the first lines is what was played of all
pub first_lines : (thread : ℕ) (lines : List ScriptLine) (i : ℕ) (rs : List Answer)
    (old new : Place) → PlaysThread (calls_of thread (take i lines)) rs old new
    → PlaysThread (calls_of thread lines) rs old new
first_lines thread lines i rs old new h =
    let whole : calls_of thread (take i lines) ++ calls_of thread (drop i lines)
    ≡ calls_of thread lines = sym (calls_append thread (take i lines) (drop i lines))
    ∙ ap (calls_of thread) (take-append-drop i lines) in
    grind (arith, all_left)

-- ---- the threads of a script

module _ (s : Setup) (lines : List ScriptLine) where
  thread_grow : (cs : List ScriptCall) (rs : List Answer) (ts : List Turn)
      (log more : List LogEntry) (t u : ℕ) → ThreadCame s cs rs ts log t → IsPrefix log more
      → t ≤ u → ThreadCame s cs rs ts more u
  thread_grow cs rs ts log more t u h p le = grind (arith, between_more, all_grow)

  pub threads_grow : (thread : ℕ) (all : List (List Answer)) (ts : List Turn)
      (log more : List LogEntry) (t u : ℕ) → ThreadsCame s lines thread all ts log t
      → IsPrefix log more → t ≤ u → ThreadsCame s lines thread all ts more u
  threads_grow thread [] ts log more t u h p le = h
  threads_grow thread (rs ∷ all) ts log more t u h p le = (
    h.0,
    h.1,
    h.2,
    thread_grow (calls_of thread lines) rs h.0 log more t u h.3 p le,
    threads_grow (suc thread) all h.1 log more t u h.4 p le,
  )

  threads_then : (thread : ℕ) (all : List (List Answer)) (ts : List Turn) (log : List LogEntry)
      (t : ℕ) (rs : List Answer) (mine : List Turn) (last : ℕ) → length all + thread ≡ last
      → ThreadsCame s lines thread all ts log t
      → ThreadCame s (calls_of last lines) rs mine log t
      → ThreadsCame s lines thread (all ++ rs ∷ []) (mine ++ ts) log t
  threads_then thread [] ts log t rs mine last e h m = grind (arith, append-nil)
  threads_then thread (bs ∷ all) ts log t rs mine last e h m = grind (
    arith,
    append_assoc,
    threads_then (suc thread) all h.1 log t rs mine last (omega (arith, e)) h.4 m,
  )

pub no_thread : (lines : List ScriptLine) (all : List (List Answer)) (k : Place) → IsWithin k
    → all ≡ [] → PlaysThreads lines 0 all k k
no_thread lines all k w none = grind arith

-- ---- seats that are split and joined

module _ {U E : Type 0} where
  -- the other seat of a split has no turns
  pub split_none : (k : Known U E) (n parts : ℕ) → turns_of (split_seat k n parts) ≡ []
  unfolding turns_of
  split_none k n parts = refl

  pub split_within : (k other : Known U E) (n parts : ℕ) → other ≡ split_seat k n parts
      → IsWithin other
  unfolding IsWithin
  split_within k other n parts is p le = grind arith

  pub kept_within : (k l : Known U E) (parts : ℕ) → l ≡ record k { parts = parts } → IsWithin k
      → IsWithin l
  unfolding IsWithin
  kept_within k l parts is w = grind arith

  pub kept_turns : (k l : Known U E) (parts : ℕ) → l ≡ record k { parts = parts }
      → turns_of l ≡ turns_of k
  unfolding turns_of
  kept_turns k l parts is = ap (λ (z : Known U E). own_list (with_pasts z.seen) z.own) is

  -- two seats that took turns, joined
  pub joined : (a b : Known U E) (j : Known U E) → j ≡ joined_seat a b → IsPrefix a.seen j.seen
      → IsPrefix b.seen j.seen → IsWithin a → IsWithin b
      → (turns_of j ≡ turns_of a ++ turns_of b) × IsWithin j
  unfolding turns_of IsWithin
  joined a b j is e y u v =
      grind (arith, own_joined, pasts_begins, pasts_within, within_append, within_begins)

-- One more thread took its turns beside the others. `k` was split into `ours` and `mine`; these
-- took turns, and were joined.
module _ (lines : List ScriptLine) (n last : ℕ) (last_is : last ≡ n + 1)
    (k ours mine : Place) (number : ℕ)
    (ours_is : ours ≡ record k { parts = k.parts - 1 })
    (mine_is : mine ≡ split_seat k number 1) (parts : 1 < k.parts)
    (a b j : Place) (join_is : j ≡ joined_seat a b)
    (seen_a : IsPrefix a.seen j.seen) (seen_b : IsPrefix b.seen j.seen) where
  pub thread_joined : (rs : List Answer) (all : List (List Answer))
      → PlaysThread (calls_of last lines) rs mine a → PlaysThreads lines n all ours b
      → PlaysThreads lines last (all ++ rs ∷ []) k j
  thread_joined rs all t o =
      let s = setup_at k in
      let both = joined a b j join_is seen_a seen_b t.grows.within o.grows.within in
      let mine_turns : turns_of mine ≡ [] =
      ap (λ (z : Place). turns_of z) mine_is ∙ split_none k number 1 in
      let ours_turns : turns_of ours ≡ turns_of k = kept_turns k ours (k.parts - 1) ours_is in
      let own : turns_of j ≡ (t.turns ++ o.turns) ++ turns_of k =
      grind (arith, append-nil, append_assoc) in
      grind (
        arith,
        entries_begin,
        le-max_left,
        le-max_right,
        begins_trans,
        length-append,
        threads_then,
        threads_grow,
        between_more,
        between_all,
        all_grow,
      )
