-- What each entry of the log does to what is held, to the fetches and to the replies.
use Rattle.std.proofs.Common.{◌≡◌, ◌+◌, ◌<◌, ◌≤◌, ◌++◌, ◌&&◌, ◌||◌, ℕ, List, ◌∷◌, length, Bool}
use Rattle.std.proofs.Common.{true, false, cond, not, Option, Some, None, sym, ap, ◌∙◌, refl, arith}
use Rattle.std.proofs.Common.{append-nil, ne_eqb}
use Rattle.std.specs.Prelude.{nat_le, nat_lt}
use Rattle.std.specs.List.{filter}
use Rattle.std.proofs.lemmas.Bool.{lt-leb, le-leb, lt-ltb, le-ltb, or_from, and_left, and_right}
use Rattle.resp_value.specs.declared.value.Value.{Value}
use Rattle.command_words.specs.Queries.{key_of, same_query, writes}
use Rattle.shared_cache.specs.declared.log.Wire.{Wire}
use Rattle.shared_cache.specs.declared.log.Wire.TheVariants.{Main, Side}
use Rattle.shared_cache.specs.declared.log.Shape.{Shape}
use Rattle.shared_cache.specs.declared.log.LogEntry.{LogEntry}
use Rattle.shared_cache.specs.declared.log.LogEntry.TheVariants.{Ask, Send, Got}
use Rattle.shared_cache.specs.declared.entry.CacheEntry.{CacheEntry}
use Rattle.shared_cache.specs.declared.notices.Notice.{Notice}
use Rattle.shared_cache.specs.declared.notices.Notice.TheVariants.{Reply}
use Rattle.shared_cache.specs.Notices.{notice_of, named_keys, invalidates, invalidates_as, is_reply}
use Rattle.shared_cache.specs.Log.{is_wire, replies, with_reply, caching_on_for}
use Rattle.shared_cache.specs.Held.{Setup, Key, Words, put_ask, put_read, numbers, held_for, hit_of}
use Rattle.shared_cache.specs.Held.{used_at, other_than, fetched, hold, held_by, filled_by, unless}
use Rattle.shared_cache.specs.Held.{leaving, is_key, sent, open_fetch, left, last_use, held}
use Rattle.shared_cache.specs.Held.{read_lead, command_in, is_named, may_overtake, got_ends}
use Rattle.shared_cache.specs.Steps.{read_number}
use Rattle.shared_cache.proofs.InPlace.{all_stay, filter_twice, filter_same_test}
use Rattle.shared_cache.proofs.Led.{led_some}
use Rattle.shared_cache.proofs.Filled.{is_gone, new_entry, replied_to}
use Rattle.shared_cache.proofs.Fetches.{stays}
use Rattle.shared_cache.proofs.HeldLists.{held_filter, none_held}

-- ---- an Ask that is a hit

module _ (s : Setup) (log : List LogEntry) (q : Words) (h : CacheEntry)
    (e : held_for q (held s log) ≡ Some h) where
  pub sent_hit : sent s (Ask q ∷ log) ≡ sent s log
  sent_hit = grind (arith, append-nil)

  pub open_hit : (n : ℕ) → open_fetch s (Ask q ∷ log) n ≡ open_fetch s log n
  open_hit n = grind arith

  pub held_hit : held s (Ask q ∷ log) ≡ held s log
  held_hit = grind arith

  pub use_hit : (k : Key)
      → last_use s (Ask q ∷ log) k ≡ used_at (Some q) k (length log + 1) (last_use s log k)
  use_hit k = ap (λ o. used_at (hit_of o q) k (length log + 1) (last_use s log k)) e

-- ---- an Ask that is none

hold_other : (q : Words) (o : Option Words) (gone : Bool) (v : Value) (n : ℕ)
    → hold (other_than q o) gone v n
    ≡ filter (λ h. not (same_query h.query q)) (hold o gone v n)
hold_other q o gone v n = grind arith

module _ (s : Setup) (log : List LogEntry) (q : Words) (e : held_for q (held s log) ≡ None) where
  pub sent_miss : sent s (Ask q ∷ log) ≡ sent s log ++ put_read s.mode
      (caching_on_for s.mode log (key_of q)) q
  sent_miss = ap (λ o. sent s log ++ put_ask o s.mode (caching_on_for s.mode log (key_of q)) q) e

  pub open_other : (n : ℕ) → (n ≡ read_number s log q → ⊥)
      → open_fetch s (Ask q ∷ log) n ≡ other_than q (open_fetch s log n)
  open_other n ne = grind (arith, ne_eqb)

  pub open_old : (n : ℕ) → n ≤ numbers s log
      → open_fetch s (Ask q ∷ log) n ≡ other_than q (open_fetch s log n)
  open_old n le =
      open_other n
      (let more = led_some (read_lead s.mode.caching (caching_on_for s.mode log (key_of q))) q in
      λ e. omega arith)

  pub open_new : (on : Bool) → caching_on_for s.mode log (key_of q) ≡ on
      → open_fetch s (Ask q ∷ log) (read_number s log q) ≡ fetched on q
  open_new on c = grind arith

  pub held_miss : length (replies s.mode Main log) ≤ numbers s log
      → held s (Ask q ∷ log) ≡ held s log
  held_miss within =
      held_filter (open_fetch s log) (open_fetch s (Ask q ∷ log)) (left s log) (left s log)
      (λ (h : CacheEntry). not (same_query h.query q)) (replies s.mode Main log)
      (λ n v le. ap (λ o. hold o (left s log n) v n) (open_old n (omega arith))
      ∙ hold_other q (open_fetch s log n) (left s log n) v n)
      ∙ none_held q (held s log) e

  pub use_miss : (k : Key) → last_use s (Ask q ∷ log) k ≡ last_use s log k
  use_miss k = ap (λ o. used_at (hit_of o q) k (length log + 1) (last_use s log k)) e

-- ---- a Send

pub held_send : (s : Setup) (log : List LogEntry) (ws : Words)
    → held s (Send ws ∷ log) ≡ filter (λ h. not (writes ws (key_of h.query))) (held s log)
held_send s log ws = grind (arith, held_filter)

-- ---- what a value that is got ends

unless_same : (t u : Key → Bool) (o : Option Words) → ((k : Key) → t k ≡ u k)
    → unless t o ≡ unless u o
unless_same t u o same = λ i. unless (λ k. same k i) o

unless_never : (t : Key → Bool) (o : Option Words) → ((k : Key) → t k ≡ false)
    → unless t o ≡ o
unless_never t None never = refl
unless_never t (Some q) never = ap (λ b. cond b None (Some q)) (never (key_of q))

hold_unless : (t : Key → Bool) (o : Option Words) (gone : Bool) (u : Value) (n : ℕ)
    → hold (unless t o) gone u n ≡ filter (λ h. not (t (key_of h.query))) (hold o gone u n)
hold_unless t o gone u n = grind arith

module _ (s : Setup) (log : List LogEntry) (w : Wire) (v : Value)
    (none : filled_by w (notice_of s.mode w v)
    (open_fetch s log (length (replies s.mode Main log) + 1)) ≡ None)
    (quiet : may_overtake (notice_of s.mode w v) w s.mode.shape ≡ false) where
  left_unfilled : (m : ℕ) → left s (Got w v ∷ log) m ≡ left s log m
  left_unfilled m = grind arith

  pub use_unfilled : (k : Key) → last_use s (Got w v ∷ log) k ≡ last_use s log k
  use_unfilled k = ap (λ f. used_at f k (length log + 1) (last_use s log k)) none

  pub ends_unfilled : (n : ℕ) (k : Key)
      → got_ends s (sent s log) (length (replies s.mode Main log)) w v n k
      ≡ invalidates s.mode w v k
  ends_unfilled n k =
      ap (λ b. (b && (nat_lt n (length (replies s.mode Main log) + 1)
      && is_named (command_in s (sent s log) (length (replies s.mode Main log) + 1)) k))
      || invalidates s.mode w v k) quiet

  pub open_unfilled : (n : ℕ) → open_fetch s (Got w v ∷ log) n
      ≡ unless (invalidates s.mode w v) (open_fetch s log n)
  open_unfilled n =
      unless_same (got_ends s (sent s log) (length (replies s.mode Main log)) w v n)
      (invalidates s.mode w v) (open_fetch s log n) (ends_unfilled n)

  -- and is no reply on Main
  pub held_invalidated : replies s.mode Main (Got w v ∷ log) ≡ replies s.mode Main log
      → held s (Got w v ∷ log) ≡ filter (λ h. not (invalidates s.mode w v (key_of h.query)))
      (held s log)
  held_invalidated same =
      ap (held_by (open_fetch s (Got w v ∷ log)) (left s (Got w v ∷ log))) same
      ∙ held_filter (open_fetch s log) (open_fetch s (Got w v ∷ log)) (left s log)
      (left s (Got w v ∷ log))
      (λ (h : CacheEntry). not (invalidates s.mode w v (key_of h.query))) (replies s.mode Main log)
      (λ n u le. (λ i. hold (open_unfilled n i) (left_unfilled n i) u n)
      ∙ hold_unless (invalidates s.mode w v) (open_fetch s log n) (left s log n) u n)

-- ---- a push

none_replied : (here : Bool) (k : Notice) (v : Value) (vs : List Value) → is_reply k ≡ false
    → with_reply here k v vs ≡ vs
none_replied here k v vs p = grind arith

none_filled : (w : Wire) (k : Notice) (o : Option Words) → is_reply k ≡ false
    → filled_by w k o ≡ None
none_filled w k o p = grind arith

none_overtakes : (k : Notice) (w : Wire) (shape : Shape) → is_reply k ≡ false
    → may_overtake k w shape ≡ false
none_overtakes k w shape p = grind arith

module _ (s : Setup) (log : List LogEntry) (w : Wire) (v : Value)
    (p : is_reply (notice_of s.mode w v) ≡ false) where
  pub replies_push : (u : Wire) → replies s.mode u (Got w v ∷ log) ≡ replies s.mode u log
  replies_push u = none_replied (is_wire w u) (notice_of s.mode w v) v (replies s.mode u log) p

  push_fills_none : filled_by w (notice_of s.mode w v)
      (open_fetch s log (length (replies s.mode Main log) + 1)) ≡ None
  push_fills_none = none_filled w (notice_of s.mode w v)
      (open_fetch s log (length (replies s.mode Main log) + 1)) p

  push_quiet : may_overtake (notice_of s.mode w v) w s.mode.shape ≡ false
  push_quiet = none_overtakes (notice_of s.mode w v) w s.mode.shape p

  pub ends_push : (n : ℕ) (k : Key)
      → got_ends s (sent s log) (length (replies s.mode Main log)) w v n k
      ≡ invalidates s.mode w v k
  ends_push = ends_unfilled s log w v push_fills_none push_quiet

  pub open_push : (n : ℕ) → open_fetch s (Got w v ∷ log) n
      ≡ unless (invalidates s.mode w v) (open_fetch s log n)
  open_push = open_unfilled s log w v push_fills_none push_quiet

  pub held_push : held s (Got w v ∷ log) ≡ filter
      (λ h. not (invalidates s.mode w v (key_of h.query))) (held s log)
  held_push = held_invalidated s log w v push_fills_none push_quiet (replies_push Main)

  pub use_push : (k : Key) → last_use s (Got w v ∷ log) k ≡ last_use s log k
  use_push = use_unfilled s log w v push_fills_none push_quiet

-- ---- a reply on Side

never_invalidates : (n : Notice) (keys : List Key) (k : Key) → n ≡ Reply
    → invalidates_as n keys k ≡ false
never_invalidates n keys k e = ap (λ m. invalidates_as m keys k) e

quiet_side : (n : Notice) (shape : Shape) → may_overtake n Side shape ≡ false
quiet_side n shape = grind arith

module _ (s : Setup) (log : List LogEntry) (v : Value) (e : notice_of s.mode Side v ≡ Reply) where
  spares_all : (k : Key) → invalidates s.mode Side v k ≡ false
  spares_all k = never_invalidates (notice_of s.mode Side v) (named_keys v) k e

  pub open_side : (n : ℕ) → open_fetch s (Got Side v ∷ log) n ≡ open_fetch s log n
  open_side n =
      open_unfilled s log Side v refl (quiet_side (notice_of s.mode Side v) s.mode.shape) n
      ∙ unless_never (invalidates s.mode Side v) (open_fetch s log n) spares_all

  pub held_side : held s (Got Side v ∷ log) ≡ held s log
  held_side =
      held_invalidated s log Side v refl (quiet_side (notice_of s.mode Side v) s.mode.shape) refl
      ∙ filter_same_test (λ (h : CacheEntry). not (invalidates s.mode Side v (key_of h.query)))
      (λ h. true) (held s log) (λ h. ap not (spares_all (key_of h.query)))
      ∙ all_stay (held s log)

  pub use_side : (k : Key) → last_use s (Got Side v ∷ log) k ≡ last_use s log k
  use_side =
      use_unfilled s log Side v refl (quiet_side (notice_of s.mode Side v) s.mode.shape)

  pub replies_side : replies s.mode Side (Got Side v ∷ log) ≡ v ∷ replies s.mode Side log
  replies_side = ap (λ m. with_reply true m v (replies s.mode Side log)) e

-- ---- a reply on Main

-- the keys of which it ends all that was fetched before: of two links those that its command names
abbrev pub overtaken : Setup → List LogEntry → Key → Bool
overtaken s log k =
    may_overtake Reply Main s.mode.shape
    && is_named (command_in s (sent s log) (length (replies s.mode Main log) + 1)) k

or_none : (b : Bool) → (b || false) ≡ b
or_none true = refl
or_none false = refl

and_none : (b c : Bool) → c ≡ false → (b && c) ≡ false
and_none b c e = and_right b c e

-- the key that leaves takes its fetches along, and so do those that are overtaken
hold_both : (t : Key → Bool) (l : Option Key) (o : Option Words) (gone : Bool) (u : Value) (n : ℕ)
    → hold (unless t o) (gone || is_key l o) u n
    ≡ filter (λ h. not (t (key_of h.query)) && not (is_gone l (key_of h.query))) (hold o gone u n)
hold_both t None None gone u n = refl
hold_both t (Some j) None gone u n = refl
hold_both t l (Some q) gone u n = grind arith

-- a reply that fills nothing
pub replied_none : (capacity : ℕ) (use_of : Key → ℕ) (n : ℕ) (v : Value) (t : Key → Bool)
    (hs : List CacheEntry)
    → replied_to capacity use_of None n v t hs ≡ filter (λ h. not (t (key_of h.query))) hs
replied_none capacity use_of n v t hs =
    append-nil (filter (λ h. true) (filter (λ (h : CacheEntry). not (t (key_of h.query))) hs))
    ∙ all_stay (filter (λ (h : CacheEntry). not (t (key_of h.query))) hs)

hold_new : (o : Option Words) (v : Value) (n : ℕ) → hold o false v n ≡ new_entry o n v
hold_new None v n = refl
hold_new (Some q) v n = refl

module _ (s : Setup) (log : List LogEntry) (v : Value) (e : notice_of s.mode Main v ≡ Reply) where
  pub replies_reply : replies s.mode Main (Got Main v ∷ log) ≡ v ∷ replies s.mode Main log
  replies_reply = ap (λ m. with_reply true m v (replies s.mode Main log)) e

  filled_reply : (o : Option Words) → open_fetch s log (length (replies s.mode Main log) + 1) ≡ o
      → filled_by Main (notice_of s.mode Main v)
      (open_fetch s log (length (replies s.mode Main log) + 1)) ≡ o
  filled_reply o f = (λ i. filled_by Main (e i) (f i))

  ends_reply : (n : ℕ) (before : Bool) (k : Key)
      → nat_lt n (length (replies s.mode Main log) + 1) ≡ before
      → got_ends s (sent s log) (length (replies s.mode Main log)) Main v n k
      ≡ (may_overtake Reply Main s.mode.shape && (before
      && is_named (command_in s (sent s log) (length (replies s.mode Main log) + 1)) k))
  ends_reply n before k l =
      (λ i. (may_overtake (e i) Main s.mode.shape && (l i
      && is_named (command_in s (sent s log) (length (replies s.mode Main log) + 1)) k))
      || invalidates_as (e i) (named_keys v) k)
      ∙ or_none (may_overtake Reply Main s.mode.shape && (before
      && is_named (command_in s (sent s log) (length (replies s.mode Main log) + 1)) k))

  pub ends_older : (n : ℕ) (k : Key) → n ≤ length (replies s.mode Main log)
      → got_ends s (sent s log) (length (replies s.mode Main log)) Main v n k ≡ overtaken s log k
  ends_older n k le =
      ends_reply n true k (lt-ltb n (length (replies s.mode Main log) + 1) (omega arith))

  pub open_older : (n : ℕ) → n ≤ length (replies s.mode Main log)
      → open_fetch s (Got Main v ∷ log) n ≡ unless (overtaken s log) (open_fetch s log n)
  open_older n le =
      unless_same (got_ends s (sent s log) (length (replies s.mode Main log)) Main v n)
      (overtaken s log) (open_fetch s log n) (λ k. ends_older n k le)

  pub open_newer : (n : ℕ) → length (replies s.mode Main log) < n
      → open_fetch s (Got Main v ∷ log) n ≡ open_fetch s log n
  open_newer n lt =
      unless_never (got_ends s (sent s log) (length (replies s.mode Main log)) Main v n)
      (open_fetch s log n)
      (λ k. ends_reply n false k (le-ltb n (length (replies s.mode Main log) + 1) (omega arith))
      ∙ and_none (may_overtake Reply Main s.mode.shape) false refl)

  module _ (o : Option Words)
      (f : open_fetch s log (length (replies s.mode Main log) + 1) ≡ o) where
    abbrev gone : Option Key
    gone = leaving s.capacity (last_use s log) o (held s log)

    left_filled : (m : ℕ)
        → left s (Got Main v ∷ log)
        m ≡ (left s log m ||
        (nat_le m (length (replies s.mode Main log)) && is_key gone (open_fetch s log m)))
    left_filled m =
        ap (λ g. left s log m || (nat_le m (length (replies s.mode Main log))
        && is_key (leaving s.capacity (last_use s log) g (held s log)) (open_fetch s log m)))
        (filled_reply o f)

    left_answered : (m : ℕ) → m ≤ length (replies s.mode Main log)
        → left s (Got Main v ∷ log) m ≡ (left s log m || is_key gone (open_fetch s log m))
    left_answered m le =
        left_filled m
        ∙ ap (λ b. left s log m || (b && is_key gone (open_fetch s log m)))
        (le-leb m (length (replies s.mode Main log)) le)

    left_new : left s (Got Main v ∷ log) (length (replies s.mode Main log) + 1) ≡ false
    left_new =
        left_filled (length (replies s.mode Main log) + 1)
        ∙ or_from _ _ (stays s log (length (replies s.mode Main log) + 1) (omega arith))
        (and_left _ _ (lt-leb (length (replies s.mode Main log) + 1)
        (length (replies s.mode Main log)) (omega arith)))

    held_others : held_by (open_fetch s (Got Main v ∷ log)) (left s (Got Main v ∷ log))
        (replies s.mode Main log)
        ≡ filter (λ h. not (is_gone gone (key_of h.query)))
        (filter (λ h. not (overtaken s log (key_of h.query))) (held s log))
    held_others =
        held_filter (open_fetch s log) (open_fetch s (Got Main v ∷ log)) (left s log)
        (left s (Got Main v ∷ log))
        (λ (h : CacheEntry). not (overtaken s log (key_of h.query))
        && not (is_gone gone (key_of h.query))) (replies s.mode Main log)
        (λ n u le. (λ i. hold (open_older n le i) (left_answered n le i) u n)
        ∙ hold_both (overtaken s log) gone (open_fetch s log n) (left s log n) u n)
        ∙ sym (filter_twice (λ (h : CacheEntry). not (overtaken s log (key_of h.query)))
        (λ h. not (is_gone gone (key_of h.query))) (held s log))

    held_last : hold (open_fetch s (Got Main v ∷ log) (length (replies s.mode Main log) + 1))
        (left s (Got Main v ∷ log) (length (replies s.mode Main log) + 1)) v
        (length (replies s.mode Main log) + 1)
        ≡ new_entry o (length (replies s.mode Main log) + 1) v
    held_last =
        (λ i. hold ((open_newer (length (replies s.mode Main log) + 1) (omega arith) ∙ f) i)
        (left_new i) v (length (replies s.mode Main log) + 1))
        ∙ hold_new o v (length (replies s.mode Main log) + 1)

    pub held_reply : held s (Got Main v ∷ log)
        ≡ replied_to s.capacity (last_use s log) o (length (replies s.mode Main log) + 1) v
        (overtaken s log) (held s log)
    held_reply =
        ap (held_by (open_fetch s (Got Main v ∷ log)) (left s (Got Main v ∷ log))) replies_reply
        ∙ (λ i. held_others i ++ held_last i)

    pub use_reply : (k : Key) → last_use s (Got Main v ∷ log) k ≡ used_at o k (length log + 1)
        (last_use s log k)
    use_reply k =
        ap (λ p. used_at p k (length log + 1) (last_use s log k)) (filled_reply o f)
