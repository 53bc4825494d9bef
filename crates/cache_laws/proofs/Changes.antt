-- What an entry does to what is held, and when a key was last used.
use Rattle.std.proofs.Common.{◌≡◌, ◌+◌, ◌≤◌, ◌⊎◌, ℕ, List, [], ◌∷◌, length, Bool, true, false, not}
use Rattle.std.proofs.Common.{Option, Some, None, sym, ◌∙◌, refl, inl, inr, arith}
use Rattle.std.specs.List.{filter}
use Rattle.resp_value.specs.declared.value.Value.{Value}
use Rattle.command_words.specs.Queries.{key_of, writes}
use Rattle.shared_cache.specs.declared.log.Wire.{Wire}
use Rattle.shared_cache.specs.declared.log.Wire.TheVariants.{Main, Side}
use Rattle.shared_cache.specs.declared.log.LogEntry.{LogEntry}
use Rattle.shared_cache.specs.declared.log.LogEntry.TheVariants.{Ask, Send, Poll, TakeOut, Got, End}
use Rattle.shared_cache.specs.declared.log.LogEntry.TheVariants.{Bad}
use Rattle.shared_cache.specs.declared.entry.CacheEntry.{CacheEntry}
use Rattle.shared_cache.specs.declared.notices.Notice.{Notice}
use Rattle.shared_cache.specs.declared.notices.Notice.TheVariants.{Reply}
use Rattle.shared_cache.specs.Notices.{kind_of, notice_of, invalidates, is_reply}
use Rattle.shared_cache.specs.Log.{replies}
use Rattle.shared_cache.specs.Held.{Setup, Key, Words, held_for, ends, open_fetch, left, last_use}
use Rattle.shared_cache.specs.Held.{held}
use Rattle.shared_cache.specs.Laws.{LegalLog}
use Rattle.shared_cache.proofs.Filled.{replied_to}
use Rattle.shared_cache.proofs.HeldLists.{held_none}
use Rattle.shared_cache.proofs.HeldSteps.{held_hit, held_miss, held_send, held_push, ends_push}
use Rattle.shared_cache.proofs.HeldSteps.{held_side, held_reply, ends_older, overtaken}
use Rattle.shared_cache.proofs.HeldSteps.{replied_none}
use Rattle.shared_cache.proofs.InPlace.{none_stay}
use Rattle.shared_cache.proofs.LegalLogs.{replies_within}

-- ---- what an entry does

-- it ends what is held of some keys: what fetches with a reply may fill
pub record Ended (s : Setup) (log : List LogEntry) (e : LogEntry) : Type 0 where
  pub test : Key → Bool
  pub ends_is : (n : ℕ) (k : Key) → n ≤ length (replies s.mode Main log)
      → ends s log n e k ≡ test k
  pub held_is : held s (e ∷ log) ≡ filter (λ h. not (test (key_of h.query))) (held s log)

-- it fills a fetch, and ends what is held of some keys
pub record Fills (s : Setup) (log : List LogEntry) (e : LogEntry) : Type 0 where
  pub value : Value
  pub got : e ≡ Got Main value
  pub kind : kind_of value ≡ Reply
  pub query : Words
  pub fetch : open_fetch s log (length (replies s.mode Main log) + 1) ≡ Some query
  pub test : Key → Bool
  pub ends_is : (n : ℕ) (k : Key) → n ≤ length (replies s.mode Main log)
      → ends s log n e k ≡ test k
  pub held_is : held s (e ∷ log) ≡ replied_to s.capacity (last_use s log) (Some query)
      (length (replies s.mode Main log) + 1) value test (held s log)

abbrev pub Change : Setup → List LogEntry → LogEntry → Type 0
Change s log e = (held s (e ∷ log) ≡ held s log) ⊎ (Ended s log e ⊎ Fills s log e)

reply_is : (k : Notice) → is_reply k ≡ true → k ≡ Reply
reply_is k e = grind arith

asked_change : (s : Setup) (log : List LogEntry) (q : Words) (o : Option CacheEntry)
    → held_for q (held s log) ≡ o → LegalLog s log → held s (Ask q ∷ log) ≡ held s log
asked_change s log q (Some h) e legal = held_hit s log q h e
asked_change s log q None e legal = held_miss s log q e (replies_within s log legal)

replied : (s : Setup) (log : List LogEntry) (v : Value) → kind_of v ≡ Reply → (o : Option Words)
    → open_fetch s log (length (replies s.mode Main log) + 1) ≡ o → Change s log (Got Main v)
replied s log v kind None f = inr (inl (record {
  test = overtaken s log;
  ends_is = λ n k le. ends_older s log v kind n k le;
  held_is = held_reply s log v kind None f
      ∙ replied_none s.capacity (last_use s log) (length (replies s.mode Main log) + 1) v
      (overtaken s log) (held s log);
}))
replied s log v kind (Some q) f = inr (inr (record {
  value = v;
  got = refl;
  kind = kind;
  query = q;
  fetch = f;
  test = overtaken s log;
  ends_is = λ n k le. ends_older s log v kind n k le;
  held_is = held_reply s log v kind (Some q) f;
}))

got_change : (s : Setup) (log : List LogEntry) (w : Wire) (v : Value) (b : Bool)
    → is_reply (notice_of s.mode w v) ≡ b → Change s log (Got w v)
got_change s log Main v true e =
    replied s log v (reply_is (notice_of s.mode Main v) e)
    (open_fetch s log (length (replies s.mode Main log) + 1)) refl
got_change s log Side v true e = inl (held_side s log v (reply_is (notice_of s.mode Side v) e))
got_change s log w v false e = inr (inl (record {
  test = invalidates s.mode w v;
  ends_is = λ n k le. ends_push s log w v e n k;
  held_is = held_push s log w v e;
}))

all_end : (s : Setup) (log : List LogEntry) (e : LogEntry)
    → ((n : ℕ) (k : Key) → ends s log n e k ≡ true) → held s (e ∷ log) ≡ [] → Ended s log e
all_end s log e every none = record {
  test = λ k. true;
  ends_is = λ n k le. every n k;
  held_is = none ∙ sym (none_stay (held s log));
}

pub change : (s : Setup) (log : List LogEntry) (e : LogEntry) → LegalLog s (e ∷ log)
    → Change s log e
change s log (Ask q) legal =
    inl (asked_change s log q (held_for q (held s log)) refl legal.0)
change s log (Send ws) legal = inr (inl (record {
  test = writes ws;
  ends_is = λ n k le. refl;
  held_is = held_send s log ws;
}))
change s log (Poll n) legal = inl refl
change s log (TakeOut w n) legal = inl refl
change s log (Got w v) legal =
    got_change s log w v (is_reply (notice_of s.mode w v)) refl
change s log (End w) legal =
    inr (inl (all_end s log (End w) (λ n k. refl)
    (held_none (left s log) (replies s.mode Main log))))
change s log (Bad w v) legal =
    inr (inl (all_end s log (Bad w v) (λ n k. refl)
    (held_none (left s log) (replies s.mode Main log))))
