-- The commands, the values got and the replies grow with the log.
use Rattle.std.proofs.Common.{◌≡◌, ◌++◌, List, [], ◌∷◌, true, cond, sym, ap, ◌∙◌, refl, append-nil}
use Rattle.std.proofs.Common.{append_assoc, arith, subst, inl, inr, ◌⊎◌}
use Rattle.std.proofs.lemmas.List.{map-append, reverse-append}
use Rattle.std.proofs.lemmas.List.Elements.{filter-append}
use Rattle.std.specs.List.{filter}
use Rattle.std.specs.Prelude.{map, reverse}
use Rattle.resp_value.specs.declared.value.Value.{Value}
use Rattle.shared_cache.specs.declared.log.Wire.{Wire}
use Rattle.shared_cache.specs.declared.log.Wire.TheVariants.{Main, Side}
use Rattle.shared_cache.specs.declared.log.LogEntry.{LogEntry}
use Rattle.shared_cache.specs.declared.log.LogEntry.TheVariants.{Ask, Send, Poll, TakeOut, Got, End}
use Rattle.shared_cache.specs.declared.log.LogEntry.TheVariants.{Bad}
use Rattle.shared_cache.specs.declared.notices.Notice.{Notice}
use Rattle.shared_cache.specs.declared.notices.Notice.TheVariants.{Reply}
use Rattle.shared_cache.specs.Notices.{notice_of, is_reply}
use Rattle.shared_cache.specs.Log.{handshake, is_told, replies, with_reply, caching_on}
use Rattle.shared_cache.specs.Held.{Setup, Words, SentCommand, put_command, sent, commands}
use Rattle.resp_value.specs.Lists.{IsPrefix}
use Rattle.shared_cache.specs.Laws.{gots, InTurn, CommandsGrow, RepliesAreGots}
use Rattle.shared_cache.proofs.Handshakes.{told_of_one, handshake_same, handshake_grows, side_same}
use Rattle.shared_cache.proofs.LegalLogs.{told_first}

pub after : (front : List Words) (xs ys : List SentCommand) → IsPrefix xs ys
    → IsPrefix (front ++ map (λ c. c.words) xs) (front ++ map (λ c. c.words) ys)
after front xs ys p = (
  map (λ c. c.words) p.0,
  append_assoc front (map (λ c. c.words) xs) (map (λ c. c.words) p.0)
      ∙ ap (λ l. front ++ l)
      (sym (map-append (λ (c : SentCommand). c.words) xs p.0) ∙ ap (map (λ c. c.words)) p.1),
)

pub main_grows : (s : Setup) (e : LogEntry) (log : List LogEntry)
    → IsPrefix (sent s log) (sent s (e ∷ log))
main_grows s (Ask q) log = grind arith
main_grows s (Send ws) log = (put_command s.mode (caching_on s.mode log) ws, refl)
main_grows s e log = ([], append-nil (sent s log))

-- of one link Side is told from the start, and of two nothing is sent before it is told
pub in_turn : (s : Setup) (log : List LogEntry) → InTurn s log
    → (is_told s.mode log ≡ true) ⊎ (sent s log ≡ [])
in_turn s log (inl one) = inl (told_of_one s.mode log one)
in_turn s log (inr legal) = told_first s log legal

pub before_turn : (s : Setup) (e : LogEntry) (log : List LogEntry) → InTurn s (e ∷ log)
    → InTurn s log
before_turn s e log (inl one) = inl one
before_turn s e log (inr legal) = inr legal.0

-- what is sent goes behind the handshake as it is by then
handshake_behind : (s : Setup) (e : LogEntry) (log : List LogEntry) → is_told s.mode log ≡ true
    → IsPrefix (commands s Main log) (commands s Main (e ∷ log))
handshake_behind s e log told =
    subst (λ l. IsPrefix (commands s Main log)
    (l ++ map (λ (c : SentCommand). c.words) (sent s (e ∷ log))))
    (sym (handshake_same s.mode e log told))
    (after (handshake s.mode Main log) (sent s log) (sent s (e ∷ log)) (main_grows s e log))

-- the handshake grows where nothing was sent behind it
before_sent : (s : Setup) (e : LogEntry) (log : List LogEntry) → sent s log ≡ []
    → IsPrefix (commands s Main log) (commands s Main (e ∷ log))
before_sent s e log none =
    let g = handshake_grows s.mode e log in
    let more : List Words = map (λ (c : SentCommand). c.words) (sent s (e ∷ log)) in (
      g.0 ++ more,
      ap (λ cs. (handshake s.mode Main log ++ map (λ (c : SentCommand). c.words) cs)
          ++ (g.0 ++ more)) none
          ∙ ap (λ l. l ++ (g.0 ++ more)) (append-nil (handshake s.mode Main log))
          ∙ sym (append_assoc (handshake s.mode Main log) g.0 more)
          ∙ ap (λ l. l ++ more) g.1,
    )

pub commands_grow : CommandsGrow
commands_grow s Main e log turn = elim (in_turn s log (before_turn s e log turn)) [
  | inl told ↦ handshake_behind s e log told
  | inr none ↦ before_sent s e log none
]
commands_grow s Side e log turn = (
  [],
  append-nil (commands s Side log)
      ∙ ap (λ l. l ++ []) (sym (side_same s.mode log (e ∷ log))),
)

-- ---- the replies are the values got that are no push

reply_added : (k : Notice) (v : Value) (vs : List Value)
    → reverse (with_reply true k v vs) ≡ reverse vs ++ cond (is_reply k) (v ∷ []) []
reply_added Reply v vs = reverse-append (v ∷ []) vs
reply_added k v vs = sym (append-nil (reverse vs))

got_here : (s : Setup) (w : Wire) (v : Value) (vs gs : List Value)
    → reverse vs ≡ filter (λ u. is_reply (notice_of s.mode w u)) gs
    → reverse (with_reply true (notice_of s.mode w v) v vs) ≡ filter
    (λ u. is_reply (notice_of s.mode w u)) (gs ++ v ∷ [])
got_here s w v vs gs e = grind (arith, reply_added, filter-append)

pub replies_are_gots : RepliesAreGots
replies_are_gots s w [] = refl
replies_are_gots s w (Ask q ∷ log) = replies_are_gots s w log
replies_are_gots s w (Send ws ∷ log) = replies_are_gots s w log
replies_are_gots s w (Poll n ∷ log) = replies_are_gots s w log
replies_are_gots s w (TakeOut u n ∷ log) = replies_are_gots s w log
replies_are_gots s Main (Got Main v ∷ log) =
    got_here s Main v (replies s.mode Main log) (gots Main log) (replies_are_gots s Main log)
replies_are_gots s Main (Got Side v ∷ log) = replies_are_gots s Main log
replies_are_gots s Side (Got Main v ∷ log) = replies_are_gots s Side log
replies_are_gots s Side (Got Side v ∷ log) =
    got_here s Side v (replies s.mode Side log) (gots Side log) (replies_are_gots s Side log)
replies_are_gots s w (End u ∷ log) = replies_are_gots s w log
replies_are_gots s w (Bad u v ∷ log) = replies_are_gots s w log
