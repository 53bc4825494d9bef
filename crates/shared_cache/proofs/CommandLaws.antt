-- The laws of the commands of a legal log.
use Rattle.std.proofs.Common.{◌≡◌, ◌<◌, ◌≤◌, ◌++◌, ℕ, List, [], ◌∷◌, length, drop, Bool, true}
use Rattle.std.proofs.Common.{false, Option, Some, None, sym, ap, ◌∙◌, refl, subst}
use Rattle.std.proofs.Common.{inl, inr, arith, append-nil, append_assoc, length-append}
use Rattle.std.proofs.lemmas.Bool.{cases_Bool}
use Rattle.std.proofs.lemmas.List.{drop-append-le, drop_all, map-append, length-map}
use Rattle.std.proofs.lemmas.Option.{slice_get_within}
use Rattle.std.specs.Prelude.{◌-◌, map}
use Rattle.std.specs.List.{flat_map}
use Rattle.resp_value.specs.declared.value.Value.{Value}
use Rattle.command_words.specs.Words.{reading}
use Rattle.command_words.specs.StringWords.{string_reading}
use Rattle.command_words.specs.HashWords.{hash_reading}
use Rattle.command_words.specs.KeyWords.{key_reading}
use Rattle.command_words.specs.ConnectionWords.{connection_reading}
use Rattle.command_words.specs.ClientWords.{client_reading}
use Rattle.command_words.specs.Control.{is_control}
use Rattle.command_words.specs.Queries.{reads_as_cacheable, key_of, written_by, writes}
use Rattle.shared_cache.specs.declared.log.Wire.TheVariants.{Main, Side}
use Rattle.shared_cache.specs.declared.log.ClientMode.{ClientMode}
use Rattle.shared_cache.specs.declared.log.LogEntry.{LogEntry}
use Rattle.shared_cache.specs.declared.log.LogEntry.TheVariants.{Ask, Send, Poll, TakeOut, Got, End}
use Rattle.shared_cache.specs.declared.log.LogEntry.TheVariants.{Bad}
use Rattle.shared_cache.specs.declared.entry.CacheEntry.{CacheEntry}
use Rattle.resp_value.specs.declared.value.Proto.{Proto}
use Rattle.resp_value.specs.declared.value.Proto.TheVariants.{Two, Three}
use Rattle.shared_cache.specs.declared.log.Wire.{Wire}
use Rattle.shared_cache.specs.declared.log.Shape.{Shape}
use Rattle.shared_cache.specs.declared.log.Shape.TheVariants.{Single, Pair}
use Rattle.shared_cache.specs.declared.notices.Notice.{Notice}
use Rattle.shared_cache.specs.declared.notices.Notice.TheVariants.{Reply}
use Rattle.shared_cache.specs.Notices.{notice_of}
use Rattle.shared_cache.specs.declared.lead.CachingWord.{CachingWord}
use Rattle.shared_cache.specs.declared.lead.CachingWord.TheVariants.{Yes, No}
use Rattle.shared_cache.specs.Log.{steps_of, put_tracking, put_step, handshake, handshake_length}
use Rattle.shared_cache.specs.Log.{is_wire, with_reply, replies, reply_in, is_ready, is_accepted}
use Rattle.shared_cache.specs.Log.{is_told, told_id, caching_on, caching_on_for}
use Rattle.shared_cache.specs.Held.{Setup, Key, Words, SentCommand, Caller, Library, put_ask}
use Rattle.shared_cache.specs.Held.{put_read, caching_command, read_lead, send_lead, is_read}
use Rattle.shared_cache.specs.Held.{put_command, held_for, numbers, sent, open_fetch, held}
use Rattle.shared_cache.specs.Held.{commands, got_ends}
use Rattle.shared_cache.specs.Laws.{Every, IsQuery, LegalLog, CommandsHaveWords, HandshakeFirst}
use Rattle.shared_cache.specs.Laws.{NoControl, NoLaterWrite}
use Rattle.shared_cache.proofs.Every.{every_append}
use Rattle.shared_cache.proofs.Led.{own, every_led}
use Rattle.shared_cache.proofs.LegalLogs.{newest, accepted_there, told_when_ready}
use Rattle.shared_cache.proofs.Handshakes.{whole, kept_reply, told_later, handshake_same}
use Rattle.shared_cache.proofs.FetchLaws.{unless_some, asked_some, place_is_query}

-- ---- commands of a legal log

is_cacheable_query : (p : Words) → IsQuery p → reads_as_cacheable (reading p) ≡ true
is_cacheable_query p e = grind arith

has_words : (p : Words) → IsQuery p → 0 < length p
unfolding reading
has_words [] e = absurd (let no : None ≡ Some [] = e in cc)
has_words (w ∷ ws) e = omega arith

query_writes_none : (p : Words) (k : Key) → IsQuery p → writes p k ≡ false
unfolding written_by
query_writes_none p k e = grind (arith, is_cacheable_query)

caching_writes_none : (w : CachingWord) (k : Key) → writes (caching_command w).words k ≡ false
unfolding written_by reading string_reading hash_reading key_reading connection_reading
    client_reading
caching_writes_none Yes k = refl
caching_writes_none No k = refl

query_is_plain : (p : Words) → IsQuery p → is_control p ≡ false
unfolding is_control
query_is_plain p e = grind (arith, is_cacheable_query)

every_put : (P : SentCommand → Type 0) (o : Option CacheEntry) (m : ClientMode) (on : Bool)
    (q : Words) → ((w : CachingWord) → P (caching_command w)) → P (own q)
    → Every P (put_ask o m on q)
every_put P (Some h) m on q library p = tt
every_put P None m on q library p = every_led P (read_lead m.caching on) q library p

-- what holds of each query, of the words of each Send and of what goes before them holds of all
-- that was sent
every_sent : (P : SentCommand → Type 0) (s : Setup) → ((w : CachingWord) → P (caching_command w))
    → ((q : Words) → IsQuery q → P (own q))
    → ((ws : Words) → is_control ws ≡ false → 0 < length ws → P (own ws))
    → (log : List LogEntry) → LegalLog s log → Every P (sent s log)
every_sent P s library asks sends [] l = tt
every_sent P s library asks sends (Ask q ∷ log) l =
    every_append P (sent s log)
    (put_ask (held_for q (held s log)) s.mode (caching_on_for s.mode log (key_of q)) q)
    (every_sent P s library asks sends log l.0)
    (every_put P (held_for q (held s log)) s.mode
    (caching_on_for s.mode log (key_of q)) q library (asks q (newest s log (Ask q) l).0))
every_sent P s library asks sends (Send ws ∷ log) l =
    let k = newest s log (Send ws) l in
    every_append P (sent s log) (put_command s.mode (caching_on s.mode log) ws)
    (every_sent P s library asks sends log l.0)
    (every_led P (send_lead s.mode.caching (caching_on s.mode log) (is_read ws)) ws library
    (sends ws k.0 k.2))
every_sent P s library asks sends (Poll n ∷ log) l = every_sent P s library asks sends log l.0
every_sent P s library asks sends (TakeOut w n ∷ log) l =
    every_sent P s library asks sends log l.0
every_sent P s library asks sends (Got w v ∷ log) l = every_sent P s library asks sends log l.0
every_sent P s library asks sends (End w ∷ log) l = every_sent P s library asks sends log l.0
every_sent P s library asks sends (Bad w v ∷ log) l = every_sent P s library asks sends log l.0

pub no_control : NoControl
no_control s log l =
    every_sent (λ (c : SentCommand). c.origin ≡ Caller → is_control c.words ≡ false) s
    (λ w is. absurd (let no : Library ≡ Caller = is in cc))
    (λ q is caller. query_is_plain q is) (λ ws plain some caller. plain) log l

every_words : (P : Words → Type 0) (cs : List SentCommand)
    → Every (λ (c : SentCommand). P c.words) cs → Every P (map (λ (c : SentCommand). c.words) cs)
every_words P [] all = tt
every_words P (c ∷ cs) all = (all.0, every_words P cs all.1)

put_words : (shape : Shape) (m : ClientMode) (told : Bool) (id : List ℕ)
    → Every (λ ws. 0 < length ws) (put_tracking shape m told id)
put_words Single m told id = (omega arith, tt)
put_words Pair m true id = (omega arith, tt)
put_words Pair m false id = tt

step_words : (w : Wire) (shape : Shape) (p : Proto) (m : ClientMode) (told : Bool) (id : List ℕ)
    → Every (λ ws. 0 < length ws) (flat_map (put_step m told id) (steps_of w shape p))
step_words Main shape Two m told id =
    every_append (λ ws. 0 < length ws) (put_tracking m.shape m told id) []
    (put_words m.shape m told id) tt
step_words Main shape Three m told id = (
  omega arith,
  every_append (λ ws. 0 < length ws) (put_tracking m.shape m told id) []
      (put_words m.shape m told id) tt,
)
step_words Side Single p m told id = tt
step_words Side Pair Two m told id = (omega arith, (omega arith, tt))
step_words Side Pair Three m told id = (omega arith, (omega arith, tt))

pub commands_have_words : CommandsHaveWords
commands_have_words s Main log l =
    every_append (λ ws. 0 < length ws) (handshake s.mode Main log)
    (map (λ (c : SentCommand). c.words) (sent s log))
    (step_words Main s.mode.shape s.mode.proto s.mode (is_told s.mode log) (told_id s.mode log))
    (every_words (λ ws. 0 < length ws) (sent s log)
    (every_sent (λ (c : SentCommand). 0 < length c.words) s (λ w. omega arith) has_words
    (λ ws plain some. some) log l))
commands_have_words s Side log l =
    every_append (λ ws. 0 < length ws) (handshake s.mode Side log) []
    (step_words Side s.mode.shape s.mode.proto s.mode (is_told s.mode log) (told_id s.mode log)) tt

-- a client that is ready stays so
more_accepted : (n : ℕ) (v : Value) (vs : List Value) → is_accepted (reply_in n vs) ≡ true
    → is_accepted (reply_in n (v ∷ vs)) ≡ true
more_accepted n v vs e =
    ap is_accepted (kept_reply n v vs (accepted_there n vs e)) ∙ e

got_accepted : (here : Bool) (k : Notice) (n : ℕ) (v : Value) (vs : List Value)
    → is_accepted (reply_in n (with_reply here k v vs)) ≡ false
    → is_accepted (reply_in n vs) ≡ false
got_accepted true Reply n v vs e =
    elim (cases_Bool (is_accepted (reply_in n vs))) [
      | inl there ↦ absurd (let no : true ≡ false = sym (more_accepted n v vs there) ∙ e in cc)
      | inr not_ ↦ not_
    ]
got_accepted true k n v vs e = e
got_accepted false k n v vs e = e

nothing_sent : (s : Setup) (log : List LogEntry) → LegalLog s log → is_ready s.mode log ≡ false
    → sent s log ≡ []
nothing_sent s [] l e = refl
nothing_sent s (Ask q ∷ log) l e =
    absurd (let f : true ≡ false = sym (newest s log (Ask q) l).1 ∙ e in cc)
nothing_sent s (Send ws ∷ log) l e =
    absurd (let f : true ≡ false = sym (newest s log (Send ws) l).1 ∙ e in cc)
nothing_sent s (Poll n ∷ log) l e = nothing_sent s log l.0 e
nothing_sent s (TakeOut w n ∷ log) l e = nothing_sent s log l.0 e
nothing_sent s (Got w v ∷ log) l e =
    nothing_sent s log l.0
    (got_accepted (is_wire w Main) (notice_of s.mode w v) (handshake_length s.mode) v
    (replies s.mode Main log) e)
nothing_sent s (End w ∷ log) l e = nothing_sent s log l.0 e
nothing_sent s (Bad w v ∷ log) l e = nothing_sent s log l.0 e

pub handshake_first : HandshakeFirst
handshake_first s log l = (
  (map (λ (c : SentCommand). c.words) (sent s log), refl),
  λ e. ap (λ cs. handshake s.mode Main log ++ map (λ (c : SentCommand). c.words) cs)
      (nothing_sent s log l e) ∙ append-nil (handshake s.mode Main log),
)

-- ---- no later command writes the key of an open fetch

told_by_ask : (s : Setup) (p : Words) (log : List LogEntry) → LegalLog s (Ask p ∷ log)
    → is_told s.mode log ≡ true
told_by_ask s p log l = told_when_ready s log l.0 (newest s log (Ask p) l).1

-- it was sent, so Side was told
pub told_by_open : (s : Setup) (log : List LogEntry) (n : ℕ) (q : Words) → LegalLog s log
    → open_fetch s log n ≡ Some q → is_told s.mode log ≡ true
told_by_open s (Ask p ∷ log) n q l f =
    told_later s.mode (Ask p) log (told_by_ask s p log l)
told_by_open s (Send ws ∷ log) n q l f =
    told_later s.mode (Send ws) log (told_when_ready s log l.0 (newest s log (Send ws) l).1)
told_by_open s (Poll m ∷ log) n q l f = told_by_open s log n q l.0 f
told_by_open s (TakeOut w m ∷ log) n q l f = told_by_open s log n q l.0 f
told_by_open s (Got w v ∷ log) n q l f =
    told_later s.mode (Got w v) log
    (told_by_open s log n q l.0
    (unless_some (got_ends s (sent s log) (length (replies s.mode Main log)) w v n)
    (open_fetch s log n) q f).0)
told_by_open s e n q l f = cc

abbrev commands_of : Setup → List LogEntry → List SentCommand → List Words
commands_of s log cs = handshake s.mode Main log ++ map (λ (c : SentCommand). c.words) cs

within : (s : Setup) (log : List LogEntry) (n : ℕ) (q : Words) → LegalLog s log
    → open_fetch s log n ≡ Some q → n ≤ length (commands s Main log)
within s log n q l f =
    let p = place_is_query s log n q (inr l) f in
    let w = slice_get_within (commands s Main log) (n - 1) q p.1 in
    omega (arith, p.0)

every_dropped : (P : Words → Type 0) (s : Setup) (log : List LogEntry) (xs ys : List SentCommand)
    (n : ℕ)
    → n ≤ length (commands_of s log xs) → Every P (drop n (commands_of s log xs))
    → Every (λ (c : SentCommand). P c.words) ys → Every P (drop n (commands_of s log (xs ++ ys)))
every_dropped P s log xs ys n le all p =
    let words = λ (c : SentCommand). c.words in
    let parts : commands_of s log xs ++ map words ys ≡ commands_of s log (xs ++ ys) =
    grind (arith, append_assoc, map-append) in
    subst (λ l. Every P (drop n l)) parts
    (subst (Every P) (sym (drop-append-le n (commands_of s log xs) (map words ys) le))
    (every_append P (drop n (commands_of s log xs)) (map words ys) all (every_words P ys p)))

pub no_later_write : NoLaterWrite
no_later_write s (Ask p ∷ log) n q l f =
    elim (asked_some (held_for p (held s log)) s.mode (caching_on_for s.mode log (key_of p))
    (numbers s log) p n (open_fetch s log n) q f) [
      | inl old ↦
          every_dropped (λ ws. writes ws (key_of q) ≡ false) s log (sent s log)
          (put_ask (held_for p (held s log)) s.mode (caching_on_for s.mode log (key_of p)) p) n
          (within s log n q l.0 old) (no_later_write s log n q l.0 old)
          (every_put (λ (c : SentCommand). writes c.words (key_of q) ≡ false)
          (held_for p (held s log)) s.mode (caching_on_for s.mode log (key_of p)) p
          (λ w. caching_writes_none w (key_of q))
          (query_writes_none p (key_of q) (newest s log (Ask p) l).0))
      | inr new ↦
          subst (λ o. Every (λ ws. writes ws (key_of q) ≡ false)
          (drop n (commands_of s log
          (sent s log ++ put_ask o s.mode (caching_on_for s.mode log (key_of p)) p))))
          (sym new.missed)
          (subst (Every (λ ws. writes ws (key_of q) ≡ false))
          (sym (drop_all n
          (commands_of s log
          (sent s log ++ put_read s.mode (caching_on_for s.mode log (key_of p)) p))
          (omega (
            arith,
            new.number_is,
            whole s.mode log (told_by_ask s p log l),
            length-append (handshake s.mode Main log)
                (map (λ (c : SentCommand). c.words)
                (sent s log ++ put_read s.mode (caching_on_for s.mode log (key_of p)) p)),
            length-map (sent s log ++ put_read s.mode (caching_on_for s.mode log (key_of p)) p)
                (λ (c : SentCommand). c.words),
            length-append (sent s log) (put_read s.mode (caching_on_for s.mode log (key_of p)) p),
          )))) tt)
    ]
no_later_write s (Send ws ∷ log) n q l f =
    let u = unless_some (writes ws) (open_fetch s log n) q f in
    every_dropped (λ x. writes x (key_of q) ≡ false) s log (sent s log)
    (put_command s.mode (caching_on s.mode log) ws) n
    (within s log n q l.0 u.0) (no_later_write s log n q l.0 u.0)
    (every_led (λ (c : SentCommand). writes c.words (key_of q) ≡ false)
    (send_lead s.mode.caching (caching_on s.mode log) (is_read ws)) ws
    (λ w. caching_writes_none w (key_of q)) u.1)
no_later_write s (Poll m ∷ log) n q l f = no_later_write s log n q l.0 f
no_later_write s (TakeOut w m ∷ log) n q l f = no_later_write s log n q l.0 f
no_later_write s (Got w v ∷ log) n q l f =
    let old = (unless_some (got_ends s (sent s log) (length (replies s.mode Main log)) w v n)
    (open_fetch s log n) q f).0 in
    subst (λ h. Every (λ ws. writes ws (key_of q) ≡ false)
    (drop n (h ++ map (λ (c : SentCommand). c.words) (sent s log))))
    (sym (handshake_same s.mode (Got w v) log (told_by_open s log n q l.0 old)))
    (no_later_write s log n q l.0 old)
no_later_write s e n q l f = cc
