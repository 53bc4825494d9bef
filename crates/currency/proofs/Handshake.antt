-- What a client sends on Main, of one link or of two: the handshake's commands, and behind them
-- callers' commands and its own CLIENT CACHING. Each has its reply.
use Rattle.std.proofs.Common.{◌≡◌, ◌≤◌, ℕ, List, [], ◌∷◌, true, false}
use Rattle.std.proofs.Common.{refl, ap, ◌∙◌, arith, Some, None, map}
use Rattle.std.proofs.Common.{codes, Bool, Result, Ok, Err, ◌⊎◌, inl, inr, Option}
use Rattle.std.proofs.lemmas.Option.{slice_get_within}
use Rattle.std.specs.Prelude.{slice_get}
use Rattle.std.specs.List.{flat_map}
use Rattle.resp_value.specs.Lists.{IsPrefix}
use Rattle.resp_value.specs.declared.value.Proto.{Proto}
use Rattle.resp_value.specs.declared.value.Proto.TheVariants.{Two, Three}
use Rattle.command_words.specs.declared.command.Command.{Command}
use Rattle.command_words.specs.declared.command.Command.TheVariants.{ClientTracking}
use Rattle.command_words.specs.declared.command.TrackOptions.{TrackOptions}
use Rattle.command_words.specs.declared.command.WordFault.{WordFault}
use Rattle.command_words.specs.Reading.{Read, read_as}
use Rattle.command_words.specs.Words.{reading}
use Rattle.command_words.specs.StringWords.{string_reading}
use Rattle.command_words.specs.HashWords.{hash_reading}
use Rattle.command_words.specs.KeyWords.{key_reading}
use Rattle.command_words.specs.ConnectionWords.{connection_reading}
use Rattle.command_words.specs.ClientWords.{client_reading}
use Rattle.command_words.specs.TrackingWords.{tracking}
use Rattle.command_words.specs.Control.{is_control, reads_as_control}
use Rattle.command_words.specs.Queries.{key_of}
use Rattle.serial_model.specs.declared.history.Entry.{Entry}
use Rattle.serial_model.specs.History.{runs_of}
use Rattle.shared_cache.specs.declared.log.ClientMode.{ClientMode}
use Rattle.shared_cache.specs.declared.log.Shape.{Shape}
use Rattle.shared_cache.specs.declared.log.Shape.TheVariants.{Single, Pair}
use Rattle.shared_cache.specs.declared.log.Wire.TheVariants.{Main}
use Rattle.shared_cache.specs.declared.log.LogEntry.{LogEntry}
use Rattle.shared_cache.specs.declared.log.LogEntry.TheVariants as entry
use Rattle.shared_cache.specs.declared.entry.CacheEntry.{CacheEntry}
use Rattle.shared_cache.specs.declared.lead.CachingWord.{CachingWord}
use Rattle.shared_cache.specs.declared.lead.CachingWord.TheVariants.{Yes, No}
use Rattle.shared_cache.specs.Held.{Setup, SentCommand, Caller, sent, commands, caching_command}
use Rattle.shared_cache.specs.Held.{held, held_for, is_read, led_by, put_ask, put_command}
use Rattle.shared_cache.specs.Held.{read_lead, send_lead}
use Rattle.shared_cache.specs.Laws.{Every, LegalLog}
use Rattle.shared_cache.specs.Log.{caching_on, caching_on_for, handshake, handshake_length}
use Rattle.shared_cache.specs.Log.{is_told, put_step, put_tracking, steps_of, told_id}
use Rattle.shared_cache.proofs.CommandLaws.{no_control}
use Rattle.shared_cache.proofs.Every.{every_append}
use Rattle.shared_cache.proofs.Handshakes.{handshake_within}
use Rattle.shared_cache.proofs.Led.{every_led}
use Rattle.currency.proofs.Lists.{every_at, get_parts}
use Rattle.currency.proofs.OffChannel.{KeepsOff, has_no_reply}
use Rattle.currency.proofs.RunPlaces.{each_of}

-- ---- what is sent behind the handshake

-- none of control, or the client's own CLIENT CACHING
abbrev pub IsBehind : List (List ℕ) → Type 0
IsBehind words =
    (is_control words ≡ false) ⊎ ((w : CachingWord) × (words ≡ (caching_command w).words))

-- a caller's command, or the client's own CLIENT CACHING
abbrev IsOwn : SentCommand → Type 0
IsOwn c = (c.origin ≡ Caller) ⊎ ((w : CachingWord) × (c.words ≡ (caching_command w).words))

led_own : (l : Option CachingWord) (words : List (List ℕ)) → Every IsOwn (led_by l words)
led_own l words = every_led IsOwn l words (λ w. inr (w, refl)) (inl refl)

ask_own : (o : Option CacheEntry) (m : ClientMode) (on : Bool) (q : List (List ℕ))
    → Every IsOwn (put_ask o m on q)
ask_own (Some h) m on q = tt
ask_own None m on q = led_own (read_lead m.caching on) q

sent_own : (s : Setup) (log : List LogEntry) → Every IsOwn (sent s log)
sent_own s [] = tt
sent_own s (entry.Ask q ∷ log) =
    every_append IsOwn (sent s log)
    (put_ask (held_for q (held s log)) s.mode (caching_on_for s.mode log (key_of q)) q)
    (sent_own s log)
    (ask_own (held_for q (held s log)) s.mode (caching_on_for s.mode log (key_of q)) q)
sent_own s (entry.Send ws ∷ log) =
    every_append IsOwn (sent s log) (put_command s.mode (caching_on s.mode log) ws)
    (sent_own s log)
    (led_own (send_lead s.mode.caching (caching_on s.mode log) (is_read ws)) ws)
sent_own s (entry.Poll n ∷ log) = sent_own s log
sent_own s (entry.TakeOut w n ∷ log) = sent_own s log
sent_own s (entry.Got w v ∷ log) = sent_own s log
sent_own s (entry.End w ∷ log) = sent_own s log
sent_own s (entry.Bad w v ∷ log) = sent_own s log

behind_one : (c : SentCommand) → IsOwn c → (c.origin ≡ Caller → is_control c.words ≡ false)
    → IsBehind c.words
behind_one c (inl caller) plain = inl (plain caller)
behind_one c (inr word) plain = inr word

all_behind : (cs : List SentCommand) → Every IsOwn cs
    → Every (λ (c : SentCommand). c.origin ≡ Caller → is_control c.words ≡ false) cs
    → Every IsBehind (map (λ (c : SentCommand). c.words) cs)
all_behind [] a b = tt
all_behind (c ∷ cs) a b = (behind_one c a.0 b.0, all_behind cs a.1 b.1)

-- ---- each command has its reply

abbrev HasReply : List (List ℕ) → Type 0
HasReply words = has_no_reply (reading words) ≡ false

hello_off : HasReply (codes "HELLO" ∷ codes "3" ∷ [])
unfolding reading string_reading hash_reading key_reading connection_reading
hello_off = refl

options_off : (r : Read TrackOptions) → has_no_reply (read_as ClientTracking r) ≡ false
options_off (Ok o) = refl
options_off (Err fault) = refl

tracking_off : (words : List (List ℕ)) → HasReply (codes "CLIENT" ∷ codes "TRACKING" ∷ words)
unfolding reading string_reading hash_reading key_reading connection_reading client_reading
tracking_off words = options_off (tracking words)

caching_off : (w : CachingWord) → HasReply (caching_command w).words
unfolding reading string_reading hash_reading key_reading connection_reading client_reading
caching_off Yes = refl
caching_off No = refl

no_control_off : (read : Result Command WordFault) → reads_as_control read ≡ false
    → has_no_reply read ≡ false
no_control_off read h = grind arith

behind_off : (words : List (List ℕ)) → IsBehind words → HasReply words
unfolding is_control
behind_off words (inl plain) = no_control_off (reading words) plain
behind_off words (inr c) = ap (λ ws. has_no_reply (reading ws)) c.1 ∙ caching_off c.0

-- what holds of HELLO and of every tracking command holds of the handshake on Main
module _ (P : List (List ℕ) → Type 0) (hello : P (codes "HELLO" ∷ codes "3" ∷ []))
    (tracks : (words : List (List ℕ)) → P (codes "CLIENT" ∷ codes "TRACKING" ∷ words)) where
  put_each : (shape : Shape) (m : ClientMode) (told : Bool) (id : List ℕ)
      → Every P (put_tracking shape m told id)
  put_each Single m told id = (tracks _, tt)
  put_each Pair m true id = (tracks _, tt)
  put_each Pair m false id = tt

  steps_each : (p : Proto) (m : ClientMode) (told : Bool) (id : List ℕ)
      → Every P (flat_map (put_step m told id) (steps_of Main m.shape p))
  steps_each Two m told id =
      every_append P (put_tracking m.shape m told id) [] (put_each m.shape m told id) tt
  steps_each Three m told id = (
    hello,
    every_append P (put_tracking m.shape m told id) [] (put_each m.shape m told id) tt,
  )

  pub handshake_each : (m : ClientMode) (log : List LogEntry) → Every P (handshake m Main log)
  handshake_each m log = steps_each m.proto m (is_told m log) (told_id m log)

-- ---- the commands on Main

module _ (s : Setup) (log : List LogEntry) (legal : LegalLog s log) where
  behind : Every IsBehind (map (λ (c : SentCommand). c.words) (sent s log))
  behind = all_behind (sent s log) (sent_own s log) (no_control s log legal)

  -- from the handshake's number on
  pub is_behind : (k : ℕ) (words : List (List ℕ)) → handshake_length s.mode ≤ k
      → slice_get (commands s Main log) k ≡ Some words → IsBehind words
  is_behind k words le e =
      elim (get_parts (handshake s.mode Main log) (map (λ (c : SentCommand). c.words) (sent s log))
      k words e) [
        | inl early ↦
            absurd (omega (
              arith,
              le,
              handshake_within s.mode log,
              slice_get_within (handshake s.mode Main log) k words early,
            ))
        | inr b ↦
            every_at IsBehind (map (λ (c : SentCommand). c.words) (sent s log)) b.at words behind
            b.there
      ]

  each_off : (k : ℕ) (words : List (List ℕ)) → slice_get (commands s Main log) k ≡ Some words
      → HasReply words
  each_off k words e =
      elim (get_parts (handshake s.mode Main log) (map (λ (c : SentCommand). c.words) (sent s log))
      k words e) [
        | inl early ↦
            every_at HasReply (handshake s.mode Main log) k words
            (handshake_each HasReply hello_off tracking_off s.mode log) early
        | inr b ↦
            behind_off words
            (every_at IsBehind (map (λ (c : SentCommand). c.words) (sent s log)) b.at words behind
            b.there)
      ]

  -- a connection that runs the first of these commands keeps off those that have none
  pub keeps_off : (c : ℕ) (past : List Entry) → IsPrefix (runs_of c past) (commands s Main log)
      → KeepsOff c past
  keeps_off c past p = each_of HasReply c past (commands s Main log) p each_off
