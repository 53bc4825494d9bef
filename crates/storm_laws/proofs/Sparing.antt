-- Words that stop no server: those of a storm, and all that a client commands.
use Rattle.std.proofs.Common.{◌≡◌, ◌⊎◌, ℕ, List, [], ◌∷◌, Bool, false, codes, inl, inr, map, refl}
use Rattle.std.proofs.Common.{Option, Some, None, arith}
use Rattle.std.specs.Prelude.{Result, Err}
use Rattle.std.specs.Fmt.{decimal}
use Rattle.std.specs.List.{flat_map}
use Rattle.resp_value.specs.declared.value.Proto.{Proto}
use Rattle.resp_value.specs.declared.value.Proto.TheVariants.{Two, Three}
use Rattle.command_words.specs.declared.command.Command.{Command}
use Rattle.command_words.specs.declared.command.Command.TheVariants.{ClientTracking, Set}
use Rattle.command_words.specs.declared.command.SetLife.{SetLife}
use Rattle.command_words.specs.declared.command.SetWhen.{SetWhen}
use Rattle.command_words.specs.declared.command.TrackOptions.{TrackOptions}
use Rattle.command_words.specs.declared.command.WordFault.{WordFault}
use Rattle.command_words.specs.declared.command.WordFault.TheVariants.{Unknown}
use Rattle.command_words.specs.ClientWords.{client_reading}
use Rattle.command_words.specs.ConnectionWords.{connection_reading}
use Rattle.command_words.specs.Control.{is_control, reads_as_control}
use Rattle.command_words.specs.HashWords.{hash_reading}
use Rattle.command_words.specs.KeyWords.{key_reading}
use Rattle.command_words.specs.Reading.{Read, read_as}
use Rattle.command_words.specs.SetOptions.{set_reading}
use Rattle.command_words.specs.StringWords.{string_reading}
use Rattle.command_words.specs.TrackingWords.{tracking}
use Rattle.command_words.specs.Words.{or_else, reading}
use Rattle.serial_model.specs.Laws.{stops}
use Rattle.track_modes.specs.ModeState.{ModeState}
use Rattle.shared_cache.specs.declared.lead.CachingWord.{CachingWord}
use Rattle.shared_cache.specs.declared.lead.CachingWord.TheVariants.{Yes, No}
use Rattle.shared_cache.specs.declared.log.ClientMode.{ClientMode}
use Rattle.shared_cache.specs.declared.log.LogEntry.{LogEntry}
use Rattle.shared_cache.specs.declared.log.LogEntry.TheVariants as entry
use Rattle.shared_cache.specs.declared.log.Shape.{Shape}
use Rattle.shared_cache.specs.declared.log.Shape.TheVariants.{Single, Pair}
use Rattle.shared_cache.specs.declared.log.Wire.{Wire}
use Rattle.shared_cache.specs.declared.log.Wire.TheVariants.{Main, Side}
use Rattle.shared_cache.specs.declared.entry.CacheEntry.{CacheEntry}
use Rattle.shared_cache.specs.Held.{Caller, Library, Origin, SentCommand, Setup, caching_command}
use Rattle.shared_cache.specs.Held.{commands, held, held_for, is_read, led_by, put_ask, read_lead}
use Rattle.shared_cache.specs.Held.{send_lead, sent, sent_on}
use Rattle.shared_cache.specs.Laws.{Every, LegalLog}
use Rattle.shared_cache.specs.Log.{caching_on, handshake, is_told, put_step, steps_of, told_id}
use Rattle.shared_cache.specs.Notices.{channel}
use Rattle.shared_cache.proofs.CommandLaws.{no_control}
use Rattle.shared_cache.proofs.Every.{every_append}
use Rattle.currency.proofs.Handshake.{handshake_each}
use Rattle.script_text.specs.Storm.{del_words, lapsing_words, set_words, storm_key}

-- in no mode are the words a SHUTDOWN
abbrev pub Spares : List (List ℕ) → Type 0
Spares words = (m : ModeState) → stops (reading words) m ≡ false

plain_read : (r : Result Command WordFault) (m : ModeState) → reads_as_control r ≡ false
    → stops r m ≡ false
plain_read r m plain = grind arith

pub plain_spares : (words : List (List ℕ)) → is_control words ≡ false → Spares words
unfolding is_control
plain_spares words plain m = plain_read (reading words) m plain

-- ---- the words of a storm

pub set_plain : (key value : ℕ) → is_control (set_words key value) ≡ false
unfolding is_control reading string_reading set_reading
set_plain key value = refl

set_read : (key value : List ℕ) (r : Read (SetWhen × SetLife))
    → reads_as_control (or_else (read_as (λ o. Set key value o.0 o.1) r) (Err Unknown)) ≡ false
set_read key value r = grind arith

pub lapsing_plain : (key value life : ℕ) → is_control (lapsing_words key value life) ≡ false
unfolding is_control reading string_reading set_reading hash_reading key_reading connection_reading
lapsing_plain key value life = set_read (storm_key key) (decimal value) _

pub del_plain : (key : ℕ) → is_control (del_words key) ≡ false
unfolding is_control reading string_reading hash_reading key_reading
del_plain key = refl

-- ---- the commands of a client

hello_spares : Spares (codes "HELLO" ∷ codes "3" ∷ [])
unfolding reading string_reading hash_reading key_reading connection_reading
hello_spares m = refl

options_spare : (r : Read TrackOptions) (m : ModeState)
    → stops (read_as ClientTracking r) m ≡ false
options_spare r m = grind arith

tracking_spares : (words : List (List ℕ)) → Spares (codes "CLIENT" ∷ codes "TRACKING" ∷ words)
unfolding reading string_reading hash_reading key_reading connection_reading client_reading
tracking_spares words m = options_spare (tracking words) m

id_spares : Spares (codes "CLIENT" ∷ codes "ID" ∷ [])
unfolding reading string_reading hash_reading key_reading connection_reading client_reading
id_spares m = refl

subscribe_spares : Spares (codes "SUBSCRIBE" ∷ channel ∷ [])
unfolding reading string_reading hash_reading key_reading connection_reading
subscribe_spares m = refl

caching_spares : (w : CachingWord) → Spares (caching_command w).words
unfolding reading string_reading hash_reading key_reading connection_reading client_reading
caching_spares Yes m = refl
caching_spares No m = refl

side_spares : (shape : Shape) (p : Proto) (m : ClientMode) (told : Bool) (id : List ℕ)
    → Every Spares (flat_map (put_step m told id) (steps_of Side shape p))
side_spares Single p m told id = tt
side_spares Pair Two m told id = (id_spares, (subscribe_spares, tt))
side_spares Pair Three m told id = (hello_spares, (id_spares, tt))

handshake_spares : (m : ClientMode) (w : Wire) (log : List LogEntry)
    → Every Spares (handshake m w log)
handshake_spares m Main log = handshake_each Spares hello_spares tracking_spares m log
handshake_spares m Side log =
    side_spares m.shape m.proto m (is_told m log) (told_id m log)

-- what the client itself puts before a command
abbrev LeadSpares : SentCommand → Type 0
LeadSpares c = c.origin ≡ Library → Spares c.words

lead_spares : (lead : Option CachingWord) (words : List (List ℕ))
    → Every LeadSpares (led_by lead words)
lead_spares None words = ((λ is. absurd (let no : Caller ≡ Library = is in cc)), tt)
lead_spares (Some w) words =
    ((λ is. caching_spares w), ((λ is. absurd (let no : Caller ≡ Library = is in cc)), tt))

ask_leads : (o : Option CacheEntry) (m : ClientMode) (on : Bool) (q : List (List ℕ))
    → Every LeadSpares (put_ask o m on q)
ask_leads (Some h) m on q = tt
ask_leads None m on q = lead_spares (read_lead m.caching on) q

leads_spare : (s : Setup) (log : List LogEntry) → Every LeadSpares (sent s log)
leads_spare s [] = tt
leads_spare s (entry.Ask q ∷ log) =
    every_append LeadSpares (sent s log) _ (leads_spare s log)
    (ask_leads (held_for q (held s log)) s.mode _ q)
leads_spare s (entry.Send ws ∷ log) =
    every_append LeadSpares (sent s log) _ (leads_spare s log)
    (lead_spares (send_lead s.mode.caching (caching_on s.mode log) (is_read ws)) ws)
leads_spare s (entry.Poll n ∷ log) = leads_spare s log
leads_spare s (entry.TakeOut w n ∷ log) = leads_spare s log
leads_spare s (entry.Got w v ∷ log) = leads_spare s log
leads_spare s (entry.End w ∷ log) = leads_spare s log
leads_spare s (entry.Bad w v ∷ log) = leads_spare s log

by_origin : (o : Origin) → (o ≡ Caller) ⊎ (o ≡ Library)
by_origin Caller = inl refl
by_origin Library = inr refl

command_spares : (c : SentCommand) → (c.origin ≡ Caller → is_control c.words ≡ false)
    → LeadSpares c → Spares c.words
command_spares c plain lead = elim (by_origin c.origin) [
  | inl caller ↦ plain_spares c.words (plain caller)
  | inr library ↦ lead library
]

words_spare : (cs : List SentCommand)
    → Every (λ (c : SentCommand). c.origin ≡ Caller → is_control c.words ≡ false) cs
    → Every LeadSpares cs → Every Spares (map (λ (c : SentCommand). c.words) cs)
words_spare [] plain lead = tt
words_spare (c ∷ cs) plain lead =
    (command_spares c plain.0 lead.0, words_spare cs plain.1 lead.1)

sent_spares : (s : Setup) (w : Wire) (log : List LogEntry) → LegalLog s log
    → Every Spares (map (λ (c : SentCommand). c.words) (sent_on s w log))
sent_spares s Main log legal = words_spare (sent s log) (no_control s log legal) (leads_spare s log)
sent_spares s Side log legal = tt

pub commands_spare : (s : Setup) (w : Wire) (log : List LogEntry) → LegalLog s log
    → Every Spares (commands s w log)
commands_spare s w log legal =
    every_append Spares (handshake s.mode w log) _ (handshake_spares s.mode w log)
    (sent_spares s w log legal)
