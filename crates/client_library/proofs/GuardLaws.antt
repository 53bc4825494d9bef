-- What an invalidation of keys leaves of them, and what a hit is then.
use Rattle.std.proofs.Common.{◌≡◌, ℕ, List, [], ◌∷◌, ◌∙◌, length, true, false, refl, sym, ap}
use Rattle.std.proofs.Common.{Some, if◌then◌else◌, inl, subst, arith}
use Rattle.std.proofs.lemmas.Bool.{and_parts, or_parts}
use Rattle.std.specs.List.{list_any}
use Rattle.std.specs.Str.{bytes_eq}
use Rattle.resp_value.specs.Tree.{trees_of}
use Rattle.resp_value.specs.declared.value.Value.{Value}
use Rattle.command_words.specs.Queries.{key_of, same_query}
use Rattle.shared_cache.specs.declared.entry.CacheEntry.{CacheEntry}
use Rattle.shared_cache.specs.declared.log.Wire.TheVariants.{Main}
use Rattle.shared_cache.specs.declared.log.ClientMode.{ClientMode}
use Rattle.shared_cache.specs.declared.log.LogEntry.{LogEntry}
use Rattle.shared_cache.specs.declared.log.LogEntry.TheVariants as entry
use Rattle.shared_cache.specs.declared.log.ClientCall.TheVariants as call
use Rattle.shared_cache.specs.declared.log.ClientReply.{ClientReply}
use Rattle.shared_cache.specs.declared.log.ClientReply.TheVariants.{Hit, Sent, NotYet, Answer}
use Rattle.shared_cache.specs.declared.log.ClientReply.TheVariants.{Bytes, Quiet, Noted, Refused}
use Rattle.shared_cache.specs.declared.notices.Notice.{Notice}
use Rattle.shared_cache.specs.declared.notices.Notice.TheVariants.{Keys, Malformed}
use Rattle.shared_cache.specs.Log.{replies}
use Rattle.shared_cache.specs.Held.{Key, Setup, Words, ends, held, held_for, open_fetch, outdates}
use Rattle.shared_cache.specs.Held.{sent}
use Rattle.shared_cache.specs.Laws.{Every, IsFetch}
use Rattle.shared_cache.specs.Notices.{all_blobs, blobs_in, invalidates, invalidates_as, kind_of}
use Rattle.shared_cache.specs.Notices.{named_keys}
use Rattle.shared_cache.specs.Steps.{ClientStep, client_step}
use Rattle.shared_cache.proofs.FetchLaws.{held_is_fetch, unless_some}
use Rattle.client_library.specs.Guarded.{AsksWithin, Fetches, Guarded, IsMiss, IsNotedOrRefused}
use Rattle.client_library.specs.Guarded.{KeepsTime, LeavesNone, LetsGoThen, Settles, Turns}
use Rattle.client_library.specs.Guarded.{is_stale}
use Rattle.client_library.specs.Library.{HitIsHeld, Library, Plays}
use Rattle.client_library.specs.Unknown.{AreGone, blobs, invalidation}

-- ---- an invalidation names its keys

are_blobs : (keys : Words) → all_blobs (trees_of (blobs keys)) ≡ true
are_blobs [] = refl
are_blobs (key ∷ keys) = are_blobs keys

blobs_back : (keys : Words) → blobs_in (trees_of (blobs keys)) ≡ keys
blobs_back [] = refl
blobs_back (key ∷ keys) = ap (λ l. key ∷ l) (blobs_back keys)

is_of_keys : (keys : Words) → kind_of (invalidation keys) ≡ Keys
is_of_keys keys = ap (λ b. if b then Keys else Malformed) (are_blobs keys)

names_keys : (m : ClientMode) (keys : Words) (k : Key)
    → invalidates m Main (invalidation keys) k ≡ list_any (bytes_eq k) keys
names_keys m keys k =
    ap (λ (n : Notice). invalidates_as n (named_keys (invalidation keys)) k) (is_of_keys keys)
    ∙ ap (λ l. list_any (bytes_eq k) l) (blobs_back keys)

-- ---- the entry that a turn adds

got_entry : (s : Setup) (log new : List LogEntry) (keys : Words)
    → client_step s log (call.Got Main (invalidation keys)) ≡ record { reply = Noted; past = new }
    → new ≡ entry.Got Main (invalidation keys) ∷ log
unfolding client_step
got_entry s log new keys e = grind arith

sent_entry : (s : Setup) (log new : List LogEntry) (ws : Words) (n : ℕ)
    → client_step s log (call.Send ws) ≡ record { reply = Sent n; past = new }
    → new ≡ entry.Send ws ∷ log
unfolding client_step
sent_entry s log new ws n e = grind arith

noted_or_refused : (s : Setup) (log new : List LogEntry) (v : Value) (r : ClientReply)
    → client_step s log (call.Got Main v) ≡ record { reply = r; past = new } → IsNotedOrRefused r
unfolding client_step
noted_or_refused s log new v r e = grind arith

-- a value that is got is noted or refused
pub is_noted_or_refused : (s : Setup) (log new : List LogEntry) (v : Value) (r : ClientReply)
    → ClientStep s log (call.Got Main v) r new → IsNotedOrRefused r
is_noted_or_refused s log new v (Refused r) step = tt
is_noted_or_refused s log new v (Hit x n) step = noted_or_refused s log new v (Hit x n) step
is_noted_or_refused s log new v (Sent n) step = noted_or_refused s log new v (Sent n) step
is_noted_or_refused s log new v NotYet step = noted_or_refused s log new v NotYet step
is_noted_or_refused s log new v (Answer x) step = noted_or_refused s log new v (Answer x) step
is_noted_or_refused s log new v (Bytes b) step = noted_or_refused s log new v (Bytes b) step
is_noted_or_refused s log new v Quiet step = noted_or_refused s log new v Quiet step
is_noted_or_refused s log new v Noted step = tt

-- ---- what is gone

gone_by : (s : Setup) (log : List LogEntry) (keys : Words) (n : ℕ) (q : Words)
    → open_fetch s (entry.Got Main (invalidation keys) ∷ log) n ≡ Some q
    → list_any (bytes_eq (key_of q)) keys ≡ false
gone_by s log keys n q f =
    let v = invalidation keys in
    let spared = (unless_some (ends s log n (entry.Got Main v)) (open_fetch s log n) q f).1 in
    sym (names_keys s.mode keys (key_of q))
    ∙ (or_parts (outdates s (sent s log) (length (replies s.mode Main log)) Main v n (key_of q))
    (invalidates s.mode Main v (key_of q)) spared).1

-- what is open after a turn is so in the log with its entry
moved : (old new : Library) (e : LogEntry) → new.setup ≡ old.setup → new.past ≡ e ∷ old.past
    → (n : ℕ) (q : Words) → open_fetch new.setup new.past n ≡ Some q
    → open_fetch old.setup (e ∷ old.past) n ≡ Some q
moved old new e setup past n q f =
    subst (λ s. open_fetch s (e ∷ old.past) n ≡ Some q) setup
    (subst (λ l. open_fetch new.setup l n ≡ Some q) past f)

-- after the invalidation no fetch of its keys is open
let_go : (keys : Words) (old new : Library)
    → Plays (call.Got Main (invalidation keys)) old Noted new → AreGone keys new
let_go keys old new plays n q f =
    let added = got_entry old.setup old.past new.past keys plays.step in
    gone_by old.setup old.past keys n q
    (moved old new (entry.Got Main (invalidation keys)) plays.setup added n q f)

pub gone_after : (keys : Words) (v : Value) (r : ClientReply) (old new : Library)
    → v ≡ invalidation keys → r ≡ Noted → Plays (call.Got Main v) old r new → AreGone keys new
gone_after keys v r old new is noted plays =
    let_go keys old new (subst (λ (x : Value). Plays (call.Got Main x) old Noted new) is
    (subst (λ (x : ClientReply). Plays (call.Got Main v) old x new) noted plays))

still_open : (s : Setup) (log : List LogEntry) (ws : Words) (n : ℕ) (q : Words)
    → open_fetch s (entry.Send ws ∷ log) n ≡ Some q → open_fetch s log n ≡ Some q
still_open s log ws n q f =
    (unless_some (ends s log n (entry.Send ws)) (open_fetch s log n) q f).0

sent_gone : (keys ws : Words) (old new : Library) (n : ℕ) → AreGone keys old
    → Plays (call.Send ws) old (Sent n) new → AreGone keys new
sent_gone keys ws old new n gone plays m q f =
    let added = sent_entry old.setup old.past new.past ws n plays.step in
    gone m q (still_open old.setup old.past ws m q
    (moved old new (entry.Send ws) plays.setup added m q f))

-- nor after a command that is sent next
pub none_left : (ws : Words) (old new : Guarded) (r : ClientReply) → AreGone ws old.client
    → Turns (call.Send ws) old r new → LeavesNone ws r new
none_left ws old new (Sent n) gone t = λ is. sent_gone ws ws old.client new.client n gone t.0
none_left ws old new (Hit v n) gone t = tt
none_left ws old new NotYet gone t = tt
none_left ws old new (Answer v) gone t = tt
none_left ws old new (Bytes b) gone t = tt
none_left ws old new Quiet gone t = tt
none_left ws old new Noted gone t = tt
none_left ws old new (Refused r) gone t = tt

-- ---- no hit where the key is gone

same_key : (p q : Words) → same_query p q ≡ true → bytes_eq (key_of p) (key_of q) ≡ true
same_key p q e = grind (arith, and_parts)

abbrev Found : Setup → List LogEntry → Words → CacheEntry → Type 0
Found s log q h = (same_query h.query q ≡ true) × (open_fetch s log h.number ≡ Some h.query)

found_open : (s : Setup) (log : List LogEntry) (q : Words) (hs : List CacheEntry) (h : CacheEntry)
    → Every (IsFetch s log) hs → held_for q hs ≡ Some h → Found s log q h
found_open s log q [] h all e = absurd (let no : ⊥ = cc in no)
found_open s log q (x ∷ hs) h all e = grind (arith, found_open s log q hs h all.1)

not_held : (c : Library) (q : Words) (h : CacheEntry) → AreGone (key_of q ∷ []) c
    → held_for q (held c.setup c.past) ≡ Some h → ⊥
not_held c q h gone e =
    let f = found_open c.setup c.past q (held c.setup c.past) h (held_is_fetch c.setup c.past) e in
    grind (arith, same_key h.query q f.0, gone h.number h.query f.1)

pub misses : (c : Library) (q : Words) (r : ClientReply) → AreGone (key_of q ∷ []) c
    → HitIsHeld c q r → IsMiss r
misses c q (Hit v n) gone h = not_held c q h.0 gone h.1
misses c q (Sent n) gone h = tt
misses c q NotYet gone h = tt
misses c q (Answer v) gone h = tt
misses c q (Bytes b) gone h = tt
misses c q Quiet gone h = tt
misses c q Noted gone h = tt
misses c q (Refused r) gone h = tt

-- ---- a query of a client with a bound

module _ (age : ℕ) (q : Words) (old between : Guarded) (told : ClientReply)
    (turn : Turns (call.Ask q) old told between) where
  pub settles_anew : (again : Words) (reply : ClientReply) (new : Guarded)
      → is_stale age between told ≡ true → again ≡ q
      → LetsGoThen (key_of again ∷ []) (Fetches again) between reply new
      → AsksWithin age q old reply new
  settles_anew again reply new stale same goes =
      let anew = subst (λ (w : Words). LetsGoThen (key_of w ∷ []) (Fetches w) between reply new)
      same goes in
      inl (
        told,
        between,
        turn,
        subst (λ b. Settles b q told between reply new) (sym stale) anew,
      )

  pub settles_so : (new : Guarded) → is_stale age between told ≡ false
      → KeepsTime told between new → AsksWithin age q old told new
  settles_so new young keeps =
      inl (
        told,
        between,
        turn,
        subst (λ b. Settles b q told between told new) (sym young) (refl, keeps),
      )
