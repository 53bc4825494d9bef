-- What fills a client: the entries that a seat's turns add, one after the other.
use Rattle.std.proofs.Common.{◌≡◌, ℕ, suc, List, [], ◌∷◌, ◌++◌, refl, sym, ap, subst, ◌∙◌, Some}
use Rattle.std.proofs.Common.{None, Ok, Err}
use Rattle.std.specs.Prelude.{Option, Result, OnOk, codes}
use Rattle.atomic_table.specs.Seated.{TableId}
use Rattle.turn_lock.specs.Seats.{first_seat}
use Rattle.turn_lock.specs.Own.{own_list, with_pasts, turns_of}
use Rattle.turn_lock.proofs.Growing.{grows_then}
use Rattle.resp_value.specs.Tree.{Tree}
use Rattle.resp_value.specs.declared.octets.Octets.{Octets}
use Rattle.resp_value.specs.declared.value.Value.{Value}
use Rattle.resp_value.specs.declared.value.Value.TheVariants.{Simple, Map}
use Rattle.shared_cache.specs.declared.log.LogEntry.{LogEntry}
use Rattle.shared_cache.specs.declared.log.LogEntry.TheVariants as entry
use Rattle.shared_cache.specs.declared.log.ClientCall.{ClientCall}
use Rattle.shared_cache.specs.declared.log.ClientCall.TheVariants as call
use Rattle.shared_cache.specs.declared.log.ClientReply.{ClientReply}
use Rattle.shared_cache.specs.declared.log.ClientReply.TheVariants as reply
use Rattle.shared_cache.specs.declared.log.Wire.TheVariants.{Main}
use Rattle.shared_client.specs.declared.logged.ClientSetup.{ClientSetup}
use Rattle.shared_client.specs.declared.turns.Asked.{Asked}
use Rattle.shared_client.specs.declared.turns.Asked.TheVariants as asked
use Rattle.shared_client.specs.Turns.{Place, Turn, Adds, asked_reply, most, TakesOut, Gets, Polls}
use Rattle.script_bench.specs.Asks.{query_for}
use Rattle.script_bench.specs.Filled.{content_is, client_for, entries_in, GrowsBy, greeting}
use Rattle.script_bench.specs.Filled.{answered, fetched, IsReady}

entries_append : (xs ys : List Turn) → entries_in (xs ++ ys) ≡ entries_in xs ++ entries_in ys
entries_append [] ys = refl
entries_append (x ∷ xs) ys = ap (λ z. x.0 ∷ z) (entries_append xs ys)

pub by_one : (c : ClientCall) (r : ClientReply) (e : LogEntry) (a b : Place) → Adds c r e a b
    → GrowsBy (e ∷ []) a b
by_one c r e a b h =
    record { turns = (e, h.past) ∷ []; grows = h.grows; entries_are = refl }

pub by_two : (xs ys : List LogEntry) (a b c : Place) → GrowsBy xs a b → GrowsBy ys b c
    → GrowsBy (ys ++ xs) a c
by_two xs ys a b c h i = record {
  turns = i.turns ++ h.turns;
  grows = grows_then a b c h.turns i.turns h.grows i.grows;
  entries_are = entries_append i.turns h.turns
      ∙ ap (λ z. z ++ entries_in h.turns) i.entries_are ∙ ap (λ z. ys ++ z) h.entries_are;
}

-- ---- the turns of one fetch, and of the greeting

pub taken : (o : Option Octets) (bytes : Octets) (a b : Place) → o ≡ Some bytes
    → TakesOut Main o a b → GrowsBy (entry.TakeOut Main most ∷ []) a b
taken (Some x) bytes a b is h =
    by_one (call.TakeOut Main most) (reply.Bytes x) (entry.TakeOut Main most) a b h
taken None bytes a b is h = absurd (let no : ⊥ = cc in no)

pub got : (v : Value) (a b : Place) → Gets Main v a b → GrowsBy (entry.Got Main v ∷ []) a b
got v a b h = by_one (call.Got Main v) reply.Noted (entry.Got Main v) a b h

pub handed : (n : ℕ) (o : Option Value) (v : Value) (a b : Place) → o ≡ Some v → Polls n o a b
    → GrowsBy (entry.Poll n ∷ []) a b
handed n (Some x) v a b is h =
    by_one (call.Poll n) (reply.Answer x) (entry.Poll n) a b h
handed n None v a b is h = absurd (let no : ⊥ = cc in no)

pub answers_it : (n : ℕ) (v : Value) (a b c d : Place)
    → GrowsBy (entry.TakeOut Main most ∷ []) a b → GrowsBy (entry.Got Main v ∷ []) b c
    → GrowsBy (entry.Poll n ∷ []) c d → GrowsBy (answered n v) a d
answers_it n v a b c d out in_ poll =
    by_two (entry.Got Main v ∷ entry.TakeOut Main most ∷ []) (entry.Poll n ∷ []) a c d
    (by_two (entry.TakeOut Main most ∷ []) (entry.Got Main v ∷ []) a b c out in_) poll

pub greets : (rows : List (Tree × Tree)) (text : List ℕ) (a b c d : Place) → rows ≡ []
    → text ≡ codes "OK" → GrowsBy (entry.TakeOut Main most ∷ []) a b → Gets Main (Map rows) b c
    → Gets Main (Simple text) c d → GrowsBy greeting a d
greets rows text a b c d none ok out hello tracked =
    let one = got (Map []) b c (subst (λ r. Gets Main (Map r) b c) none hello) in
    let two = got (Simple (codes "OK")) c d (subst (λ t. Gets Main (Simple t) c d) ok tracked) in
    by_two (entry.Got Main (Map []) ∷ entry.TakeOut Main most ∷ [])
    (entry.Got Main (Simple (codes "OK")) ∷ []) a c d
    (by_two (entry.TakeOut Main most ∷ []) (entry.Got Main (Map []) ∷ []) a b c out one) two

pub fetches : (key n : ℕ) (asked_is : Asked) (query : List (List ℕ)) (v : Value) (a b c : Place)
    → query ≡ query_for key → v ≡ content_is → asked_is ≡ asked.Sent n
    → Adds (call.Ask query) (asked_reply asked_is) (entry.Ask query) a b
    → GrowsBy (answered n v) b c → GrowsBy (fetched key n) a c
fetches key n asked_is query v a b c query_is v_is sent_is asks answers =
    let sent = subst (λ q. GrowsBy (entry.Ask q ∷ []) a b) query_is
    (by_one (call.Ask query) (reply.Sent n) (entry.Ask query) a b
    (subst (λ x. Adds (call.Ask query) (asked_reply x) (entry.Ask query) a b) sent_is asks)) in
    by_two (entry.Ask (query_for key) ∷ []) (answered n content_is) a b c sent
    (subst (λ x. GrowsBy (answered n x) b c) v_is answers)

pub on_ok : {A E : Type 0} (r : Result A E) (P Q : Type 0) → (P → Q) → OnOk r P → OnOk r Q
on_ok (Ok x) P Q f p = f p
on_ok (Err e) P Q f p = tt

-- ---- what the seat has in all

all_entries : (xs : List LogEntry) (a b : Place) → GrowsBy xs a b
    → entries_in (turns_of b) ≡ xs ++ entries_in (turns_of a)
all_entries xs a b h =
    ap entries_in h.grows.own ∙ entries_append h.turns (turns_of a)
    ∙ ap (λ z. z ++ entries_in (turns_of a)) h.entries_are

first_none : (k : Place) (lock : TableId) (u : ClientSetup) → k ≡ first_seat lock u
    → entries_in (turns_of k) ≡ []
unfolding turns_of
first_none k lock u is = ap (λ (z : Place). entries_in (own_list (with_pasts z.seen) z.own)) is

pub ready_first : (lock : TableId) (keys : ℕ) (u : ClientSetup) (a b : Place)
    → u ≡ client_for keys → a ≡ first_seat lock u → GrowsBy greeting a b → IsReady b.lock keys 0 b
ready_first lock keys u a b u_is first h = record {
  lock_is = refl;
  within = h.grows.within;
  setup_is = h.grows.setup ∙ ap (λ (z : Place). z.setup) first ∙ ap Some u_is;
  parts_are = h.grows.parts ∙ ap (λ (z : Place). z.parts) first;
  fetches = all_entries greeting a b h ∙ ap (λ z. greeting ++ z) (first_none a lock u first);
}

pub ready_more : (lock : TableId) (keys filled next : ℕ) (a b : Place) → next ≡ suc filled
    → IsReady lock keys filled a → (number : ℕ) × GrowsBy (fetched filled number) a b
    → IsReady lock keys next b
ready_more lock keys filled next a b next_is r (number, h) =
    subst (λ n. IsReady lock keys n b) (sym next_is) record {
      lock_is = h.grows.lock ∙ r.lock_is;
      within = h.grows.within;
      setup_is = h.grows.setup ∙ r.setup_is;
      parts_are = h.grows.parts ∙ r.parts_are;
      fetches =
          (number, entries_in (turns_of a), all_entries (fetched filled number) a b h, r.fetches);
    }
