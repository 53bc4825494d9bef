-- Where a schedule says nothing that stops a server, no server is stopped.
use Rattle.std.proofs.Common.{◌≡◌, ◌<◌, ◌≤◌, ◌-◌, ◌++◌, ℕ, zero, suc, List, [], ◌∷◌, Bool, true}
use Rattle.std.proofs.Common.{false, Some, None, cond, drop, length, refl, sym, ap, subst, ◌∙◌}
use Rattle.std.proofs.Common.{arith, append_assoc, append-nil, slice_index_or}
use Rattle.std.specs.Prelude.{◌==◌, ◌&&◌, ◌||◌, nat_le, nat_lt, not}
use Rattle.std.specs.List.{flat_map}
use Rattle.std.specs.Str.{bytes_eq}
use Rattle.std.proofs.lemmas.Bool.Decides.{nat_tests}
use Rattle.std.proofs.lemmas.Grind.{flat_map-append}
use Rattle.std.proofs.lemmas.List.{take-append-drop}
use Rattle.resp_value.specs.Lists.{IsPrefix}
use Rattle.resp_value.specs.Spelling.{request_spelling}
use Rattle.resp_stream.specs.Parse.{requests_of}
use Rattle.resp_laws.proofs.Requests.{requests_in_order}
use Rattle.serial_model.specs.declared.history.Limits.{Limits}
use Rattle.serial_model.specs.declared.history.Entry.{Entry}
use Rattle.serial_model.specs.declared.history.Entry.TheVariants as entry
use Rattle.serial_model.specs.History.{IsLegal, admitted, has_ended, is_stopped, mode, runs_of}
use Rattle.serial_model.specs.Laws.{has_shutdown}
use Rattle.serial_model.proofs.DropLaws.{stopped_is_shutdown}
use Rattle.shared_cache.specs.declared.log.Wire.{Wire}
use Rattle.shared_cache.specs.Laws.{Every, LegalLog}
use Rattle.shared_cache.specs.Out.{out, taken}
use Rattle.shared_cache.proofs.Every.{every_append}
use Rattle.link_laws.proofs.Crossing.{heard_was_commanded}
use Rattle.script_text.specs.declared.event.Event.{Event}
use Rattle.script_text.specs.declared.event.Event.TheVariants.{Raw, Say, Bytes, Client, Out, Serve}
use Rattle.script_text.specs.declared.event.Event.TheVariants.{Send, Recv, Flow, FlowAll, Cut, Ask}
use Rattle.script_text.specs.declared.event.Event.TheVariants.{Do, Poll, Show, Now, Tick}
use Rattle.script_text.specs.Valid.{IsValid}
use Rattle.server_links.specs.LinksState.{at_place}
use Rattle.world_run.specs.WorldState.{MemberState, WorldState, client_at, end_at, end_of_link}
use Rattle.world_run.specs.WorldState.{fresh_member, member_at, no_setup, start_with}
use Rattle.world_run.specs.WorldHistory.{AllServiced, HasOneHistory, put_by, put_on, said_by}
use Rattle.world_run.specs.WorldHistory.{said_to, taken_bytes}
use Rattle.world_run.specs.WorldTranscript.{after, heard}
use Rattle.storm_laws.proofs.Sparing.{Spares, commands_spare}

-- the event says nothing on a link but requests that stop no server
abbrev pub IsSpared : Event → Type 0
IsSpared (Raw name) = Unit {0}
IsSpared (Say name words) = (0 < length words) × Spares words
IsSpared (Bytes name bytes) = ⊥
IsSpared (Client name mode capacity) = Unit {0}
IsSpared (Out name count) = Unit {0}
IsSpared (Serve name count) = Unit {0}
IsSpared (Send name count) = Unit {0}
IsSpared (Recv name count) = Unit {0}
IsSpared (Flow name) = Unit {0}
IsSpared FlowAll = Unit {0}
IsSpared (Cut name) = Unit {0}
IsSpared (Now moment) = Unit {0}
IsSpared Tick = Unit {0}
IsSpared (Ask name q) = Unit {0}
IsSpared (Do name words) = Unit {0}
IsSpared (Poll name n) = Unit {0}
IsSpared (Show name) = Unit {0}

-- ---- lists

pub every_front : {A : Type 0} → (P : A → Type 0) (xs ys : List A) → Every P (xs ++ ys)
    → Every P xs
every_front P [] ys all = tt
every_front P (x ∷ xs) ys all = (all.0, every_front P xs ys all.1)

pub every_behind : {A : Type 0} → (P : A → Type 0) (xs ys : List A) → Every P (xs ++ ys)
    → Every P ys
every_behind P [] ys all = all
every_behind P (x ∷ xs) ys all = every_behind P xs ys all.1

every_prefix : {A : Type 0} → (P : A → Type 0) (xs all : List A) → IsPrefix xs all → Every P all
    → Every P xs
every_prefix P xs all p h = every_front P xs p.0 (subst (Every P) (sym p.1) h)

index_or : {A : Type 0} → (P : A → Type 0) (d : A) (xs : List A) → P d
    → ((i : ℕ) → i < length xs → P (slice_index_or xs i d)) → (i : ℕ)
    → P (slice_index_or xs i d)
index_or P d [] p f i = p
index_or P d (x ∷ xs) p f zero = f zero (omega arith)
index_or P d (x ∷ xs) p f (suc i) =
    index_or P d xs p (λ j lt. f (suc j) (omega (arith, lt))) i

-- ---- a history whose runs stop no server

abbrev AllSpare : List Entry → Type 0
AllSpare past = (c : ℕ) → 0 < c → c ≤ admitted past → Every Spares (runs_of c past)

-- the runs of a connection before one more
before_run : (b : Bool) (runs : List (List (List ℕ))) (words : List (List ℕ))
    → Every Spares (cond b (runs ++ words ∷ []) runs) → Every Spares runs
before_run true runs words all = every_front Spares runs (words ∷ []) all
before_run false runs words all = all

last_run : (b : Bool) (runs : List (List (List ℕ))) (words : List (List ℕ)) → b ≡ true
    → Every Spares (cond b (runs ++ words ∷ []) runs) → Spares words
last_run true runs words is all = (every_behind Spares runs (words ∷ []) all).0
last_run false runs words is all = absurd (let no : ⊥ = cc in no)

admitted_id : (id count : ℕ) (on : Bool) → ((nat_lt 0 id && nat_le id count) && on) ≡ true
    → (0 < id) × (id ≤ count)
admitted_id id count on is = grind (arith, nat_tests)

same_id : (id : ℕ) → (id == id) ≡ true
same_id id = grind (arith, nat_tests)

no_shutdown : (l : Limits) (past : List Entry) → IsLegal l past → AllSpare past
    → has_shutdown l past ≡ false
no_shutdown l [] legal all = refl
no_shutdown l (entry.Admit id ∷ past) legal all =
    no_shutdown l past legal.2 (λ c some le. all c some (omega (arith, le)))
no_shutdown l (entry.Run id words moment ∷ past) legal all =
    let there = admitted_id id (admitted past) (not (has_ended l id past)) legal.0 in
    let words_spare = last_run (id == id) (runs_of id past) words (same_id id)
    (all id there.0 there.1) in
    let before = no_shutdown l past legal.2
    (λ c some le. before_run (id == c) (runs_of c past) words (all c some le)) in
    ap (λ b. b || has_shutdown l past) (words_spare (mode l id past)) ∙ before
no_shutdown l (entry.Tick moment ∷ past) legal all = no_shutdown l past legal.3 all
no_shutdown l (entry.Take id max ∷ past) legal all = no_shutdown l past legal.2 all
no_shutdown l (entry.Close id ∷ past) legal all = no_shutdown l past legal.1 all

-- ---- what is said on a link

requests_by : List ℕ → Event → List (List (List ℕ))
requests_by link (Say name words) = cond (bytes_eq name link) (words ∷ []) []
requests_by link _ = []

said_words : (test : Bool) (words : List (List ℕ))
    → cond test (request_spelling words) [] ≡ flat_map request_spelling (cond test (words ∷ []) [])
said_words true words = sym (append-nil (request_spelling words))
said_words false words = refl

said_requests : (link : List ℕ) (e : Event) → IsSpared e
    → said_by link e ≡ flat_map request_spelling (requests_by link e)
unfolding requests_by
said_requests link (Raw name) spared = refl
said_requests link (Say name words) spared = said_words (bytes_eq name link) words
said_requests link (Bytes name bytes) spared = absurd spared
said_requests link (Client name mode capacity) spared = refl
said_requests link (Out name count) spared = refl
said_requests link (Serve name count) spared = refl
said_requests link (Send name count) spared = refl
said_requests link (Recv name count) spared = refl
said_requests link (Flow name) spared = refl
said_requests link FlowAll spared = refl
said_requests link (Cut name) spared = refl
said_requests link (Now moment) spared = refl
said_requests link Tick spared = refl
said_requests link (Ask name q) spared = refl
said_requests link (Do name words) spared = refl
said_requests link (Poll name n) spared = refl
said_requests link (Show name) spared = refl

abbrev IsRequest : List (List ℕ) → Type 0
IsRequest words = (0 < length words) × Spares words

one_request : (test : Bool) (words : List (List ℕ)) → IsRequest words
    → Every IsRequest (cond test (words ∷ []) [])
one_request true words is = (is, tt)
one_request false words is = tt

each_request : (link : List ℕ) (e : Event) → IsSpared e → Every IsRequest (requests_by link e)
unfolding requests_by
each_request link (Raw name) spared = tt
each_request link (Say name words) spared = one_request (bytes_eq name link) words spared
each_request link (Bytes name bytes) spared = tt
each_request link (Client name mode capacity) spared = tt
each_request link (Out name count) spared = tt
each_request link (Serve name count) spared = tt
each_request link (Send name count) spared = tt
each_request link (Recv name count) spared = tt
each_request link (Flow name) spared = tt
each_request link FlowAll spared = tt
each_request link (Cut name) spared = tt
each_request link (Now moment) spared = tt
each_request link Tick spared = tt
each_request link (Ask name q) spared = tt
each_request link (Do name words) spared = tt
each_request link (Poll name n) spared = tt
each_request link (Show name) spared = tt

requests_said : List ℕ → List Event → List (List (List ℕ))
requests_said link events = flat_map (requests_by link) events

all_said : (link : List ℕ) (events : List Event) → Every IsSpared events
    → said_to link events ≡ flat_map request_spelling (requests_said link events)
unfolding requests_said
all_said link [] spared = refl
all_said link (e ∷ events) spared =
    ap (λ front. front ++ said_to link events) (said_requests link e spared.0)
    ∙ ap (λ rest. flat_map request_spelling (requests_by link e) ++ rest)
    (all_said link events spared.1)
    ∙ sym (flat_map-append request_spelling (requests_by link e) (requests_said link events))

all_requests : (link : List ℕ) (events : List Event) → Every IsSpared events
    → Every IsRequest (requests_said link events)
unfolding requests_said
all_requests link [] spared = tt
all_requests link (e ∷ events) spared =
    every_append IsRequest (requests_by link e) (requests_said link events)
    (each_request link e spared.0) (all_requests link events spared.1)

have_words : (requests : List (List (List ℕ))) → Every IsRequest requests
    → Every (λ words. 0 < length words) requests
have_words [] all = tt
have_words (words ∷ requests) all = (all.0.0, have_words requests all.1)

all_spare : (requests : List (List (List ℕ))) → Every IsRequest requests → Every Spares requests
all_spare [] all = tt
all_spare (words ∷ requests) all = (all.0.1, all_spare requests all.1)

-- ---- what is heard of a link

raw_spares : (link : List ℕ) (events : List Event) (b : List ℕ) → Every IsSpared events
    → IsPrefix b (said_to link events) → Every Spares (requests_of b)
raw_spares link events b spared p =
    let requests = requests_said link events in
    let good = all_requests link events spared in
    every_prefix Spares (requests_of b) requests
    (requests_in_order requests b (have_words requests good)
    (p.0, p.1 ∙ all_said link events spared))
    (all_spare requests good)

client_spares : (u : Wire) (m : MemberState) (b : List ℕ) → LegalLog m.state.setup m.state.past
    → IsPrefix b (taken_bytes u m) → Every Spares (requests_of b)
client_spares u m b legal p =
    let setup = m.state.setup in
    let log = m.state.past in
    let n = taken setup u log in
    let all = out setup u log in
    every_prefix Spares (requests_of b) _
    (heard_was_commanded setup u log b legal (
      p.0 ++ drop n all,
      sym (append_assoc b p.0 (drop n all)) ∙ ap (λ front. front ++ drop n all) p.1
          ∙ take-append-drop n all,
    ))
    (commands_spare setup u log legal)

-- each client's log is a legal one
client_legal : (w : WorldState) → AllServiced w → (i : ℕ)
    → LegalLog (member_at w.members i).state.setup (member_at w.members i).state.past
client_legal w clients i =
    index_or (λ (m : MemberState). LegalLog m.state.setup m.state.past)
    (fresh_member [] 0 0 no_setup) w.members tt (λ j lt. (clients j lt).0.legal) i

put_spares : (w : WorldState) (link : List ℕ) (events : List Event) (b : List ℕ)
    → AllServiced w → Every IsSpared events → IsPrefix b (put_on w link events)
    → Every Spares (requests_of b)
put_spares w link events b clients spared =
    elim (end_of_link link w.ends) as (λ c. IsPrefix b (put_by c w link events)
    → Every Spares (requests_of b)) [
      | None ↦ λ p. raw_spares link events b spared p
      | Some at ↦ λ p. client_spares (end_at w.ends at).end.wire (client_at w at) b
          (client_legal w clients (end_at w.ends at).end.client) p
    ]

-- ---- the law

-- the server of a world is not stopped by events that say nothing else
pub not_stopped : HasOneHistory → (l : Limits) (log_max : ℕ) (events : List Event)
    (w : WorldState) → Every IsValid events → Every IsSpared events
    → after (start_with l log_max) events ≡ Some w
    → is_stopped w.links.limits w.links.past ≡ false
not_stopped law l log_max events w valid spared played =
    let past = w.links.past in
    let h = (law l log_max events w valid played).0 in
    let spare : AllSpare past = λ c some le.
    (let at = c - 1 in
    let lt : at < length w.links.links = omega (arith, some, le, h.history.links) in
    let link = at_place w.links.links at in
    let s = h.serves at lt in
    let b = heard (start_with l log_max) at events in
    let id : link.id ≡ c = h.history.ids at lt ∙ omega (arith, some) in
    subst (λ i. Every Spares (runs_of i past)) id
    (every_prefix Spares (runs_of link.id past) (requests_of b) s.runs_front
    (put_spares w link.name events b h.clients spared (
      link.up.bytes ++ s.up.lost,
      sym (append_assoc b link.up.bytes s.up.lost) ∙ s.up.all_said,
    )))) in
    stopped_is_shutdown w.links.limits past
    ∙ no_shutdown w.links.limits past h.history.legal spare
