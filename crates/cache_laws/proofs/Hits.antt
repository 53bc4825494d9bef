-- An Ask is a hit exactly where its query is held.
use Rattle.std.proofs.Common.{◌≡◌, ◌+◌, ◌<◌, ◌++◌, suc, ◌&&◌, ◌||◌, ℕ, List, [], ◌∷◌, length, Bool}
use Rattle.std.proofs.Common.{true, false, not, cond, Option, Some, None, sym, ap, ◌∙◌, refl, subst}
use Rattle.std.proofs.Common.{inl, inr, arith, ne_eqb}
use Rattle.std.specs.List.{filter, Contains}
use Rattle.std.proofs.lemmas.Bool.{cases_eq, and_parts}
use Rattle.std.proofs.lemmas.Option.{same_Some}
use Rattle.resp_value.specs.declared.value.Value.{Value}
use Rattle.command_words.specs.Queries.{key_of, same_query}
use Rattle.shared_cache.specs.declared.log.Wire.TheVariants.{Main, Side}
use Rattle.shared_cache.specs.declared.log.ClientCall.TheVariants as call
use Rattle.shared_cache.specs.declared.log.ClientReply.TheVariants.{Hit}
use Rattle.shared_cache.specs.declared.log.LogEntry.{LogEntry}
use Rattle.shared_cache.specs.declared.log.LogEntry.TheVariants.{Ask, Send, Poll, TakeOut, Got, End}
use Rattle.shared_cache.specs.declared.log.LogEntry.TheVariants.{Bad}
use Rattle.shared_cache.specs.declared.entry.CacheEntry.{CacheEntry}
use Rattle.shared_cache.specs.declared.notices.Notice.{Notice}
use Rattle.shared_cache.specs.declared.notices.Notice.TheVariants.{Reply}
use Rattle.shared_cache.specs.Notices.{notice_of}
use Rattle.shared_cache.specs.Log.{handshake_length, replies, with_reply, reply_in, is_wire}
use Rattle.shared_cache.specs.Log.{is_ended, is_ready, is_accepted, is_broken, caching_on, covers}
use Rattle.shared_cache.specs.Held.{Setup, Words, held_for, held}
use Rattle.shared_cache.specs.Steps.{is_log_full, read_number, answer_ask, client_step}
use Rattle.shared_cache.specs.Laws.{LegalLog}
use Rattle.shared_cache.proofs.FetchLaws.{open_wires}
use Rattle.shared_cache.proofs.HeldSteps.{held_hit}
use Rattle.shared_cache.proofs.StepCases.{ask_ok}
use Rattle.cache_laws.specs.HeldExactly.{IsHit}
use Rattle.cache_laws.proofs.Fetching.{is_open, same_words}
use Rattle.cache_laws.proofs.Displaced.{none_yet}
use Rattle.shared_cache.specs.declared.log.ClientRefusal.TheVariants.{Down, LogFull, NotReady}
use Rattle.shared_cache.specs.Steps.{refusing}
use Rattle.cache_laws.proofs.Once.{is_held}
use Rattle.cache_laws.proofs.Kept.{holds}

accepted_more : (b : Bool) (k : Notice) (n : ℕ) (v : Value) (vs : List Value)
    → is_accepted (reply_in n vs) ≡ true → is_accepted (reply_in n (with_reply b k v vs)) ≡ true
accepted_more true Reply n v vs e = elim (cases_eq n (length vs + 1)) [
  | inl same ↦
      let no : false ≡ true
      = sym (ap is_accepted (none_yet n vs (omega (arith, same)))) ∙ e in
      absurd (let none : ⊥ = cc in none)
  | inr apart ↦
      ap (λ b. is_accepted (cond b (Some v) (reply_in n vs))) (ne_eqb n (length vs + 1) apart) ∙ e
]
accepted_more true k n v vs e = e
accepted_more false k n v vs e = e

ready_more : (s : Setup) (log : List LogEntry) (e : LogEntry) → is_ready s.mode log ≡ true
    → is_ready s.mode (e ∷ log) ≡ true
ready_more s log (Got w v) r =
    accepted_more (is_wire w Main) (notice_of s.mode w v) (handshake_length s.mode) v
    (replies s.mode Main log) r
ready_more s log (Ask q) r = r
ready_more s log (Send ws) r = r
ready_more s log (Poll n) r = r
ready_more s log (TakeOut w n) r = r
ready_more s log (End w) r = r
ready_more s log (Bad w v) r = r

ready_later : (s : Setup) (later sooner : List LogEntry) → is_ready s.mode sooner ≡ true
    → is_ready s.mode (later ++ sooner) ≡ true
ready_later s [] sooner r = r
ready_later s (e ∷ later) sooner r =
    ready_more s (later ++ sooner) e (ready_later s later sooner r)

found_first : (q : Words) (hs rest : List CacheEntry) (h : CacheEntry)
    → filter (λ g. same_query g.query q) hs ≡ h ∷ rest → held_for q hs ≡ Some h
found_first q [] rest h e = absurd (let no : ⊥ = cc in no)
found_first q (g ∷ hs) rest h e =
    go (same_query g.query q) e (λ f. found_first q hs rest h f)
  where
    go : (b : Bool)
        → cond b (g ∷ filter (λ g. same_query g.query q) hs) (filter (λ g. same_query g.query q) hs)
        ≡ h ∷ rest
        → (filter (λ g. same_query g.query q) hs ≡ h ∷ rest → held_for q hs ≡ Some h)
        → cond b (Some g) (held_for q hs) ≡ Some h
    go true e more = let same : g ≡ h = cc in ap Some same
    go false e more = more e

pub hit : (s : Setup) (log : List LogEntry) → 0 < s.capacity → LegalLog s log → (h : CacheEntry)
    → Contains (held s log) h → is_log_full s log ≡ false → IsHit s log h
hit s log some legal h c room =
    let still = holds s log legal h c in
    let u = still.fetch in
    let found = found_first h.query (held s log) [] h (is_held s log some legal h still) in
    let caching = (and_parts (caching_on s.mode u.sent.sooner)
    (covers s.mode.caching (key_of h.query)) u.sent.on).0 in
    let on = and_parts (is_ready s.mode u.sent.sooner)
    (not (is_ended s.mode Main u.sent.sooner || is_ended s.mode Side u.sent.sooner)
    && not (is_broken s.mode u.sent.sooner)) caching in
    let ready = ap (is_ready s.mode) u.sent.log_is
    ∙ ready_later s u.sent.later (Ask h.query ∷ u.sent.sooner) on.0 in
    let live = open_wires s log h.number h.query (is_open s log h.number h.query u) in (
      ask_ok s log h.query live.0 ready room
          ∙ ap (λ o. record {
            reply = answer_ask o (read_number s log h.query);
            past = Ask h.query ∷ log;
          }) found,
      held_hit s log h.query h found,
    )

-- what is found of a query is among what is held, and is of that query
found_contained : (q : Words) (hs : List CacheEntry) (h : CacheEntry) → held_for q hs ≡ Some h
    → Contains hs h × (h.query ≡ q)
found_contained q [] h e = absurd (let no : ⊥ = cc in no)
found_contained q (g ∷ hs) h e =
    go (same_query g.query q) refl e (λ f. found_contained q hs h f)
  where
    go : (b : Bool) → same_query g.query q ≡ b → cond b (Some g) (held_for q hs) ≡ Some h
        → (held_for q hs ≡ Some h → Contains hs h × (h.query ≡ q))
        → Contains (g ∷ hs) h × (h.query ≡ q)
    go true same e more =
        let is = same_Some g h e in
        ((0, omega arith, is), ap (λ x. x.query) (sym is) ∙ same_words g.query q same)
    go false other e more =
        let r = more e in
        let lt = r.0.1 in
        ((suc r.0.0, omega (arith, lt), r.0.2), r.1)

answered : (q : Words) (hs : List CacheEntry) (o : Option CacheEntry) (k : ℕ) (v : Value) (n : ℕ)
    → held_for q hs ≡ o → answer_ask o k ≡ Hit v n
    → Contains hs (record { query = q; value = v; number = n })
answered q hs None k v n e f = absurd (let no : ⊥ = cc in no)
answered q hs (Some h) k v n e f =
    let r = found_contained q hs h e in
    let value : h.value ≡ v = cc in
    let number : h.number ≡ n = cc in
    subst (λ (g : CacheEntry). Contains hs g)
    (λ i. record { query = r.1 i; value = value i; number = number i }) r.0

pub hit_of : (s : Setup) (log : List LogEntry) (q : Words) (v : Value) (n : ℕ)
    → (client_step s log (call.Ask q)).reply ≡ Hit v n
    → Contains (held s log) (record { query = q; value = v; number = n })
unfolding client_step
hit_of s log q v n e =
    go (is_ended s.mode Main log) (is_ready s.mode log) (is_log_full s log) e
  where
    go : (over ready full : Bool)
        → (cond over (refusing (Down Main) log)
        (cond (not ready) (refusing NotReady log)
        (cond full (refusing (LogFull (length log)) log)
        (record {
          reply = answer_ask (held_for q (held s log)) (read_number s log q);
          past = Ask q ∷ log;
        })))).reply ≡ Hit v n
        → Contains (held s log) (record { query = q; value = v; number = n })
    go true ready full e = absurd (let no : ⊥ = cc in no)
    go false false full e = absurd (let no : ⊥ = cc in no)
    go false true true e = absurd (let no : ⊥ = cc in no)
    go false true false e =
        answered q (held s log) (held_for q (held s log)) (read_number s log q) v n refl e
