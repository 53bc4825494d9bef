-- A caller's turns, after turns that added nothing.
use Rattle.std.proofs.Common.{◌≡◌, ℕ, List, [], ◌∷◌, true, false, ap, subst, arith}
use Rattle.turn_lock.specs.Own.{past_of, Grows}
use Rattle.turn_lock.proofs.Growing.{grows_then, grows_past}
use Rattle.turn_lock.proofs.Turning.{begins_trans}
use Rattle.resp_value.specs.declared.value.Value.{Value}
use Rattle.shared_cache.specs.declared.log.LogEntry.{LogEntry}
use Rattle.shared_cache.specs.declared.log.LogEntry.TheVariants as entry
use Rattle.shared_cache.specs.declared.log.ClientCall.{ClientCall}
use Rattle.shared_cache.specs.declared.log.ClientCall.TheVariants as call
use Rattle.shared_cache.specs.declared.log.ClientReply.{ClientReply}
use Rattle.shared_cache.specs.declared.log.ClientReply.TheVariants as reply
use Rattle.shared_cache.specs.declared.log.ClientRefusal.{ClientRefusal}
use Rattle.shared_cache.specs.declared.log.ClientRefusal.TheVariants as refusal
use Rattle.shared_cache.specs.Steps.{client_step, MayRunOut}
use Rattle.shared_client.specs.Turns.{Place, setup_in, setup_at, Adds, Stays, RunsOut, WornOut}
use Rattle.shared_client.specs.Turns.{Refuses}
use Rattle.client_link.specs.Callers.{is_not_ready, Fails, Answers, Fetches, Sends}
use Rattle.client_link.proofs.Steps.{ask_hit, ask_sent, send_sent, poll_answer}

module _ (old k new : Place) (g : Grows old k []) where
  setup_same : setup_at k ≡ setup_at old
  setup_same = ap setup_in g.setup

  pub waited_more : Grows k new [] → Grows old new []
  waited_more h = grows_then old k new [] [] g h

  pub waited_adds : (c : ClientCall) (r : ClientReply) (e : LogEntry) → Adds c r e k new
      → Adds c r e old new
  waited_adds c r e a = record {
    past = a.past;
    begins = begins_trans (past_of old) (past_of k) a.past (grows_past old k [] g) a.begins;
    step = subst (λ s. client_step s a.past c ≡ record { reply = r; past = e ∷ a.past }) setup_same
        a.step;
    grows = grows_then old k new [] ((e, a.past) ∷ []) g a.grows;
    ends = a.ends;
  }

  waited_stays : (c : ClientCall) (r : ClientReply) → Stays c r k new → Stays c r old new
  waited_stays c r a = record {
    step = subst (λ s. client_step s (past_of new) c ≡ record { reply = r; past = past_of new })
        setup_same a.step;
    grows = grows_then old k new [] [] g a.grows;
  }

  waited_out : (c : ClientCall) → RunsOut c k new → RunsOut c old new
  waited_out c a = record {
    needs = subst (λ s. MayRunOut s (past_of new) c) setup_same a.needs;
    grows = grows_then old k new [] [] g a.grows;
  }

  waited_worn : WornOut k new → WornOut old new
  waited_worn a = record { tickets = a.tickets; grows = grows_then old k new [] [] g a.grows }

  pub waited_refuses : (c : ClientCall) (r : ClientRefusal) → Refuses c r k new
      → Refuses c r old new
  waited_refuses c refusal.NoMemory h = (h.0, waited_out c h.1)
  waited_refuses c refusal.Worn h = (h.0, waited_worn h.1)
  waited_refuses c (refusal.Down w) h = (h.0, waited_stays c (reply.Refused (refusal.Down w)) h.1)
  waited_refuses c (refusal.Unexpected w) h =
      (h.0, waited_stays c (reply.Refused (refusal.Unexpected w)) h.1)
  waited_refuses c (refusal.BadPush w) h =
      (h.0, waited_stays c (reply.Refused (refusal.BadPush w)) h.1)
  waited_refuses c (refusal.LogFull n) h =
      (h.0, waited_stays c (reply.Refused (refusal.LogFull n)) h.1)
  waited_refuses c (refusal.SetupRefused w) h =
      (h.0, waited_stays c (reply.Refused (refusal.SetupRefused w)) h.1)
  waited_refuses c refusal.NotReady h =
      (h.0, waited_stays c (reply.Refused refusal.NotReady) h.1)
  waited_refuses c refusal.Control h =
      (h.0, waited_stays c (reply.Refused refusal.Control) h.1)
  waited_refuses c (refusal.NoNumber n) h =
      (h.0, waited_stays c (reply.Refused (refusal.NoNumber n)) h.1)

  -- a refusal that is no want of readiness
  pub waited_fails : (c : ClientCall) (r : ClientRefusal) → is_not_ready r ≡ false
      → Refuses c r k new → Fails c r old new
  waited_fails c r off h = grind (arith, grows_then, waited_refuses)

  -- want of readiness, which is waited for
  pub waited_on : (c : ClientCall) (r : ClientRefusal) → is_not_ready r ≡ true
      → Refuses c r k new → Grows old new []
  waited_on c refusal.NotReady is h = grows_then old k new [] [] g h.1.grows
  waited_on c r is h = absurd (let z : ⊥ = cc in z)

-- the reply that was handed out is that of the number
pub answers : (n : ℕ) (v : Value) (old new : Place)
    → Adds (call.Poll n) (reply.Answer v) (entry.Poll n) old new → Answers n v old new
answers n v old new a = record {
  polls = a;
  reply_is = poll_answer (setup_at old) a.past n v (entry.Poll n ∷ a.past) a.step;
}

module _ (q : List (List ℕ)) (v : Value) (n : ℕ) where
  pub fetches_hit : (old new : Place)
      → Adds (call.Ask q) (reply.Hit v n) (entry.Ask q) old new
      → Fetches q (record { value = v; from_cache = true; number = n }) old new
  fetches_hit old new a =
      let h = ask_hit (setup_at old) a.past q v n (entry.Ask q ∷ a.past) a.step in (
        λ is. record {
          asks = a;
          entry_held = h.0;
          is_held = h.1;
          value_is = h.2;
          number_is = h.3;
        },
        λ is. absurd (let z : ⊥ = cc in z),
      )

  pub fetches_read : (old k new : Place)
      → Adds (call.Ask q) (reply.Sent n) (entry.Ask q) old k
      → Adds (call.Poll n) (reply.Answer v) (entry.Poll n) k new
      → Fetches q (record { value = v; from_cache = false; number = n }) old new
  fetches_read old k new a p =
      let h = ask_sent (setup_at old) a.past q n (entry.Ask q ∷ a.past) a.step in (
        λ is. absurd (let z : ⊥ = cc in z),
        λ is. record {
          sent = k;
          asks = a;
          not_held = h.0;
          number_is = h.1;
          answers = answers n v k new p;
        },
      )

pub sends : (ws : List (List ℕ)) (n : ℕ) (v : Value) (old k new : Place)
    → Adds (call.Send ws) (reply.Sent n) (entry.Send ws) old k
    → Adds (call.Poll n) (reply.Answer v) (entry.Poll n) k new → Sends ws v old new
sends ws n v old k new a p = record {
  number = n;
  sent = k;
  sends = a;
  number_is = send_sent (setup_at old) a.past ws n (entry.Send ws ∷ a.past) a.step;
  answers = answers n v k new p;
}
