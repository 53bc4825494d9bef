-- What a turn of the client never does, and what a hit answers.
use Rattle.std.proofs.Common.{◌≡◌, ℕ, List, ◌∷◌, true, false, cond, length, refl, ap}
use Rattle.std.proofs.Common.{arith, if◌then◌else◌, Option, Some}
use Rattle.resp_value.specs.declared.value.Value.{Value}
use Rattle.shared_cache.specs.declared.entry.CacheEntry.{CacheEntry}
use Rattle.shared_cache.specs.declared.log.Wire.TheVariants.{Main}
use Rattle.shared_cache.specs.declared.log.LogEntry.{LogEntry}
use Rattle.shared_cache.specs.declared.log.LogEntry.TheVariants as entry
use Rattle.shared_cache.specs.declared.log.ClientCall.TheVariants as call
use Rattle.shared_cache.specs.declared.log.ClientReply.{ClientReply}
use Rattle.shared_cache.specs.declared.log.ClientReply.TheVariants.{Hit, Sent, NotYet, Answer}
use Rattle.shared_cache.specs.declared.log.ClientReply.TheVariants.{Bytes, Quiet, Noted, Refused}
use Rattle.shared_cache.specs.Held.{Setup, Words, held, held_for}
use Rattle.shared_cache.specs.Log.{is_ended}
use Rattle.shared_cache.specs.Steps.{ClientStep, ClientTurn, MayRunOut, client_step}
use Rattle.client_library.specs.Library.{HitIsHeld, Library, closed, got, is_full, with_log}
use Rattle.shared_cache.specs.ClientFields.{Client}

-- an end takes no memory
pub ends_always : (s : Setup) (log : List LogEntry) → MayRunOut s log (call.End Main) → ⊥
unfolding client_step
ends_always s log m =
    elim (is_ended s.mode Main log) as (λ b. cond b log (entry.End Main ∷ log) ≡ m.0 ∷ log → ⊥) [
      | true ↦ λ e. let n = ap length e in absurd (let no : ⊥ = omega (arith, n) in no)
      | false ↦ grind arith
    ] m.2

abbrev Found : Option CacheEntry → Value → ℕ → Type 0
Found o v n = (h : CacheEntry) × (o ≡ Some h) × (v ≡ h.value) × (n ≡ h.number)

found : (h : CacheEntry) (v : Value) (n : ℕ) → Hit h.value h.number ≡ Hit v n
    → Found (Some h) v n
found h v n e = (h, refl, cc, cc)

hit_found : (s : Setup) (log new : List LogEntry) (q : Words) (v : Value) (n : ℕ)
    → client_step s log (call.Ask q) ≡ record { reply = Hit v n; past = new }
    → Found (held_for q (held s log)) v n
unfolding client_step
hit_found s log new q v n e = grind (arith, found)

-- a hit is what is held of the query
pub hit_is_held : (c : Library) (q : Words) (r : ClientReply) (new : List LogEntry)
    → ClientStep c.setup c.past (call.Ask q) r new → HitIsHeld c q r
hit_is_held c q (Hit v n) new step = hit_found c.setup c.past new q v n step
hit_is_held c q (Sent n) new step = tt
hit_is_held c q NotYet new step = tt
hit_is_held c q (Answer v) new step = tt
hit_is_held c q (Bytes b) new step = tt
hit_is_held c q Quiet new step = tt
hit_is_held c q Noted new step = tt
hit_is_held c q (Refused r) new step = tt

-- what a value leaves, by its turn
module _ (old mid : Client) (v : Value) (r : ClientReply) (setup : mid.setup ≡ old.setup)
    (is : client_step old.setup old.past (call.Got Main v)
    ≡ record { reply = r; past = mid.past }) where
  got_by : got old.setup v old.past ≡ (if is_full r then closed old.setup mid.past else mid.past)
  unfolding got
  got_by =
      ap (λ (t : ClientTurn). if is_full t.reply then closed old.setup t.past else t.past) is

  pub got_kept : is_full r ≡ false → mid ≡ with_log old (got old.setup v old.past)
  got_kept e = grind (arith, got_by)

  pub got_full : is_full r ≡ true
      → with_log mid (closed mid.setup mid.past) ≡ with_log old (got old.setup v old.past)
  got_full e = grind (arith, got_by)
