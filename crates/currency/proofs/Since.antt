-- What was got after a fetch was sent.
use Rattle.std.proofs.Common.{◌≡◌, ◌-◌, ◌<◌, ◌≤◌, ℕ, List, [], ◌∷◌, ◌++◌, length, true, false}
use Rattle.std.proofs.Common.{ap, sym, refl, cond}
use Rattle.std.proofs.Common.{◌∙◌, arith, Some, ◌⊎◌, inl, inr, append-nil, append_assoc}
use Rattle.std.proofs.lemmas.Bool.{or_parts}
use Rattle.std.specs.Prelude.{slice_get}
use Rattle.std.proofs.lemmas.Option.{slice_get_within}
use Rattle.resp_value.specs.declared.value.Value.{Value}
use Rattle.serial_model.specs.declared.history.Limits.{Limits}
use Rattle.serial_model.specs.declared.history.Entry.{Entry}
use Rattle.shared_cache.specs.declared.log.Wire.{Wire}
use Rattle.shared_cache.specs.declared.log.Wire.TheVariants.{Main, Side}
use Rattle.shared_cache.specs.declared.log.LogEntry.{LogEntry}
use Rattle.shared_cache.specs.declared.log.LogEntry.TheVariants.{Got}
use Rattle.shared_cache.specs.Notices.{invalidates}
use Rattle.command_words.specs.Queries.{key_of}
use Rattle.shared_cache.specs.Log.{is_wire, replies, caching_on_for}
use Rattle.shared_cache.specs.Held.{commands, sent, read_lead, outdates}
use Rattle.shared_cache.specs.Laws.{gots, Spared, WasSent}
use Rattle.shared_cache.proofs.Handshakes.{handshake_within, put_count}
use Rattle.shared_cache.proofs.Led.{led_some}
use Rattle.wire_currency.specs.Traffic.{IsPrefix}
use Rattle.currency.specs.Links.{Client}
use Rattle.currency.proofs.Lists.{get_parts, get_one}

same_wire : (u w : Wire) → is_wire u w ≡ true → u ≡ w
same_wire Main Main e = refl
same_wire Side Side e = refl
same_wire Main Side e = absurd (let no : ⊥ = cc in no)
same_wire Side Main e = absurd (let no : ⊥ = cc in no)

module _ (w : Wire) where
  -- what had been got is the first of what was got later
  pub gots_prefix : (later log : List LogEntry) → IsPrefix (gots w log) (gots w (later ++ log))
  gots_prefix [] log = ([], append-nil (gots w log))
  gots_prefix (Got u v ∷ later) log =
      let r = gots_prefix later log in
      elim (is_wire u w) as (λ b. IsPrefix (gots w log)
      (cond b (gots w (later ++ log) ++ v ∷ []) (gots w (later ++ log)))) [
        | true ↦ (
          r.0 ++ v ∷ [],
          sym (append_assoc (gots w log) r.0 (v ∷ [])) ∙ ap (λ vs. vs ++ v ∷ []) r.1,
        )
        | false ↦ r
      ]
  gots_prefix (e ∷ later) log = gots_prefix later log

module _ (l : Limits) (x : Client) (past : List Entry) where
  module _ (w : Wire) (n : ℕ) (k : List ℕ) (sooner : List LogEntry) where
    -- a value that was got after the fetch was sent, at a place, is spared
    pub spared_since : (later : List LogEntry) → Spared x.setup sooner n k later
        → (i : ℕ) (v : Value) → slice_get (gots w (later ++ sooner)) i ≡ Some v
        → (i < length (gots w sooner)) ⊎ (invalidates x.setup.mode w v k ≡ false)
    spared_since [] s i v e = inl (slice_get_within (gots w sooner) i v e)
    spared_since (Got u y ∷ later) s i v e =
        let log = later ++ sooner in
        elim (is_wire u w) as (λ b. is_wire u w ≡ b
        → slice_get (cond b (gots w log ++ y ∷ []) (gots w log)) i ≡ Some v
        → (i < length (gots w sooner)) ⊎ (invalidates x.setup.mode w v k ≡ false)) [
          | true ↦ λ own e.
              elim (get_parts (gots w log) (y ∷ []) i v e) [
                | inl h ↦ spared_since later s.1 i v h
                | inr b ↦
                    let o = get_one y b.at v b.there in
                    let spared = or_parts (outdates x.setup (sent x.setup log)
                    (length (replies x.setup.mode Main log)) u y n k)
                    (invalidates x.setup.mode u y k) s.0 in
                    inr (ap (λ z. invalidates x.setup.mode w z k) (sym o.1)
                    ∙ ap (λ d. invalidates x.setup.mode d y k) (sym (same_wire u w own))
                    ∙ spared.1)
              ]
          | false ↦ λ other e. spared_since later s.1 i v e
        ] refl e
    spared_since (x ∷ later) s i v e = spared_since later s.1 i v e

  -- the place of the command of an open fetch was still to come
  pub place_later : (log : List LogEntry) (n : ℕ) (q : List (List ℕ))
      → (w : WasSent x.setup log n q) → length (commands x.setup Main w.sooner) ≤ n - 1
  place_later log n q w =
      omega (
        arith,
        w.number_is,
        put_count x.setup w.sooner,
        handshake_within x.setup.mode w.sooner,
        led_some (read_lead x.setup.mode.caching
            (caching_on_for x.setup.mode w.sooner (key_of q))) q,
      )
