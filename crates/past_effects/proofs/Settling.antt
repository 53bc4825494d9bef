-- Who ends by an effect's action, and what it leaves of connections.
use Rattle.std.proofs.Common.{◌≡◌, ◌∙◌, ◌+◌, ◌<◌, ◌≤◌, ℕ, List, [], ◌++◌, Bool, true, false, refl}
use Rattle.std.proofs.Common.{sym, ap, arith, map, length, cond, append-nil}
use Rattle.std.specs.Prelude.{◌==◌, ◌&&◌, ◌||◌, nat_le, nat_lt, not}
use Rattle.std.proofs.lemmas.Bool.{and_parts}
use Rattle.std.proofs.lemmas.Bool.Decides.{nat_tests}
use Rattle.std.proofs.lemmas.Grind.{flat_map-append}
use Rattle.serial_model.specs.declared.history.Limits.{Limits}
use Rattle.serial_model.specs.declared.standing.Standing.{Standing}
use Rattle.serial_model.specs.declared.standing.Standing.TheVariants.{Quit, Gone}
use Rattle.serial_model.specs.Actions.{Action, End, Sending, action_leaves, action_sends, bytes_to}
use Rattle.serial_model.specs.Actions.{ends, is_ending, messages, modes_then, quits, sending_bytes}
use Rattle.serial_model.specs.Actions.{rows_grown, standing_after, waiting_after}
use Rattle.serial_model.specs.Modes.{is_stopping}
use Rattle.serial_model.specs.State.{State, for_each, is_live, is_on, keeps_bytes}
use Rattle.track_table.specs.Table.{TableState, kept, without_connection}
use Rattle.prefix_table.specs.Table as registrations
use Rattle.past_effects.specs.declared.scan.Scan.{Scan}
use Rattle.past_effects.specs.Past.{Follows}
use Rattle.serial_model.specs.Tracking.{has_id, ids_where, registering}
use Rattle.past_effects.specs.declared.connection.Causes.{Causes}
use Rattle.past_effects.specs.declared.sendings.Sent.{Sent}
use Rattle.past_effects.specs.Ends.{AreSettled, ended_ids, ends_one, settled_one}
use Rattle.past_effects.specs.Seen.{Seen, gone, is_there, mode_at, on_at, passes, seen_at}
use Rattle.past_effects.specs.Sendings.{bytes_for, outline}
use Rattle.past_effects.proofs.Ids.{bytes_are, ends_no_bytes, ids_has, ids_same}
use Rattle.past_effects.proofs.Kept.{not_there}

same_and : (a b x y : Bool) → a ≡ true → b ≡ true → (a && x) ≡ (b && y) → x ≡ y
same_and a b x y p q e = grind arith

-- what ends one that has not ended
same_end : (x y q r u v o p : Bool) → x ≡ y → q ≡ r → u ≡ v → (y ≡ true → o ≡ p)
    → (x && (q || u || o)) ≡ (y && (r || v || p))
same_end x true q r u v o p live quit stop over =
    let e = over refl in cc
same_end x false q r u v o p live quit stop over =
    ap (λ b. b && (q || u || o)) live

left_live : (b q : Bool) (x : Standing)
    → is_live (cond b (cond q Quit Gone) x) ≡ (is_live x && not b)
left_live b q x = grind arith

live_keeps : (x : Standing) → is_live x ≡ true → keeps_bytes x ≡ true
live_keeps x live = grind arith

-- ---- one that is settled

module _ (causes : Causes) (sent : List Sent) (c : ℕ) (x : Seen) where
  settled_mode : (settled_one causes sent c x).mode ≡ x.mode
  settled_mode = elim (is_live x.standing) as (λ b. (cond b
      (cond (ends_one causes sent c x) (gone x)
      (record x { waiting = x.waiting + bytes_for c sent })) x).mode ≡ x.mode) [
        | true ↦ elim (ends_one causes sent c x) as (λ b. (cond b (gone x)
            (record x { waiting = x.waiting + bytes_for c sent })).mode ≡ x.mode) [
              | true ↦ refl
              | false ↦ refl
            ]
        | false ↦ refl
      ]

  settled_live : is_live (settled_one causes sent c x).standing
      ≡ (is_live x.standing && not (ends_one causes sent c x))
  settled_live = elim (is_live x.standing) as (λ b. is_live x.standing ≡ b → is_live (cond b
      (cond (ends_one causes sent c x) (gone x)
      (record x { waiting = x.waiting + bytes_for c sent })) x).standing
      ≡ (b && not (ends_one causes sent c x))) [
        | true ↦ λ live. elim (ends_one causes sent c x) as (λ b. is_live (cond b (gone x)
            (record x { waiting = x.waiting + bytes_for c sent })).standing ≡ not b) [
              | true ↦ refl
              | false ↦ live
            ]
        | false ↦ λ off. off
      ] refl

  settled_waiting : is_live x.standing ≡ true → ends_one causes sent c x ≡ false
      → (settled_one causes sent c x).waiting ≡ x.waiting + bytes_for c sent
  settled_waiting live stays =
      ap (λ b. (cond b (cond (ends_one causes sent c x) (gone x)
      (record x { waiting = x.waiting + bytes_for c sent })) x).waiting) live
      ∙ ap (λ b. (cond b (gone x)
      (record x { waiting = x.waiting + bytes_for c sent })).waiting) stays

-- ---- all of them

-- connections before they are settled, in a state
module _ (l : Limits) (t : Action) (s : State) (ks : List Seen) (causes : Causes)
    (sent : List Sent) (count : length ks ≡ s.admitted)
    (on : (c : ℕ) → on_at ks c ≡ is_on s c)
    (waiting : (c : ℕ) → is_on s c ≡ true → (seen_at ks c).waiting ≡ s.waiting c)
    (modes : (c : ℕ) → mode_at ks c ≡ modes_then t s c)
    (most : causes.out_max ≡ l.out_max)
    (quitter : (c : ℕ) → passes causes.quitter c ≡ quits t c)
    (stops : causes.stops ≡ is_stopping t.effect.ending)
    (is : sent ≡ map outline (messages l t s)) where
  bytes_of : (c : ℕ) → bytes_for c sent ≡ length (bytes_to c (messages l t s))
  bytes_of c = ap (bytes_for c) is ∙ bytes_are c (messages l t s)

  module _ (c : ℕ) (some : 0 < c) (le : c ≤ s.admitted) where
    there : is_there ks c ≡ true
    there = let n = count in grind (arith, nat_tests)

    there_too : (nat_lt 0 c && nat_le c s.admitted) ≡ true
    there_too = grind (arith, nat_tests)

    live_is : is_live (seen_at ks c).standing ≡ is_live (s.standing c)
    live_is = same_and _ _ _ _ there there_too (on c)

    is_on_if : is_live (s.standing c) ≡ true → is_on s c ≡ true
    is_on_if live = ap (λ b. b && is_live (s.standing c)) there_too ∙ live

    over_is : is_live (s.standing c) ≡ true
        → nat_lt causes.out_max ((seen_at ks c).waiting + bytes_for c sent)
        ≡ nat_lt l.out_max (s.waiting c + length (bytes_to c (messages l t s)))
    over_is live =
        ap (λ n. nat_lt n ((seen_at ks c).waiting + bytes_for c sent)) most
        ∙ ap (λ n. nat_lt l.out_max (n + bytes_for c sent)) (waiting c (is_on_if live))
        ∙ ap (λ n. nat_lt l.out_max (s.waiting c + n)) (bytes_of c)

    ends_is : ends_one causes sent c (seen_at ks c) ≡ is_ending l t s c
    ends_is = same_end _ _ _ _ _ _ _ _ live_is (quitter c) stops over_is

    has_is : has_id c (ends l t s) ≡ is_ending l t s c
    has_is = ids_has (is_ending l t s) c s.admitted some le

  pub ended_is : ended_ids causes sent ks ≡ ends l t s
  ended_is =
      ap (ids_where (λ c. ends_one causes sent c (seen_at ks c))) count
      ∙ ids_same (λ c. ends_one causes sent c (seen_at ks c)) (is_ending l t s) s.admitted ends_is

  -- ---- what is left of them

  standing_is : (c : ℕ) → 0 < c → c ≤ s.admitted
      → is_live (standing_after l t s c) ≡ (is_live (s.standing c) && not (is_ending l t s c))
  standing_is c some le =
      ap (λ b. is_live (cond b (cond (quits t c) Quit Gone) (s.standing c))) (has_is c some le)
      ∙ left_live (is_ending l t s c) (quits t c) (s.standing c)

  module _ (ds : List Seen) (settled : AreSettled causes sent ks ds) where
    there_then : (c : ℕ) → is_there ds c ≡ (nat_lt 0 c && nat_le c s.admitted)
    there_then c = ap (λ n. nat_lt 0 c && nat_le c n) (settled.count ∙ count)

    there_before : (c : ℕ) → is_there ks c ≡ (nat_lt 0 c && nat_le c s.admitted)
    there_before c = ap (λ n. nat_lt 0 c && nat_le c n) count

    one_is : (c : ℕ) → (nat_lt 0 c && nat_le c s.admitted) ≡ true
        → seen_at ds c ≡ settled_one causes sent c (seen_at ks c)
    one_is c inside =
        let n = count in
        settled.each c (grind (arith, nat_tests)) (grind (arith, nat_tests))

    then_mode : (c : ℕ) → mode_at ds c ≡ modes_then t s c
    then_mode c =
        elim (nat_lt 0 c && nat_le c s.admitted) as (λ b. (nat_lt 0 c && nat_le c s.admitted) ≡ b
        → mode_at ds c ≡ mode_at ks c) [
          | true ↦ λ inside. ap (λ (x : Seen). x.mode) (one_is c inside)
              ∙ settled_mode causes sent c (seen_at ks c)
          | false ↦ λ off. ap (λ (x : Seen). x.mode) (not_there ds c (there_then c ∙ off)
              ∙ sym (not_there ks c (there_before c ∙ off)))
        ] refl
        ∙ modes c

    live_then : (c : ℕ) → (nat_lt 0 c && nat_le c s.admitted) ≡ true
        → is_live (seen_at ds c).standing ≡ is_live (standing_after l t s c)
    live_then c inside =
        let some : 0 < c = grind (arith, nat_tests) in
        let le : c ≤ s.admitted = grind (arith, nat_tests) in
        ap (λ (x : Seen). is_live x.standing) (one_is c inside)
        ∙ settled_live causes sent c (seen_at ks c)
        ∙ ap (λ b. b && not (ends_one causes sent c (seen_at ks c))) (live_is c some le)
        ∙ ap (λ b. is_live (s.standing c) && not b) (ends_is c some le)
        ∙ sym (standing_is c some le)

    then_on : (c : ℕ) → on_at ds c ≡ is_on (action_leaves l t s) c
    then_on c =
        ap (λ b. b && is_live (seen_at ds c).standing) (there_then c)
        ∙ elim (nat_lt 0 c && nat_le c s.admitted) as (λ b.
        (nat_lt 0 c && nat_le c s.admitted) ≡ b
        → (b && is_live (seen_at ds c).standing) ≡ (b && is_live (standing_after l t s c))) [
          | true ↦ λ inside. live_then c inside
          | false ↦ λ off. refl
        ] refl

    sent_bytes : (c : ℕ) → bytes_to c (action_sends l t s) ≡ bytes_to c (messages l t s)
    sent_bytes c =
        flat_map-append (λ (m : ℕ × Sending). cond (m.0 == c) (sending_bytes m.1) [])
        (messages l t s) (map (λ id. (id, End)) (ends l t s))
        ∙ ap (λ x. bytes_to c (messages l t s) ++ x) (ends_no_bytes c (ends l t s))
        ∙ append-nil (bytes_to c (messages l t s))

    then_waiting : (c : ℕ) → is_on (action_leaves l t s) c ≡ true
        → (seen_at ds c).waiting ≡ waiting_after l t s c
    then_waiting c still =
        let parts = and_parts (nat_lt 0 c && nat_le c s.admitted)
        (is_live (standing_after l t s c)) still in
        let some : 0 < c = let p = parts.0 in grind (arith, nat_tests, p) in
        let le : c ≤ s.admitted = let p = parts.0 in grind (arith, nat_tests, p) in
        let both = and_parts (is_live (s.standing c)) (not (is_ending l t s c))
        (sym (standing_is c some le) ∙ parts.1) in
        let stays : is_ending l t s c ≡ false = let b = both.1 in grind (arith, b) in
        ap (λ (x : Seen). x.waiting) (one_is c parts.0)
        ∙ settled_waiting causes sent c (seen_at ks c) (live_is c some le ∙ both.0)
        (ends_is c some le ∙ stays)
        ∙ ap (λ n. n + bytes_for c sent) (waiting c (is_on_if c some le both.0))
        ∙ ap (λ n. s.waiting c + n) (bytes_of c ∙ ap length (sym (sent_bytes c)))
        ∙ sym (ap (λ b. cond b (s.waiting c + length (bytes_to c (action_sends l t s))) 0)
        (live_keeps (standing_after l t s c) parts.1))

    pub follows_settled : (new : Scan) → new.out_max ≡ l.out_max → new.connections ≡ ds
        → new.table ≡ record {
          limit = l.table_max;
          rows = for_each without_connection (ends l t s) (kept l.table_max (rows_grown t s));
        }
        → new.prefixes ≡ for_each registrations.without_connection (ends l t s)
        (registering t.by t.effect.memory s.prefixes)
        → Follows l new (action_leaves l t s)
    follows_settled new limit are table prefixes = record {
      most = limit;
      limit = ap (λ (x : TableState). x.limit) table;
      count = ap length are ∙ settled.count ∙ count;
      modes = λ c. ap (λ x. mode_at x c) are ∙ then_mode c;
      on = λ c. ap (λ x. on_at x c) are ∙ then_on c;
      waiting = λ c still. ap (λ x. (seen_at x c).waiting) are ∙ then_waiting c still;
      rows = ap (λ (x : TableState). x.rows) table;
      prefixes = prefixes;
    }
