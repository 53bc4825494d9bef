-- What is kept follows the state: where a connection is admitted, takes, or is closed.
use Rattle.std.proofs.Common.{◌≡◌, ◌∙◌, ◌+◌, ◌-◌, ℕ, List, [], ◌∷◌, ◌++◌, Bool, true, false, cond}
use Rattle.std.proofs.Common.{refl, sym, ap, arith, map, length, inl, inr, ne_eqb, eq-eqb}
use Rattle.std.proofs.Common.{length-append, subst}
use Rattle.std.specs.Prelude.{◌&&◌, nat_lt, nat_le}
use Rattle.std.proofs.lemmas.Bool.{and_parts, both_ways, cases_eq}
use Rattle.std.proofs.lemmas.Bool.Decides.{nat_tests}
use Rattle.track_table.specs.Table.{TableState, without_connection}
use Rattle.prefix_table.specs.Table as registrations
use Rattle.track_modes.specs.ModeState.{new_mode}
use Rattle.serial_model.specs.declared.history.Limits.{Limits}
use Rattle.serial_model.specs.declared.standing.Standing.{Standing}
use Rattle.serial_model.specs.declared.standing.Standing.TheVariants.{Live}
use Rattle.serial_model.specs.Actions.{End}
use Rattle.serial_model.specs.State.{State, at, closed, is_live, is_on}
use Rattle.past_effects.specs.declared.scan.Scan.{Scan}
use Rattle.past_effects.specs.declared.sendings.Sent.{Sent}
use Rattle.past_effects.specs.Past.{Follows, closed_at, taken_at, with_one}
use Rattle.past_effects.specs.Seen.{Seen, admitted_one, changed, gone, is_there, mode_at, on_at}
use Rattle.past_effects.specs.Seen.{seen_at, taking}
use Rattle.past_effects.specs.Sendings.{end_of, outline}
use Rattle.past_effects.proofs.Kept.{changed_count, changed_keeps, changed_none, changed_other}
use Rattle.past_effects.proofs.Kept.{changed_own, changed_there, more_seen, next_seen}

at_own : {X : Type 0} (id c : ℕ) (x : X) (f : ℕ → X) → id ≡ c → at id x f c ≡ x
at_own id c x f e = ap (λ b. cond b x (f c)) (eq-eqb id c e)

at_other : {X : Type 0} (id c : ℕ) (x : X) (f : ℕ → X) → (id ≡ c → ⊥) → at id x f c ≡ f c
at_other id c x f ne = ap (λ b. cond b x (f c)) (ne_eqb id c ne)

-- a connection was admitted and has not ended
abbrev Lives : ℕ → ℕ → Standing → Bool
Lives n c standing = (nat_lt 0 c && nat_le c n) && is_live standing

module _ (l : Limits) (old : Scan) (s : State) (f : Follows l old s) where
  abbrev cs : List Seen
  cs = old.connections

  -- ---- one is admitted

  abbrev next : ℕ
  next = s.admitted + 1

  abbrev more : List Seen
  more = cs ++ admitted_one ∷ []

  more_count : length more ≡ next
  more_count = let e = f.count in omega (arith, length-append cs (admitted_one ∷ []), e)

  last_seen : (c : ℕ) → next ≡ c → seen_at more c ≡ admitted_one
  last_seen c e =
      more_seen cs c ∙ next_seen cs c (let n = f.count in omega (arith, n, e))

  more_mode : (c : ℕ) → mode_at more c ≡ at next new_mode s.modes c
  more_mode c = elim (cases_eq next c) [
    | inl e ↦ ap (λ (x : Seen). x.mode) (last_seen c e) ∙ sym (at_own next c new_mode s.modes e)
    | inr ne ↦ ap (λ (x : Seen). x.mode) (more_seen cs c) ∙ f.modes c
        ∙ sym (at_other next c new_mode s.modes ne)
  ]

  before : (n c : ℕ) (x y : Standing) → (n + 1 ≡ c → ⊥)
      → Lives n c x ≡ Lives n c y → Lives (n + 1) c x ≡ Lives (n + 1) c y
  before n c x y ne same = grind (arith, nat_tests)

  more_on : (c : ℕ) → on_at more c ≡ is_on (with_one s) c
  more_on c =
      ap (λ n. Lives n c (seen_at more c).standing) more_count
      ∙ elim (cases_eq next c) [
        | inl e ↦ ap (λ (x : Seen). Lives next c x.standing) (last_seen c e)
            ∙ ap (Lives next c) (sym (at_own next c Live s.standing e))
        | inr ne ↦ ap (λ (x : Seen). Lives next c x.standing) (more_seen cs c)
            ∙ before s.admitted c (seen_at cs c).standing (s.standing c) ne
            (ap (λ n. Lives n c (seen_at cs c).standing) (sym f.count) ∙ f.on c)
            ∙ ap (Lives next c) (sym (at_other next c Live s.standing ne))
      ]

  earlier : (n c : ℕ) (x : Standing) → (n + 1 ≡ c → ⊥) → Lives (n + 1) c x ≡ true
      → Lives n c x ≡ true
  earlier n c x ne on = grind (arith, nat_tests)

  more_waiting : (c : ℕ) → is_on (with_one s) c ≡ true
      → (seen_at more c).waiting ≡ at next 0 s.waiting c
  more_waiting c on = elim (cases_eq next c) [
    | inl e ↦ ap (λ (x : Seen). x.waiting) (last_seen c e) ∙ sym (at_own next c 0 s.waiting e)
    | inr ne ↦ ap (λ (x : Seen). x.waiting) (more_seen cs c)
        ∙ f.waiting c (earlier s.admitted c (s.standing c) ne
        (ap (Lives next c) (sym (at_other next c Live s.standing ne)) ∙ on))
        ∙ sym (at_other next c 0 s.waiting ne)
  ]

  pub follows_admit : (new : Scan) → new.out_max ≡ old.out_max
      → new.connections ≡ more → new.table ≡ old.table
      → new.prefixes ≡ old.prefixes → Follows l new (with_one s)
  follows_admit new most are table prefixes = record {
    most = most ∙ f.most;
    limit = ap (λ (t : TableState). t.limit) table ∙ f.limit;
    count = ap length are ∙ more_count;
    modes = λ c. ap (λ x. mode_at x c) are ∙ more_mode c;
    on = λ c. ap (λ x. on_at x c) are ∙ more_on c;
    waiting = λ c on. ap (λ x. (seen_at x c).waiting) are ∙ more_waiting c on;
    rows = ap (λ (t : TableState). t.rows) table ∙ f.rows;
    prefixes = prefixes ∙ f.prefixes;
  }

  -- ---- one takes

  module _ (id count : ℕ) where
    abbrev took : List Seen
    took = changed id (taking count) cs

    took_on : (c : ℕ) → on_at took c ≡ is_on s c
    took_on c =
        ap (λ b. b && is_live (seen_at took c).standing) (changed_there id (taking count) cs c)
        ∙ ap (λ x. is_there cs c && is_live x)
        (changed_keeps id (taking count) cs (λ x. x.standing) (λ x. refl) c)
        ∙ f.on c

    took_waiting : (c : ℕ) → is_on s c ≡ true
        → (seen_at took c).waiting ≡ at id (s.waiting id - count) s.waiting c
    took_waiting c on = elim (cases_eq id c) [
      | inl e ↦ subst (λ i. is_on s i ≡ true
          → (seen_at took i).waiting ≡ at id (s.waiting id - count) s.waiting i) e
          (λ own. ap (λ (x : Seen). x.waiting) (changed_own id (taking count) cs
          (and_parts (is_there cs id) (is_live (seen_at cs id).standing) (f.on id ∙ own)).0)
          ∙ ap (λ n. n - count) (f.waiting id own)
          ∙ sym (at_own id id (s.waiting id - count) s.waiting refl)) on
      | inr ne ↦ ap (λ (x : Seen). x.waiting) (changed_other id (taking count) cs c ne)
          ∙ f.waiting c on ∙ sym (at_other id c (s.waiting id - count) s.waiting ne)
    ]

    pub follows_take : (new : Scan) → new.out_max ≡ old.out_max
        → new.connections ≡ took → new.table ≡ old.table → new.prefixes ≡ old.prefixes
        → Follows l new (taken_at id count s)
    follows_take new most are table prefixes = record {
      most = most ∙ f.most;
      limit = ap (λ (t : TableState). t.limit) table ∙ f.limit;
      count = ap length are ∙ changed_count id (taking count) cs ∙ f.count;
      modes = λ c. ap (λ x. mode_at x c) are
          ∙ changed_keeps id (taking count) cs (λ x. x.mode) (λ x. refl) c ∙ f.modes c;
      on = λ c. ap (λ x. on_at x c) are ∙ took_on c;
      waiting = λ c on. ap (λ x. (seen_at x c).waiting) are ∙ took_waiting c on;
      rows = ap (λ (t : TableState). t.rows) table ∙ f.rows;
      prefixes = prefixes ∙ f.prefixes;
    }

  -- ---- one is closed

  module _ (id : ℕ) where
    abbrev left : List Seen
    left = changed id gone cs

    none_closed : (x : Standing) → is_live (closed x) ≡ false
    none_closed x = grind arith

    no_more : (b : Bool) → (b && false) ≡ false
    no_more b = grind arith

    own_off : on_at left id ≡ false
    own_off = elim (is_there cs id) as (λ b. is_there cs id ≡ b → on_at left id ≡ false) [
      | true ↦ λ there. ap (λ (x : Seen). is_there left id && is_live x.standing)
          (changed_own id gone cs there) ∙ no_more (is_there left id)
      | false ↦ λ off. ap (λ x. on_at x id) (changed_none id gone cs off)
          ∙ ap (λ b. b && is_live (seen_at cs id).standing) off
    ] refl

    left_on : (c : ℕ) → on_at left c ≡ is_on (closed_at id s) c
    left_on c = elim (cases_eq id c) [
      | inl e ↦ subst (λ i. on_at left i ≡ is_on (closed_at id s) i) e
          (own_off ∙ sym (ap (λ x. (nat_lt 0 id && nat_le id s.admitted) && x)
          (ap is_live (at_own id id (closed (s.standing id)) s.standing refl)
          ∙ none_closed (s.standing id)) ∙ no_more (nat_lt 0 id && nat_le id s.admitted)))
      | inr ne ↦ ap (λ b. b && is_live (seen_at left c).standing) (changed_there id gone cs c)
          ∙ ap (λ (x : Seen). is_there cs c && is_live x.standing)
          (changed_other id gone cs c ne)
          ∙ f.on c
          ∙ ap (λ x. (nat_lt 0 c && nat_le c s.admitted) && is_live x)
          (sym (at_other id c (closed (s.standing id)) s.standing ne))
    ]

    left_waiting : (c : ℕ) → is_on (closed_at id s) c ≡ true
        → (seen_at left c).waiting ≡ at id 0 s.waiting c
    left_waiting c on = elim (cases_eq id c) [
      | inl e ↦ absurd (let off : on_at left c ≡ false = subst (λ i. on_at left i ≡ false) e own_off
          in both_ways _ off (left_on c ∙ on))
      | inr ne ↦ ap (λ (x : Seen). x.waiting) (changed_other id gone cs c ne)
          ∙ f.waiting c (ap (λ x. (nat_lt 0 c && nat_le c s.admitted) && is_live x)
          (sym (at_other id c (closed (s.standing id)) s.standing ne)) ∙ on)
          ∙ sym (at_other id c 0 s.waiting ne)
    ]

    pub follows_close : (new : Scan) → new.out_max ≡ old.out_max
        → new.connections ≡ left
        → new.table ≡ record old.table { rows = without_connection id old.table.rows }
        → new.prefixes ≡ registrations.without_connection id old.prefixes
        → Follows l new (closed_at id s)
    follows_close new most are table prefixes = record {
      most = most ∙ f.most;
      limit = ap (λ (t : TableState). t.limit) table ∙ f.limit;
      count = ap length are ∙ changed_count id gone cs ∙ f.count;
      modes = λ c. ap (λ x. mode_at x c) are
          ∙ changed_keeps id gone cs (λ x. x.mode) (λ x. refl) c ∙ f.modes c;
      on = λ c. ap (λ x. on_at x c) are ∙ left_on c;
      waiting = λ c on. ap (λ x. (seen_at x c).waiting) are ∙ left_waiting c on;
      rows = ap (λ (t : TableState). t.rows) table ∙ ap (without_connection id) f.rows;
      prefixes = prefixes ∙ ap (registrations.without_connection id) f.prefixes;
    }

    pub close_sends : (sent : List Sent)
        → sent ≡ cond (on_at cs id) (end_of id ∷ []) []
        → sent ≡ map outline (cond (is_on s id) ((id, End) ∷ []) [])
    close_sends sent is =
        is ∙ ap (λ b. cond b (end_of id ∷ []) []) (f.on id) ∙ sent_if (is_on s id)
      where
        sent_if : (b : Bool)
            → cond b (end_of id ∷ []) [] ≡ map outline (cond b ((id, End) ∷ []) [])
        sent_if true = refl
        sent_if false = refl
