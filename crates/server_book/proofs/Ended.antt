-- Those whom a turn ends, one after another.
use Rattle.std.proofs.Common.{◌≡◌, ◌+◌, ◌-◌, ◌<◌, ◌≤◌, ℕ, List, [], ◌∷◌, ◌++◌, Bool, true, false}
use Rattle.std.proofs.Common.{length}
use Rattle.std.proofs.Common.{append-nil, append_assoc, ap, arith, cond, inl, inr, length-append}
use Rattle.std.proofs.Common.{length-set, map, refl, subst, sym, ◌∙◌}
use Prim.Native.Nat.{zero, suc}
use Rattle.std.specs.Prelude.{◌&&◌, ◌||◌, filter, nat_lt, not}
use Rattle.std.specs.List.{count_by}
use Rattle.std.proofs.lemmas.Bool.{cases_eq, cases_lt, false_from_ne_true}
use Rattle.std.proofs.lemmas.List.{map-append}
use Rattle.std.proofs.lemmas.List.Elements.{filter-append}
use Rattle.track_table.specs.Table.{TableState, without_connection}
use Rattle.prefix_table.specs.declared.table.Registration.{Registration}
use Rattle.prefix_table.specs.Table as registrations
use Rattle.serial_model.specs.State.{for_each}
use Rattle.serial_model.specs.Tracking.{ids_where}
use Rattle.server_book.specs.declared.ends.Ends.{Ends}
use Rattle.server_book.specs.Places.{Connection, ended_one}
use Rattle.server_book.specs.Connections.{ConnectionsState, IsId, connection_at, has_life, is_open}
use Rattle.server_book.specs.Connections.{with_connection}
use Rattle.server_book.specs.Endings.{ArePostedTo, HasEnded, IsWithin, ended, ended_if}
use Rattle.server_book.specs.Endings.{ending_ids, is_ending, left_of, quits_in}
use Rattle.server_book.specs.Sendings.{end_post}
use Rattle.server_book.proofs.Endings.{ending_lives}
use Rattle.server_book.proofs.Lives.{put_one_less, put_same}
use Rattle.server_book.proofs.Sendings.{at_other, at_same}

-- ---- those for which a test holds, up to a number

pub ids_none : (test : ℕ → Bool) (n : ℕ) → ((i : ℕ) → 0 < i → i ≤ n → test i ≡ false)
    → ids_where test n ≡ []
ids_none test zero none = refl
ids_none test (suc n) none =
    ap (λ b. cond b (ids_where test n ++ suc n ∷ []) (ids_where test n))
    (none (suc n) (omega arith) (omega arith))
    ∙ ids_none test n (λ i some le. none i some (omega (arith, le)))

pub ids_next : (test : ℕ → Bool) (n m : ℕ) → m ≡ n + 1
    → ids_where test m ≡ cond (test m) (ids_where test n ++ m ∷ []) (ids_where test n)
ids_next test n zero e = absurd (let no : ⊥ = omega arith in no)
ids_next test n (suc k) e =
    ap (λ x. cond (test (suc k)) (ids_where test x ++ suc k ∷ []) (ids_where test x))
    (let same : k ≡ n = omega arith in same)

pub ids_beyond : (test : ℕ → Bool) (n m : ℕ) → n ≤ m
    → ((i : ℕ) → n < i → i ≤ m → test i ≡ false) → ids_where test m ≡ ids_where test n
ids_beyond test n zero le none =
    ap (ids_where test) (let e : 0 ≡ n = omega arith in e)
ids_beyond test n (suc m) le none = elim (cases_lt n (suc m)) [
  | inl lt ↦
      ap (λ b. cond b (ids_where test m ++ suc m ∷ []) (ids_where test m))
      (none (suc m) lt (omega arith))
      ∙ ids_beyond test n m (omega (arith, lt)) (λ i past le. none i past (omega (arith, le)))
  | inr ge ↦ ap (ids_where test) (let e : suc m ≡ n = omega (arith, le, ge) in e)
]

pub each_last : {X : Type 0} (f : ℕ → X → X) (ids : List ℕ) (id : ℕ) (x : X)
    → for_each f (ids ++ id ∷ []) x ≡ f id (for_each f ids x)
each_last f [] id x = refl
each_last f (i ∷ ids) id x = each_last f ids id (f i x)

-- something is done for one more of them
pub each_next : {X : Type 0} (f : ℕ → X → X) (test : ℕ → Bool) (n m : ℕ) (x : X) → m ≡ n + 1
    → for_each f (ids_where test m) x
    ≡ cond (test m) (f m (for_each f (ids_where test n) x)) (for_each f (ids_where test n) x)
each_next f test n m x e =
    ap (λ ids. for_each f ids x) (ids_next test n m e)
    ∙ elim (test m) as (λ b. for_each f (cond b (ids_where test n ++ m ∷ []) (ids_where test n)) x
    ≡ cond b (f m (for_each f (ids_where test n) x)) (for_each f (ids_where test n) x)) [
      | true ↦ each_last f (ids_where test n) m x
      | false ↦ refl
    ]

-- ---- the connections, up to a number

module _ (entry : ℕ) (ends : Ends) (old : ConnectionsState) where
  abbrev test : ℕ → Bool
  test = is_ending ends old.items

  abbrev stays : ℕ → Bool
  stays id = not (quits_in ends id)

  -- those up to a number have ended whom the turn ends
  pub record EndedTo (n : ℕ) (new : ConnectionsState) : Type 0 where
    pub count : length new.items ≡ length old.items
    pub done : (id : ℕ) → 0 < id → id ≤ n → connection_at new.items id ≡ left_of ends old.items id
    pub rest : (id : ℕ) → n < id → connection_at new.items id ≡ connection_at old.items id
    pub posts : new.posts ≡ old.posts ++ map (end_post entry) (ids_where test n)
    pub drops : new.drops ≡ old.drops ++ filter stays (ids_where test n)
    pub lost : new.lost ≡ old.lost
    pub closable : count_by is_open new.items + length new.drops
        ≤ count_by is_open old.items + length old.drops

  unended : (id : ℕ) → test id ≡ false → connection_at old.items id ≡ left_of ends old.items id
  unended id off =
      let c = connection_at old.items id in
      ap (λ b. cond b (ended_one (quits_in ends id) c) c) (sym off)

  -- none of those up to a number ends
  pub ended_none : (n : ℕ) → ((i : ℕ) → 0 < i → i ≤ n → test i ≡ false) → EndedTo n old
  ended_none n none =
      let ids = ids_none test n none in record {
        count = refl;
        done = λ id some le. unended id (none id some le);
        rest = λ id lt. refl;
        posts =
            sym (append-nil old.posts) ∙ ap (λ x. old.posts ++ map (end_post entry) x) (sym ids);
        drops = sym (append-nil old.drops) ∙ ap (λ x. old.drops ++ filter stays x) (sym ids);
        lost = refl;
        closable = omega arith;
      }

  module _ (n m : ℕ) (next : m ≡ n + 1) (mid : ConnectionsState) (h : EndedTo n mid)
      (there : m ≤ length old.items) where
    own : connection_at mid.items m ≡ connection_at old.items m
    own = h.rest m (omega arith)

    pub same_test : is_ending ends mid.items m ≡ test m
    same_test =
        ap (λ (c : Connection). has_life c
        && (quits_in ends m || ends.stops || nat_lt ends.limit (length c.queue))) own

    -- it stays
    next_stays : test m ≡ false → EndedTo m mid
    next_stays off =
        let ids = ids_next test n m next
        ∙ ap (λ b. cond b (ids_where test n ++ m ∷ []) (ids_where test n)) off in record {
          count = h.count;
          done = λ id some le. elim (cases_lt n id) [
            | inl lt ↦
                let same : m ≡ id = omega (arith, lt, le) in
                ap (connection_at mid.items) (sym same) ∙ own ∙ unended m off
                ∙ ap (left_of ends old.items) same
            | inr ge ↦ h.done id some ge
          ];
          rest = λ id lt. h.rest id (omega (arith, lt));
          posts = h.posts ∙ ap (λ x. old.posts ++ map (end_post entry) x) (sym ids);
          drops = h.drops ∙ ap (λ x. old.drops ++ filter stays x) (sym ids);
          lost = h.lost;
          closable = h.closable;
        }

    abbrev quits : Bool
    quits = quits_in ends m

    abbrev then : ConnectionsState
    then = ended entry ends m mid

    on : IsId mid.items m
    on = (omega arith, omega (arith, h.count))

    -- it ends
    ended_own : test m ≡ true → connection_at then.items m ≡ left_of ends old.items m
    ended_own ends_it =
        let c = connection_at old.items m in
        at_same mid.items m (ended_one quits (connection_at mid.items m)) on
        ∙ ap (ended_one quits) own ∙ ap (λ b. cond b (ended_one quits c) c) (sym ends_it)

    ended_other : (id : ℕ) → 0 < id → (m ≡ id → ⊥)
        → connection_at then.items id ≡ connection_at mid.items id
    ended_other id some ne =
        at_other mid.items m id (ended_one quits (connection_at mid.items m)) on.0 some ne

    -- one that quits can be closed, another cannot any more
    left_open : (q : Bool) (c : Connection) → has_life c ≡ true → is_open (ended_one q c) ≡ q
    left_open true c lives = refl
    left_open false c lives = grind arith

    was_open : (c : Connection) → has_life c ≡ true → is_open c ≡ true
    was_open c lives = grind arith

    fewer : (q : Bool) → has_life (connection_at mid.items m) ≡ true
        → count_by is_open
        (with_connection mid.items m (ended_one q (connection_at mid.items m)))
        + length (mid.drops ++ cond q [] (m ∷ []))
        ≡ count_by is_open mid.items + length mid.drops
    fewer true lives =
        let c = connection_at mid.items m in
        omega (
          arith,
          put_same is_open mid.items (m - 1) (ended_one true c) (omega (arith, on.0, on.1))
              (left_open true c lives ∙ sym (was_open c lives)),
          length-append mid.drops [],
        )
    fewer false lives =
        let c = connection_at mid.items m in
        omega (
          arith,
          put_one_less is_open mid.items (m - 1) (ended_one false c) (omega (arith, on.0, on.1))
              (was_open c lives) (left_open false c lives),
          length-append mid.drops (m ∷ []),
        )

    filtered : (q : Bool) → quits ≡ q
        → filter stays (ids_where test n ++ m ∷ [])
        ≡ filter stays (ids_where test n) ++ cond q [] (m ∷ [])
    filtered q is =
        filter-append stays (ids_where test n) (m ∷ [])
        ∙ ap (λ x. filter stays (ids_where test n) ++ x)
        (ap (λ b. cond (not b) (m ∷ []) []) is
        ∙ elim q as (λ b. cond (not b) (m ∷ []) [] ≡ cond b [] (m ∷ [])) [
          | true ↦ refl
          | false ↦ refl
        ])

    next_ends : test m ≡ true → EndedTo m then
    next_ends ends_it =
        let ids = ids_next test n m next
        ∙ ap (λ b. cond b (ids_where test n ++ m ∷ []) (ids_where test n)) ends_it in
        let lives = ap has_life own ∙ ending_lives ends old.items m ends_it in record {
          count =
              length-set mid.items (m - 1) (ended_one quits (connection_at mid.items m)) ∙ h.count;
          done = λ id some le. elim (cases_eq m id) [
            | inl same ↦
                ap (connection_at then.items) (sym same) ∙ ended_own ends_it
                ∙ ap (left_of ends old.items) same
            | inr ne ↦ ended_other id some ne ∙ h.done id some (omega (arith, le, ne))
          ];
          rest = λ id lt.
              ended_other id (omega (arith, lt)) (λ same. omega (arith, lt, same))
              ∙ h.rest id (omega (arith, lt));
          posts =
              ap (λ x. x ++ end_post entry m ∷ []) h.posts
              ∙ append_assoc old.posts (map (end_post entry) (ids_where test n))
              (end_post entry m ∷ [])
              ∙ ap (λ x. old.posts ++ x)
              (sym (map-append (end_post entry) (ids_where test n) (m ∷ [])))
              ∙ ap (λ x. old.posts ++ map (end_post entry) x) (sym ids);
          drops =
              ap (λ x. x ++ cond quits [] (m ∷ [])) h.drops
              ∙ append_assoc old.drops (filter stays (ids_where test n)) (cond quits [] (m ∷ []))
              ∙ ap (λ x. old.drops ++ x) (sym (filtered quits refl))
              ∙ ap (λ x. old.drops ++ filter stays x) (sym ids);
          lost = h.lost;
          closable = omega (arith, h.closable, fewer quits lives);
        }

    pub ended_next : (b : Bool) → test m ≡ b → EndedTo m (ended_if b entry ends m mid)
    ended_next true is = next_ends is
    ended_next false is = next_stays is

  -- and where none ends that is past the number, all have
  pub ended_all : (n : ℕ) (new : ConnectionsState) → n ≤ length old.items
      → ((i : ℕ) → n < i → i ≤ length old.items → test i ≡ false)
      → EndedTo n new → HasEnded entry ends old new
  ended_all n new le none h =
      let ids = ids_beyond test n (length old.items) le none in record {
        count = h.count;
        each = λ id on. elim (cases_lt n id) [
          | inl lt ↦ h.rest id lt ∙ unended id (none id lt on.1)
          | inr ge ↦ h.done id on.0 ge
        ];
        posts = h.posts ∙ ap (λ x. old.posts ++ map (end_post entry) x) (sym ids);
        drops = h.drops ∙ ap (λ x. old.drops ++ filter stays x) (sym ids);
        lost = h.lost;
        closable = h.closable;
      }

-- ---- between the numbers

module _ (ends : Ends) (cs : List Connection) (after last : ℕ) (h : IsWithin ends cs after last)
  where
    pub none_before : (i : ℕ) → 0 < i → i ≤ after → is_ending ends cs i ≡ false
    none_before i some le =
        false_from_ne_true _ (λ is.
        let lt = (h.within i (some, omega (arith, le, h.order, h.there)) is).0 in
        omega (arith, le, lt))

    pub none_past : (n i : ℕ) → last ≤ n → n < i → i ≤ length cs → is_ending ends cs i ≡ false
    none_past n i far past there =
        false_from_ne_true _ (λ is.
        let le = (h.within i (omega (arith, past), there) is).1 in omega (arith, past, far, le))

-- ---- equal ends of equal connections are the same

pub ended_as : (n : ℕ) (by is : Ends) (st now done : ConnectionsState) → is ≡ by → now ≡ st
    → HasEnded n is now done → HasEnded n by st done
ended_as n by is st now done ends same h =
    subst (λ b. HasEnded n b st done) ends (subst (λ s. HasEnded n is s done) same h)

pub posted_as : (limit is : ℕ) (st now : ConnectionsState) → is ≡ limit → now ≡ st
    → ArePostedTo limit st.items st.posts → ArePostedTo is now.items now.posts
posted_as limit is st now e same h =
    subst (λ k. ArePostedTo k now.items now.posts) (sym e)
    (subst (λ (s : ConnectionsState). ArePostedTo limit s.items s.posts) (sym same) h)

-- and leave the same keys and prefixes
pub rows_as : (by is : Ends) (cs ds : List Connection) (t u new : TableState) → is ≡ by → ds ≡ cs
    → u ≡ t
    → new ≡ record u { rows = for_each without_connection (ending_ids is ds) u.rows }
    → new ≡ record t { rows = for_each without_connection (ending_ids by cs) t.rows }
rows_as by is cs ds t u new ends same tables left =
    left
    ∙ ap (λ b. record u { rows = for_each without_connection (ending_ids b ds) u.rows }) ends
    ∙ ap (λ x. record u { rows = for_each without_connection (ending_ids by x) u.rows }) same
    ∙ ap (λ (x : TableState). record x {
      rows = for_each without_connection (ending_ids by cs) x.rows;
    }) tables

pub prefixes_as : (by is : Ends) (cs ds : List Connection) (rs qs new : List Registration)
    → is ≡ by → ds ≡ cs → qs ≡ rs
    → new ≡ for_each registrations.without_connection (ending_ids is ds) qs
    → new ≡ for_each registrations.without_connection (ending_ids by cs) rs
prefixes_as by is cs ds rs qs new ends same prefixes left =
    left
    ∙ ap (λ b. for_each registrations.without_connection (ending_ids b ds) qs) ends
    ∙ ap (λ x. for_each registrations.without_connection (ending_ids by x) qs) same
    ∙ ap (for_each registrations.without_connection (ending_ids by cs)) prefixes
