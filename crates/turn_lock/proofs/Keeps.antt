-- Each step of the lock keeps the rule, and gives what its `Play` says.
use Rattle.std.proofs.Common.{◌≡◌, ◌≢◌, ℕ, zero, suc, ◌+◌, ◌<◌, ◌≤◌, inl, inr, eqb, List, [], ◌∷◌}
use Rattle.std.proofs.Common.{length, get_or, set, sym, refl, ap, ◌∙◌, subst, arith, ⊎_elim}
use Rattle.std.proofs.Common.{length-set, get_or-set_same, get_or-set_other}
use Rattle.std.specs.Prelude.{Option, Some}
use Rattle.std.proofs.lemmas.Option.{same_Some}
use mathlib.Core.Option.{some, none, some-injective, some-ne-none}
use mathlib.Core.Logic.{dite}
use native.Mathlib.Decide.{ℕ_discrete}
use lib.ListN.{get_elem?}
use prog.Atomic.{either}
use Rattle.atomic_table.specs.Table.{State, Me, step, stepped, keeps, takes, gives, Valid}
use Rattle.atomic_table.specs.Table.{Allows, Splits, Joins, Final, Seen, carried_after, opening}
use Rattle.atomic_table.proofs.Lists.{set_here, set_else, set_again, exchanged, at_longer}
use Rattle.turn_lock.specs.declared.rule.View.{View}
use Rattle.turn_lock.specs.declared.rule.Stage.{Stage}
use Rattle.turn_lock.specs.declared.rule.Stage.TheVariants.{New, Idle, Waits, Out, Spent}
use Rattle.turn_lock.specs.declared.rule.TheConstants.{ALL_PARTS}
use Rattle.turn_lock.specs.Counts.{times}
use Rattle.turn_lock.specs.History.{entries, past_after, history_after, Legal, made_by}
use Rattle.turn_lock.specs.Seats.{IsSoundView}
use Rattle.turn_lock.specs.Rule.{HasTicket, tickets_of, Live, Seated, newcomer, kept_of}
use Rattle.turn_lock.specs.Rule.{given_of, both_of, spent_view, waiting_view, serving_view}
use Rattle.turn_lock.specs.Rule.{view_after, Roster, Queue, IsOut, AtHome, LockRule, looked_at}
use Rattle.turn_lock.specs.Rule.{drew, entered, HasPlayed, left_by, begun, learned}
use Rattle.turn_lock.proofs.Counting.{total_at, total_two, total_alone, made_by-nil, made_by_once}
use Rattle.turn_lock.proofs.Counting.{legal_begins, legal_after}
use Rattle.turn_lock.proofs.Rosters.{live_of, set_there, same_at, fits_stage, fits_whole}
use Rattle.turn_lock.proofs.Rosters.{fits_entry, roster_set, roster_entry, roster_begin}
use Rattle.turn_lock.proofs.Rosters.{roster_split, roster_join, roster_opening}
use Rattle.turn_lock.proofs.Queues.{number_of, queue_set, queue_draw, queue_leave, queue_more}
use Rattle.turn_lock.proofs.Queues.{out_set}

set_again_or : (l : List ℕ) (i : ℕ) → set l i (get_or l i 0) ≡ l
set_again_or [] i = refl
set_again_or (x ∷ xs) zero = refl
set_again_or (x ∷ xs) (suc i) = ap (λ ys. x ∷ ys) (set_again_or xs i)

seated_at : (s t : Stage) → s ≡ t → Seated t → Seated s
seated_at s t e h = subst Seated (sym e) h

module _ {S U E C R : Type 0} (setup : S → U) (stands : S → List E → Type 0)
    (step_of : U → List E → C → R → Option E → Type 0) (about : U) where
  abbrev Rule : State (Option S) (View U E) → Type 0
  Rule = LockRule setup stands step_of about

  -- what the rule says of one seat
  sound_of : (s : State (Option S) (View U E)) → Rule s → (id : ℕ) (v : View U E)
      → get_elem? s.views id ≡ some v → Seated v.stage → IsSoundView step_of v
  sound_of s k id v at seated =
      let f = k.roster.fits id v at in (
        grind (arith, live_of, legal_begins),
        f.owned,
        (λ n. let t = total_at (λ (u : View U E). times n u.numbers) s.views id v at in
            let o = k.roster.once n in omega arith),
        f.named seated,
      )

  -- the ticket word becomes n, and one view changes
  moves : (s : State (Option S) (View U E)) (k : Rule s) (id n : ℕ) (v w : View U E)
      → get_elem? s.views id ≡ some v
      → Roster about n k.history (set s.views id w)
      → Queue n (get_or s.words 1 0) k.history (set s.views id w)
      → ((t : ℕ) → v.stage ≡ Out t → w.stage ≡ Out t)
      → Rule record { words = set s.words 0 n; homes = s.homes; views = set s.views id w }
  moves s k id n v w at roster queue out =
      let wide : length s.words ≡ 3 = k.wide in
      let first = get_or-set_same s.words 0 n 0 (omega arith) in
      let second = get_or-set_other s.words 0 1 n 0 (λ e. omega arith) in
      record {
        history = k.history;
        legal = k.legal;
        wide = length-set s.words 0 n ∙ k.wide;
        slot = k.slot;
        roster = rw first roster;
        queue = rw (first, second) queue;
        place = ⊎_elim (λ home. inl home)
            (λ o. inr (subst (λ z. IsOut z (set s.views id w)) (sym second)
            (out_set s.views id v w (get_or s.words 1 0) at (out _) o))) k.place;
      }

  notes : (s : State (Option S) (View U E)) (k : Rule s) (id n : ℕ) (v : View U E)
      → get_elem? s.views id ≡ some v → v.stage ≡ Idle → n ≡ get_or s.words 0 0
      → Rule record {
        words = set s.words 0 n;
        homes = s.homes;
        views =
            set s.views id (record v { tickets = n });
      }
  notes s k id n v at idle is =
      let w : View U E = record v { tickets = n } in
      let drawn : ℕ = get_or s.words 0 0 in
      let seated = seated_at v.stage Idle idle tt in
      moves s k id n v w at
      (roster_set about drawn n k.history s.views id v w k.roster at (omega arith)
      (omega arith) refl refl refl seated
      (fits_stage about drawn n n v.turns k.history v.stage v.more v (k.roster.fits id v at) seated
      (omega arith)) (λ e. e))
      (subst (λ z. Queue z (get_or s.words 1 0) k.history (set s.views id w)) (sym is)
      (queue_set drawn (get_or s.words 1 0) k.history s.views id v w k.queue at refl (λ t h. h)
      (λ t. k.queue.outs id v t at)))
      (λ t o. o)

  pub looks : (slots id : ℕ) (me : Me (Option S) (View U E)) → me.0.stage ≡ Idle
      → Allows Rule slots id me 0 (λ n. n) (looked_at (step slots 0 0 0 none) me)
  looks slots id me idle s k wide at small =
      let n : ℕ = get_or s.words 0 0 in (
        record me.0 { tickets = n },
        keeps,
        tt,
        notes s k id n me.0 at idle refl,
        (refl, (k.roster.fits id me.0 at).looked),
      )

  pub draws : (slots id old new more : ℕ) (me : Me (Option S) (View U E)) → new ≡ old + 1 + more
      → me.0.stage ≡ Idle
      → Allows Rule slots id me 0 (λ n. either (eqb n old) new n)
      (drew (step slots 0 old new none) me)
  draws slots id old new more me sum idle s k wide at small =
      let n : ℕ = get_or s.words 0 0 in
      let found = drew (step slots 0 old new none) me in
      let same_more : (a b : ℕ) → new ≡ old + 1 + a → new ≡ old + 1 + b → a ≡ b
      = λ a b x y. omega arith in
      let F : ℕ → Type 0
      = λ m. (w : View U E) × (a : _) × Valid s.homes me.1 a × Rule (stepped s 0 m id me.1 w a)
      × found n (w, carried_after me.1 a) in
      let seen : me.0.tickets ≤ n = (k.roster.fits id me.0 at).looked in
      let seated = seated_at me.0.stage Idle idle tt in
      exchanged n old new F
      (λ hit. let w : View U E = waiting_view me.0 n more in (
        w,
        keeps,
        tt,
        moves s k id new me.0 w at
            (roster_set about n new k.history s.views id me.0 w k.roster at (omega arith)
            (omega arith) refl refl refl tt
            (fits_stage about n new n (me.0.turns + 1 + more) k.history (Waits n) more me.0
            (k.roster.fits id me.0 at) seated (omega arith)) (λ e. e))
            (queue_draw n (get_or s.words 1 0) more new k.history s.views id me.0 w k.queue at
            idle refl refl (omega arith))
            (λ t o. let bad : Idle ≡ Out t = sym idle ∙ o in absurd cc),
        grind arith,
      ))
      (λ miss. (
        record me.0 { tickets = n },
        keeps,
        tt,
        notes s k id n me.0 at idle refl,
        (seen, (λ hit. absurd (miss hit)), (λ _. refl)),
      ))

  -- nothing changes
  rests : (s : State (Option S) (View U E)) → Rule s → (i id : ℕ) (v : View U E)
      → get_elem? s.views id ≡ some v
      → Rule record
      { words = set s.words i (get_or s.words i 0); homes = s.homes; views = set s.views id v }
  rests s k i id v at = grind (arith, set_again_or, set_again)

  -- whatever is done to the number of sleepers
  pub counts : (slots id : ℕ) (f : ℕ → ℕ) (me : Me (Option S) (View U E))
      → Allows Rule slots id me 2 f (λ r m'. m' ≡ me)
  counts slots id f me s k wide at small =
      let n : ℕ = f (get_or s.words 2 0) in
      let first = get_or-set_other s.words 2 0 n 0 (λ e. omega arith) in
      let second = get_or-set_other s.words 2 1 n 0 (λ e. omega arith) in
      let same : set s.views id me.0 ≡ s.views = set_again s.views id me.0 at in
      let kept : Rule record { words = set s.words 2 n; homes = s.homes; views = s.views }
      = grind (arith, length-set, ⊎_elim) in grind (arith, Rule, set)

  -- the state goes out with the seat whose ticket is served
  goes_out : (s : State (Option S) (View U E)) (k : Rule s) (id : ℕ) (v : View U E)
      → get_elem? s.views id ≡ some v → v.stage ≡ Waits (get_or s.words 1 0)
      → Rule record {
        words = set s.words 1 (get_or s.words 1 0);
        homes = set s.homes 0 none;
        views =
            set s.views id (serving_view v (get_or s.words 1 0) k.history);
      }
  goes_out s k id v at waits =
      let n : ℕ = get_or s.words 1 0 in
      let drawn : ℕ = get_or s.words 0 0 in
      let w : View U E = serving_view v n k.history in
      let wide : length s.words ≡ 3 = k.wide in
      let first = get_or-set_other s.words 1 0 n 0 (λ e. omega arith) in
      let second = get_or-set_same s.words 1 n 0 (omega arith) in
      record {
        history = k.history;
        legal = k.legal;
        wide = length-set s.words 1 n ∙ k.wide;
        slot = length-set s.homes 0 none ∙ k.slot;
        roster = rw first
            (roster_set about drawn drawn k.history s.views id v w k.roster at
            (omega arith) refl refl refl refl tt
            (fits_whole about drawn k.history (Out n) v (k.roster.fits id v at)
            (seated_at v.stage (Waits n) waits tt)) (λ _. refl));
        queue = rw (first, second)
            (queue_set drawn n k.history s.views id v w k.queue at
            (sym (ap (λ z. tickets_of z v.more) waits))
            (λ t e. subst (λ z. HasTicket z v.more t) (sym waits) e)
            (λ t o. (sym (ap number_of o), refl)));
        place = inr (id, w, set_there s.views id w v at, ap Out (sym second));
      }

  pub enters_at : (slots id t : ℕ) (me : Me (Option S) (View U E)) → me.0.stage ≡ Waits t
      → Allows Rule slots id me 1 (λ n. n) (entered setup stands (step slots 1 0 0 none) me)
  enters_at slots id t me waits s k wide at small =
      let n : ℕ = get_or s.words 1 0 in
      let f = k.roster.fits id me.0 at in
      let seated = seated_at me.0.stage (Waits t) waits tt in
      dite (ℕ_discrete n t)
      (λ hit. ⊎_elim
      (λ (home : AtHome setup stands step_of about k.history s.homes). let w : View U E =
      serving_view me.0 n k.history in (
        w,
        takes 0 (Some home.0),
        home.1,
        goes_out s k id me.0 at (waits ∙ ap Waits (sym hit)),
        grind (arith, live_of, number_of),
      ))
      (λ (out : IsOut n s.views). let mine : HasTicket me.0.stage me.0.more n =
      subst (λ z. HasTicket z me.0.more n) (sym waits) ((omega arith), (omega arith)) in
      let its : HasTicket out.1.stage out.1.more n
      = subst (λ z. HasTicket z out.1.more n) (sym out.3) ((omega arith), (omega arith)) in
      grind (arith, same_at))
      k.place)
      (λ miss. (
        me.0,
        keeps,
        tt,
        rests s k 1 id me.0 at,
        grind (arith, number_of),
      ))

  -- the turn ends: the state is home, and the next is served
  comes_home : (s : State (Option S) (View U E)) (k : Rule s) (id : ℕ) (v : View U E) (t : ℕ)
      (y : S) (e : Option E) (c : C) (r : R) → get_elem? s.views id ≡ some v → v.stage ≡ Out t
      → setup y ≡ about → step_of about (entries v.seen) c r e
      → stands y (past_after (entries v.seen) e)
      → Rule record {
        words = set s.words 1 (t + 1);
        homes = set s.homes 0 (some (Some y));
        views =
            set s.views id (view_after v (t + 1) e);
      }
  comes_home s k id v t y e c r at out its is st =
      let w : View U E = view_after v (t + 1) e in
      let drawn : ℕ = get_or s.words 0 0 in
      let served : ℕ = get_or s.words 1 0 in
      let wide : length s.words ≡ 3 = k.wide in
      let slot : length s.homes ≡ 1 = k.slot in
      let first = get_or-set_other s.words 1 0 (t + 1) 0 (λ e. omega arith) in
      let second = get_or-set_same s.words 1 (t + 1) 0 (omega arith) in
      let was = k.queue.outs id v t at out in
      let seated = seated_at v.stage (Out t) out tt in
      let roster : Roster about drawn v.seen s.views
      = subst (λ h. Roster about drawn h s.views) (sym was.1) k.roster in
      let queue : Queue drawn t v.seen s.views
      = grind arith in
      let legal : Legal step_of about v.seen
      = subst (λ h. Legal step_of about h) (sym was.1) k.legal in
      record {
        history = history_after v.number v.seen e;
        legal = legal_after step_of about v.number v.seen e c r legal is;
        wide = length-set s.words 1 (t + 1) ∙ k.wide;
        slot = length-set s.homes 0 (some (Some y)) ∙ k.slot;
        roster = rw first
            (roster_entry about drawn e v.seen s.views id v w roster at seated refl refl refl refl
            (grind arith)
            (fits_entry about drawn (t + 1) v.seen e v (roster.fits id v at) seated refl) refl);
        queue = rw (first, second)
            (queue_leave drawn t v.seen
            (history_after v.number v.seen e) s.views id v w queue at out refl refl);
        place = grind (arith, set_here);
      }

  pub leaves : (by : U → List E → Option E → Type 0) (slots id t : ℕ)
      (me : Me (Option S) (View U E)) (y : S) (e : Option E) (c : C) (r : R) → me.0.stage ≡ Out t
      → me.1 ≡ (0, Some y) ∷ []
      → me.0.setup ≡ Some (setup y) → step_of (setup y) (entries me.0.seen) c r e
      → by (setup y) (entries me.0.seen) e → stands y (past_after (entries me.0.seen) e)
      → Allows Rule slots id me 1 (λ _. t + 1)
      (λ _. left_by step_of by (step slots 1 (t + 1) 0 none) me (t + 1))
  leaves by slots id t me y e c r out held has is fact st s k wide at small =
      let w : View U E = view_after me.0 (t + 1) e in
      let its : setup y ≡ about
      = same_Some (setup y) about
      (sym has ∙ (k.roster.fits id me.0 at).about
      (live_of me.0.stage (seated_at me.0.stage (Out t) out tt))) in
      let home = comes_home s k id me.0 t y e c r at out its
      (subst (λ u. step_of u (entries me.0.seen) c r e) its is) st in (
        w,
        gives,
        tt,
        grind (arith, Rule, set),
        (
          setup y,
          e,
          has,
          fact,
          refl,
          sound_of _ home id w (set_there s.views id w me.0 at) (grind arith),
        ),
      )

  pub begins : (slots id : ℕ) (me : Me (Option S) (View U E)) → me.0.stage ≡ New
      → Allows Rule slots id me 0 (λ n. n) (begun step_of (step slots 0 0 0 none) me)
  begins slots id me new s k wide at small =
      let n : ℕ = get_or s.words 0 0 in
      let served : ℕ = get_or s.words 1 0 in
      let w : View U E = record me.0 { number = id; numbers = id ∷ []; stage = Idle } in
      let none : tickets_of me.0.stage me.0.more ≡ 0 = ap (λ z. tickets_of z me.0.more) new in
      let kept = moves s k id n me.0 w at
      (roster_begin about n k.history s.views id me.0 k.roster at new)
      (queue_set n served k.history s.views id me.0 w k.queue at (sym none) (λ t h. absurd h)
      (λ t o. let bad : Idle ≡ Out t = o in absurd cc))
      (λ t o. let bad : New ≡ Out t = sym new ∙ o in absurd cc) in (
        w,
        keeps,
        tt,
        kept,
        (λ _. (
          id,
          refl,
          (k.roster.unnamed id me.0 at new).1,
          sound_of _ kept id w (set_there s.views id w me.0 at) tt,
        )),
      )

  pub learns : (slots id : ℕ) (me : Me (Option S) (View U E))
      → Allows Rule slots id me 0 (λ n. n) (learned step_of (step slots 0 0 0 none) me)
  learns slots id me s k wide at small =
      let f = k.roster.fits id me.0 at in (
        me.0,
        keeps,
        tt,
        rests s k 0 id me.0 at,
        (
          refl,
          (λ idle. (
            f.less,
            grind (arith, total_at),
            sound_of s k id me.0 at (seated_at me.0.stage Idle idle tt),
          )),
        ),
      )

  pub splits : (id n : ℕ) (v : View U E) → v.stage ≡ Idle → 1 ≤ n → n < v.shares
      → Splits Rule id v (kept_of v n) (given_of v n)
  splits id n v idle some_part less s k at =
      let drawn : ℕ = get_or s.words 0 0 in
      let served : ℕ = get_or s.words 1 0 in
      let left : View U E = kept_of v n in
      let right : View U E = given_of v n in
      record {
        history = k.history;
        legal = k.legal;
        wide = k.wide;
        slot = k.slot;
        roster = roster_split about drawn n k.history s.views id v k.roster at
            (seated_at v.stage Idle idle tt) some_part less;
        queue = queue_more drawn served k.history (set s.views id left) right
            (queue_set drawn served k.history s.views id v left k.queue at refl (λ t h. h)
            (λ t o. k.queue.outs id v t at o)) refl;
        place = ⊎_elim (λ home. inl home)
            (λ o. let o' = out_set s.views id v left served at (λ e. e) o in
            inr (o'.0, o'.1, at_longer (set s.views id left) (right ∷ []) o'.0 o'.1 o'.2, o'.3))
            k.place;
      }

  pub joins : (id other : ℕ) (v w : View U E) → v.stage ≡ Idle → w.stage ≡ Idle
      → Joins Rule id v other w (both_of v w) spent_view
  joins id other v w idle idle' s k at apart there =
      let drawn : ℕ = get_or s.words 0 0 in
      let served : ℕ = get_or s.words 1 0 in
      let both : View U E = both_of v w in
      let mid = set s.views id both in
      let at' : get_elem? s.views other ≡ some w
      = sym (set_else s.views id other both apart) ∙ there in
      let no_out : (t : ℕ) → v.stage ≡ Out t → (t ≡ served) × (both.seen ≡ k.history)
      = λ t o. let bad : Idle ≡ Out t = sym idle ∙ o in absurd cc in
      let queue : Queue drawn served k.history mid
      = queue_set drawn served k.history s.views id v both k.queue at refl (λ t h. h) no_out in
      record {
        history = k.history;
        legal = k.legal;
        wide = k.wide;
        slot = k.slot;
        roster = roster_join about drawn k.history s.views id other v w k.roster apart at at'
            (seated_at v.stage Idle idle tt) (seated_at w.stage Idle idle' tt);
        queue = queue_set drawn served k.history mid other w spent_view queue there
            (sym (ap (λ z. tickets_of z w.more) idle')) (λ t h. absurd h)
            (λ t o. let bad : Spent ≡ Out t = o in absurd cc);
        place = ⊎_elim (λ home. inl home)
            (λ o. inr (out_set mid other w spent_view served there
            (λ o'. let bad : Idle ≡ Out served = sym idle' ∙ o' in absurd cc)
            (out_set s.views id v both served at (λ e. e) o))) k.place;
      }

  pub opens : (y : S) → setup y ≡ about → stands y []
      → Rule (opening (0 ∷ 0 ∷ 0 ∷ []) (Some y ∷ []) (newcomer {U = U} {E = E} about))
  opens y its st = record {
    history = [];
    legal = tt;
    wide = refl;
    slot = refl;
    roster = roster_opening about;
    queue = record {
      counted = refl;
      between = λ j u t e h. absurd
          (subst (λ (z : View U E). HasTicket z.stage z.more t) (sym (only j u e)) h);
      apart = λ i j v w t a b ha hb. absurd
          (subst (λ (z : View U E). HasTicket z.stage z.more t) (sym (only i v a)) ha);
      outs = λ j u t e o. let bad : Idle ≡ Out t = ap (λ (z : View U E). z.stage) (only j u e)
          ∙ o in absurd cc;
    };
    place = inl (y, refl, its, st);
  }
    where
      only : (j : ℕ) (u : View U E) → get_elem? (newcomer {U = U} {E = E} about ∷ []) j ≡ some u
          → newcomer {U = U} {E = E} about ≡ u
      only j u e = grind arith

  -- where one seat has all shares and no ticket, the state is home and stands for all that the seat
  -- has seen
  pub closes : (id : ℕ) (v : View U E) (ws : List ℕ) (xs : List (Option S)) → v.shares ≡ ALL_PARTS
      → v.stage ≡ Idle → Final (Seen Rule id v) ws xs
      → ((y : S) × (get_elem? xs 0 ≡ some (Some y)) × (v.setup ≡ Some (setup y))
      × stands y (entries v.seen))
      × ((v.tickets ≤ get_or ws 0 0) × (get_or ws 0 0 ≡ v.turns))
      × (((place : ℕ) → place < length v.seen → times place v.own ≡ 1)
      × (length v.own ≡ length v.seen))
  closes id v ws xs whole idle (s, (k, at), words, long, same) =
      let f = k.roster.fits id v at in
      let seated = seated_at v.stage Idle idle tt in
      let none_left : (j : ℕ) (u : View U E) → j ≢ id → get_elem? s.views j ≡ some u → u.shares ≡ 0
      = grind (arith, total_two) in
      let spent : (j : ℕ) (u : View U E) → get_elem? s.views j ≡ some u → Live u.stage → j ≡ id
      = λ j u e live. dite (ℕ_discrete j id) (λ is. is)
      (λ ne. let z = none_left j u ne e in let one = (k.roster.fits j u e).share live in
      absurd (omega arith)) in
      let w = k.roster.whole in
      let all : v.seen ≡ k.history
      = grind (arith, same_at) in
      let turns : get_or s.words 0 0 ≡ v.turns
      = sym k.roster.turns
      ∙ total_alone (λ (u : View U E). u.turns) s.views id v at
      (λ j u ne e. ((k.roster.fits j u e).gone (none_left j u ne e)).2) in
      let covered : (p : ℕ) → p < length k.history → times p v.own ≡ 1
      = λ p some.
      let g = λ (u : View U E). made_by u.numbers k.history p in
      let alone = total_alone g s.views id v at
      (λ j u ne e. ap (λ ns. made_by ns k.history p)
      ((k.roster.fits j u e).gone (none_left j u ne e)).0 ∙ made_by-nil k.history p) in
      let old = k.roster.covered p some in
      let most = made_by_once v.numbers k.history p
      (λ n. let t = total_at (λ (u : View U E). times n u.numbers) s.views id v at in
      let o = k.roster.once n in omega arith) in
      let is = f.owns p in omega arith in
      let shared : length v.own ≡ length k.history
      = sym (total_alone (λ (u : View U E). length u.own) s.views id v at
      (λ j u ne e. ap length ((k.roster.fits j u e).gone (none_left j u ne e)).1))
      ∙ k.roster.owned in grind (arith, ⊎_elim, live_of, get_or, same_at)

-- what the turn did, said of the seat that has the state
pub turn_done : {S U E C R : Type 0} (setup : S → U) (stands : S → List E → Type 0)
    (step_of : U → List E → C → R → Option E → Type 0) (m m' : Me (Option S) (View U E)) (y : S)
    (e : Option E) (c : C) (r : R) → m' ≡ (m.0, (0, Some y) ∷ [])
    → m.0.setup ≡ Some (setup y) → step_of (setup y) (entries m.0.seen) c r e
    → stands y (past_after (entries m.0.seen) e)
    → HasPlayed setup stands step_of c r m'
turn_done {S = S} {U = U} {E = E} setup stands step_of m m' y e c r is has step st =
    subst (λ (z : Me (Option S) (View U E)). HasPlayed setup stands step_of c r z) (sym is)
    (y, e, refl, has, step, st)

pub first_of : (ws : List ℕ) (n : ℕ) → get_elem? ws 0 ≡ some n → get_or ws 0 0 ≡ n
first_of [] n e = absurd (some-ne-none n (sym e))
first_of (w ∷ ws) n e = some-injective w n e
