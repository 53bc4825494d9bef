-- The steps keep what is true of the seats' numbers, shares and turns, and of what they have seen.
use Rattle.std.proofs.Common.{eq-eqb, ◌≡◌, ◌≢◌, ℕ, zero, suc, ◌+◌, ◌<◌, ◌≤◌, ◌⊎◌, inl, inr, List}
use Rattle.std.proofs.Common.{[], ◌∷◌, ◌++◌, length, set, sym, refl, ap, ◌∙◌, subst, arith, ⊎_elim}
use Rattle.std.proofs.Common.{length-set, length-append}
use Rattle.std.specs.Prelude.{Option, Some, None}
use mathlib.Core.Option.{some, some-injective, some-ne-none}
use mathlib.Core.List.{suffix_refl, nil-suffix, IsSuffix-trans}
use mathlib.Core.Logic.{dite}
use native.Mathlib.Decide.{ℕ_discrete}
use lib.ListN.{get_elem?}
use Rattle.atomic_table.proofs.Lists.{at_set, set_else, at_longer}
use Rattle.turn_lock.specs.declared.rule.View.{View}
use Rattle.turn_lock.specs.declared.rule.Stage.{Stage}
use Rattle.turn_lock.specs.declared.rule.Stage.TheVariants.{New, Idle, Spent}
use Rattle.turn_lock.specs.Counts.{times, total}
use Rattle.turn_lock.specs.History.{IsPrefix, history_after, own_after, made_by}
use Rattle.turn_lock.specs.Seats.{longer}
use Rattle.turn_lock.specs.Rule.{Live, Seated, newcomer, kept_of, given_of, both_of, spent_view}
use Rattle.turn_lock.specs.Rule.{view_after, ViewRule, Unused, Roster}
use Rattle.turn_lock.proofs.Counting.{total_set, total_snoc, total_at, total_two, total_same}
use Rattle.turn_lock.proofs.Counting.{total_le, times-append, times_other, times_self, made_by-nil}
use Rattle.turn_lock.proofs.Counting.{made_by-append, made_by-begins, made_by_another}
use Rattle.turn_lock.proofs.Counting.{owns_one_more, owns-append, begins_after, shorter_begins}
use Rattle.turn_lock.proofs.Counting.{longer_begins, begin_longer, longer_whole, longer_whole_right}

pub live_of : (s : Stage) → Seated s → Live s
live_of s h = grind arith

not_new : (s : Stage) → Seated s → s ≡ New → ⊥
not_new s h e = subst Seated e h

module _ {A : Type 0} where
  pub each_set : (P : ℕ → A → Type 0) (vs : List A) (id : ℕ) (w : A) → P id w
      → ((j : ℕ) (u : A) → j ≢ id → get_elem? vs j ≡ some u → P j u)
      → (j : ℕ) (u : A) → get_elem? (set vs id w) j ≡ some u → P j u
  each_set P vs id w here there j u e = grind (arith, ⊎_elim, at_set)

  pub set_there : (l : List A) (i : ℕ) (a b : A) → get_elem? l i ≡ some b
      → get_elem? (set l i a) i ≡ some a
  set_there [] i a b e = absurd (some-ne-none b (sym e))
  set_there (x ∷ xs) zero a b e = refl
  set_there (x ∷ xs) (suc i) a b e = set_there xs i a b e

  pub at_end : (l : List A) (a b : A) (j : ℕ) → get_elem? (l ++ a ∷ []) j ≡ some b
      → (get_elem? l j ≡ some b) ⊎ ((j ≡ length l) × (a ≡ b))
  at_end [] a b zero e = inr (refl, some-injective a b e)
  at_end [] a b (suc j) e = absurd (some-ne-none b (sym e))
  at_end (x ∷ xs) a b zero e = inl e
  at_end (x ∷ xs) a b (suc j) e = grind (arith, at_end xs a b j e)

  pub within : (l : List A) (i : ℕ) (a : A) → get_elem? l i ≡ some a → i < length l
  within [] i a e = absurd (some-ne-none a (sym e))
  within (x ∷ xs) zero a e = omega arith
  within (x ∷ xs) (suc i) a e = let h = within xs i a e in omega arith

  pub same_at : (l : List A) (i j : ℕ) (a b : A) → i ≡ j → get_elem? l i ≡ some a
      → get_elem? l j ≡ some b → a ≡ b
  same_at l i j a b is e e' = some-injective a b (sym e ∙ (ap (get_elem? l) is ∙ e'))

module _ {U E : Type 0} (setup : U) where
  -- the tickets and the stage change
  pub fits_stage : (drawn drawn' tickets turns : ℕ) (h : List (ℕ × E)) (stage : Stage) (more : ℕ)
      (v : View U E) → ViewRule setup drawn h v → Seated v.stage → tickets ≤ drawn'
      → ViewRule setup drawn' h
      (record v { tickets = tickets; turns = turns; stage = stage; more = more })
  fits_stage drawn drawn' tickets turns h stage more v f seated le = grind arith

  -- the seat sees the whole history
  pub fits_whole : (drawn : ℕ) (h : List (ℕ × E)) (stage : Stage) (v : View U E)
      → ViewRule setup drawn h v → Seated v.stage
      → ViewRule setup drawn h (record v { seen = h; stage = stage })
  fits_whole drawn h stage v f seated = record {
    looked = f.looked;
    begins = suffix_refl h;
    less = IsSuffix-trans {l₁ = v.shorter} {l₂ = v.seen} {l₃ = h} f.less f.begins;
    owns = f.owns;
    owned = f.owns;
    about = λ _. f.about (live_of v.stage seated);
    share = λ _. f.share (live_of v.stage seated);
    named = λ _. f.named seated;
    gone = f.gone;
  }

  -- the seat that has seen all makes an entry, or none
  pub fits_entry : (drawn t : ℕ) (h : List (ℕ × E)) (e : Option E) (v : View U E)
      → ViewRule setup drawn h v → Seated v.stage → v.seen ≡ h
      → ViewRule setup drawn (history_after v.number v.seen e) (view_after v t e)
  fits_entry drawn t h e v f seated all =
      let more = owns_one_more v.numbers v.own v.number v.seen e (f.named seated) f.owned in
      record {
        looked = f.looked;
        begins = suffix_refl (history_after v.number v.seen e);
        less = IsSuffix-trans {l₁ = v.shorter} {l₂ = v.seen} {l₃ = history_after v.number v.seen e}
            f.less (begins_after v.number v.seen e);
        owns = more;
        owned = more;
        about = λ _. f.about (live_of v.stage seated);
        share = λ _. f.share (live_of v.stage seated);
        named = λ _. f.named seated;
        gone = λ z. absurd (let p = f.share (live_of v.stage seated) in omega arith);
      }

  fits_later : (drawn drawn' : ℕ) (h : List (ℕ × E)) (v : View U E) → drawn ≤ drawn'
      → ViewRule setup drawn h v → ViewRule setup drawn' h v
  fits_later drawn drawn' h v le f = grind arith

  -- another seat makes an entry
  fits_grown : (drawn n : ℕ) (e : E) (h : List (ℕ × E)) (v : View U E) → times n v.numbers ≡ 0
      → ViewRule setup drawn h v → ViewRule setup drawn ((n, e) ∷ h) v
  fits_grown drawn n e h v none f = record {
    looked = f.looked;
    begins = IsSuffix-trans {l₁ = v.seen} {l₂ = h} {l₃ = (n, e) ∷ h} f.begins ((n, e) ∷ [], refl);
    less = f.less;
    owns = λ p. f.owns p ∙ sym (made_by_another v.numbers n e h p none);
    owned = f.owned;
    about = f.about;
    share = f.share;
    named = f.named;
    gone = f.gone;
  }

  abbrev Whole : List (ℕ × E) → List (View U E) → Type 0
  Whole h vs = (j : ℕ) × (v : View U E) × (get_elem? vs j ≡ some v) × Live v.stage × (v.seen ≡ h)

  whole_set : (h : List (ℕ × E)) (vs : List (View U E)) (id : ℕ) (v w : View U E)
      → get_elem? vs id ≡ some v → Live w.stage → (v.seen ≡ h → w.seen ≡ h) → Whole h vs
      → Whole h (set vs id w)
  whole_set h vs id v w at live seen (j, u, e, lu, all) = dite (ℕ_discrete j id)
      (λ is. (
        id,
        w,
        set_there vs id w v at,
        live,
        seen (ap (λ (z : View U E). z.seen) (same_at vs id j v u (sym is) at e) ∙ all),
      ))
      (λ ne. (j, u, set_else vs id j w ne ∙ e, lu, all))

  -- one view changes, and keeps its numbers and its shares; as many tickets as it draws are drawn
  pub roster_set : (drawn drawn' : ℕ) (h : List (ℕ × E)) (vs : List (View U E)) (id : ℕ)
      (v w : View U E) → Roster setup drawn h vs → get_elem? vs id ≡ some v → drawn ≤ drawn'
      → w.turns + drawn ≡ v.turns + drawn' → w.shares ≡ v.shares → w.numbers ≡ v.numbers
      → w.own ≡ v.own → Seated w.stage → ViewRule setup drawn' h w → (v.seen ≡ h → w.seen ≡ h)
      → Roster setup drawn' h (set vs id w)
  roster_set drawn drawn' h vs id v w r at le turns shares numbers own seated fw seen =
      let named : (n : ℕ)
      → total (λ (u : View U E). times n u.numbers) (set vs id w) ≡ total
      (λ (u : View U E). times n u.numbers) vs
      = grind (arith, total_set) in
      let unused : (n : ℕ) → Unused n h vs → Unused n h (set vs id w)
      = λ n u. (named n ∙ u.0, u.1) in
      record {
        fits = each_set (λ j u. ViewRule setup drawn' h u) vs id w fw
            (λ j u ne e. fits_later drawn drawn' h u le (r.fits j u e));
        shares = grind (arith, total_set);
        turns = grind (arith, total_set);
        once = λ n. let o = r.once n in let s = named n in omega arith;
        unused = λ n out. unused n
            (r.unused n (grind (arith, set, length-set)));
        unnamed = each_set
            (λ j u. u.stage ≡ New → Unused j h (set vs id w) × (times j u.others ≡ 0)
            × (u.numbers ≡ [])) vs id w (λ is. absurd (not_new w.stage seated is))
            (λ j u ne e is. let old = r.unnamed j u e is in (unused j old.0, old.1, old.2));
        covered = grind (arith, total_same);
        owned = total_same (λ (u : View U E). length u.own) vs id v w at (ap length own) ∙ r.owned;
        whole = whole_set h vs id v w at (live_of w.stage seated) seen r.whole;
      }

  -- the seat that has seen all makes an entry
  roster_grown : (drawn : ℕ) (e : E) (h : List (ℕ × E)) (vs : List (View U E)) (id : ℕ)
      (v w : View U E) → Roster setup drawn h vs → get_elem? vs id ≡ some v → Seated v.stage
      → w.turns ≡ v.turns → w.shares ≡ v.shares → w.numbers ≡ v.numbers → w.own ≡ length h ∷ v.own
      → Seated w.stage → ViewRule setup drawn ((v.number, e) ∷ h) w → w.seen ≡ (v.number, e) ∷ h
      → Roster setup drawn ((v.number, e) ∷ h) (set vs id w)
  roster_grown drawn e h vs id v w r at was turns shares numbers own seated fw all =
      let f = λ (n : ℕ) (u : View U E). times n u.numbers in
      let one : times v.number v.numbers ≡ 1 = (r.fits id v at).named was in
      let named : (n : ℕ) → total (f n) (set vs id w) ≡ total (f n) vs
      = grind (arith, total_set) in
      let unused : (n : ℕ) → Unused n h vs → Unused n ((v.number, e) ∷ h) (set vs id w)
      = grind (arith, total_at, made_by_another, times_other) in
      record {
        fits = each_set (λ j u. ViewRule setup drawn ((v.number, e) ∷ h) u) vs id w fw
            (λ j u ne at'. fits_grown drawn v.number e h u
            (let t = total_two (f v.number) vs j id u v ne at' at in grind arith) (r.fits j u at'));
        shares = grind (arith, total_set);
        turns = grind (arith, total_set);
        once = λ n. let o = r.once n in let s = named n in omega arith;
        unused = λ n out. unused n
            (r.unused n (grind (arith, set, length-set)));
        unnamed = each_set
            (λ j u. u.stage ≡ New → Unused j ((v.number, e) ∷ h) (set vs id w)
            × (times j u.others ≡ 0) × (u.numbers ≡ [])) vs id w
            (λ is. absurd (not_new w.stage seated is))
            (λ j u ne at' is. let old = r.unnamed j u at' is in (unused j old.0, old.1, old.2));
        covered = λ p some.
            let more : List (ℕ × E) = (v.number, e) ∷ h in
            let g = λ (u : View U E). made_by u.numbers more p in
            subst (λ t. 1 ≤ t)
            (sym (total_same g vs id v w at (ap (λ ns. made_by ns more p) numbers)))
            (dite (ℕ_discrete p (length h))
            (grind (arith, total_at, eq-eqb))
            (λ ne. let old = r.covered p (omega arith) in
            grind (arith, total_le)));
        owned = grind (arith, total_set);
        whole = (id, w, set_there vs id w v at, live_of w.stage seated, all);
      }

  pub roster_entry : (drawn : ℕ) (e : Option E) (h : List (ℕ × E)) (vs : List (View U E)) (id : ℕ)
      (v w : View U E) → Roster setup drawn h vs → get_elem? vs id ≡ some v → Seated v.stage
      → w.turns ≡ v.turns → w.shares ≡ v.shares → w.numbers ≡ v.numbers
      → w.own ≡ own_after v.own (length h) e → Seated w.stage
      → ViewRule setup drawn (history_after v.number h e) w → w.seen ≡ history_after v.number h e
      → Roster setup drawn (history_after v.number h e) (set vs id w)
  roster_entry drawn None h vs id v w r at was turns shares numbers own seated fw all =
      roster_set drawn drawn h vs id v w r at (omega arith)
      (omega arith) shares numbers own seated fw (λ _. all)
  roster_entry drawn (Some e) h vs id v w r at was turns shares numbers own seated fw all =
      roster_grown drawn e h vs id v w r at was turns shares numbers own seated fw all

  -- a seat that was split off finds its number
  pub roster_begin : (drawn : ℕ) (h : List (ℕ × E)) (vs : List (View U E)) (id : ℕ) (v : View U E)
      → Roster setup drawn h vs → get_elem? vs id ≡ some v → v.stage ≡ New
      → Roster setup drawn h (set vs id (record v { number = id; numbers = id ∷ []; stage = Idle }))
  roster_begin drawn h vs id v r at new =
      let w : View U E = record v { number = id; numbers = id ∷ []; stage = Idle } in
      let f = λ (n : ℕ) (u : View U E). times n u.numbers in
      let fv = r.fits id v at in
      let mine = r.unnamed id v at new in
      let live : Live v.stage = subst Live (sym new) tt in
      let none : (p : ℕ) → times p v.own ≡ 0
      = λ p. fv.owns p ∙ (ap (λ ns. made_by ns h p) mine.2 ∙ made_by-nil h p) in
      let s : (n : ℕ) → total (f n) (set vs id w) + 0 ≡ total (f n) vs + times n (id ∷ [])
      = grind (arith, set, total_set) in
      let unused : (n : ℕ) → n ≢ id → Unused n h vs → Unused n h (set vs id w)
      = λ n ne u. ((let t = s n in let z = times_other n id ne in let a = u.0 in omega arith), u.1)
      in
      record {
        fits = each_set (λ j u. ViewRule setup drawn h u) vs id w
            record {
              looked = fv.looked;
              begins = fv.begins;
              less = fv.less;
              owns = λ p. none p ∙ sym (mine.0.1 p);
              owned = λ p. let b = made_by-begins (id ∷ []) v.seen h p fv.begins in
                  let z = mine.0.1 p in let o = none p in omega arith;
              about = λ _. fv.about live;
              share = λ _. fv.share live;
              named = λ _. times_self id;
              gone = λ z. absurd (let p = fv.share live in omega arith);
            }
            (λ j u ne e. r.fits j u e);
        shares = grind (arith, total_set);
        turns = grind (arith, total_set);
        once = grind (arith, times_self, set, times_other);
        unused = λ n out. let l : length (set vs id w) ≡ length vs = length-set vs id w in
            let i = within vs id v at in unused n (λ is. omega arith) (r.unused n (omega arith));
        unnamed = each_set
            (λ j u. u.stage ≡ New → Unused j h (set vs id w) × (times j u.others ≡ 0)
            × (u.numbers ≡ [])) vs id w (λ is. absurd (not_new Idle tt is))
            (λ j u ne e is. let old = r.unnamed j u e is in (unused j ne old.0, old.1, old.2));
        covered = grind (arith, total_set, made_by-nil);
        owned = total_same (λ (u : View U E). length u.own) vs id v w at refl ∙ r.owned;
        whole = whole_set h vs id v w at tt (λ e. e) r.whole;
      }

  -- a seat is cut in two
  pub roster_split : (drawn n : ℕ) (h : List (ℕ × E)) (vs : List (View U E)) (id : ℕ) (v : View U E)
      → Roster setup drawn h vs → get_elem? vs id ≡ some v → Seated v.stage → 1 ≤ n → n < v.shares
      → Roster setup drawn h (set vs id (kept_of v n) ++ given_of v n ∷ [])
  roster_split drawn n h vs id v r at seated some_part less =
      let left : View U E = kept_of v n in
      let right : View U E = given_of v n in
      let live = live_of v.stage seated in
      let fv = r.fits id v at in
      let f = λ (m : ℕ) (u : View U E). times m u.numbers in
      let long : length (set vs id left ++ right ∷ []) ≡ length vs + 1
      = length-append (set vs id left) (right ∷ []) ∙ ap (λ k. k + 1) (length-set vs id left) in
      let named : (m : ℕ) → total (f m) (set vs id left ++ right ∷ []) ≡ total (f m) vs
      = grind (arith, total_snoc, set, total_set) in
      let unused : (m : ℕ) → Unused m h vs → Unused m h (set vs id left ++ right ∷ [])
      = λ m u. (named m ∙ u.0, u.1) in
      let each : (P : ℕ → View U E → Type 0) → P id left → P (length vs) right
      → ((j : ℕ) (u : View U E) → get_elem? vs j ≡ some u → P j u) → (j : ℕ) (u : View U E)
      → get_elem? (set vs id left ++ right ∷ []) j ≡ some u → P j u
      = λ P here last there j u e. ⊎_elim
      (λ old. each_set P vs id left here (λ j' u' ne e'. there j' u' e') j u old)
      (grind (arith, length-set)) (at_end (set vs id left) right u j e) in
      record {
        fits = each (λ j u. ViewRule setup drawn h u)
            record {
              looked = fv.looked;
              begins = fv.begins;
              less = fv.less;
              owns = fv.owns;
              owned = fv.owned;
              about = fv.about;
              share = λ _. omega arith;
              named = fv.named;
              gone = λ z. absurd (omega arith);
            }
            record {
              looked = fv.looked;
              begins = fv.begins;
              less = nil-suffix {l = v.seen};
              owns = λ p. sym (made_by-nil h p);
              owned = λ p. sym (made_by-nil v.seen p);
              about = λ _. fv.about live;
              share = λ _. some_part;
              named = λ bad. absurd bad;
              gone = λ _. (refl, refl, refl);
            }
            r.fits;
        shares = grind (arith, total_snoc, set, total_set);
        turns = grind (arith, total_snoc, set, total_set);
        once = λ m. let o = r.once m in let s = named m in omega arith;
        unused = λ m out. unused m (r.unused m (omega arith));
        unnamed = each
            (λ j u. u.stage ≡ New → Unused j h (set vs id left ++ right ∷ [])
            × (times j u.others ≡ 0) × (u.numbers ≡ []))
            (λ is. absurd (not_new v.stage seated is))
            (grind (arith, total_at))
            (λ j u e is. let old = r.unnamed j u e is in (unused j old.0, old.1, old.2));
        covered = grind (arith, total_snoc, set, total_set);
        owned = grind (arith, total_snoc, set, total_set);
        whole = let w = whole_set h vs id v left at live (λ e. e) r.whole in
            (w.0, w.1, at_longer (set vs id left) (right ∷ []) w.0 w.1 w.2, w.3, w.4);
      }

  fits_both : (drawn : ℕ) (h : List (ℕ × E)) (v w : View U E) → ViewRule setup drawn h v
      → ViewRule setup drawn h w → Seated v.stage → times v.number w.numbers ≡ 0
      → ViewRule setup drawn h (both_of v w)
  fits_both drawn h v w fv fw seated none =
      let live = live_of v.stage seated in
      let long : IsPrefix (longer v.seen w.seen) h
      = longer_begins v.seen w.seen h fv.begins fw.begins in
      let pair = both_in v.seen w.seen h fv.begins fw.begins in
      record {
        looked = let a = fv.looked in let b = fw.looked in grind arith;
        begins = long;
        less = shorter_begins v.seen w.seen h fv.begins fw.begins;
        owns = owns-append v.numbers w.numbers h v.own w.own fv.owns fw.owns;
        owned = owns-append v.numbers w.numbers (longer v.seen w.seen) v.own w.own
            (grind (arith, made_by-begins))
            (grind (arith, made_by-begins));
        about = λ _. fv.about live;
        share = λ _. let p = fv.share live in omega arith;
        named = grind (arith, times-append);
        gone = λ z. absurd (let p = fv.share live in omega arith);
      }
    where
      both_in : (a b h : List (ℕ × E)) → IsPrefix a h → IsPrefix b h → IsPrefix a (longer a b)
          × IsPrefix b (longer a b)
      both_in a b h x y = begin_longer a b (shorter_begins a b h x y)

  fits_spent : (drawn : ℕ) (h : List (ℕ × E)) → ViewRule {U = U} {E = E} setup drawn h spent_view
  fits_spent drawn h = grind (arith, nil-suffix, made_by-nil)

  -- one seat is joined into another
  pub roster_join : (drawn : ℕ) (h : List (ℕ × E)) (vs : List (View U E)) (id other : ℕ)
      (v w : View U E) → Roster setup drawn h vs → other ≢ id → get_elem? vs id ≡ some v
      → get_elem? vs other ≡ some w
      → Seated v.stage → Seated w.stage
      → Roster setup drawn h (set (set vs id (both_of v w)) other spent_view)
  roster_join drawn h vs id other v w r apart at at' seated seated' =
      let both : View U E = both_of v w in
      let mid = set vs id both in
      let spent : View U E = spent_view in
      let all = set mid other spent in
      let fv = r.fits id v at in
      let fw = r.fits other w at' in
      let f = λ (m : ℕ) (u : View U E). times m u.numbers in
      let at_mid : get_elem? mid other ≡ some w = set_else vs id other both apart ∙ at' in
      let moved : (g : View U E → ℕ) → total g all + (g w + g v) ≡ total g vs + (g both + g spent)
      = grind (arith, total_set) in
      let named : (m : ℕ) → total (f m) all ≡ total (f m) vs
      = λ m. let t = moved (f m) in let a = times-append m v.numbers w.numbers in omega arith in
      let unused : (m : ℕ) → Unused m h vs → Unused m h all = λ m u. (named m ∙ u.0, u.1) in
      let none : times v.number w.numbers ≡ 0
      = (let t = total_two (f v.number) vs id other v w (λ e. apart (sym e)) at at' in
      let o = r.once v.number in let one = fv.named seated in omega arith) in
      let fb = fits_both drawn h v w fv fw seated none in
      let each : (P : ℕ → View U E → Type 0) → P id both → P other spent
      → ((j : ℕ) (u : View U E) → get_elem? vs j ≡ some u → P j u) → (j : ℕ) (u : View U E)
      → get_elem? all j ≡ some u → P j u
      = λ P here gone there. each_set P mid other spent gone
      (λ j u ne e. each_set P vs id both here (λ j' u' ne' e'. there j' u' e') j u e) in
      let at_id : get_elem? all id ≡ some both
      = set_else mid other id spent (λ e. apart (sym e)) ∙ set_there vs id both v at in
      record {
        fits = each (λ j u. ViewRule setup drawn h u) fb (fits_spent drawn h) r.fits;
        shares = let t = moved (λ (u : View U E). u.shares) in let p = r.shares in omega arith;
        turns = let t = moved (λ (u : View U E). u.turns) in let t' = r.turns in omega arith;
        once = λ m. let o = r.once m in let s = named m in omega arith;
        unused = λ m out. unused m
            (r.unused m (grind (arith, length-set)));
        unnamed = each
            (λ j u. u.stage ≡ New → Unused j h all × (times j u.others ≡ 0) × (u.numbers ≡ []))
            (λ is. absurd (not_new v.stage seated is))
            (λ is. let bad : Spent ≡ New = is in absurd cc)
            (λ j u e is. let old = r.unnamed j u e is in (unused j old.0, old.1, old.2));
        covered = grind (arith, made_by-append, made_by-nil);
        owned = grind (arith, length-append);
        whole = whole_join r.whole at_id;
      }
    where
      whole_join : Whole h vs
          → get_elem? (set (set vs id (both_of v w)) other spent_view) id ≡ some (both_of v w)
          → Whole h (set (set vs id (both_of v w)) other spent_view)
      whole_join (j, u, e, live, is) at_id = dite (ℕ_discrete j id)
          (λ same. (
            id,
            both_of v w,
            at_id,
            live_of v.stage seated,
            longer_whole v.seen w.seen h (r.fits id v at).begins (r.fits other w at').begins
                (ap (λ (z : View U E). z.seen) (same_at vs id j v u (sym same) at e) ∙ is),
          ))
          (λ ne. dite (ℕ_discrete j other)
          (λ same. (
            id,
            both_of v w,
            at_id,
            live_of v.stage seated,
            longer_whole_right v.seen w.seen h (r.fits id v at).begins
                (ap (λ (z : View U E). z.seen) (same_at vs other j w u (sym same) at' e) ∙ is),
          ))
          (λ ne'. (
            j,
            u,
            set_else (set vs id (both_of v w)) other j spent_view ne'
                ∙ (set_else vs id j (both_of v w) ne ∙ e),
            live,
            is,
          )))

  -- at the start
  pub roster_opening : Roster {E = E} setup 0 [] (newcomer setup ∷ [])
  roster_opening = record {
    fits = λ j u e. let is = only j u e in subst (λ z. ViewRule {E = E} setup 0 [] z) is.1 record {
      looked = omega arith;
      begins = suffix_refl [];
      less = suffix_refl [];
      owns = λ p. refl;
      owned = λ p. refl;
      about = λ _. refl;
      share = λ _. omega arith;
      named = λ _. times_self 0;
      gone = λ z. absurd (omega arith);
    };
    shares = refl;
    turns = refl;
    once = λ n. dite (ℕ_discrete n 0)
        (λ is. subst (λ m. times m (0 ∷ []) + 0 ≤ 1) (sym is) (omega (arith, times_self 0)))
        (λ ne. omega (arith, times_other n 0 ne));
    unused = λ n out. (
      (let z = times_other n 0 (λ is. let o : 1 ≤ n = out in omega arith) in omega arith),
      (λ p. refl),
    );
    unnamed = λ j u e is. let bad : Idle ≡ New = ap (λ (z : View U E). z.stage) (only j u e).1
        ∙ is in absurd cc;
    covered = λ p some. absurd (omega arith);
    owned = refl;
    whole = (0, newcomer setup, refl, tt, refl);
  }
    where
      only : (j : ℕ) (u : View U E) → get_elem? (newcomer setup ∷ []) j ≡ some u → (j ≡ 0)
          × (newcomer setup ≡ u)
      only j u e = grind arith
