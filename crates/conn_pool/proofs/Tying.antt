-- Reports and a seat's own turns, visit by visit and as workers are joined.
use Rattle.std.proofs.Common.{◌≡◌, ℕ, ◌+◌, ◌≤◌, Bool, cond, List, [], ◌∷◌, ◌++◌, length, sym, refl}
use Rattle.std.proofs.Common.{ap, ◌∙◌, subst, arith, ne_eqb, length-append, append-nil, inl, inr}
use Rattle.std.specs.Prelude.{Option, ◌==◌}
use Rattle.std.specs.List.{All}
use Rattle.std.proofs.lemmas.List.Elements.{All-head, All-tail}
use Rattle.turn_lock.specs.Counts.{times, total}
use Rattle.turn_lock.specs.History.{IsPrefix}
use Rattle.serial_model.specs.declared.history.Entry.{Entry}
use Rattle.serial_model.specs.declared.history.Entry.TheVariants.{Admit, Run, Tick, Take, Close}
use Rattle.turn_lock.specs.Own.{own_list, with_pasts, turns_of, IsWithin, Grows}
use Rattle.shared_book.specs.Turns.{Place, Turn}
use Rattle.turn_lock.proofs.Owning.{own_joined, pasts_begins, pasts_within, total-append}
use Rattle.turn_lock.proofs.Owning.{within_append, within_begins}
use Rattle.turn_lock.proofs.Growing.{grows_then}
use Rattle.conn_worker.specs.declared.report.Report.{Report}
use Rattle.conn_worker.specs.Visits.{IsWork, runs_in, Visits, Served, NotServed}
use Rattle.conn_worker.proofs.Parting.{Parts, close_turns, leaves_parts}
use Rattle.conn_pool.specs.Shown.{AreShown}
use Rattle.conn_pool.proofs.Showing.{shown_visit}
use Rattle.conn_pool.specs.Ties.{admits, runs, admitted_in, ran_in, Tied, Tells}

work_admits : (id n : ℕ) (clock : Option ℕ) (ts : List Turn) → All (IsWork id clock) ts
    → admitted_in n ts ≡ 0
work_admits id n clock [] h = refl
work_admits id n clock ((Admit m, past) ∷ ts) h =
    absurd (All-head (IsWork id clock) (Admit m, past) ts h)
work_admits id n clock ((Run m words moment, past) ∷ ts) h =
    omega (
      arith,
      work_admits id n clock ts
          (All-tail (IsWork id clock) (Run m words moment, past) ts h),
    )
work_admits id n clock ((Tick moment, past) ∷ ts) h =
    omega (
      arith,
      work_admits id n clock ts (All-tail (IsWork id clock) (Tick moment, past) ts h),
    )
work_admits id n clock ((Take m most, past) ∷ ts) h =
    omega (
      arith,
      work_admits id n clock ts
          (All-tail (IsWork id clock) (Take m most, past) ts h),
    )
work_admits id n clock ((Close m, past) ∷ ts) h =
    absurd (All-head (IsWork id clock) (Close m, past) ts h)

count_none : (b : Bool) → ◌≡◌ {A = ℕ} 0 (cond {A = ℕ} b 0 0)
count_none b = grind arith

count_more : (b : Bool) (k : ℕ) → cond {A = ℕ} b 1 0 + cond {A = ℕ} b k 0 ≡ cond {A = ℕ} b (k + 1) 0
count_more b k = grind arith

pub work_runs : (id n : ℕ) (clock : Option ℕ) (ts : List Turn) → All (IsWork id clock) ts
    → ran_in n ts ≡ cond (id == n) (length (runs_in ts)) 0
work_runs id n clock [] h = count_none (id == n)
work_runs id n clock ((Admit m, past) ∷ ts) h =
    absurd (All-head (IsWork id clock) (Admit m, past) ts h)
work_runs id n clock ((Run m words moment, past) ∷ ts) h =
    let t : Turn = (Run m words moment, past) in
    let same : m ≡ id = (All-head (IsWork id clock) t ts h).0 in
    let r = work_runs id n clock ts (All-tail (IsWork id clock) t ts h) in
    grind (arith, count_more, length-append)
work_runs id n clock ((Tick moment, past) ∷ ts) h =
    let r = work_runs id n clock ts (All-tail (IsWork id clock) (Tick moment, past) ts h) in
    grind (arith, append-nil)
work_runs id n clock ((Take m most, past) ∷ ts) h =
    let r = work_runs id n clock ts (All-tail (IsWork id clock) (Take m most, past) ts h) in
    grind (arith, append-nil)
work_runs id n clock ((Close m, past) ∷ ts) h =
    absurd (All-head (IsWork id clock) (Close m, past) ts h)

closed_admits : (id n : ℕ) (c : Option (List Entry)) → admitted_in n (close_turns id c) ≡ 0
closed_admits id n c = grind arith

closed_runs : (id n : ℕ) (c : Option (List Entry)) → ran_in n (close_turns id c) ≡ 0
closed_runs id n c = grind arith

module _ (clock : Option ℕ) (r : Report) (left0 left1 link0 link1 : Option (List ℕ))
    (old new : Place) where
  pub parts : (s : Served clock r left0 left1 link0 link1 old new) → Parts r.id s.last new r.ended
  parts s = leaves_parts r.id s.last new s.cause r.ended s.works.grows.within s.leaves

  served_tells : Served clock r left0 left1 link0 link1 old new
      → Tells r (turns_of old) (turns_of new)
  unfolding Tells
  served_tells s n pos =
      let f : Turn → ℕ = λ t. admits n t.0 in
      let g : Turn → ℕ = λ t. runs n t.0 in
      let w = s.works in
      let p = parts s in
      let c = close_turns r.id p.close in
      let a : List Turn = (Admit r.id, s.admits.past) ∷ [] in
      let a0 = ap (total f) p.grows.own in
      let a1 = total-append f c (turns_of s.last) in
      let a2 = ap (total f) w.grows.own in
      let a3 = total-append f w.turns (turns_of s.first) in
      let a4 = ap (total f) s.admits.grows.own in
      let b0 = ap (total g) p.grows.own in
      let b1 = total-append g c (turns_of s.last) in
      let b2 = ap (total g) w.grows.own in
      let b3 = total-append g w.turns (turns_of s.first) in
      let b4 = ap (total g) s.admits.grows.own in
      let ca = closed_admits r.id n p.close in
      let cr = closed_runs r.id n p.close in
      let wa = work_admits r.id n clock w.turns w.work in
      let wr = work_runs r.id n clock w.turns w.work
      ∙ ap (λ k. cond (r.id == n) k 0) (sym w.counted) in (
        omega (arith, a0, a1, a2, a3, a4, ca, wa),
        omega (arith, b0, b1, b2, b3, b4, cr, wr),
      )

  unserved_tells : NotServed r left0 left1 link0 link1 old new
      → Tells r (turns_of old) (turns_of new)
  unfolding Tells
  unserved_tells s n pos = grind (arith, ne_eqb)

  pub visit_tells : Visits clock r left0 left1 link0 link1 old new
      → Tells r (turns_of old) (turns_of new)
  visit_tells (inl s) = unserved_tells s
  visit_tells (inr s) = served_tells s

  pub served_whole : (s : Served clock r left0 left1 link0 link1 old new)
      → Grows old new (close_turns r.id (parts s).close
      ++ (s.works.turns ++ (Admit r.id, s.admits.past) ∷ []))
  served_whole s =
      let a : List Turn = (Admit r.id, s.admits.past) ∷ [] in
      let first = grows_then old s.first s.last a s.works.turns s.admits.grows s.works.grows in
      let p = parts s in
      grows_then old s.last new (s.works.turns ++ a) (close_turns r.id p.close) first p.grows

  visit_grows : Visits clock r left0 left1 link0 link1 old new
      → (ts : List Turn) × Grows old new ts
  visit_grows (inl s) = ([], s.refuses.grows)
  visit_grows (inr s) = (_, served_whole s)

  pub visit_lock : Visits clock r left0 left1 link0 link1 old new → new.lock ≡ old.lock
  visit_lock v = (visit_grows v).1.lock

  pub visit_setup : Visits clock r left0 left1 link0 link1 old new → new.setup ≡ old.setup
  visit_setup v = (visit_grows v).1.setup

  pub visit_parts : Visits clock r left0 left1 link0 link1 old new → new.parts ≡ old.parts
  visit_parts v = (visit_grows v).1.parts

  pub visit_within : Visits clock r left0 left1 link0 link1 old new → IsWithin new
  visit_within v = (visit_grows v).1.within

pub turns_none : (k : Place) → k.own ≡ [] → turns_of k ≡ []
unfolding turns_of
turns_none k is = ap (own_list (with_pasts k.seen)) is

pub tied_none : (k : Place) → k.own ≡ [] → Tied [] (turns_of k)
unfolding Tied
tied_none k is n pos = grind (arith, turns_none)

tied_more : (rs : List Report) (r : Report) (own new : List Turn) → Tied rs own → Tells r own new
    → Tied (rs ++ r ∷ []) new
unfolding Tied Tells
tied_more rs r own new t is n pos = grind (arith, total-append)

pub tied_visit : (clock : Option ℕ) (rs : List Report) (r : Report)
    (left0 left1 link0 link1 : Option (List ℕ)) (old new : Place) → Tied rs (turns_of old)
    → Visits clock r left0 left1 link0 link1 old new → Tied (rs ++ r ∷ []) (turns_of new)
tied_visit clock rs r left0 left1 link0 link1 old new t v =
    tied_more rs r (turns_of old) (turns_of new) t
    (visit_tells clock r left0 left1 link0 link1 old new v)

pub shown_after : (clock : Option ℕ) (rs : List Report) (r : Report)
    (left0 left1 link0 link1 : Option (List ℕ)) (old new : Place) → AreShown rs old
    → Visits clock r left0 left1 link0 link1 old new → AreShown (rs ++ r ∷ []) new
shown_after clock rs r left0 left1 link0 link1 old new s v =
    let g = visit_grows clock r left0 left1 link0 link1 old new v in
    shown_visit clock rs r left0 left1 link0 link1 old new g.0 g.1 s v

tied_both : (rs ss : List Report) (a b c : List Turn) → Tied rs a → Tied ss b → c ≡ a ++ b
    → Tied (rs ++ ss) c
unfolding Tied
tied_both rs ss a b c e y is n pos = grind (arith, total-append)

pub joined_turns : (a b c : Place) → c.own ≡ a.own ++ b.own → IsPrefix a.seen c.seen
    → IsPrefix b.seen c.seen → IsWithin a → IsWithin b → turns_of c ≡ turns_of a ++ turns_of b
unfolding turns_of IsWithin
joined_turns a b c own e y wa wb = grind (arith, own_joined, pasts_begins, pasts_within)

pub joined_within : (a b c : Place) → c.own ≡ a.own ++ b.own → IsPrefix a.seen c.seen
    → IsPrefix b.seen c.seen → IsWithin a → IsWithin b → IsWithin c
unfolding IsWithin
joined_within a b c own x y wa wb p le =
    ap (times p) own ∙ within_append c.seen a.own b.own (within_begins a.seen c.seen a.own x wa)
    (within_begins b.seen c.seen b.own y wb) p le

pub tied_joined : (rs ss : List Report) (a b c : Place) → c.own ≡ a.own ++ b.own
    → IsPrefix a.seen c.seen → IsPrefix b.seen c.seen → IsWithin a → IsWithin b
    → Tied rs (turns_of a) → Tied ss (turns_of b) → Tied (rs ++ ss) (turns_of c)
tied_joined rs ss a b c own e y wa wb t u = grind (arith, tied_both, joined_turns)

pub same_within : (a b : Place) → b.seen ≡ a.seen → b.own ≡ a.own → IsWithin a → IsWithin b
unfolding IsWithin
same_within a b s o is p le = ap (times p) o ∙ is p (subst (λ z. length z ≤ p) s le)

pub within_none : (k : Place) → k.own ≡ [] → IsWithin k
unfolding IsWithin
within_none k is p le = ap (times p) is

pub same_turns : (a b : Place) → b.seen ≡ a.seen → b.own ≡ a.own → turns_of b ≡ turns_of a
unfolding turns_of
same_turns a b s o = grind arith
