-- Totals of more reports, and of those of two.
use Rattle.std.proofs.Common.{◌≡◌, ◌<◌, ℕ, ◌+◌, ◌^◌, List, [], ◌∷◌, ◌++◌, cond, refl, sym, ap, ◌∙◌}
use Rattle.std.proofs.Common.{arith, length}
use Rattle.std.specs.Prelude.{◌==◌}
use Rattle.std.specs.List.Sorted.{IsPermutation}
use Rattle.turn_lock.specs.Counts.{total}
use Rattle.conn_worker.specs.declared.report.Report.{Report}
use Rattle.conn_worker.specs.declared.report.Ended.{Ended}
use Rattle.conn_worker.specs.declared.report.Ended.TheVariants as ended
use Rattle.conn_worker.specs.Numbers.{end_number}
use Rattle.conn_pool.specs.declared.totals.EndTotal.{EndTotal}
use Rattle.conn_pool.specs.declared.totals.Totals.{Totals}
use Rattle.conn_pool.specs.EndTotals.{both, ends_so, merged, more, requests_so, total_of, totals_of}
use Rattle.conn_pool.specs.EndTotals.{AddUp, by_end, up_to_last, with_end}
use Rattle.conn_pool.proofs.Once.{total_moved}

total_two : (f : Report → ℕ) (rs ss : List Report) → total f (rs ++ ss) ≡ total f rs + total f ss
total_two f [] ss = omega arith
total_two f (r ∷ rs) ss = let rest = total_two f rs ss in omega (arith, rest)

last_two : (m n : ℕ) → up_to_last (up_to_last m + up_to_last n) ≡ up_to_last (m + n)
last_two m n = omega arith

same_total : (c d q r : ℕ) → c ≡ d → q ≡ r
    → ◌≡◌ {A = EndTotal} (record { connections = c; requests = q })
    (record { connections = d; requests = r })
same_total c d q r e f = grind (arith, e, f)

same_totals : (t u : Totals) → t.peer_end ≡ u.peer_end → t.quit ≡ u.quit → t.dropped ≡ u.dropped
    → t.bad_request ≡ u.bad_request → t.link_fault ≡ u.link_fault → t.no_memory ≡ u.no_memory
    → t.worn ≡ u.worn → t.stopped ≡ u.stopped → t ≡ u
same_totals t u a b c d e f g h = grind (arith, a, b, c, d, e, f, g, h)

two : (i : ℕ) (rs ss : List Report)
    → both (total_of i ss) (total_of i rs) ≡ total_of i (rs ++ ss)
two i rs ss =
    same_total _ _ _ _
    (last_two (total (ends_so i) rs) (total (ends_so i) ss)
    ∙ ap up_to_last (sym (total_two (ends_so i) rs ss)))
    (last_two (total (requests_so i) rs) (total (requests_so i) ss)
    ∙ ap up_to_last (sym (total_two (requests_so i) rs ss)))

-- those of reports and of others
pub totals_two : (rs ss : List Report)
    → merged (totals_of ss) (totals_of rs) ≡ totals_of (rs ++ ss)
unfolding totals_of
totals_two rs ss =
    same_totals _ _ (two 1 rs ss) (two 2 rs ss) (two 3 rs ss) (two 4 rs ss) (two 5 rs ss)
    (two 7 rs ss) (two 8 rs ss) (two 9 rs ss)

module _ (rs : List Report) (r : Report) where
  one : (i : ℕ) → more (ends_so i r) (requests_so i r) (total_of i rs) ≡ total_of i (rs ++ r ∷ [])
  one i =
      let a = total_two (ends_so i) rs (r ∷ []) in
      let b = total_two (requests_so i) rs (r ∷ []) in
      same_total _ _ _ _ (omega (arith, a)) (omega (arith, b))

  none : (i : ℕ) → ends_so i r ≡ 0 → requests_so i r ≡ 0
      → total_of i rs ≡ total_of i (rs ++ r ∷ [])
  none i z y =
      let a = total_two (ends_so i) rs (r ∷ []) in
      let b = total_two (requests_so i) rs (r ∷ []) in
      same_total _ _ _ _ (omega (arith, a, z)) (omega (arith, b, y))

more_in : (e : Ended) (id n : ℕ) (rs : List Report)
    → with_end e n (totals_of rs)
    ≡ totals_of (rs ++ record { id = id; requests = n; ended = e } ∷ [])
unfolding totals_of
more_in ended.PeerEnd id n rs =
    let r : Report = record { id = id; requests = n; ended = ended.PeerEnd } in
    same_totals _ _ (one rs r 1) (none rs r 2 refl refl) (none rs r 3 refl refl)
    (none rs r 4 refl refl) (none rs r 5 refl refl) (none rs r 7 refl refl)
    (none rs r 8 refl refl) (none rs r 9 refl refl)
more_in ended.Quit id n rs =
    let r : Report = record { id = id; requests = n; ended = ended.Quit } in
    same_totals _ _ (none rs r 1 refl refl) (one rs r 2) (none rs r 3 refl refl)
    (none rs r 4 refl refl) (none rs r 5 refl refl) (none rs r 7 refl refl)
    (none rs r 8 refl refl) (none rs r 9 refl refl)
more_in ended.Dropped id n rs =
    let r : Report = record { id = id; requests = n; ended = ended.Dropped } in
    same_totals _ _ (none rs r 1 refl refl) (none rs r 2 refl refl) (one rs r 3)
    (none rs r 4 refl refl) (none rs r 5 refl refl) (none rs r 7 refl refl)
    (none rs r 8 refl refl) (none rs r 9 refl refl)
more_in (ended.BadRequest fault) id n rs =
    let r : Report = record { id = id; requests = n; ended = ended.BadRequest fault } in
    same_totals _ _ (none rs r 1 refl refl) (none rs r 2 refl refl) (none rs r 3 refl refl)
    (one rs r 4) (none rs r 5 refl refl) (none rs r 7 refl refl)
    (none rs r 8 refl refl) (none rs r 9 refl refl)
more_in ended.LinkFault id n rs =
    let r : Report = record { id = id; requests = n; ended = ended.LinkFault } in
    same_totals _ _ (none rs r 1 refl refl) (none rs r 2 refl refl) (none rs r 3 refl refl)
    (none rs r 4 refl refl) (one rs r 5) (none rs r 7 refl refl)
    (none rs r 8 refl refl) (none rs r 9 refl refl)
more_in ended.NoMemory id n rs =
    let r : Report = record { id = id; requests = n; ended = ended.NoMemory } in
    same_totals _ _ (none rs r 1 refl refl) (none rs r 2 refl refl) (none rs r 3 refl refl)
    (none rs r 4 refl refl) (none rs r 5 refl refl) (one rs r 7)
    (none rs r 8 refl refl) (none rs r 9 refl refl)
more_in ended.Worn id n rs =
    let r : Report = record { id = id; requests = n; ended = ended.Worn } in
    same_totals _ _ (none rs r 1 refl refl) (none rs r 2 refl refl) (none rs r 3 refl refl)
    (none rs r 4 refl refl) (none rs r 5 refl refl) (none rs r 7 refl refl)
    (one rs r 8) (none rs r 9 refl refl)
more_in ended.Stopped id n rs =
    let r : Report = record { id = id; requests = n; ended = ended.Stopped } in
    same_totals _ _ (none rs r 1 refl refl) (none rs r 2 refl refl) (none rs r 3 refl refl)
    (none rs r 4 refl refl) (none rs r 5 refl refl) (none rs r 7 refl refl)
    (none rs r 8 refl refl) (one rs r 9)

-- those of one report more
pub totals_more : (rs : List Report) (r : Report)
    → with_end r.ended r.requests (totals_of rs) ≡ totals_of (rs ++ r ∷ [])
totals_more rs r = more_in r.ended r.id r.requests rs

moved_in : (i : ℕ) (rs ss : List Report) → IsPermutation rs ss → total_of i rs ≡ total_of i ss
moved_in i rs ss moved =
    same_total _ _ _ _ (ap up_to_last (total_moved (ends_so i) rs ss moved))
    (ap up_to_last (total_moved (requests_so i) rs ss moved))

-- their order is nothing to them
pub totals_moved : (rs ss : List Report) → IsPermutation rs ss → totals_of rs ≡ totals_of ss
unfolding totals_of
totals_moved rs ss m =
    same_totals _ _ (moved_in 1 rs ss m) (moved_in 2 rs ss m) (moved_in 3 rs ss m)
    (moved_in 4 rs ss m) (moved_in 5 rs ss m) (moved_in 7 rs ss m) (moved_in 8 rs ss m)
    (moved_in 9 rs ss m)

pub ruleset kept = (totals_two, totals_more, totals_moved)

-- ---- over all ways to end

abbrev over_all : (ℕ → ℕ) → ℕ
over_all f = f 1 + (f 2 + (f 3 + (f 4 + (f 5 + (f 7 + (f 8 + f 9))))))

one_end : (e : Ended) → over_all (λ i. cond {A = ℕ} (end_number e == i) 1 0) ≡ 1
one_end ended.PeerEnd = refl
one_end ended.Quit = refl
one_end ended.Dropped = refl
one_end (ended.BadRequest fault) = refl
one_end ended.LinkFault = refl
one_end ended.NoMemory = refl
one_end ended.Worn = refl
one_end ended.Stopped = refl

one_sum : (e : Ended) (n : ℕ) → over_all (λ i. cond {A = ℕ} (end_number e == i) n 0) ≡ n
one_sum ended.PeerEnd n = omega arith
one_sum ended.Quit n = omega arith
one_sum ended.Dropped n = omega arith
one_sum (ended.BadRequest fault) n = omega arith
one_sum ended.LinkFault n = omega arith
one_sum ended.NoMemory n = omega arith
one_sum ended.Worn n = omega arith
one_sum ended.Stopped n = omega arith

all_ends : (rs : List Report) → over_all (λ i. total (ends_so i) rs) ≡ length rs
all_ends [] = refl
all_ends (r ∷ rs) = let one = one_end r.ended in let rest = all_ends rs in omega (arith, one, rest)

all_requests : (rs : List Report)
    → over_all (λ i. total (requests_so i) rs) ≡ total (λ (r : Report). r.requests) rs
all_requests [] = refl
all_requests (r ∷ rs) =
    let one = one_sum r.ended r.requests in
    let rest = all_requests rs in
    omega (arith, one, rest)

up_to_all : (f : ℕ → ℕ) (n : ℕ) → over_all f ≡ n → n < 2 ^ 64
    → over_all (λ i. up_to_last (f i)) ≡ n
up_to_all f n all lt = omega (arith, all, lt)

to_total : (t : Totals) → total (λ (p : ℕ × EndTotal). p.1.connections) (by_end t)
    ≡ t.peer_end.connections + (t.quit.connections + (t.dropped.connections
    + (t.bad_request.connections + (t.link_fault.connections + (t.no_memory.connections
    + (t.worn.connections + t.stopped.connections))))))
to_total t = omega arith

to_requests : (t : Totals) → total (λ (p : ℕ × EndTotal). p.1.requests) (by_end t)
    ≡ t.peer_end.requests + (t.quit.requests + (t.dropped.requests
    + (t.bad_request.requests + (t.link_fault.requests + (t.no_memory.requests
    + (t.worn.requests + t.stopped.requests))))))
to_requests t = omega arith

pub add_up : AddUp
unfolding totals_of
add_up rs = (
  λ lt. to_total (totals_of rs) ∙ up_to_all (λ i. total (ends_so i) rs) _ (all_ends rs) lt,
  λ lt. to_requests (totals_of rs) ∙ up_to_all (λ i. total (requests_so i) rs) _ (all_requests rs)
      lt,
)
