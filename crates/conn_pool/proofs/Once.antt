-- In a legal history each connection is admitted at most once.
use Rattle.std.proofs.Common.{◌≡◌, ℕ, ◌+◌, ◌<◌, ◌≤◌, List, [], ◌∷◌, sym, refl, ap, ◌∙◌, arith}
use Rattle.std.proofs.Common.{eq-eqb, ne_eqb, length}
use Rattle.std.specs.List.{sum_by}
use Rattle.std.specs.List.Sorted.{IsPermutation}
use Rattle.std.proofs.lemmas.List.Sorted.{sum_by-IsPermutation}
use Rattle.std.proofs.lemmas.List.Sums.{sum_by-cons}
use Rattle.turn_lock.specs.Counts.{times, total}
use Rattle.turn_lock.specs.History.{entries, Legal}
use Rattle.serial_model.specs.declared.history.Limits.{Limits}
use Rattle.serial_model.specs.declared.history.Entry.{Entry}
use Rattle.serial_model.specs.declared.history.Entry.TheVariants.{Admit, Run, Tick, Take, Close}
use Rattle.serial_model.specs.History.{admitted, IsLegal}
use Rattle.serial_model.proofs.Turning.{by_step, step_legal}
use Rattle.turn_lock.specs.Own.{past_of, with_pasts, turns_of}
use Rattle.shared_book.specs.Turns.{Place, Turn, TurnStep}
use Rattle.turn_lock.proofs.Owning.{own_all, pasts_length}
use Rattle.conn_worker.specs.declared.report.Report.{Report}
use Rattle.conn_worker.specs.Elsewhere.{closes, quits}
use Rattle.conn_pool.specs.Ties.{Parted, admits, closing, names, quitting, requests, runs, Tied}

module _ (l : Limits) where
  -- each of its entries is one that a turn of the server adds
  pub legal_of : (h : List (ℕ × Entry)) → Legal TurnStep l h → IsLegal l (entries h)
  legal_of [] t = tt
  legal_of (e ∷ h) (rest, (call, reply, step)) = grind (arith, by_step, step_legal, legal_of h rest)

  once : (past : List Entry) → IsLegal l past → (n : ℕ)
      → (total (admits n) past ≤ 1) × (admitted past < n → total (admits n) past ≡ 0)
  once [] legal n = (omega arith, λ lt. omega arith)
  once (Admit k ∷ past) (on, is, legal) n = grind (arith, eq-eqb, ne_eqb, once past legal n)
  once (Run k words moment ∷ past) (on, later, legal) n = grind (arith, once past legal n)
  once (Tick moment ∷ past) (on, due, later, legal) n = grind (arith, once past legal n)
  once (Take k most ∷ past) (on, some, legal) n = grind (arith, once past legal n)
  once (Close k ∷ past) (on, legal) n = grind (arith, once past legal n)

  -- no two reports name one connection
  pub named_once : (h : List (ℕ × Entry)) (rs : List Report) → Legal TurnStep l h
      → ((n : ℕ) → 0 < n → total (admits n) (entries h) ≡ total (names n) rs) → (n : ℕ) → 0 < n
      → total (names n) rs ≤ 1
  named_once h rs legal same n pos =
      let o = (once (entries h) (legal_of h legal) n).0 in
      let e = same n pos in omega (arith, o, e)

total_sums : (f : Report → ℕ) (rs : List Report) → total f rs ≡ sum_by f rs
total_sums f [] = refl
total_sums f (r ∷ rs) = ap (λ n. f r + n) (total_sums f rs) ∙ sym (sum_by-cons f r rs)

-- the order of reports is nothing to their sums
pub total_moved : (f : Report → ℕ) (rs ss : List Report) → IsPermutation rs ss
    → total f rs ≡ total f ss
total_moved f rs ss moved = grind (arith, total_sums, sum_by-IsPermutation)

-- all turns of a history are its entries
all_turns : (f : Entry → ℕ) (h : List (ℕ × Entry))
    → total (λ (t : Turn). f t.0) (entries (with_pasts h)) ≡ total f (entries h)
all_turns f [] = refl
all_turns f (e ∷ h) = ap (λ n. f e.1 + n) (all_turns f h)

module _ (k : Place) (all : (p : ℕ) → p < length k.seen → times p k.own ≡ 1) where
  whole : (f : Entry → ℕ)
      → total (λ (t : Turn). f t.0) (turns_of k) ≡ total f (entries k.seen)
  unfolding turns_of
  whole f = grind (arith, own_all, pasts_length, all_turns)

  pub tied_admits : (rs : List Report) → Tied rs (turns_of k) → (n : ℕ) → 0 < n
      → total (admits n) (entries k.seen) ≡ total (names n) rs
  unfolding Tied
  tied_admits rs t n pos = sym (whole (admits n)) ∙ (t n pos).0

  pub tied_runs : (rs : List Report) → Tied rs (turns_of k) → (n : ℕ) → 0 < n
      → total (runs n) (entries k.seen) ≡ total (requests n) rs
  unfolding Tied
  tied_runs rs t n pos = sym (whole (runs n)) ∙ (t n pos).1

  pub parted_closes : (rs : List Report) → Parted rs (turns_of k) (past_of k) → (n : ℕ) → 0 < n
      → total (closes n) (entries k.seen) ≤ total (closing n) rs
  unfolding Parted
  parted_closes rs p n pos =
      let all = whole (closes n) in let most = (p n pos).0 in omega (arith, all, most)

  pub parted_quits : (rs : List Report) → Parted rs (turns_of k) (past_of k) → (n : ℕ) → 0 < n
      → total (closes n) (entries k.seen) ≡ 0
      → total (quits n) (entries k.seen) ≤ total (quitting n) rs
  unfolding Parted
  parted_quits rs p n pos none =
      let all = whole (quits n) in let most = (p n pos).1 none in omega (arith, all, most)
