-- Sums over the turns in a log.
use Rattle.std.proofs.Common.{◌≡◌, ◌≤◌, ◌+◌, ℕ, List, [], ◌∷◌, ◌++◌, length, refl, ap, ◌∙◌, arith}
use Rattle.std.proofs.Common.{length-append}
use Rattle.std.specs.List.{All}
use Rattle.std.proofs.lemmas.List.Elements.{All-head, All-tail}
use Rattle.turn_lock.specs.Counts.{total}
use Rattle.turn_lock.specs.History.{IsPrefix}
use Rattle.turn_lock.proofs.Owning.{total-append}
use Rattle.shared_cache.specs.declared.log.Wire.{Wire}
use Rattle.shared_cache.specs.declared.log.LogEntry.{LogEntry}
use Rattle.shared_client.specs.Turns.{Turn}
use Rattle.client_link.specs.Pumps.{IsWork}
use Rattle.script_run.specs.Session.{turns_in}

pub prefix_length : (a b : List LogEntry) → IsPrefix a b → length a ≤ length b
prefix_length a b p = grind (arith, length-append)

module _ (f : Turn → ℕ) where
  pub prefix_total : (more k : List LogEntry)
      → total f (turns_in k) ≤ total f (turns_in (more ++ k))
  prefix_total [] k = omega arith
  prefix_total (e ∷ more) k = grind (arith, prefix_total more k)

  pub parts_total : (ts mine rest : List Turn) → ts ≡ rest ++ mine
      → total f ts ≡ total f rest + total f mine
  parts_total ts mine rest e = ap (total f) e ∙ total-append f rest mine

  pub two_none : (ts mine rest : List Turn) → ts ≡ rest ++ mine → total f rest ≡ 0
      → total f mine ≡ 0 → total f ts ≡ 0
  two_none ts mine rest e r m = let w = parts_total ts mine rest e in omega (arith, w, r, m)

  -- a pump's work has no weight, where no TakeOut and no Got has
  pub works_none : (w : Wire)
      → ((e : LogEntry) (past : List LogEntry) → IsWork w (e, past) → f (e, past) ≡ 0)
      → (ts : List Turn) → All (IsWork w) ts → total f ts ≡ 0
  works_none w none [] h = refl
  works_none w none (t ∷ ts) h =
      let a : f t ≡ 0 = none t.0 t.1 (All-head (IsWork w) t ts h) in
      let b = works_none w none ts (All-tail (IsWork w) t ts h) in
      let e : total f (t ∷ ts) ≡ f t + total f ts = refl in omega (arith, a, b, e)
