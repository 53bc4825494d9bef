-- A past by the numbers of its entries.
use Rattle.std.proofs.Common.{◌≡◌, ◌<◌, ℕ, suc, List, [], ◌∷◌, length}
use Rattle.std.proofs.Common.{ap, sym, ◌∙◌, arith, refl}
use Rattle.serial_model.specs.declared.history.Entry.{Entry}
use Rattle.currency.specs.Links.{up_to}
use Rattle.currency.proofs.Runs.{Older, older_tail, older_up_to, up_to_older}

-- the entry behind so many, and what was before it
pub record Next (past : List Entry) (r : ℕ) : Type 0 where
  pub entry : Entry
  pub up : List Entry
  pub older : Older (entry ∷ up) past
  pub before : up_to r past ≡ up
  pub after : up_to (suc r) past ≡ entry ∷ up
  pub number : length up ≡ r

parts : (past : List Entry) (r : ℕ) (all : List Entry) → up_to (suc r) past ≡ all
    → Older all past → length all ≡ suc r → Next past r
parts past r [] e o n = absurd (let no : ⊥ = omega (arith, n) in no)
parts past r (x ∷ up) e o n =
    let number : length up ≡ r = omega (arith, n) in record {
      entry = x;
      up = up;
      older = o;
      before =
          ap (λ k. up_to k past) (sym number)
          ∙ older_up_to up past (older_tail x up past o);
      after = e;
      number = number;
    }

pub next : (past : List Entry) (r : ℕ) → r < length past → Next past r
next past r lt =
    let o = up_to_older (suc r) past (omega (arith, lt)) in
    parts past r (up_to (suc r) past) refl o.0 o.1
