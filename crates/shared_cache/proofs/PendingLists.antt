-- The replies that wait for their callers, by the log.
use Rattle.std.proofs.Common.{◌≡◌, ◌+◌, ◌<◌, ◌≤◌, ◌++◌, ℕ, zero, suc, List, [], ◌∷◌, length, set}
use Rattle.std.proofs.Common.{get_or, Bool, true, false, cond, Option, Some, None, ap, refl}
use Rattle.std.proofs.Common.{arith}
use Rattle.std.proofs.lemmas.Grind.{common_steps}
use Rattle.resp_value.specs.declared.value.Value.{Value}
use Rattle.shared_cache.specs.declared.entry.PendingReply.{PendingReply}
use Rattle.shared_cache.specs.declared.entry.PendingReply.TheVariants.{Waiting, There, Gone}
use Rattle.shared_cache.specs.Log.{reply_in}
use Rattle.shared_cache.specs.ClientFields.{there, owed_in, answered}

-- a number past the replies has none
pub no_reply : (n : ℕ) (vs : List Value) → length vs < n → reply_in n vs ≡ None
no_reply n [] lt = refl
no_reply n (v ∷ vs) lt = grind (arith, common_steps, no_reply n vs)

pub has_reply : (n : ℕ) (vs : List Value) (v : Value) → there (reply_in n vs) ≡ There v
    → n ≤ length vs
has_reply n [] v e = cc
has_reply n (u ∷ vs) v e = grind (arith, common_steps, has_reply n vs v)

pub owed_push : (ds : List PendingReply) → owed_in (ds ++ Waiting ∷ []) ≡ owed_in ds + 1
owed_push [] = refl
owed_push (Waiting ∷ ds) = omega (arith, owed_push ds)
owed_push (There v ∷ ds) = omega (arith, owed_push ds)
owed_push (Gone ∷ ds) = owed_push ds

-- a reply comes
pub owed_answered : (ds : List PendingReply) (i : ℕ) (v : Value)
    → owed_in (set ds i (answered v (get_or ds i Gone))) ≡ owed_in ds
owed_answered [] i v = refl
owed_answered (Waiting ∷ ds) zero v = refl
owed_answered (There u ∷ ds) zero v = refl
owed_answered (Gone ∷ ds) zero v = refl
owed_answered (Waiting ∷ ds) (suc i) v = ap (λ n. n + 1) (owed_answered ds i v)
owed_answered (There u ∷ ds) (suc i) v = ap (λ n. n + 1) (owed_answered ds i v)
owed_answered (Gone ∷ ds) (suc i) v = owed_answered ds i v

-- a reply is handed over
pub owed_gone : (ds : List PendingReply) (i : ℕ) (v : Value) → get_or ds i Gone ≡ There v
    → owed_in ds ≡ owed_in (set ds i Gone) + 1
owed_gone [] i v e = cc
owed_gone (There u ∷ ds) zero v e = refl
owed_gone (Waiting ∷ ds) (suc i) v e = ap (λ n. n + 1) (owed_gone ds i v e)
owed_gone (There u ∷ ds) (suc i) v e = ap (λ n. n + 1) (owed_gone ds i v e)
owed_gone (Gone ∷ ds) (suc i) v e = owed_gone ds i v e
owed_gone ds zero v e = cc

-- what a pending reply says of its number
pub gone_is : (b : Bool) (o : Option Value) → cond b (there o) Gone ≡ Gone → b ≡ false
gone_is b o e = grind arith

pub waiting_is : (b : Bool) (o : Option Value) → cond b (there o) Gone ≡ Waiting
    → (b ≡ true) × (o ≡ None)
waiting_is b o e = grind arith

pub there_is : (b : Bool) (o : Option Value) (v : Value) → cond b (there o) Gone ≡ There v
    → (b ≡ true) × (o ≡ Some v)
there_is b o v e = grind arith
