-- What a command takes out of a key leads back, and the index after it.
use Rattle.std.proofs.Common.{◌≡◌, ◌∙◌, refl, sym, ap, subst, ℕ, ℤ, List, [], ◌∷◌, ◌++◌}
use Rattle.std.proofs.Common.{Bool, true, false, cond}
use Rattle.std.proofs.Common.{Option, Some, None}
use Rattle.std.proofs.Common.{Result, Ok, Err, OnOk, OnErr}
use Rattle.std.specs.Prelude.{◌||◌}
use Rattle.std.specs.FinMap.{get, insert, remove}
use Rattle.std.specs.Str.{bytes_eq}
use Rattle.std.proofs.lemmas.Slice.Eq.{bytes_eq-Decides}
use Rattle.resp_value.specs.declared.octets.NoMemory.{NoMemory}
use Rattle.command_words.specs.declared.command.Command.{Command}
use Rattle.command_words.specs.declared.command.Command.TheVariants as command
use Rattle.command_words.specs.declared.command.SetLife.{SetLife}
use Rattle.command_words.specs.declared.command.SetLife.TheVariants as life
use Rattle.command_words.specs.declared.command.SetWhen.{SetWhen}
use Rattle.command_words.specs.declared.written.Written.{Written}
use Rattle.command_words.specs.declared.written.Written.TheVariants.{Keys}
use Rattle.command_words.specs.Effects.{effect, hash_effect, string_effect}
use Rattle.command_words.specs.Hashes.{hincrby_effect}
use Rattle.command_words.specs.Queries.{names, written}
use Rattle.command_words.specs.Space.{Held, Space}
use Rattle.command_words.specs.Strings.{decrby_effect, incrby_effect, set_effect}
use Rattle.hash_cmds.specs.declared.numbers.FieldChange.{FieldChange}
use Rattle.hash_cmds.specs.Counted.{IsChange}
use Rattle.string_cmds.specs.Counted.{IsKept}
use Rattle.string_cmds.specs.Taken.{IsTaken}
use Rattle.expiry.specs.declared.index.Deadline.{Deadline}
use Rattle.command_set.specs.InStep.{InStep, deadlines_of, settled}
use Rattle.command_set.specs.Laws.{Moves}
use Rattle.command_set.specs.Moving.{changed, field_changed, takes_out, went}
use Rattle.command_set.specs.Priors.{Priors, Whole, again, put_back}
use Rattle.command_set.specs.NewDeadlines.{new_deadline}
use Rattle.command_set.proofs.KeptBack.{field_changed_back}
use Rattle.command_set.proofs.Moves.{at_insert, at_remove, row_moves, same}
use Rattle.command_set.proofs.Steps.{in_step}
use Rattle.command_set.proofs.TakenBack.{alike, get_again, put_back_last, wholes_back}

-- a key that went is there again
there_again : (key : List ℕ) (h : Held) (s : Space) → get s key ≡ Some h
    → insert (remove s key) key h ≡ s
there_again key h s at =
    alike _ _ (λ q. at_insert (remove s key) key h q
    ∙ (ap (cond (bytes_eq q key) (Some h)) (at_remove s key q) ∙ by q (bytes_eq q key) refl))
  where
    by : (q : List ℕ) (b : Bool) → bytes_eq q key ≡ b
        → cond b (Some h) (cond b None (get s q)) ≡ get s q
    by q true e = sym at ∙ ap (get s) (sym ((bytes_eq-Decides q key).0 e))
    by q false e = refl

pub taken_back : (key : List ℕ) (h : Option Held) (s t : Space) (kept : Priors)
    → IsTaken key h s t → kept ≡ went key h → put_back kept t ≡ s
taken_back key None s t kept is so = ap (λ ps. put_back ps t) so ∙ is
taken_back key (Some h) s t kept is so =
    ap (λ ps. put_back ps t) so
    ∙ (ap (λ m. insert m key h) is.1 ∙ there_again key h s is.0)

-- where one key alone changed, what it held leads back
pub had_back : (key : List ℕ) (had : Option (Option Held)) (s t : Space) (kept : Priors)
    → IsKept key had s t
    → ((q : List ℕ) → names (Keys (key ∷ [])) q ≡ false → get t q ≡ get s q)
    → kept ≡ changed key had → put_back kept t ≡ s
had_back key None s t kept is others so = ap (λ ps. put_back ps t) so ∙ is
had_back key (Some had) s t kept is others so =
    ap (λ ps. put_back ps t) so
    ∙ (ap (λ h. put_back ((key, Whole h) ∷ []) t) (sym is)
    ∙ wholes_back (key ∷ []) s t others)

sum_moves : (key : List ℕ) (n : ℤ) (s t : Space) → t ≡ (incrby_effect key n s).space
    → (q : List ℕ) → names (Keys (key ∷ [])) q ≡ false → get t q ≡ get s q
unfolding effect string_effect
sum_moves key n s t now q other =
    ap (λ m. get m q) now ∙ (row_moves (command.IncrBy key n) s 0).stays q other

difference_moves : (key : List ℕ) (n : ℤ) (s t : Space) → t ≡ (decrby_effect key n s).space
    → (q : List ℕ) → names (Keys (key ∷ [])) q ≡ false → get t q ≡ get s q
unfolding effect string_effect
difference_moves key n s t now q other =
    ap (λ m. get m q) now ∙ (row_moves (command.DecrBy key n) s 0).stays q other

set_moves : (key value : List ℕ) (when : SetWhen) (life : SetLife) (m : ℕ) (s t : Space)
    → t ≡ (set_effect key value when life s m).space
    → (q : List ℕ) → names (Keys (key ∷ [])) q ≡ false → get t q ≡ get s q
unfolding effect string_effect
set_moves key value when life m s t now q other =
    ap (λ x. get x q) now ∙ (row_moves (command.Set key value when life) s m).stays q other

pub set_back : (key value : List ℕ) (when : SetWhen) (life : SetLife) (m : ℕ)
    (had : Option (Option Held)) (s t : Space) (kept : Priors) → IsKept key had s t
    → t ≡ (set_effect key value when life s m).space → kept ≡ changed key had
    → put_back kept t ≡ s
set_back key value when life m had s t kept is now so =
    had_back key had s t kept is (set_moves key value when life m s t now) so

pub sum_back : (key : List ℕ) (n : ℤ) (had : Option (Option Held)) (s t : Space) (kept : Priors)
    → IsKept key had s t → t ≡ (incrby_effect key n s).space → kept ≡ changed key had
    → put_back kept t ≡ s
sum_back key n had s t kept is now so = had_back key had s t kept is (sum_moves key n s t now) so

pub difference_back : (key : List ℕ) (n : ℤ) (had : Option (Option Held)) (s t : Space)
    (kept : Priors) → IsKept key had s t → t ≡ (decrby_effect key n s).space
    → kept ≡ changed key had → put_back kept t ≡ s
difference_back key n had s t kept is now so =
    had_back key had s t kept is (difference_moves key n s t now) so

pub field_sum_back : (key field : List ℕ) (n : ℤ) (change : FieldChange) (s t : Space)
    (kept : Priors) → IsChange key field change s t → t ≡ (hincrby_effect key field n s).space
    → kept ≡ field_changed key field change → put_back kept t ≡ s
unfolding effect hash_effect
field_sum_back key field n change s t kept is now so =
    field_changed_back key field n change s t kept is now
    (λ q e. ap (λ m. get m q) now
    ∙ (row_moves (command.HIncrBy key field n) s 0).stays q (ap (λ b. b || false) e)) so

-- it gives no deadline
none_new : (c : Command) (s : Space) (m : ℕ) → takes_out c ≡ true → new_deadline c s m ≡ None
unfolding takes_out new_deadline
none_new (command.Set key value when life.Cleared) s m takes = refl
none_new (command.Set key value when life.Kept) s m takes = refl
none_new (command.GetDel key) s m takes = refl
none_new (command.HDel key names) s m takes = refl
none_new (command.HIncrBy key field n) s m takes = refl
none_new (command.Incr key) s m takes = refl
none_new (command.Decr key) s m takes = refl
none_new (command.IncrBy key n) s m takes = refl
none_new (command.DecrBy key n) s m takes = refl
none_new c s m takes = absurd cc

moves_by : (w v : Written) (d e : Option Deadline) (s t u : Space) → w ≡ v → d ≡ e → t ≡ u
    → Moves w d s u → Moves v e s t
moves_by w v d e s t u keys new now moves =
    subst (λ x. Moves x e s t) keys (subst (λ x. Moves w x s t) new
    (subst (λ x. Moves w d s x) (sym now) moves))

pub moving_step : {A : Type 0} (c : Command) (s t : Space) (m : ℕ) (r : Result A NoMemory)
    (keys : List (List ℕ)) (index : List Deadline) → InStep index s → written c ≡ Keys keys
    → takes_out c ≡ true → OnOk r (t ≡ (effect c s m).space) → OnErr r (t ≡ s)
    → InStep (settled (deadlines_of keys s) t index) t
moving_step c s t m (Ok x) keys index step is takes ok err =
    in_step index s t keys None step
    (moves_by (written c) (Keys keys) (new_deadline c s m) None s t ((effect c s m).space) is
    (none_new c s m takes) ok (row_moves c s m))
moving_step c s t m (Err e) keys index step is takes ok err =
    in_step index s t keys None step
    (moves_by (Keys keys) (Keys keys) None None s t s refl refl err same)

-- ---- keys that go one after the other

pub one_taken : (old new : Priors) (key : List ℕ) (s t : Space)
    → new ≡ old ++ (key, Whole (get s key)) ∷ [] → t ≡ remove s key
    → put_back new t ≡ put_back old s
one_taken old new key s t is gone =
    (λ i. put_back (is i) (gone i))
    ∙ (put_back_last old key (Whole (get s key)) (remove s key) ∙ ap (put_back old) again_there)
  where
    by : (q : List ℕ) (b : Bool) → bytes_eq q key ≡ b
        → cond b (get s key) (cond b None (get s q)) ≡ get s q
    by q true e = ap (get s) (sym ((bytes_eq-Decides q key).0 e))
    by q false e = refl

    again_there : again key (Whole (get s key)) (remove s key) ≡ s
    again_there =
        alike _ _ (λ q. get_again key (Whole (get s key)) tt (remove s key) q
        ∙ (ap (cond (bytes_eq q key) (get s key)) (at_remove s key q) ∙ by q (bytes_eq q key) refl))
