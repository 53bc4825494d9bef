-- What keys hold once runs are taken back.
use Rattle.std.proofs.Common.{arith, ◌≡◌, ◌∙◌, refl, sym, ap, subst, ℕ, List, [], ◌∷◌, ◌++◌, Bool}
use Rattle.std.proofs.Common.{true, false, cond, Option, None, Some, Result, Ok, Err, OnOk, OnErr}
use Rattle.std.proofs.Common.{inl, inr, slice_get, take, length, zero, suc, ◌+◌, ◌-◌}
use Rattle.std.specs.Prelude.{◌||◌}
use Rattle.std.specs.Cmp.Lexicographic.{nat_list_cmp_total}
use Rattle.std.specs.FinMap.{get, insert, empty, same_map}
use Rattle.std.specs.FinMap.{slice_cmp-IsAntisymmetric, nat_cmp-IsAntisymmetric}
use Rattle.std.specs.List.{list_any}
use Rattle.std.specs.Option.{option_map, option_map_or}
use Rattle.std.specs.Str.{bytes_eq}
use Rattle.std.proofs.lemmas.Slice.Eq.{bytes_eq-Decides}
use Rattle.resp_value.specs.declared.octets.NoMemory.{NoMemory}
use Rattle.command_words.specs.declared.written.Written.TheVariants.{Keys}
use Rattle.command_words.specs.Space.{Held, Space, changed_at, deadline_at}
use Rattle.keyspace.specs.Places.{Placed, with_placed}
use Rattle.expiry.specs.declared.index.Deadline.{Deadline}
use Rattle.command_set.specs.InStep.{InStep, deadlines_of, settled, with_new, listed}
use Rattle.command_set.specs.Laws.{Moves, Source}
use Rattle.command_set.specs.NewDeadlines.{deadline}
use Rattle.command_set.specs.Priors.{Kept, Whole, Moved, Life, Size, Field, Taken, Priors}
use Rattle.command_set.specs.Priors.{again, put_back, what_held, life_of, life_again, touched}
use Rattle.command_set.specs.Priors.{if_held}
use Rattle.command_set.specs.Priors.{shortened, with_field, kept_of, prior_of, priors_of}
use Rattle.command_set.specs.declared.prior.Prior.{Prior}
use Rattle.command_set.proofs.Moves.{at_insert, at_remove, left_false, move, same}
use Rattle.command_set.proofs.Steps.{in_step, nothing_is_in_step}

-- ---- one key

pub get_changed : (key : List ℕ) (f : Held → Held) (s : Space) (q : List ℕ)
    → get (changed_at key f s) q ≡ cond (bytes_eq q key) (option_map f (get s key)) (get s q)
get_changed key f s q = by (get s key) refl
  where
    none : get s key ≡ None → (b : Bool) → bytes_eq q key ≡ b → get s q ≡ cond b None (get s q)
    none is true e = ap (get s) ((bytes_eq-Decides q key).0 e) ∙ is
    none is false e = refl

    by : (r : Option Held) → get s key ≡ r
        → get (option_map_or (λ held. insert s key (f held)) r s) q
        ≡ cond (bytes_eq q key) (option_map f r) (get s q)
    by None is = none is (bytes_eq q key) refl
    by (Some h) is = at_insert s key (f h) q

-- what is kept of the key alone
abbrev pub IsOwn : Kept → Type 0
IsOwn (Whole held) = Unit
IsOwn (Moved other) = ⊥
IsOwn (Life at) = Unit
IsOwn (Size len) = Unit
IsOwn (Field field value) = Unit
IsOwn (Taken fields) = Unit

-- what the key holds once this is so again
abbrev pub held_again : Kept → Option Held → Option Held
held_again (Whole held) now = held
held_again (Moved other) now = now
held_again (Life at) now = option_map {T = Held} (λ h. record h { deadline = at }) now
held_again (Size len) now =
    option_map {T = Held} (λ h. record h { content = shortened len h.content }) now
held_again (Field field value) now =
    option_map {T = Held} (λ h. record h { content = with_field field value h.content }) now
held_again (Taken fields) now =
    option_map {T = Held} (λ h. record h { content = with_placed fields h.content }) now

pub get_again : (key : List ℕ) (k : Kept) → IsOwn k → (s : Space) (q : List ℕ)
    → get (again key k s) q ≡ cond (bytes_eq q key) (held_again k (get s key)) (get s q)
get_again key (Whole None) own s q = at_remove s key q
get_again key (Whole (Some held)) own s q = at_insert s key held q
get_again key (Moved other) own s q = absurd own
get_again key (Life at) own s q = get_changed key (λ h. record h { deadline = at }) s q
get_again key (Size len) own s q =
    get_changed key (λ h. record h { content = shortened len h.content }) s q
get_again key (Field field value) own s q =
    get_changed key (λ h. record h { content = with_field field value h.content }) s q
get_again key (Taken fields) own s q =
    get_changed key (λ h. record h { content = with_placed fields h.content }) s q

given_life : (at : Option ℕ) (r : Option Held)
    → life_of (held_again (Life at) r) ≡ if_held at r
given_life at None = refl
given_life at (Some h) = refl

cut_life : (len : ℕ) (r : Option Held) → life_of (held_again (Size len) r) ≡ life_of r
cut_life len None = refl
cut_life len (Some h) = refl

field_life : (field : List ℕ) (value : Option (List ℕ)) (r : Option Held)
    → life_of (held_again (Field field value) r) ≡ life_of r
field_life field value None = refl
field_life field value (Some h) = refl

taken_life : (fields : List Placed) (r : Option Held)
    → life_of (held_again (Taken fields) r) ≡ life_of r
taken_life fields None = refl
taken_life fields (Some h) = refl

life_held : (key : List ℕ) (k : Kept) (s : Space) → IsOwn k
    → life_of (held_again k (get s key)) ≡ life_again key k s
life_held key (Whole held) s own = refl
life_held key (Moved other) s own = absurd own
life_held key (Life at) s own = given_life at (get s key)
life_held key (Size len) s own = cut_life len (get s key)
life_held key (Field field value) s own = field_life field value (get s key)
life_held key (Taken fields) s own = taken_life fields (get s key)

-- a key that is as it was, by what was kept of it alone
module _ (key : List ℕ) (k : Kept) (own : IsOwn k) (s : Space) where
  abbrev life_own : Option Deadline
  life_own = deadline key (life_again key k s)

  own_moves : Moves (Keys (key ∷ [])) life_own s (again key k s)
  own_moves = record {
    stays = λ q other.
        get_again key k own s q
        ∙ ap (λ b. cond b (held_again k (get s key)) (get s q))
        (left_false (bytes_eq q key) false other);
    from = λ q at e. by q at e (bytes_eq q key) refl;
  }
    where
      by : (q : List ℕ) (at : ℕ) → deadline_at q (again key k s) ≡ Some at → (b : Bool)
          → bytes_eq q key ≡ b → Source life_own s q at
      by q at e true is =
          subst (λ z. Source life_own s z at) (sym ((bytes_eq-Decides q key).0 is))
          (inr (ap (deadline key) (sym (life_held key k s own)
          ∙ (sym (ap life_of (get_again key k own s q
          ∙ ap (λ b. cond b (held_again k (get s key)) (get s q)) is)) ∙ e))))
      by q at e false is =
          inl (sym (ap life_of (get_again key k own s q
          ∙ ap (λ b. cond b (held_again k (get s key)) (get s q)) is)) ∙ e)

again_moves : (key : List ℕ) (k : Kept) (s : Space)
    → Moves (Keys (touched key k)) (deadline key (life_again key k s)) s (again key k s)
again_moves key (Whole held) s = own_moves key (Whole held) tt s
again_moves key (Moved other) s = move other key s
again_moves key (Life at) s = own_moves key (Life at) tt s
again_moves key (Size len) s = own_moves key (Size len) tt s
again_moves key (Field field value) s = own_moves key (Field field value) tt s
again_moves key (Taken fields) s = own_moves key (Taken fields) tt s

-- what was kept of a key is so again, and the index in step with it
module _ (key : List ℕ) (k : Kept) (s : Space) where
  abbrev pub life_new : Option Deadline
  life_new = deadline key (life_again key k s)

  pub again_in_step : {A : Type 0} (t : Space) (result : Result A NoMemory)
      (index : List Deadline) → InStep index s
      → OnOk result (t ≡ again key k s) → OnErr result (t ≡ s)
      → InStep (settled (listed life_new) t (settled (deadlines_of (touched key k) s) t
      (with_new life_new index))) t
  again_in_step t (Ok x) index step ok err =
      in_step index s t (touched key k) life_new step
      (subst (Moves (Keys (touched key k)) life_new s) (sym ok) (again_moves key k s))
  again_in_step t (Err e) index step ok err =
      in_step index s t (touched key k) life_new step
      (subst (Moves (Keys (touched key k)) life_new s) (sym err) same)

-- ---- all that was kept

-- what was kept last is so again first
pub put_back_last : (ps : Priors) (key : List ℕ) (k : Kept) (s : Space)
    → put_back (ps ++ (key, k) ∷ []) s ≡ put_back ps (again key k s)
put_back_last [] key k s = refl
put_back_last (p ∷ ps) key k s = ap (again p.0 p.1) (put_back_last ps key k s)

split_at : {X : Type 0} (xs : List X) (i : ℕ) (x : X) → slice_get xs i ≡ Some x
    → i + 1 ≡ length xs → xs ≡ take i xs ++ x ∷ []
split_at [] i x at e = absurd cc
split_at (y ∷ []) zero x at e = ap (λ z. z ∷ []) (let one : y ≡ x = cc in one)
split_at (y ∷ z ∷ ys) zero x at e = absurd (let no : ⊥ = omega (arith, e) in no)
split_at (y ∷ ys) (suc i) x at e =
    ap (λ r. y ∷ r) (split_at ys i x at (omega (arith, e)))

split_last : {X : Type 0} (xs : List X) (x : X) → slice_get xs (length xs - 1) ≡ Some x
    → xs ≡ take (length xs - 1) xs ++ x ∷ []
split_last [] x at = absurd cc
split_last (y ∷ ys) x at = split_at (y ∷ ys) (length (y ∷ ys) - 1) x at (omega arith)

pub with_last : (ps : List Prior) (p : Prior)
    → priors_of (ps ++ p ∷ []) ≡ priors_of ps ++ prior_of p ∷ []
with_last [] p = refl
with_last (q ∷ ps) p = ap (λ r. prior_of q ∷ r) (with_last ps p)

-- what was kept last is so again, and goes from the list
pub popped : (old new : List Prior) (p : Prior) (s t : Space)
    → slice_get old (length old - 1) ≡ Some p → new ≡ take (length old - 1) old
    → t ≡ again p.key (kept_of p.kept) s
    → put_back (priors_of new) t ≡ put_back (priors_of old) s
popped old new p s t at is so =
    let front = take (length old - 1) old in
    ap (λ ps. put_back (priors_of ps) t) is
    ∙ (ap (put_back (priors_of front)) so
    ∙ (sym (put_back_last (priors_of front) p.key (kept_of p.kept) s)
    ∙ (ap (λ ps. put_back ps s) (sym (with_last front p))
    ∙ ap (λ ps. put_back (priors_of ps) s) (sym (split_last old p at)))))

pub alike : (s t : Space) → ((q : List ℕ) → get s q ≡ get t q) → s ≡ t
alike s t all =
    same_map nat_list_cmp_total (slice_cmp-IsAntisymmetric nat_cmp-IsAntisymmetric) s t all

-- keys that hold what they held elsewhere, over any keyspace
get_back : (ks : List (List ℕ)) (s t : Space) (q : List ℕ)
    → get (put_back (what_held ks s) t) q
    ≡ cond (list_any (bytes_eq q) ks) (get s q) (get t q)
get_back [] s t q = refl
get_back (k ∷ ks) s t q =
    get_again k (Whole (get s k)) tt (put_back (what_held ks s) t) q
    ∙ (ap (cond (bytes_eq q k) (get s k)) (get_back ks s t q)
    ∙ by (bytes_eq q k) refl (list_any (bytes_eq q) ks))
  where
    by : (b : Bool) → bytes_eq q k ≡ b → (c : Bool)
        → cond b (get s k) (cond c (get s q) (get t q)) ≡ cond (b || c) (get s q) (get t q)
    by true is c = ap (get s) (sym ((bytes_eq-Decides q k).0 is))
    by false is c = refl

-- where only these keys differ, what they held leads back
pub wholes_back : (ks : List (List ℕ)) (s t : Space)
    → ((q : List ℕ) → list_any (bytes_eq q) ks ≡ false → get t q ≡ get s q)
    → put_back (what_held ks s) t ≡ s
wholes_back ks s t others =
    alike _ _ (λ q. get_back ks s t q ∙ by q (list_any (bytes_eq q) ks) refl)
  where
    by : (q : List ℕ) (b : Bool) → list_any (bytes_eq q) ks ≡ b
        → cond b (get s q) (get t q) ≡ get s q
    by q true is = refl
    by q false is = others q is

pub on_err : {A P Q : Type 0} (r : Result A NoMemory) → (P → Q) → OnErr r P → OnErr r Q
on_err (Ok a) f p = p
on_err (Err e) f p = f p

pub new_in_step : (index : List Deadline) (s : Space) → index ≡ [] → s ≡ empty → InStep index s
new_in_step index s none new =
    subst (λ i. InStep i s) (sym none) (subst (InStep []) (sym new) nothing_is_in_step)
