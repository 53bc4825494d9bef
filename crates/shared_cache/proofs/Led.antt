-- A caller's command, behind CLIENT CACHING or not.
use Rattle.std.proofs.Common.{◌≡◌, ◌+◌, ◌<◌, ◌≤◌, ◌++◌, ℕ, zero, suc, List, [], ◌∷◌, length}
use Rattle.std.proofs.Common.{Option, Some, None, sym, ap, ◌∙◌, refl, arith, get_or}
use Rattle.std.proofs.Common.{append_assoc, append-nil, length-append, below_more, subst, take}
use Rattle.std.proofs.Math.Seq.{take-append_seam}
use Rattle.std.proofs.lemmas.List.{get_or_push, get_or_append_left}
use Rattle.std.proofs.lemmas.Bool.{lt-ltb}
use Rattle.std.specs.List.{slice_get}
use Rattle.shared_cache.specs.declared.lead.CachingWord.{CachingWord}
use Rattle.shared_cache.specs.declared.entry.PendingReply.{PendingReply}
use Rattle.shared_cache.specs.declared.entry.PendingReply.TheVariants.{Waiting, Gone}
use Rattle.shared_cache.specs.Held.{Words, SentCommand, Caller, caching_command, led_by}
use Rattle.shared_cache.specs.Laws.{Every}
use Rattle.shared_cache.specs.ClientFields.{waits_for, owed_in, marks_by, fetch_mark}
use Rattle.shared_cache.proofs.PendingLists.{owed_push}

abbrev pub own : Words → SentCommand
own ws = record { words = ws; origin = Caller }

pub led_some : (l : Option CachingWord) (ws : Words) → 0 < length (led_by l ws)
led_some None ws = omega arith
led_some (Some w) ws = omega arith

pub every_led : (P : SentCommand → Type 0) (l : Option CachingWord) (ws : Words)
    → ((w : CachingWord) → P (caching_command w)) → P (own ws) → Every P (led_by l ws)
every_led P None ws lib p = (p, tt)
every_led P (Some w) ws lib p = (lib w, (p, tt))

pub get_left : (xs ys : List SentCommand) (i : ℕ) → i < length xs
    → slice_get (xs ++ ys) i ≡ slice_get xs i
get_left [] ys i lt = absurd (omega arith)
get_left (x ∷ xs) ys zero lt = refl
get_left (x ∷ xs) ys (suc i) lt = get_left xs ys i (omega arith)

pub get_behind : (xs zs : List SentCommand) (c : SentCommand)
    → slice_get (xs ++ c ∷ zs) (length xs) ≡ Some c
get_behind [] zs c = refl
get_behind (x ∷ xs) zs c = get_behind xs zs c

pub at_length : (xs ys zs : List SentCommand) (c : SentCommand)
    → slice_get (xs ++ (ys ++ c ∷ zs)) (length xs + length ys) ≡ Some c
at_length xs ys zs c =
    ap (λ l. slice_get l (length xs + length ys)) (sym (append_assoc xs ys (c ∷ zs)))
    ∙ ap (slice_get ((xs ++ ys) ++ c ∷ zs)) (sym (length-append xs ys))
    ∙ get_behind (xs ++ ys) zs c

-- what was put behind is taken back
pub back_again : {A : Type 0} (n : ℕ) (xs ys all new : List A) → n ≡ length xs → all ≡ xs ++ ys
    → new ≡ take n all → new ≡ xs
back_again n xs ys all new count more back =
    back ∙ (λ i. take (count i) (more i)) ∙ take-append_seam xs ys

-- ---- what waits for them

pub count_waits : (l : Option CachingWord) (ws : Words)
    → length (waits_for l) ≡ length (led_by l ws)
count_waits None ws = refl
count_waits (Some w) ws = refl

owed_gone_push : (ds : List PendingReply) → owed_in (ds ++ Gone ∷ []) ≡ owed_in ds
owed_gone_push [] = refl
owed_gone_push (d ∷ ds) = grind (arith, owed_gone_push ds)

pub owed_led : (ds : List PendingReply) (l : Option CachingWord)
    → owed_in (ds ++ waits_for l) ≡ owed_in ds + 1
owed_led ds None = owed_push ds
owed_led ds (Some w) =
    ap owed_in (sym (append_assoc ds (Gone ∷ []) (Waiting ∷ [])))
    ∙ owed_push (ds ++ Gone ∷ [])
    ∙ ap (λ n. n + 1) (owed_gone_push ds)

-- each place has the reply that the function says
abbrev pub Says : (ℕ → PendingReply) → List PendingReply → Type 0
Says f ps = (i : ℕ) → i < length ps → get_or ps i Gone ≡ f i

says_push : (f : ℕ → PendingReply) (ps : List PendingReply) (p : PendingReply) → Says f ps
    → p ≡ f (length ps) → Says f (ps ++ p ∷ [])
says_push f ps p each last i lt =
    grind (arith, below_more, get_or_append_left, get_or_push, length-append)

-- the caller's command stands behind these
pub record IsLed (l : Option CachingWord) (ws : Words) : Type 0 where
  pub front : List SentCommand
  pub parts : led_by l ws ≡ front ++ own ws ∷ []

pub led_parts : (l : Option CachingWord) (ws : Words) → IsLed l ws
led_parts None ws = record { front = []; parts = refl }
led_parts (Some w) ws = record { front = caching_command w ∷ []; parts = refl }

pub says_led : (f : ℕ → PendingReply) (ps : List PendingReply) (l : Option CachingWord)
    (ws : Words) → Says f ps
    → ((at : IsLed l ws) → f (length ps + length at.front) ≡ Waiting)
    → ((w : CachingWord) (cs : List SentCommand) → led_by l ws ≡ caching_command w ∷ cs
    → f (length ps) ≡ Gone)
    → Says f (ps ++ waits_for l)
says_led f ps None ws each last lead =
    says_push f ps Waiting each
    (sym (last (record { front = []; parts = refl }))
    ∙ ap f (omega arith))
says_led f ps (Some w) ws each last lead =
    subst (Says f) (append_assoc ps (Gone ∷ []) (Waiting ∷ []))
    (says_push f (ps ++ Gone ∷ []) Waiting
    (says_push f ps Gone each (sym (lead w (own ws ∷ []) refl)))
    (sym (last (record { front = caching_command w ∷ []; parts = refl }))
    ∙ ap f (omega (arith, length-append ps (Gone ∷ [])))))

-- ---- marks of their numbers

plus_none : (open_of : ℕ → Option Words) (replied n : ℕ) → open_of (suc n) ≡ None
    → marks_by open_of replied (suc n) ≡ marks_by open_of replied n
plus_none open_of replied n none = grind (arith, append-nil)

plus_one : (open_of : ℕ → Option Words) (replied n : ℕ) → replied ≤ n
    → marks_by open_of replied (suc n)
    ≡ marks_by open_of replied n ++ fetch_mark (suc n) (open_of (suc n))
plus_one open_of replied n le = grind (arith, lt-ltb)

-- they have no fetch
pub marks_led : (open_of : ℕ → Option Words) (replied n m : ℕ) (l : Option CachingWord)
    (ws : Words) → m ≡ n + length (led_by l ws) → ((j : ℕ) → n < j → open_of j ≡ None)
    → marks_by open_of replied m ≡ marks_by open_of replied n
marks_led open_of replied n m None ws e none =
    ap (marks_by open_of replied) (let g : m ≡ suc n = omega arith in g)
    ∙ plus_none open_of replied n (none (suc n) (omega arith))
marks_led open_of replied n m (Some w) ws e none =
    ap (marks_by open_of replied) (let g : m ≡ suc (suc n) = omega arith in g)
    ∙ plus_none open_of replied (suc n) (none (suc (suc n)) (omega arith))
    ∙ plus_none open_of replied n (none (suc n) (omega arith))

-- the last of them has one
pub marks_read : (open_of : ℕ → Option Words) (replied n m : ℕ) (l : Option CachingWord)
    (ws : Words) → m ≡ n + length (led_by l ws) → replied ≤ n
    → ((j : ℕ) → n < j → j < m → open_of j ≡ None)
    → marks_by open_of replied m ≡ marks_by open_of replied n ++ fetch_mark m (open_of m)
marks_read open_of replied n m None ws e le none =
    let g : m ≡ suc n = omega arith in
    ap (marks_by open_of replied) g
    ∙ plus_one open_of replied n le
    ∙ ap (λ j. marks_by open_of replied n ++ fetch_mark j (open_of j)) (sym g)
marks_read open_of replied n m (Some w) ws e le none =
    let g : m ≡ suc (suc n) = omega arith in
    ap (marks_by open_of replied) g
    ∙ plus_one open_of replied (suc n) (omega arith)
    ∙ ap (λ ms. ms ++ fetch_mark (suc (suc n)) (open_of (suc (suc n))))
    (plus_none open_of replied n (none (suc n) (omega arith) (omega arith)))
    ∙ ap (λ j. marks_by open_of replied n ++ fetch_mark j (open_of j)) (sym g)
