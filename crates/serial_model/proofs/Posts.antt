-- The posts of an entry are read off what was sent.
use Rattle.std.proofs.Common.{◌≡◌, ◌<◌, ℕ, List, [], ◌∷◌, ◌++◌}
use Rattle.std.proofs.Common.{length, get_or, refl, ap, arith}
use Rattle.std.specs.Prelude.{◌==◌, filter}
use Prim.Native.Nat.{zero, suc}
use Rattle.std.proofs.lemmas.Bool.{eqb-true}
use Rattle.serial_model.specs.declared.history.Limits.{Limits}
use Rattle.serial_model.specs.declared.history.Entry.{Entry}
use Rattle.serial_model.specs.declared.history.Post.{Post}
use Rattle.serial_model.specs.Actions.{Sending}
use Rattle.serial_model.specs.History.{sent_to, sent, posts_of, posted, posted_of}
use Rattle.serial_model.specs.Laws.{as_posts}

abbrev post_of : ℕ → ℕ → Sending → Post
post_of entry id s = record { entry = entry; id = id; what = posted_of s }

as_posts-append : (c : ℕ) (xs ys : List (ℕ × Sending))
    → as_posts c (xs ++ ys) ≡ as_posts c xs ++ as_posts c ys
as_posts-append c [] ys = refl
as_posts-append c (x ∷ xs) ys = ap (λ ps. post_of x.0 c x.1 ∷ ps) (as_posts-append c xs ys)

-- the posts for one connection are those of the sendings that are for it
posts_for : (n c : ℕ) (ss : List (ℕ × Sending))
    → as_posts c (sent_to n c ss) ≡ filter (λ p. p.id == c) (posts_of n ss)
posts_for n c [] = refl
posts_for n c (s ∷ ss) = grind (arith, eqb-true, posts_for n c ss)

pub posted_is_sent : (l : Limits) (c : ℕ) (entry : Entry) (past : List Entry)
    → as_posts c (sent l c (entry ∷ past)) ≡ as_posts c (sent l c past)
    ++ filter (λ p. p.id == c) (posted l (entry ∷ past))
unfolding posted
posted_is_sent l c entry past = grind (arith, as_posts-append, posts_for)

all_numbered : (n : ℕ) (ss : List (ℕ × Sending)) (k : ℕ) (d : Post) → k < length (posts_of n ss)
    → (get_or (posts_of n ss) k d).entry ≡ n
all_numbered n [] k d h = absurd (omega arith)
all_numbered n (s ∷ ss) zero d h = refl
all_numbered n (s ∷ ss) (suc k) d h = all_numbered n ss k d (omega arith)

numbered : (n : ℕ) (ss : List (ℕ × Sending)) (ps : List Post) → ps ≡ posts_of n ss
    → (k : ℕ) (d : Post) → k < length ps
    → (get_or ps k d).entry ≡ n
numbered n ss ps e k d h = rw e (all_numbered n ss k d (rw e at h))

pub posts_are_numbered : (l : Limits) (past : List Entry) (k : ℕ) (d : Post)
    → k < length (posted l past)
    → (get_or (posted l past) k d).entry ≡ length past
unfolding posted
posts_are_numbered l past = grind (arith, numbered)
