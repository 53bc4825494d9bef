-- Spellings of lists, one more element at a time.
use Rattle.std.proofs.Common.{◌≡◌, ◌<◌, ℕ, zero, suc, ◌+◌, List, [], ◌∷◌, ◌++◌, refl, sym, ap, ◌∙◌}
use Rattle.std.proofs.Common.{append_assoc, add-one, length, map, take, get_or, arith}
use Rattle.std.proofs.Math.Seq.{take-suc}
use Rattle.resp_value.specs.ValueTree.{tree_of}
use Rattle.resp_value.specs.declared.value.Value.{Value}
use Rattle.resp_value.specs.declared.value.Proto.{Proto}
use Rattle.resp_value.specs.Tree.{Tree, trees_of, rows_of, count, row_count}
use Rattle.resp_value.proofs.Prefixes.{append_nil}
use Rattle.resp_value.specs.Spelling.{spelling, spellings, row_spellings, counted, blob_spellings}

pub count_of : (ts : List Tree) → count (trees_of ts) ≡ length ts
count_of [] = refl
count_of (t ∷ ts) = omega (arith, count_of ts)

pub row_count_of : (ps : List (Tree × Tree)) → row_count (rows_of ps) ≡ length ps
row_count_of [] = refl
row_count_of (p ∷ ps) = omega (arith, row_count_of ps)

pub one_more : (p : Proto) (ts : List Tree) (t : Tree)
    → spellings p (trees_of (ts ++ t ∷ [])) ≡ spellings p (trees_of ts) ++ spelling p t
one_more p [] t = append_nil (spelling p t)
one_more p (u ∷ ts) t = ap (λ (q : List ℕ). spelling p u ++ q) (one_more p ts t)
    ∙ sym (append_assoc (spelling p u) (spellings p (trees_of ts)) (spelling p t))

pub one_more_row : (p : Proto) (ps : List (Tree × Tree)) (k v : Tree)
    → row_spellings p (rows_of (ps ++ (k, v) ∷ []))
    ≡ row_spellings p (rows_of ps) ++ (spelling p k ++ spelling p v)
one_more_row p [] k v = grind (arith, append_assoc, append_nil)
one_more_row p (r ∷ ps) k v = simp (one_more_row p ps k v, append_assoc)

pub one_more_blob : (ws : List (List ℕ)) (w : List ℕ)
    → blob_spellings (ws ++ w ∷ []) ≡ blob_spellings ws ++ counted 36 w
one_more_blob [] w = append_nil (counted 36 w)
one_more_blob (v ∷ ws) w = ap (λ (q : List ℕ). counted 36 v ++ q) (one_more_blob ws w)
    ∙ sym (append_assoc (counted 36 v) (blob_spellings ws) (counted 36 w))

-- ---- a loop's step

snoc_at : {A : Type 0} (l : List A) (i : ℕ) (d : A) → i < length l → d ≡ get_or l i d
    → take (i + 1) l ≡ take i l ++ d ∷ []
snoc_at l i d h e = rw add-one (take-suc l i d h ∙ ap (λ z. take i l ++ z ∷ []) (sym e))

grown : (o m n x y z : List ℕ) → m ≡ o ++ x → n ≡ m ++ y → z ≡ x ++ y → n ≡ o ++ z
grown o m n x y z e f g = grind (arith, append_assoc)

pub blob_step : (ws : List (List ℕ)) (i : ℕ) (w w' out middle new : List ℕ) → i < length ws
    → w ≡ get_or ws i w → w' ≡ w → middle ≡ out ++ blob_spellings (take i ws)
    → new ≡ middle ++ counted 36 w' →
    new ≡ out ++ blob_spellings (take (i + 1) ws)
blob_step ws i w w' out middle new h e d m n =
    grown out middle new (blob_spellings (take i ws)) (counted 36 w) _ m
    (n ∙ ap (λ z. middle ++ counted 36 z) d)
    (ap blob_spellings (snoc_at ws i w h e) ∙ one_more_blob (take i ws) w)

take_map : {A B : Type 0} (f : A → B) (i : ℕ) (xs : List A) → take i (map f xs) ≡ map f (take i xs)
take_map f zero xs = refl
take_map f (suc i) [] = refl
take_map f (suc i) (x ∷ xs) = ap (λ r. f x ∷ r) (take_map f i xs)

pub map_snoc : {A B : Type 0} (f : A → B) (xs : List A) (x : A)
    → map f (xs ++ x ∷ []) ≡ map f xs ++ f x ∷ []
map_snoc f [] x = refl
map_snoc f (y ∷ xs) x = ap (λ r. f y ∷ r) (map_snoc f xs x)

-- the same over the images of a list
image_at : {A B : Type 0} (f : A → B) (l : List A) (m : List B) (i : ℕ) (d : A) → map f l ≡ m
    → i < length l → d ≡ get_or l i d → take (i + 1) m ≡ take i m ++ f d ∷ []
image_at f l m i d v h e =
    ap (take (i + 1)) (sym v) ∙ take_map f (i + 1) l ∙ ap (map f) (snoc_at l i d h e)
    ∙ map_snoc f (take i l) d
    ∙ ap (λ r. r ++ f d ∷ []) (sym (take_map f i l) ∙ ap (take i) v)

pub value_step : (p : Proto) (vs : List Value) (ts : List Tree) (i : ℕ) (v : Value)
    (out middle new : List ℕ) → map tree_of vs ≡ ts → i < length vs → v ≡ get_or vs i v
    → middle ≡ out ++ spellings p (trees_of (take i ts)) → new ≡ middle ++ spelling p (tree_of v) →
    new ≡ out ++ spellings p (trees_of (take (i + 1) ts))
value_step p vs ts i v out middle new w h e m n =
    grown out middle new (spellings p (trees_of (take i ts))) (spelling p (tree_of v)) _ m n
    (ap (λ q. spellings p (trees_of q)) (image_at tree_of vs ts i v w h e)
    ∙ one_more p (take i ts) (tree_of v))

abbrev trees : Value × Value → Tree × Tree
trees p = (tree_of p.0, tree_of p.1)

pub pair_step : (p : Proto) (vs : List (Value × Value)) (ts : List (Tree × Tree)) (i : ℕ)
    (v : Value × Value) (out middle between new : List ℕ)
    → map {A = Value × Value} {B = Tree × Tree} (λ p. (tree_of p.0, tree_of p.1)) vs ≡ ts
    → i < length vs → v ≡ get_or vs i v →
    middle ≡ out ++ row_spellings p (rows_of (take i ts))
    → between ≡ middle ++ spelling p (tree_of v.0) → new ≡ between ++ spelling p (tree_of v.1)
    → new ≡ out ++ row_spellings p (rows_of (take (i + 1) ts))
pair_step p vs ts i v out middle between new w h e m b n =
    grown out middle new (row_spellings p (rows_of (take i ts)))
    (spelling p (tree_of v.0) ++ spelling p (tree_of v.1)) _ m
    (grind (arith, append_assoc))
    (ap (λ q. row_spellings p (rows_of q)) (image_at trees vs ts i v w h e)
    ∙ one_more_row p (take i ts) (tree_of v.0) (tree_of v.1))
