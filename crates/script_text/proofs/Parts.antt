-- Parts that hold no blank are what a line is parted into, and the parts of a line hold its bytes.
use Rattle.std.proofs.Common.{◌≡◌, ◌<◌, ◌==◌, ◌^◌, ℕ, List, [], ◌∷◌, ◌++◌, Bool, true}
use Rattle.std.proofs.Common.{false, not, cond, refl, sym, ap, ◌∙◌, subst, arith, ◌⊎◌, ◌-◌, ◌||◌}
use Rattle.std.proofs.Common.{length, take, codes, map}
use Rattle.std.specs.Fmt.{decimal}
use Rattle.std.specs.List.{list_all, slice_split, join_with_byte, All, AllPass}
use Rattle.std.specs.Str.Parse.{AllDigits}
use Rattle.std.proofs.lemmas.Bool.{eqb-true}
use Rattle.std.proofs.lemmas.Bool.Decides.{nat_tests}
use Rattle.std.proofs.lemmas.Fmt.{decimal_is_IsNumeral}
use Rattle.std.proofs.lemmas.List.{take-append-drop}
use Rattle.std.proofs.lemmas.List.Splits.{slice_split_none, slice_split_at}
use Rattle.std.proofs.lemmas.List.Sums.{AllPass-from_list_all}
use Rattle.std.proofs.lemmas.Slice.Eq.{bytes_eq-Decides}
use Rattle.std.proofs.lemmas.Str.Parse.{digit_from_value}
use Rattle.command_words.specs.Printed.{printed, printed_byte, printed_bytes}
use Rattle.script_text.specs.Words.{is_name, is_name_with, is_link}
use Rattle.script_text.specs.Grammar.{are_bytes}
use Rattle.script_text.proofs.Numbers.{both_true, both}
use Rattle.script_text.proofs.Spelling.{printing, lettered, plain, numbered, either}

abbrev pub is_unbroken : List ℕ → Bool
is_unbroken part = list_all (λ b. not (b == 32)) part

not_true : (t : Bool) → not t ≡ true → t ≡ false
not_true t h = grind (arith, nat_tests)

no_blank : (part : List ℕ) → is_unbroken part ≡ true → All (λ b. (b == 32) ≡ false) part
no_blank part h = let all : AllPass (λ b. not (b == 32)) part = AllPass-from_list_all _ part h in
    λ k d l. not_true _ (all k d l)

-- what is joined by blanks is parted at them
pub parted-joined : (part : List ℕ) (parts : List (List ℕ))
    → list_all is_unbroken (part ∷ parts) ≡ true
    → slice_split (λ b. b == 32) (join_with_byte 32 (part ∷ parts)) ≡ part ∷ parts
parted-joined part [] h = slice_split_none (λ b. b == 32) part (no_blank part (both_true _ _ h).0)
parted-joined part (next ∷ parts) h =
    slice_split_at (λ b. b == 32) part 32 (join_with_byte 32 (next ∷ parts))
    (no_blank part (both_true _ _ h).0) refl
    ∙ ap (λ rest. part ∷ rest) (parted-joined next parts (both_true _ _ h).1)

cond-bytes : (t : Bool) (xs ys : List (List ℕ)) → list_all are_bytes xs ≡ true
    → list_all are_bytes ys ≡ true → list_all are_bytes (cond t xs ys) ≡ true
cond-bytes t xs ys h k = grind (arith, nat_tests)

pub parted-bytes : (line : List ℕ) → are_bytes line ≡ true
    → list_all are_bytes (slice_split (λ b. b == 32) line) ≡ true
parted-bytes [] h = refl
parted-bytes (b ∷ line) h =
    let parts = slice_split (λ c. c == 32) line in
    let rest = parted-bytes line (both_true _ _ h).1 in
    grind (arith, cond-bytes, both_true, both, nat_tests)

-- ---- no blank is in a name, in a printed word or in a number
list_all_wider : (p q : ℕ → Bool) → ((b : ℕ) → p b ≡ true → q b ≡ true) → (xs : List ℕ)
    → list_all p xs ≡ true → list_all q xs ≡ true
list_all_wider p q f [] h = refl
list_all_wider p q f (x ∷ xs) h =
    both _ _ (f x (both_true _ _ h).0) (list_all_wider p q f xs (both_true _ _ h).1)

not_false : (t : Bool) → t ≡ false → not t ≡ true
not_false t h = grind (arith, nat_tests)

pub name-unbroken : (link : List ℕ) → is_name link ≡ true → is_unbroken link ≡ true
name-unbroken link h =
    grind (arith, list_all_wider, both_true, either, eqb-true, not_false, nat_tests)

list_all_joined : (p : ℕ → Bool) (xs ys : List ℕ) → list_all p xs ≡ true → list_all p ys ≡ true
    → list_all p (xs ++ ys) ≡ true
list_all_joined p [] ys h k = k
list_all_joined p (x ∷ xs) ys h k =
    both _ _ (both_true _ _ h).0 (list_all_joined p xs ys (both_true _ _ h).1 k)

name_with-unbroken : (ending text : List ℕ) → is_unbroken ending ≡ true
    → is_name_with ending text ≡ true → is_unbroken text ≡ true
name_with-unbroken ending text u h =
    let parts = both_true _ _ h in
    let front = take (length text - length ending) text in
    let whole : front ++ ending ≡ text =
    ap (λ e. front ++ e) (sym ((bytes_eq-Decides _ _).0 parts.0))
    ∙ take-append-drop (length text - length ending) text in
    subst (λ t. is_unbroken t ≡ true) whole
    (list_all_joined (λ c. not (c == 32)) front ending (name-unbroken front parts.1) u)

one_of : (a b : Bool) → (a || b) ≡ true → (a ≡ true) ⊎ (b ≡ true)
one_of a b h = grind (arith, nat_tests)

pub link-unbroken : (link : List ℕ) → is_link link ≡ true → is_unbroken link ≡ true
link-unbroken link h = grind (arith, one_of, codes, name-unbroken, name_with-unbroken, nat_tests)

printed_byte-unbroken : (b : ℕ) → is_unbroken (printed_byte b) ≡ true
printed_byte-unbroken b =
    grind (arith, printing, lettered, both, not_false, plain, numbered, either, eqb-true, nat_tests)

printed_bytes-unbroken : (word : List ℕ) → is_unbroken (printed_bytes word) ≡ true
unfolding printed_bytes
printed_bytes-unbroken [] = refl
printed_bytes-unbroken (b ∷ word) =
    grind (arith, list_all_joined, printed_byte-unbroken, printed_bytes-unbroken word)

pub printed-unbroken : (word : List ℕ) → is_unbroken (printed word) ≡ true
printed-unbroken word = grind (arith, printed_bytes-unbroken, nat_tests)

pub all_printed-unbroken : (words : List (List ℕ)) → list_all is_unbroken (map printed words) ≡ true
all_printed-unbroken [] = refl
all_printed-unbroken (word ∷ words) = both _ _ (printed-unbroken word) (all_printed-unbroken words)

digits-unbroken : (ds : List ℕ) → AllDigits 10 ds → is_unbroken ds ≡ true
digits-unbroken [] h = refl
digits-unbroken (d ∷ ds) h =
    grind (arith, digit_from_value, both, either, eqb-true, not_false, digits-unbroken ds h.1)

pub decimal-unbroken : (n : ℕ) → n < 2 ^ 64 → is_unbroken (decimal n) ≡ true
decimal-unbroken n h = digits-unbroken (decimal n) (decimal_is_IsNumeral n h).0.1
