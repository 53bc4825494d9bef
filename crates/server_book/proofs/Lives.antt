-- How many connections have not ended, and how many can still be closed.
use Rattle.std.proofs.Common.{◌≡◌, ◌+◌, ◌<◌, ◌≤◌, ℕ, List, [], ◌∷◌, ◌++◌, length, ap, refl}
use Rattle.std.proofs.Common.{◌-◌, ◌∙◌, arith, Bool, true, false, cond, length-set, slice_index_or}
use Rattle.std.proofs.Common.{slice_set, sym}
use Prim.Native.Nat.{zero, suc}
use Rattle.std.specs.List.{count_by}
use Rattle.std.proofs.lemmas.List.Sums.{count_by-le-length, get_or-le-sum_by, sum_by-cons}
use Rattle.std.proofs.lemmas.List.Sums.{sum_by_push}
use Rattle.server_book.specs.Places.{Connection, ended_one, fresh, gone, lost_one}
use Rattle.serial_model.specs.declared.history.Post.{Post}
use Rattle.server_book.specs.Connections.{HoldsPosts, has_life, is_open}
use Rattle.server_book.proofs.Sendings.{ids_set, posted_more, posted_set}

abbrev counts : (Connection → Bool) → Connection → ℕ
counts test c = cond (test c) 1 0

-- where one is put in the place of another, they are one more or fewer, or as many
put_counts : (test : Connection → Bool) (cs : List Connection) (at : ℕ) (c : Connection)
    → at < length cs
    → count_by test (slice_set cs at c) + counts test (slice_index_or cs at fresh)
    ≡ count_by test cs + counts test c
put_counts test [] at c lt = absurd (let no : ⊥ = omega arith in no)
put_counts test (d ∷ cs) zero c lt =
    omega (arith, sum_by-cons (counts test) c cs, sum_by-cons (counts test) d cs)
put_counts test (d ∷ cs) (suc at) c lt =
    omega (
      arith,
      put_counts test cs at c (omega arith),
      sum_by-cons (counts test) d (slice_set cs at c),
      sum_by-cons (counts test) d cs,
    )

pub put_same : (test : Connection → Bool) (cs : List Connection) (at : ℕ) (c : Connection)
    → at < length cs → test c ≡ test (slice_index_or cs at fresh)
    → count_by test (slice_set cs at c) ≡ count_by test cs
put_same test cs at c lt same =
    let one : counts test c ≡ counts test (slice_index_or cs at fresh) =
    ap {B = ℕ} (λ b. cond b 1 0) same in
    omega (arith, put_counts test cs at c lt)

pub put_one_less : (test : Connection → Bool) (cs : List Connection) (at : ℕ) (c : Connection)
    → at < length cs → test (slice_index_or cs at fresh) ≡ true → test c ≡ false
    → count_by test (slice_set cs at c) + 1 ≡ count_by test cs
put_one_less test cs at c lt was is =
    let one : counts test (slice_index_or cs at fresh) ≡ 1 = ap {B = ℕ} (λ b. cond b 1 0) was in
    let none : counts test c ≡ 0 = ap {B = ℕ} (λ b. cond b 1 0) is in
    omega (arith, put_counts test cs at c lt)

-- those that have not ended
pub live_put : (cs : List Connection) (at : ℕ) (c : Connection) → at < length cs
    → has_life c ≡ has_life (slice_index_or cs at fresh)
    → count_by has_life (slice_set cs at c) ≡ count_by has_life cs
live_put cs at c lt same = put_same has_life cs at c lt same

pub live_less : (cs : List Connection) (at : ℕ) (c : Connection) → at < length cs
    → has_life (slice_index_or cs at fresh) ≡ true → has_life c ≡ false
    → count_by has_life (slice_set cs at c) + 1 ≡ count_by has_life cs
live_less cs at c lt was is = put_one_less has_life cs at c lt was is

pub live_more : (cs : List Connection)
    → count_by has_life (cs ++ fresh ∷ []) ≡ count_by has_life cs + 1
live_more cs = sum_by_push (counts has_life) cs fresh

pub live_within : (cs : List Connection) → count_by has_life cs ≤ length cs
live_within cs = count_by-le-length has_life cs

-- one whose redirection is broken has not ended any more than before
pub lost_lives : (c : Connection) → has_life (lost_one c) ≡ has_life c
lost_lives c = elim (is_open c) as (λ b. has_life (cond b (record c { is_broken = true }) c)
    ≡ has_life c) [ true ↦ refl | false ↦ refl ]

-- one is put in the place of another that had ended where it has
pub held_put : (cs : List Connection) (at : ℕ) (c : Connection) (ps : List Post) (lost : List ℕ)
    (live room drop_room : ℕ) → at < length cs
    → has_life c ≡ has_life (slice_index_or cs at fresh)
    → HoldsPosts cs ps lost live room drop_room
    → HoldsPosts (slice_set cs at c) ps lost live room drop_room
held_put cs at c ps lost live room drop_room lt same h = record {
  there = posted_set cs at c ps h.there;
  lost_there = ids_set cs at c lost h.lost_there;
  live_are = h.live_are ∙ sym (live_put cs at c lt same);
  for_each = h.for_each;
  for_drops = h.for_drops;
}

-- one ends by a post
pub held_less : (cs : List Connection) (at : ℕ) (c : Connection) (ps : List Post) (p : Post)
    (lost : List ℕ) (live room drop_room left drop_left : ℕ) → at < length cs
    → has_life (slice_index_or cs at fresh) ≡ true → has_life c ≡ false
    → p.id ≡ at + 1 → live - 1 ≤ left → live - 1 ≤ drop_left
    → HoldsPosts cs ps lost live room drop_room
    → HoldsPosts (slice_set cs at c) (ps ++ p ∷ []) lost (live - 1) left drop_left
held_less cs at c ps p lost live room drop_room left drop_left lt was is same for drops h = record {
  there =
      posted_more (slice_set cs at c) ps p (posted_set cs at c ps h.there)
      (omega (arith, same), omega (arith, same, lt, length-set cs at c));
  lost_there = ids_set cs at c lost h.lost_there;
  live_are = omega (arith, h.live_are, live_less cs at c lt was is);
  for_each = for;
  for_drops = drops;
}

-- one that is closed has ended, and so has one that is ended
pub gone_life : (c : Connection) → has_life (gone c) ≡ false
gone_life c = grind arith

pub ended_life : (quits : Bool) (c : Connection) → has_life (ended_one quits c) ≡ false
ended_life true c = refl
ended_life false c = gone_life c

-- one is sent a post
pub held_more : (cs : List Connection) (at : ℕ) (c : Connection) (ps : List Post) (p : Post)
    (lost : List ℕ) (live room drop_room left : ℕ) → at < length cs
    → has_life c ≡ has_life (slice_index_or cs at fresh) → p.id ≡ at + 1 → live ≤ left
    → HoldsPosts cs ps lost live room drop_room
    → HoldsPosts (slice_set cs at c) (ps ++ p ∷ []) lost live left drop_room
held_more cs at c ps p lost live room drop_room left lt same id_is for h = record {
  there =
      posted_more (slice_set cs at c) ps p (posted_set cs at c ps h.there)
      (omega (arith, id_is), omega (arith, id_is, lt, length-set cs at c));
  lost_there = ids_set cs at c lost h.lost_there;
  live_are = h.live_are ∙ sym (live_put cs at c lt same);
  for_each = for;
  for_drops = h.for_drops;
}

pub some_live : (cs : List Connection) (at : ℕ) → at < length cs
    → has_life (slice_index_or cs at fresh) ≡ true → 1 ≤ count_by has_life cs
some_live cs at lt is =
    let one : counts has_life (slice_index_or cs at fresh) ≡ 1 = ap {B = ℕ} (λ b. cond b 1 0) is in
    omega (arith, get_or-le-sum_by (counts has_life) cs at fresh lt)
