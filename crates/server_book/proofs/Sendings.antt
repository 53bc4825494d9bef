-- What sendings do to each connection, and that taking them back undoes them.
use Rattle.std.proofs.Common.{◌≡◌, ◌-◌, ◌<◌, ◌≤◌, ℕ, List, [], ◌∷◌, ◌++◌, length, take, sym}
use Rattle.std.proofs.Common.{ap, ◌∙◌, refl, arith, true, false, cond, Bool, length-append}
use Rattle.std.proofs.Common.{length-set, slice_index_or, slice_set, append_assoc, append-nil, inl}
use Rattle.std.proofs.Common.{inr, eq-eqb, ne_eqb, Result, OnErr, OnOk}
use Rattle.std.specs.Prelude.{◌==◌, ◌&&◌, ◌||◌}
use Prim.Native.Nat.{zero, suc}
use Rattle.std.proofs.lemmas.Bool.{cases_eq}
use Rattle.std.proofs.lemmas.Bool.Decides.{nat_tests}
use Rattle.std.proofs.lemmas.List.{get_or-set_same, get_or-set_other, set-get_or}
use Rattle.std.proofs.Math.Seq.{take-append_seam}
use Rattle.serial_model.specs.declared.history.Post.{Post}
use Rattle.serial_model.specs.Tracking.{has_id, ids_where}
use Rattle.serial_model.specs.Actions.{Sending, sending_bytes}
use Rattle.serial_model.specs.History.{posted_of, sent_bytes, sent_to, posts_of}
use Rattle.serial_model.specs.Each.{AllIn}
use Rattle.serial_model.proofs.Each.{all_in, in_append}
use Rattle.server_book.specs.Places.{Connection, fresh, lost_one}
use Rattle.server_book.specs.Connections.{ConnectionsState, IsId, connection_at, with_connection}
use Rattle.server_book.specs.Connections.{is_open, is_there, ArePosted, IsOpen}
use Rattle.server_book.specs.RunSendings.{settled, settled_one}
use Rattle.server_book.specs.declared.deed.Deed.{Deed}
use Rattle.server_book.specs.Sendings.{queued, with_sending, with_sendings, marked, marked_one}
use Rattle.server_book.specs.Sendings.{unqueued, before_posts, size_of}

-- what holds holds of an error, and of a success
pub on_err : {A E : Type 0} (r : Result A E) (P : Type 0) → P → OnErr r P
on_err r P h = grind arith

pub on_ok : {A E : Type 0} (r : Result A E) (P : Type 0) → P → OnOk r P
on_ok r P h = grind arith

pub on_ok_then : {A E : Type 0} (r : Result A E) (P Q : Type 0) → (P → Q) → OnOk r P → OnOk r Q
on_ok_then r P Q f h = grind arith

pub on_err_then : {A E : Type 0} (r : Result A E) (P Q : Type 0) → (P → Q) → OnErr r P → OnErr r Q
on_err_then r P Q f h = grind arith

-- ---- a connection by its id

pub at_same : (cs : List Connection) (id : ℕ) (c : Connection) → IsId cs id
    → connection_at (with_connection cs id c) id ≡ c
at_same cs id c h = get_or-set_same cs (id - 1) c fresh (omega arith)

pub at_other : (cs : List Connection) (id other : ℕ) (c : Connection) → 0 < id → 0 < other
    → (id ≡ other → ⊥)
    → connection_at (with_connection cs id c) other ≡ connection_at cs other
at_other cs id other c p q ne = grind (arith, get_or-set_other)

pub put_twice : (cs : List Connection) (at : ℕ) (a b : Connection)
    → slice_set (slice_set cs at a) at b ≡ slice_set cs at b
put_twice [] at a b = refl
put_twice (c ∷ cs) zero a b = refl
put_twice (c ∷ cs) (suc at) a b = ap (λ l. c ∷ l) (put_twice cs at a b)

-- its place, where the same connections are given in two ways
pub place_there : (cs ds : List Connection) (id : ℕ) → cs ≡ ds → IsId ds id → id - 1 < length cs
place_there cs ds id same on = omega (arith, ap length same)

-- ---- posts are of connections that are there

-- an id of a list of connections is one of a longer list
pub id_longer : (cs ds : List Connection) → length cs ≤ length ds → (id : ℕ) → IsId cs id
    → IsId ds id
id_longer cs ds le id on = (on.0, omega (arith, on.1))

pub posted_set : (cs : List Connection) (at : ℕ) (c : Connection) (ps : List Post)
    → ArePosted cs ps → ArePosted (slice_set cs at c) ps
posted_set cs at c ps h = grind (arith, all_in, id_longer, slice_set, length-set)

pub posted_more : (cs : List Connection) (ps : List Post) (p : Post) → ArePosted cs ps
    → IsId cs p.id → ArePosted cs (ps ++ p ∷ [])
posted_more cs ps p h on = in_append (λ (p : Post). IsId cs p.id) ps (p ∷ []) h (on, tt)

pub posted_last : (cs : List Connection) (ps : List Post) (p : Post) → ArePosted cs (ps ++ p ∷ [])
    → ArePosted cs ps × IsId cs p.id
posted_last cs [] p h = (tt, h.0)
posted_last cs (q ∷ ps) p h = let r = posted_last cs ps p h.1 in ((h.0, r.0), r.1)

-- ---- taking back

pub before_last : (ps : List Post) (p : Post) (cs : List Connection)
    → before_posts (ps ++ p ∷ []) cs ≡ before_posts ps (unqueued p cs)
before_last [] p cs = refl
before_last (q ∷ ps) p cs = ap (unqueued q) (before_last ps p cs)

-- bytes that were queued last are gone
pub unqueued_queued : (cs : List Connection) (p : Post) (bytes : List ℕ) → IsId cs p.id
    → size_of p.what ≡ length bytes → unqueued p (queued cs p.id bytes) ≡ cs
unqueued_queued cs p bytes on size =
    let c = connection_at cs p.id in
    let more : Connection = record c { queue = c.queue ++ bytes } in
    let left : length (c.queue ++ bytes) - size_of p.what ≡ length c.queue =
    omega (arith, length-append c.queue bytes) in
    ap (λ (x : Connection). with_connection (queued cs p.id bytes) p.id
    (record x { queue = take (length x.queue - size_of p.what) x.queue }))
    (at_same cs p.id more on)
    ∙ put_twice cs (p.id - 1) more
    (record more { queue = take (length more.queue - size_of p.what) more.queue })
    ∙ ap (λ n. with_connection cs p.id (record c { queue = take n (c.queue ++ bytes) })) left
    ∙ ap (λ q. with_connection cs p.id (record c { queue = q })) (take-append_seam c.queue bytes)
    ∙ set-get_or cs (p.id - 1) fresh

size_sent : (s : Sending) → size_of (posted_of s) ≡ length (sending_bytes s)
size_sent s = grind arith

pub before_sending : (n : ℕ) (s : ℕ × Sending) (state : ConnectionsState) → IsId state.items s.0
    → before_posts (with_sending n s state).posts (with_sending n s state).items
    ≡ before_posts state.posts state.items
before_sending n s state on =
    let p : Post = record { entry = n; id = s.0; what = posted_of s.1 } in
    before_last state.posts p (queued state.items s.0 (sending_bytes s.1))
    ∙ ap (before_posts state.posts)
    (unqueued_queued state.items p (sending_bytes s.1) on (size_sent s.1))

-- sendings to connections that are there
abbrev pub AreTo : List Connection → List (ℕ × Sending) → Type 0
AreTo cs ss = AllIn (λ (s : ℕ × Sending). IsId cs s.0) ss

pub to_longer : (cs ds : List Connection) (ss : List (ℕ × Sending)) → length cs ≤ length ds
    → AreTo cs ss → AreTo ds ss
to_longer cs ds ss le h = grind (arith, all_in, id_longer)

pub length_queued : (cs : List Connection) (id : ℕ) (bytes : List ℕ)
    → length (queued cs id bytes) ≡ length cs
length_queued cs id bytes = grind (arith, length-set)

pub length_sendings : (n : ℕ) (ss : List (ℕ × Sending)) (state : ConnectionsState)
    → length (with_sendings n ss state).items ≡ length state.items
length_sendings n [] state = refl
length_sendings n (s ∷ ss) state =
    grind (arith, length_queued, length_sendings n ss (with_sending n s state))

to_next : (n : ℕ) (s : ℕ × Sending) (ss : List (ℕ × Sending)) (state : ConnectionsState)
    → AreTo state.items ss → AreTo (with_sending n s state).items ss
to_next n s ss state h =
    to_longer state.items (with_sending n s state).items ss
    (omega (arith, length_queued state.items s.0 (sending_bytes s.1))) h

pub before_sendings : (n : ℕ) (ss : List (ℕ × Sending)) (state : ConnectionsState)
    → AreTo state.items ss
    → before_posts (with_sendings n ss state).posts (with_sendings n ss state).items
    ≡ before_posts state.posts state.items
before_sendings n [] state h = refl
before_sendings n (s ∷ ss) state h =
    before_sendings n ss (with_sending n s state) (to_next n s ss state h.1)
    ∙ before_sending n s state h.0

-- each post of them is to one that is there
pub posted_sendings : (n : ℕ) (ss : List (ℕ × Sending)) (state : ConnectionsState)
    → AreTo state.items ss → ArePosted state.items state.posts
    → ArePosted (with_sendings n ss state).items (with_sendings n ss state).posts
posted_sendings n [] state to h = h
posted_sendings n (s ∷ ss) state to h =
    let p : Post = record { entry = n; id = s.0; what = posted_of s.1 } in
    let next = with_sending n s state in
    posted_sendings n ss next (to_next n s ss state to.1)
    (grind (arith, length_queued, posted_more, all_in, id_longer))

-- ---- what sendings do

pub sendings_append : (n : ℕ) (xs ys : List (ℕ × Sending)) (state : ConnectionsState)
    → with_sendings n (xs ++ ys) state ≡ with_sendings n ys (with_sendings n xs state)
sendings_append n [] ys state = refl
sendings_append n (x ∷ xs) ys state = sendings_append n xs ys (with_sending n x state)

pub posts_sendings : (n : ℕ) (ss : List (ℕ × Sending)) (state : ConnectionsState)
    → (with_sendings n ss state).posts ≡ state.posts ++ posts_of n ss
posts_sendings n [] state = sym (append-nil state.posts)
posts_sendings n (s ∷ ss) state =
    grind (arith, append_assoc, posts_sendings n ss (with_sending n s state))

-- and no more than that
pub lost_kept : (n : ℕ) (ss : List (ℕ × Sending)) (state : ConnectionsState)
    → (with_sendings n ss state).lost ≡ state.lost
lost_kept n [] state = refl
lost_kept n (s ∷ ss) state = lost_kept n ss (with_sending n s state)

pub drops_kept : (n : ℕ) (ss : List (ℕ × Sending)) (state : ConnectionsState)
    → (with_sendings n ss state).drops ≡ state.drops
drops_kept n [] state = refl
drops_kept n (s ∷ ss) state = drops_kept n ss (with_sending n s state)

-- a connection with bytes behind its queue
abbrev pub more : Connection → List ℕ → Connection
more c bytes = record c { queue = c.queue ++ bytes }

more_nothing : (c : Connection) → c ≡ more c []
more_nothing c = ap (λ q. record c { queue = q }) (sym (append-nil c.queue))

sent_more : (n i : ℕ) (s : ℕ × Sending) (ss : List (ℕ × Sending)) → (s.0 == i) ≡ true
    → sent_bytes (sent_to n i (s ∷ ss)) ≡ sending_bytes s.1 ++ sent_bytes (sent_to n i ss)
sent_more n i s ss h = grind arith

-- each connection has the bytes of its own sendings behind its queue
pub sent_at : (n i : ℕ) (ss : List (ℕ × Sending)) (state : ConnectionsState)
    → IsId state.items i → AreTo state.items ss
    → connection_at (with_sendings n ss state).items i
    ≡ more (connection_at state.items i) (sent_bytes (sent_to n i ss))
sent_at n i [] state on h = more_nothing (connection_at state.items i)
sent_at n i (s ∷ ss) state on h =
    let next = with_sending n s state in
    let c = connection_at state.items s.0 in
    let there : i ≤ length next.items =
    omega (arith, on.1, length_queued state.items s.0 (sending_bytes s.1)) in
    sent_at n i ss next (on.0, there) (to_next n s ss state h.1)
    ∙ elim (cases_eq s.0 i) [
      | inl e ↦ grind (arith, more, at_same, append_assoc, sent_more, eq-eqb)
      | inr ne ↦ grind (arith, more, at_other, ne_eqb)
    ]

pub is_there_id : (cs : List Connection) (id : ℕ) → is_there cs id ≡ true → IsId cs id
is_there_id cs id h = grind (arith, nat_tests)

-- ---- those that track

pub ids_same : (f g : ℕ → Bool) (n : ℕ) → ((i : ℕ) → 0 < i → i ≤ n → f i ≡ g i)
    → ids_where f n ≡ ids_where g n
ids_same f g zero same = refl
ids_same f g (suc n) same =
    grind (arith, ids_same f g n (λ i some le. same i some (omega (arith, le))))

-- ---- the last post

pub unqueued_is : (cs : List Connection) (p : Post) (c new : Connection) (left : ℕ)
    → c ≡ connection_at cs p.id → left ≡ length c.queue - size_of p.what
    → new ≡ record c { queue = take left c.queue }
    → slice_set cs (p.id - 1) new ≡ unqueued p cs
unqueued_is cs p c new left there size kept = grind arith

-- ---- those that were lost

pub ids_set : (cs : List Connection) (at : ℕ) (c : Connection) (ids : List ℕ)
    → AllIn (IsId cs) ids → AllIn (IsId (slice_set cs at c)) ids
ids_set cs at c ids h = grind (arith, all_in, id_longer, slice_set, length-set)

pub ids_more : (cs : List Connection) (ids : List ℕ) (id : ℕ) → AllIn (IsId cs) ids → IsId cs id
    → AllIn (IsId cs) (ids ++ id ∷ [])
ids_more cs ids id h on = in_append (IsId cs) ids (id ∷ []) h (on, tt)

pub ids_last : (cs : List Connection) (ids : List ℕ) (id : ℕ) → AllIn (IsId cs) (ids ++ id ∷ [])
    → AllIn (IsId cs) ids × IsId cs id
ids_last cs [] id h = (tt, h.0)
ids_last cs (x ∷ ids) id h = let r = ids_last cs ids id h.1 in ((h.0, r.0), r.1)

pub marked_last : (ids : List ℕ) (id : ℕ) (cs : List Connection)
    → marked (ids ++ id ∷ []) cs ≡ marked ids (marked_one id cs)
marked_last [] id cs = refl
marked_last (x ∷ ids) id cs = ap (marked_one x) (marked_last ids id cs)

one_length : (id : ℕ) (cs : List Connection) → length (marked_one id cs) ≡ length cs
one_length id cs = length-set cs (id - 1) (lost_one (connection_at cs id))

pub marked_length : (ids : List ℕ) (cs : List Connection) → length (marked ids cs) ≡ length cs
marked_length [] cs = refl
marked_length (id ∷ ids) cs = one_length id (marked ids cs) ∙ marked_length ids cs

pub length_settled : (id : ℕ) (deed : Deed) (st : ConnectionsState)
    → length (settled id deed st).items ≡ length st.items
length_settled id deed st =
    let behind = marked st.lost st.items in
    length-set behind (id - 1) (settled_one deed (connection_at behind id))
    ∙ marked_length st.lost st.items

-- the connection that ran is there once it is settled
pub settled_there : (id by : ℕ) (deed : Deed) (st : ConnectionsState) → IsId st.items id
    → by ≡ id → IsId (settled id deed st).items by
settled_there id by deed st on same =
    (omega (arith, same, on.0), omega (arith, same, on.1, length_settled id deed st))

-- one whose redirection is broken, if it was lost and is open
abbrev pub broken_if : Bool → Connection → Connection
broken_if lost c = record c { is_broken = (lost && is_open c) || c.is_broken }

lost_if : (c : Connection) → lost_one c ≡ broken_if true c
lost_if c = elim (is_open c) as (λ b. cond b (record c { is_broken = true }) c
    ≡ record c { is_broken = (true && b) || c.is_broken }) [ true ↦ refl | false ↦ refl ]

one_at : (id i : ℕ) (cs : List Connection) → IsId cs id → 0 < i
    → connection_at (marked_one id cs) i ≡ broken_if (id == i) (connection_at cs i)
one_at id i cs on some =
    let d = lost_one (connection_at cs id) in
    elim (cases_eq id i) [
      | inl e ↦
          ap (connection_at (marked_one id cs)) (sym e) ∙ at_same cs id d on
          ∙ lost_if (connection_at cs id)
          ∙ ap (λ x. broken_if true (connection_at cs x)) e
          ∙ ap (λ b. broken_if b (connection_at cs i)) (sym (eq-eqb id i e))
      | inr ne ↦
          at_other cs id i d on.0 some ne
          ∙ ap (λ b. broken_if b (connection_at cs i)) (sym (ne_eqb id i ne))
    ]

twice_broken : (a b : Bool) (c : Connection)
    → broken_if a (broken_if b c) ≡ broken_if (a || b) c
twice_broken a b c = grind arith

pub marked_at : (ids : List ℕ) (i : ℕ) (cs : List Connection) → AllIn (IsId cs) ids → 0 < i
    → connection_at (marked ids cs) i ≡ broken_if (has_id i ids) (connection_at cs i)
marked_at [] i cs h some = refl
marked_at (id ∷ ids) i cs h some =
    one_at id i (marked ids cs) (h.0.0, let le = h.0.1 in omega (arith, le, marked_length ids cs))
    some
    ∙ ap (broken_if (id == i)) (marked_at ids i cs h.1 some)
    ∙ twice_broken (id == i) (has_id i ids) (connection_at cs i)

-- a connection that is open stays so
keeps_lost : (c : Connection) → is_open (lost_one c) ≡ is_open c
keeps_lost c = elim (is_open c) as (λ b. is_open (cond b (record c { is_broken = true }) c)
    ≡ is_open c) [ true ↦ refl | false ↦ refl ]

open_set : (cs : List Connection) (a b : ℕ)
    → is_open (slice_index_or (slice_set cs a (lost_one (slice_index_or cs a fresh))) b fresh)
    ≡ is_open (slice_index_or cs b fresh)
open_set [] a b = refl
open_set (c ∷ cs) zero zero = keeps_lost c
open_set (c ∷ cs) zero (suc b) = refl
open_set (c ∷ cs) (suc a) zero = refl
open_set (c ∷ cs) (suc a) (suc b) = open_set cs a b

stays_open : (ids : List ℕ) (cs : List Connection) (id : ℕ)
    → is_open (connection_at (marked ids cs) id) ≡ is_open (connection_at cs id)
stays_open [] cs id = refl
stays_open (x ∷ ids) cs id =
    open_set (marked ids cs) (x - 1) (id - 1) ∙ stays_open ids cs id

pub open_marked : (ids : List ℕ) (cs : List Connection) (id : ℕ) → IsOpen cs id
    → IsOpen (marked ids cs) id
open_marked ids cs id on = (
  (on.0.0, let le = on.0.1 in omega (arith, le, marked_length ids cs)),
  stays_open ids cs id ∙ on.1,
)
