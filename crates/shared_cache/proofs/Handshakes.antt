-- What the handshake puts on each link, and when.
use Rattle.std.proofs.Common.{◌≡◌, ◌+◌, ◌<◌, ◌≤◌, ◌++◌, ◌⊎◌, ℕ, List, [], ◌∷◌, length, map, Bool}
use Rattle.std.proofs.Common.{true, false, sym, ap, ◌∙◌, refl, arith, append-nil, inl}
use Rattle.std.proofs.Common.{inr, length-append}
use Rattle.std.specs.Prelude.{nat_le, codes}
use Rattle.std.specs.List.{flat_map}
use Rattle.std.proofs.lemmas.Bool.{le-leb, leb-true, ne_eqb, cases_Bool}
use Rattle.std.proofs.lemmas.List.{length-map}
use Rattle.resp_value.specs.Lists.{IsPrefix}
use Rattle.resp_value.specs.declared.value.Value.{Value}
use Rattle.resp_value.specs.declared.value.Proto.{Proto}
use Rattle.resp_value.specs.declared.value.Proto.TheVariants.{Two, Three}
use Rattle.shared_cache.specs.declared.log.Wire.{Wire}
use Rattle.shared_cache.specs.declared.log.Wire.TheVariants.{Main, Side}
use Rattle.shared_cache.specs.declared.log.Shape.{Shape}
use Rattle.shared_cache.specs.declared.log.Shape.TheVariants.{Single, Pair}
use Rattle.shared_cache.specs.declared.log.ClientMode.{ClientMode}
use Rattle.shared_cache.specs.declared.log.LogEntry.{LogEntry}
use Rattle.shared_cache.specs.declared.log.LogEntry.TheVariants.{Ask, Send, Poll, TakeOut, Got}
use Rattle.shared_cache.specs.declared.log.LogEntry.TheVariants.{End, Bad}
use Rattle.shared_cache.specs.declared.notices.Notice.{Notice}
use Rattle.shared_cache.specs.declared.notices.Notice.TheVariants.{Reply}
use Rattle.shared_cache.specs.Notices.{notice_of}
use Rattle.shared_cache.specs.Log.{steps, steps_of, handshake_length, is_wire, with_reply}
use Rattle.shared_cache.specs.Log.{replies, reply_in, is_told, id_number, id_in, told_id}
use Rattle.shared_cache.specs.Log.{put_tracking, put_step, handshake}
use Rattle.shared_cache.specs.Held.{Setup, Words, SentCommand, sent, commands}

abbrev codes_hello : Words
codes_hello = codes "HELLO" ∷ codes "3" ∷ []

-- ---- how many commands there are

some_steps : (shape : Shape) (p : Proto) → 0 < length (steps_of Main shape p)
some_steps shape Two = omega arith
some_steps shape Three = omega arith

pub handshake_some : (m : ClientMode) → 0 < handshake_length m
handshake_some m = some_steps m.shape m.proto

single_told : (n : ℕ) (p : Proto) → nat_le (length (steps_of Side Single p)) n ≡ true
single_told n p = le-leb 0 n (omega arith)

-- of one link there is nothing to wait for
pub told_of_one : (m : ClientMode) (log : List LogEntry) → m.shape ≡ Single
    → is_told m log ≡ true
told_of_one m log e =
    ap (λ h. nat_le (length (steps_of Side h m.proto)) (length (replies m Side log))) e
    ∙ single_told (length (replies m Side log)) m.proto

put_when_told : (shape : Shape) (m : ClientMode) (id : List ℕ)
    → length (put_tracking shape m true id) ≡ 1
put_when_told Single m id = refl
put_when_told Pair m id = refl

main_length : (p : Proto) (m : ClientMode) (told : Bool) (id : List ℕ)
    → length (flat_map (put_step m told id) (steps_of Main m.shape p)) + 1
    ≡ length (steps_of Main m.shape p) + length (put_tracking m.shape m told id)
main_length Two m told id =
    omega (arith, ap length (append-nil (put_tracking m.shape m told id)))
main_length Three m told id =
    omega (arith, ap length (append-nil (put_tracking m.shape m told id)))

put_of_bool : (b : Bool) (m : ClientMode) (id : List ℕ) → b ≡ true
    → length (put_tracking m.shape m b id) ≡ 1
put_of_bool b m id e =
    ap (λ t. length (put_tracking m.shape m t id)) e ∙ put_when_told m.shape m id

-- all of it is there once Side is told
pub whole : (m : ClientMode) (log : List LogEntry) → is_told m log ≡ true
    → length (handshake m Main log) ≡ handshake_length m
whole m log e =
    omega (
      arith,
      main_length m.proto m (is_told m log) (told_id m log),
      put_of_bool (is_told m log) m (told_id m log) e,
    )

put_at_most : (shape : Shape) (m : ClientMode) (told : Bool) (id : List ℕ)
    → length (put_tracking shape m told id) ≤ 1
put_at_most Single m told id = omega arith
put_at_most Pair m true id = omega arith
put_at_most Pair m false id = omega arith

pub handshake_within : (m : ClientMode) (log : List LogEntry)
    → length (handshake m Main log) ≤ handshake_length m
handshake_within m log =
    omega (
      arith,
      main_length m.proto m (is_told m log) (told_id m log),
      put_at_most m.shape m (is_told m log) (told_id m log),
    )

put_none : (shape : Shape) (m : ClientMode) (id : List ℕ) → shape ≡ Pair
    → put_tracking shape m false id ≡ []
put_none Single m id e = absurd (let no : Single ≡ Pair = e in cc)
put_none Pair m id e = refl

-- a client that is not told has two links
pub one_or_two : (shape : Shape) → (shape ≡ Single) ⊎ (shape ≡ Pair)
one_or_two Single = inl refl
one_or_two Pair = inr refl

pub pair_untold : (m : ClientMode) (log : List LogEntry) → is_told m log ≡ false
    → m.shape ≡ Pair
pair_untold m log e = elim (one_or_two m.shape) [
  | inl one ↦ absurd (let no : true ≡ false = sym (told_of_one m log one) ∙ e in cc)
  | inr two ↦ two
]

pub put_untold : (m : ClientMode) (log : List LogEntry) → is_told m log ≡ false
    → put_tracking m.shape m (is_told m log) (told_id m log) ≡ []
put_untold m log e =
    ap (λ t. put_tracking m.shape m t (told_id m log)) e
    ∙ put_none m.shape m (told_id m log) (pair_untold m log e)

-- a step is wanting then
pub partial : (m : ClientMode) (log : List LogEntry) → is_told m log ≡ false
    → length (handshake m Main log) + 1 ≡ handshake_length m
partial m log e =
    omega (
      arith,
      main_length m.proto m (is_told m log) (told_id m log),
      ap length (put_untold m log e),
    )

-- ---- it grows at its end

more_last : (p : Proto) (m : ClientMode) (old new : Bool) (id now : List ℕ)
    → put_tracking m.shape m old id ≡ []
    → flat_map (put_step m new now) (steps_of Main m.shape p)
    ≡ flat_map (put_step m old id) (steps_of Main m.shape p) ++ put_tracking m.shape m new now
more_last Two m old new id now e =
    append-nil (put_tracking m.shape m new now)
    ∙ ap (λ l. (l ++ []) ++ put_tracking m.shape m new now) (sym e)
more_last Three m old new id now e =
    ap (λ l. (codes_hello ∷ l)) (append-nil (put_tracking m.shape m new now))
    ∙ ap (λ l. codes_hello ∷ ((l ++ []) ++ put_tracking m.shape m new now)) (sym e)

-- the tracking command goes behind what was put before Side was told
pub tracked_last : (m : ClientMode) (log new : List LogEntry) → is_told m log ≡ false
    → handshake m Main new
    ≡ handshake m Main log ++ put_tracking m.shape m (is_told m new) (told_id m new)
tracked_last m log new e =
    more_last m.proto m (is_told m log) (is_told m new) (told_id m log) (told_id m new)
    (put_untold m log e)

same_side : (shape : Shape) (p : Proto) (m : ClientMode) (old new : Bool) (id now : List ℕ)
    → flat_map (put_step m old id) (steps_of Side shape p)
    ≡ flat_map (put_step m new now) (steps_of Side shape p)
same_side Single p m old new id now = refl
same_side Pair Two m old new id now = refl
same_side Pair Three m old new id now = refl

-- on Side all is there from the start
pub side_same : (m : ClientMode) (log new : List LogEntry)
    → handshake m Side new ≡ handshake m Side log
side_same m log new =
    same_side m.shape m.proto m (is_told m new) (is_told m log) (told_id m new) (told_id m log)

side_count : (shape : Shape) (p : Proto) (m : ClientMode) (told : Bool) (id : List ℕ)
    → length (flat_map (put_step m told id) (steps_of Side shape p))
    ≡ length (steps_of Side shape p)
side_count Single p m told id = refl
side_count Pair Two m told id = refl
side_count Pair Three m told id = refl

short_side : (shape : Shape) (p : Proto) → length (steps_of Side shape p) ≤ 2
short_side Single p = omega arith
short_side Pair Two = omega arith
short_side Pair Three = omega arith

pub side_at_most : (m : ClientMode) → length (steps m Side) ≤ 2
side_at_most m = short_side m.shape m.proto

pub side_length : (m : ClientMode) (log : List LogEntry)
    → length (handshake m Side log) ≡ length (steps m Side)
side_length m log = side_count m.shape m.proto m (is_told m log) (told_id m log)

-- ---- replies are added, and none is taken away

more_replies : (here : Bool) (k : Notice) (v : Value) (vs : List Value)
    → length vs ≤ length (with_reply here k v vs)
more_replies here k v vs = grind arith

pub replies_grow : (m : ClientMode) (w : Wire) (e : LogEntry) (log : List LogEntry)
    → length (replies m w log) ≤ length (replies m w (e ∷ log))
replies_grow m w (Ask q) log = omega arith
replies_grow m w (Send ws) log = omega arith
replies_grow m w (Poll n) log = omega arith
replies_grow m w (TakeOut u n) log = omega arith
replies_grow m w (Got u v) log =
    more_replies (is_wire u w) (notice_of m u v) v (replies m w log)
replies_grow m w (End u) log = omega arith
replies_grow m w (Bad u v) log = omega arith

pub told_later : (m : ClientMode) (e : LogEntry) (log : List LogEntry) → is_told m log ≡ true
    → is_told m (e ∷ log) ≡ true
told_later m e log t =
    le-leb (length (steps m Side)) (length (replies m Side (e ∷ log)))
    (let before = leb-true (length (steps m Side)) (length (replies m Side log)) t in
    let more = replies_grow m Side e log in omega arith)

-- an older reply keeps its number
pub kept_reply : (n : ℕ) (v : Value) (vs : List Value) → n ≤ length vs
    → reply_in n (v ∷ vs) ≡ reply_in n vs
kept_reply n v vs le = grind (arith, ne_eqb)

pub kept_in : (here : Bool) (k : Notice) (n : ℕ) (v : Value) (vs : List Value) → n ≤ length vs
    → reply_in n (with_reply here k v vs) ≡ reply_in n vs
kept_in true Reply n v vs le = kept_reply n v vs le
kept_in true k n v vs le = refl
kept_in false k n v vs le = refl

pub id_there : (p : Proto) (shape : Shape) (n : ℕ) → shape ≡ Pair
    → length (steps_of Side shape p) ≤ n → id_number p ≤ n
id_there Two Single n e le = absurd (let no : Single ≡ Pair = e in cc)
id_there Three Single n e le = absurd (let no : Single ≡ Pair = e in cc)
id_there Two Pair n e le = omega arith
id_there Three Pair n e le = omega arith

put_same : (shape : Shape) (m : ClientMode) (old new : Bool) (id now : List ℕ)
    → old ≡ true → new ≡ true → (shape ≡ Pair → now ≡ id)
    → put_tracking shape m new now ≡ put_tracking shape m old id
put_same Single m old new id now o n same = refl
put_same Pair m old new id now o n same =
    (λ i. put_tracking Pair m (n i) now)
    ∙ (λ i. put_tracking Pair m true (same refl i))
    ∙ (λ i. put_tracking Pair m (sym o i) id)

step_same : (p : Proto) (m : ClientMode) (old new : Bool) (id now : List ℕ)
    → put_tracking m.shape m new now ≡ put_tracking m.shape m old id
    → flat_map (put_step m new now) (steps_of Main m.shape p)
    ≡ flat_map (put_step m old id) (steps_of Main m.shape p)
step_same Two m old new id now e = ap (λ l. l ++ []) e
step_same Three m old new id now e = ap (λ l. codes_hello ∷ (l ++ [])) e

id_kept : (m : ClientMode) (w : Wire) (v : Value) (log : List LogEntry) → is_told m log ≡ true
    → m.shape ≡ Pair → told_id m (Got w v ∷ log) ≡ told_id m log
id_kept m w v log t two =
    ap id_in (kept_in (is_wire w Side) (notice_of m w v) (id_number m.proto) v
    (replies m Side log)
    (id_there m.proto m.shape (length (replies m Side log)) two
    (leb-true (length (steps m Side)) (length (replies m Side log)) t)))

got_same : (m : ClientMode) (w : Wire) (v : Value) (log : List LogEntry) → is_told m log ≡ true
    → handshake m Main (Got w v ∷ log) ≡ handshake m Main log
got_same m w v log t =
    step_same m.proto m (is_told m log) (is_told m (Got w v ∷ log)) (told_id m log)
    (told_id m (Got w v ∷ log))
    (put_same m.shape m (is_told m log) (is_told m (Got w v ∷ log)) (told_id m log)
    (told_id m (Got w v ∷ log)) t (told_later m (Got w v) log t) (id_kept m w v log t))

-- once Side is told it stays as it is
pub handshake_same : (m : ClientMode) (e : LogEntry) (log : List LogEntry)
    → is_told m log ≡ true → handshake m Main (e ∷ log) ≡ handshake m Main log
handshake_same m (Got w v) log t = got_same m w v log t
handshake_same m (Ask q) log t = refl
handshake_same m (Send ws) log t = refl
handshake_same m (Poll n) log t = refl
handshake_same m (TakeOut u n) log t = refl
handshake_same m (End u) log t = refl
handshake_same m (Bad u v) log t = refl

-- only a value that is got on Side adds to it
pub main_same : (m : ClientMode) (v : Value) (log : List LogEntry)
    → handshake m Main (Got Main v ∷ log) ≡ handshake m Main log
main_same m v log = refl

pub handshake_grows : (m : ClientMode) (e : LogEntry) (log : List LogEntry)
    → IsPrefix (handshake m Main log) (handshake m Main (e ∷ log))
handshake_grows m e log = elim (cases_Bool (is_told m log)) [
  | inl told ↦ ([], append-nil (handshake m Main log) ∙ sym (handshake_same m e log told))
  | inr not_ ↦ (
    put_tracking m.shape m (is_told m (e ∷ log)) (told_id m (e ∷ log)),
    sym (tracked_last m log (e ∷ log) not_),
  )
]

pub handshake_longer : (m : ClientMode) (e : LogEntry) (log : List LogEntry)
    → length (handshake m Main log) ≤ length (handshake m Main (e ∷ log))
handshake_longer m e log =
    let g = handshake_grows m e log in
    omega (arith, ap length g.1, length-append (handshake m Main log) g.0)

-- ---- how many commands went out

pub put_count : (s : Setup) (log : List LogEntry)
    → length (commands s Main log) ≡ length (handshake s.mode Main log) + length (sent s log)
put_count s log =
    length-append (handshake s.mode Main log) (map (λ (c : SentCommand). c.words) (sent s log))
    ∙ ap (λ n. length (handshake s.mode Main log) + n)
    (length-map (sent s log) (λ (c : SentCommand). c.words))

pub side_put_count : (s : Setup) (log : List LogEntry)
    → length (commands s Side log) ≡ length (steps s.mode Side)
side_put_count s log =
    ap length (append-nil (handshake s.mode Side log)) ∙ side_length s.mode log
