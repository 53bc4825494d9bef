-- Of two links the tracking command waits for all replies of Side, and names the id told there.
use Rattle.std.proofs.Common.{◌≡◌, ◌+◌, ◌-◌, ◌<◌, ◌≤◌, ◌++◌, ℕ, List, [], ◌∷◌, length, map}
use Rattle.std.proofs.Common.{Bool, true, false, cond, Some, None, sym, ap, ◌∙◌, refl}
use Rattle.std.proofs.Common.{inl, inr, arith}
use Rattle.std.specs.Prelude.{nat_le, pos}
use Rattle.std.specs.List.{flat_map, slice_get}
use Rattle.std.proofs.lemmas.Bool.{cases_Bool, cases_lt, leb-true, leb-false, ltb-true, eq-eqb}
use Rattle.resp_value.specs.declared.value.Value.{Value}
use Rattle.resp_value.specs.declared.value.Value.TheVariants.{Number}
use Rattle.resp_value.specs.declared.value.Proto.{Proto}
use Rattle.resp_value.specs.declared.value.Proto.TheVariants.{Two, Three}
use Rattle.shared_cache.specs.declared.log.Wire.{Wire}
use Rattle.shared_cache.specs.declared.log.Wire.TheVariants.{Main, Side}
use Rattle.shared_cache.specs.declared.log.Shape.{Shape}
use Rattle.shared_cache.specs.declared.log.Shape.TheVariants.{Single, Pair}
use Rattle.shared_cache.specs.declared.log.ClientMode.{ClientMode}
use Rattle.shared_cache.specs.declared.log.ClientRefusal.{ClientRefusal}
use Rattle.shared_cache.specs.declared.log.LogEntry.{LogEntry}
use Rattle.shared_cache.specs.declared.log.LogEntry.TheVariants.{Got}
use Rattle.shared_cache.specs.declared.handshake.HandshakeStep.TheVariants.{ClientId}
use Rattle.shared_cache.specs.declared.notices.Notice.{Notice}
use Rattle.shared_cache.specs.declared.notices.Notice.TheVariants.{Reply}
use Rattle.shared_cache.specs.Notices.{notice_of}
use Rattle.shared_cache.specs.Log.{tracking, steps, steps_of, with_reply, replies, reply_in}
use Rattle.shared_cache.specs.Log.{is_told, id_number, id_in, told_id, redirect_words}
use Rattle.shared_cache.specs.Log.{put_tracking, put_step}
use Rattle.shared_cache.specs.Held.{Setup, Words, SentCommand, sent, commands}
use Rattle.shared_cache.specs.Steps.{is_id, welcomed, is_welcome, judged}
use Rattle.shared_cache.specs.Laws.{LegalLog, HasTracking, WasTold, SideFirst}
use Rattle.shared_cache.specs.Laws.{TrackNamesId}
use Rattle.shared_cache.proofs.Handshakes.{put_count, partial, replies_grow, kept_reply, kept_in}
use Rattle.shared_cache.proofs.Handshakes.{id_there}
use Rattle.shared_cache.proofs.LegalLogs.{newest, opened, ready_told, told_first}

-- ---- what let the tracking command go

-- it went, so Side was told
told_tracking : (s : Setup) (log : List LogEntry) → LegalLog s log → HasTracking s log
    → is_told s.mode log ≡ true
told_tracking s log l has =
    ready_told s log (length (commands s Main log)) (told_first s log l)
    (let c = put_count s log in omega (arith, c)) has

untold_at_first : (shape : Shape) (p : Proto) → shape ≡ Pair
    → nat_le (length (steps_of Side shape p)) 0 ≡ false
untold_at_first Single p e = absurd (let no : Single ≡ Pair = e in cc)
untold_at_first Pair Two e = refl
untold_at_first Pair Three e = refl

one_more : (s : Setup) (e : LogEntry) (log : List LogEntry) → WasTold s log
    → WasTold s (e ∷ log)
one_more s e log w = record {
  later = e ∷ w.later;
  sooner = w.sooner;
  value = w.value;
  log_is = ap (λ l. e ∷ l) w.log_is;
  untold = w.untold;
  not_yet = w.not_yet;
  told = w.told;
  replied = w.replied;
  none_sent = w.none_sent;
}

one_at_most : (k : Notice) (v : Value) (vs : List Value)
    → length (with_reply true k v vs) ≤ length vs + 1
one_at_most k v vs = grind arith

none_before : (s : Setup) (log : List LogEntry) → LegalLog s log → is_told s.mode log ≡ false
    → sent s log ≡ []
none_before s log l untold = elim (told_first s log l) [
  | inl told ↦ absurd (let no : true ≡ false = sym told ∙ untold in cc)
  | inr none ↦ none
]

now_told : (s : Setup) (v : Value) (log : List LogEntry) → LegalLog s log
    → is_told s.mode log ≡ false → is_told s.mode (Got Side v ∷ log) ≡ true
    → WasTold s (Got Side v ∷ log)
now_told s v log l untold told = record {
  later = [];
  sooner = log;
  value = v;
  log_is = refl;
  untold = untold;
  not_yet = omega (
    arith,
    partial s.mode log untold,
    put_count s log,
    ap length (none_before s log l untold),
  );
  told = told;
  replied = omega (
    arith,
    one_at_most (notice_of s.mode Side v) v (replies s.mode Side log),
    leb-false (length (steps s.mode Side)) (length (replies s.mode Side log)) untold,
    leb-true (length (steps s.mode Side)) (length (replies s.mode Side (Got Side v ∷ log))) told,
  );
  none_sent = none_before s log l untold;
}

was_told : (s : Setup) (log : List LogEntry) → s.mode.shape ≡ Pair → LegalLog s log
    → is_told s.mode log ≡ true → WasTold s log
was_told s [] two l t =
    absurd (let no : true ≡ false = sym t ∙ untold_at_first s.mode.shape s.mode.proto two in cc)
was_told s (Got Side v ∷ log) two l t = elim (cases_Bool (is_told s.mode log)) [
  | inl told ↦ one_more s (Got Side v) log (was_told s log two l.0 told)
  | inr not_ ↦ now_told s v log l.0 not_ t
]
was_told s (Got Main v ∷ log) two l t =
    one_more s (Got Main v) log (was_told s log two l.0 t)
was_told s (e ∷ log) two l t = one_more s e log (was_told s log two l.0 t)

pub side_first : SideFirst
side_first s log two l has = was_told s log two l (told_tracking s log l has)

-- ---- the id that it names

-- the reply to CLIENT ID is a number
record ToldId (m : ClientMode) (vs : List Value) : Type 0 where
  id : ℕ
  some : 0 < id
  reply_is : reply_in (id_number m.proto) vs ≡ Some (Number (pos id))

some_id : (p : Proto) → 0 < id_number p
some_id Two = omega arith
some_id Three = omega arith

id_step : (shape : Shape) (p : Proto) → shape ≡ Pair
    → slice_get (steps_of Side shape p) (id_number p - 1) ≡ Some ClientId
id_step Single p e = absurd (let no : Single ≡ Pair = e in cc)
id_step Pair Two e = refl
id_step Pair Three e = refl

id_welcome : (m : ClientMode) (n : ℕ) (v : Value) → m.shape ≡ Pair → n ≡ id_number m.proto
    → is_welcome m Side n v ≡ true → is_id v ≡ true
id_welcome m n v two e w =
    sym (ap (λ o. welcomed o v)
    (ap (λ i. slice_get (steps m Side) (i - 1)) e ∙ id_step m.shape m.proto two)) ∙ w

is_number : (m : ClientMode) (v : Value) (vs : List Value) → id_number m.proto ≡ length vs + 1
    → is_id v ≡ true → ToldId m (v ∷ vs)
is_number m (Number (pos n)) vs e is = record {
  id = n;
  some = ltb-true 0 n is;
  reply_is = ap (λ b. cond b (Some (Number (pos n))) (reply_in (id_number m.proto) vs))
      (eq-eqb (id_number m.proto) (length vs + 1) e);
}
is_number m v vs e is = absurd (let no : false ≡ true = is in cc)

welcome_only : (a b : Bool) (r t : ClientRefusal) → cond a (Some r) (cond b None (Some t)) ≡ None
    → b ≡ true
welcome_only a b r t e = grind arith

id_got : (k : Notice) (m : ClientMode) (v : Value) (vs : List Value) (out : ℕ)
    → m.shape ≡ Pair → judged m Side (length vs) out v k ≡ None
    → (id_number m.proto ≤ length vs → ToldId m vs)
    → id_number m.proto ≤ length (with_reply true k v vs) → ToldId m (with_reply true k v vs)
id_got Reply m v vs out two welcome old le =
    elim (cases_lt (length vs) (id_number m.proto)) [
      | inl now ↦
          let next : id_number m.proto ≡ length vs + 1 = omega (arith, now, le) in
          is_number m v vs next
          (id_welcome m (length vs + 1) v two (sym next)
          (welcome_only (nat_le out (length vs)) (is_welcome m Side (length vs + 1) v) _ _
          welcome))
      | inr there ↦
          let t = old there in
          record {
            id = t.id;
            some = t.some;
            reply_is = kept_reply (id_number m.proto) v vs there ∙ t.reply_is;
          }
    ]
id_got k m v vs out two welcome old le = old le

id_told : (s : Setup) (log : List LogEntry) → s.mode.shape ≡ Pair → LegalLog s log
    → id_number s.mode.proto ≤ length (replies s.mode Side log)
    → ToldId s.mode (replies s.mode Side log)
id_told s [] two l le = absurd (omega (arith, le, some_id s.mode.proto))
id_told s (Got Side v ∷ log) two l le =
    id_got (notice_of s.mode Side v) s.mode v (replies s.mode Side log)
    (length (commands s Side log)) two (opened s log Side v (newest s log (Got Side v) l).1)
    (id_told s log two l.0) le
id_told s (Got Main v ∷ log) two l le = id_told s log two l.0 le
id_told s (e ∷ log) two l le = id_told s log two l.0 le

-- replies that were there keep their numbers
kept_by : (m : ClientMode) (w : Wire) (n : ℕ) (e : LogEntry) (log : List LogEntry)
    → n ≤ length (replies m w log)
    → reply_in n (replies m w (e ∷ log)) ≡ reply_in n (replies m w log)
kept_by m w n (Got u v) log le = kept_in _ (notice_of m u v) n v (replies m w log) le
kept_by m w n e log le = refl

replies_later : (m : ClientMode) (w : Wire) (later log : List LogEntry)
    → length (replies m w log) ≤ length (replies m w (later ++ log))
replies_later m w [] log = omega arith
replies_later m w (e ∷ later) log =
    omega (arith, replies_grow m w e (later ++ log), replies_later m w later log)

kept_later : (m : ClientMode) (w : Wire) (n : ℕ) (later log : List LogEntry)
    → n ≤ length (replies m w log)
    → reply_in n (replies m w (later ++ log)) ≡ reply_in n (replies m w log)
kept_later m w n [] log le = refl
kept_later m w n (e ∷ later) log le =
    kept_by m w n e (later ++ log) (omega (arith, le, replies_later m w later log))
    ∙ kept_later m w n later log le

track_at : (p : Proto) (m : ClientMode) (told : Bool) (id : List ℕ) (more : List Words)
    → m.shape ≡ Pair → told ≡ true
    → slice_get (flat_map (put_step m told id) (steps_of Main m.shape p) ++ more)
    (length (steps_of Main m.shape p) - 1) ≡ Some (tracking m (redirect_words id))
track_at Two m told id more two t =
    λ i. slice_get ((put_tracking (two i) m (t i) id ++ []) ++ more) 0
track_at Three m told id more two t =
    λ i. slice_get ((put_tracking (two i) m (t i) id ++ []) ++ more) 0

pub track_names_id : TrackNamesId
track_names_id s log two l has =
    let t = told_tracking s log l has in
    let le = id_there s.mode.proto s.mode.shape (length (replies s.mode Side log)) two
    (leb-true (length (steps s.mode Side)) (length (replies s.mode Side log)) t) in
    let is = id_told s log two l le in
    record {
      id = is.id;
      some = is.some;
      told = λ later.
          kept_later s.mode Side (id_number s.mode.proto) later log le ∙ is.reply_is;
      command_is = track_at s.mode.proto s.mode (is_told s.mode log) (told_id s.mode log)
          (map (λ (c : SentCommand). c.words) (sent s log)) two t
          ∙ ap (λ o. Some (tracking s.mode (redirect_words (id_in o)))) is.reply_is;
    }
