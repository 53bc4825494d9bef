-- After a value was read the fields are what the log says.
use Rattle.std.proofs.Common.{◌≡◌, ◌==◌, ◌+◌, ◌-◌, ◌<◌, ◌≤◌, ◌++◌, ◌||◌, ◌&&◌, ℕ, suc, List, []}
use Rattle.std.proofs.Common.{◌∷◌, length, get_or, set, drop, Bool, true, false, cond, not, Option}
use Rattle.std.proofs.Common.{Some, None, sym, ap, ◌∙◌, refl, subst, arith, ne_eqb, eq-eqb}
use Rattle.std.proofs.Common.{length-set, append-nil, inl, inr}
use Rattle.std.specs.Prelude.{nat_le, nat_lt}
use Rattle.std.specs.List.{filter, flat_map, slice_get}
use Rattle.std.specs.Str.{bytes_eq}
use Rattle.std.proofs.lemmas.Bool.{cases_eq, cases_lt, lt-ltb, le-ltb, le-leb, lt-leb, leb-false}
use Rattle.std.proofs.lemmas.List.{get_or-set_same, get_or-set_other}
use Rattle.resp_value.specs.Spelling.{request_spelling}
use Rattle.resp_value.specs.declared.value.Value.{Value}
use Rattle.resp_value.specs.declared.value.Proto.{Proto}
use Rattle.resp_value.specs.declared.value.Proto.TheVariants.{Two, Three}
use Rattle.command_words.specs.Queries.{key_of, names}
use Rattle.command_words.specs.declared.written.Written.{Written}
use Rattle.fill_mark.specs.declared.marks.Mark.{Mark}
use Rattle.fill_mark.specs.Marks.{query_marked, without_number}
use Rattle.shared_cache.specs.declared.log.Wire.{Wire}
use Rattle.shared_cache.specs.declared.log.Wire.TheVariants.{Main, Side}
use Rattle.shared_cache.specs.declared.log.Shape.{Shape}
use Rattle.shared_cache.specs.declared.log.Shape.TheVariants.{Single, Pair}
use Rattle.shared_cache.specs.declared.log.ClientMode.{ClientMode}
use Rattle.shared_cache.specs.declared.handshake.HandshakeStep.TheVariants.{Hello, Track}
use Rattle.shared_cache.specs.declared.log.LogEntry.{LogEntry}
use Rattle.shared_cache.specs.declared.log.LogEntry.TheVariants.{Got}
use Rattle.shared_cache.specs.declared.entry.CacheEntry.{CacheEntry}
use Rattle.shared_cache.specs.declared.entry.PendingReply.{PendingReply}
use Rattle.shared_cache.specs.declared.entry.PendingReply.TheVariants.{Waiting, There, Gone}
use Rattle.shared_cache.specs.declared.notices.Notice.{Notice}
use Rattle.shared_cache.specs.declared.notices.Notice.TheVariants.{Reply}
use Rattle.shared_cache.specs.Notices.{notice_of, named_keys, invalidates, invalidates_as, is_reply}
use Rattle.shared_cache.specs.Notices.{IsPush}
use Rattle.shared_cache.specs.Log.{steps, steps_of, handshake_length, first_number, handshake}
use Rattle.shared_cache.specs.Log.{tracking, redirect_words, put_tracking, put_step, id_number}
use Rattle.shared_cache.specs.Log.{id_in, told_id, is_told, replies, reply_in, is_accepted}
use Rattle.shared_cache.specs.Log.{is_broken, is_broken_notice}
use Rattle.shared_cache.specs.Held.{Setup, Key, Words, numbers, used_at, open_fetch, last_use, held}
use Rattle.shared_cache.specs.Held.{commands, command_in, is_named, may_overtake, got_ends, sent}
use Rattle.shared_cache.specs.Out.{is_wanted}
use Rattle.shared_cache.specs.Steps.{welcomed, is_welcome}
use Rattle.shared_cache.specs.HeldKeys.{Keeps, with_pairs, forgotten, answered_keys}
use Rattle.shared_cache.specs.ClientFields.{Fields, Reflects, pending_at, marks_by, settled, there}
use Rattle.shared_cache.specs.ClientFields.{answered, owed_in, fetch_mark, id_after}
use Rattle.shared_cache.specs.ClientFields.{tracking_behind}
use Rattle.shared_cache.proofs.InPlace.{filter_same_test}
use Rattle.shared_cache.proofs.Filled.{replied_to}
use Rattle.shared_cache.proofs.Handshakes.{put_count, side_put_count, handshake_within}
use Rattle.shared_cache.proofs.Handshakes.{handshake_longer, told_later}
use Rattle.shared_cache.proofs.FetchLaws.{unless_some}
use Rattle.shared_cache.proofs.LastUses.{used_before}
use Rattle.shared_cache.proofs.Keeps.{keeps_forgotten, keeps_replied, keeps_same, NamedAs}
use Rattle.shared_cache.proofs.HeldSteps.{replies_push, open_push, held_push, use_push}
use Rattle.shared_cache.proofs.HeldSteps.{replies_reply, open_newer, held_reply, use_reply}
use Rattle.shared_cache.proofs.HeldSteps.{overtaken, open_side, held_side, use_side, replies_side}
use Rattle.shared_cache.proofs.MarkLists.{marks_filter, marks_same, marks_above, marks_next}
use Rattle.shared_cache.proofs.MarkLists.{marks_find, mark_unless}
use Rattle.shared_cache.proofs.Bytes.{untaken_same, side_untaken_same, untaken_told}
use Rattle.shared_cache.proofs.Named.{fetches_kept, front_named, front_pair, names_answered}
use Rattle.shared_cache.proofs.OtherTurns.{pending_same}
use Rattle.shared_cache.proofs.PendingLists.{no_reply, owed_answered}

push_no_reply : (n : Notice) → IsPush n → is_reply n ≡ false
push_no_reply n p = grind arith

-- the last step of Main is the tracking command's
last_step : (shape : Shape) (p : Proto) (n : ℕ) → n + 1 ≡ length (steps_of Main shape p)
    → slice_get (steps_of Main shape p) n ≡ Some Track
last_step shape Two n e = ap (slice_get (Track ∷ [])) (let g : n ≡ 0 = omega arith in g)
last_step shape Three n e =
    ap (slice_get (Hello ∷ Track ∷ [])) (let g : n ≡ 1 = omega arith in g)

-- the handshake is answered as it is to be answered
ready_next : (m : ClientMode) (vs : List Value) (v : Value)
    → is_welcome m Main (length vs + 1) v ≡ true
    → is_accepted (reply_in (handshake_length m) vs) ≡ nat_le (handshake_length m) (length vs)
    → is_accepted (reply_in (handshake_length m) (v ∷ vs))
    ≡ nat_le (handshake_length m) (length vs + 1)
ready_next m vs v w r = elim (cases_eq (handshake_length m) (length vs + 1)) [
  | inl last ↦
      let step : slice_get (steps m Main) (length vs + 1 - 1) ≡ Some Track =
      ap (slice_get (steps m Main)) (let g : length vs + 1 - 1 ≡ length vs = omega arith in g)
      ∙ last_step m.shape m.proto (length vs) (omega (arith, last)) in
      ap (λ b. is_accepted (cond b (Some v) (reply_in (handshake_length m) vs)))
      (eq-eqb (handshake_length m) (length vs + 1) last)
      ∙ sym (ap (λ o. welcomed o v) step) ∙ w
      ∙ sym (le-leb (handshake_length m) (length vs + 1) (omega (arith, last)))
  | inr other ↦
      ap (λ b. is_accepted (cond b (Some v) (reply_in (handshake_length m) vs)))
      (ne_eqb (handshake_length m) (length vs + 1) other)
      ∙ r
      ∙ elim (cases_lt (length vs) (handshake_length m)) [
        | inl below ↦
            lt-leb (handshake_length m) (length vs) below
            ∙ sym (lt-leb (handshake_length m) (length vs + 1) (omega arith))
        | inr there_ ↦
            le-leb (handshake_length m) (length vs) there_
            ∙ sym (le-leb (handshake_length m) (length vs + 1) (omega arith))
      ]
]

now_there : (b : Bool) (v : Value)
    → answered v (cond b Waiting Gone) ≡ cond b (There v) Gone
now_there true v = refl
now_there false v = refl

both_lengths : (b : Bool) (ps : List PendingReply) (i : ℕ) (p : PendingReply)
    → length (cond b (set ps i p) ps) ≡ length ps
both_lengths true ps i p = length-set ps i p
both_lengths false ps i p = refl

both_owed : (b : Bool) (ps : List PendingReply) (i : ℕ) (v : Value)
    → owed_in (cond b (set ps i (answered v (get_or ps i Gone))) ps) ≡ owed_in ps
both_owed true ps i v = owed_answered ps i v
both_owed false ps i v = refl

-- ---- Side's handshake has two commands

side_two : (shape : Shape) (p : Proto) → 0 < length (steps_of Side shape p)
    → (shape ≡ Pair) × (length (steps_of Side shape p) ≡ 2)
side_two Single p lt = absurd (omega arith)
side_two Pair Two lt = (refl, refl)
side_two Pair Three lt = (refl, refl)

both_told : (steps number all : ℕ) → steps ≡ 2 → number ≤ 2 → number ≡ all
    → nat_le steps all ≡ (number == 2)
both_told steps number all two le is = elim (cases_eq number 2) [
  | inl last ↦ le-leb steps all (omega arith) ∙ sym (eq-eqb number 2 last)
  | inr other ↦ lt-leb steps all (omega arith) ∙ sym (ne_eqb number 2 other)
]

id_cond : (b : Bool) (v : Value) (o : Option Value)
    → id_in (cond b (Some v) o) ≡ cond b (id_in (Some v)) (id_in o)
id_cond true v o = refl
id_cond false v o = refl

put_behind : (b : Bool) (m : ClientMode) (id : List ℕ)
    → cond b (request_spelling (tracking m (redirect_words id))) []
    ≡ flat_map request_spelling (put_tracking Pair m b id)
put_behind true m id = sym (append-nil (request_spelling (tracking m (redirect_words id))))
put_behind false m id = refl

behind_put : (m : ClientMode) (b : Bool) (id : List ℕ) → m.shape ≡ Pair
    → cond b (request_spelling (tracking m (redirect_words id))) []
    ≡ flat_map request_spelling (put_tracking m.shape m b id)
behind_put m b id two =
    put_behind b m id
    ∙ ap (λ h. flat_map request_spelling (put_tracking h m b id)) (sym two)

module _ (s : Setup) (log : List LogEntry) (f : Fields) (k : Reflects s log f) where
  pub reflects_push : (u : Wire) (v : Value) (n : Notice) (w : Written)
      → n ≡ notice_of s.mode u v → IsPush n
      → ((key : Key) → names w key ≡ invalidates_as n (named_keys v) key)
      → Reflects s (Got u v ∷ log) (record f {
        marks = filter (λ m. not (names w (key_of m.query))) f.marks;
        keys = with_pairs (forgotten w f.keys.pairs) f.keys;
        broken = is_broken_notice n || f.broken;
      })
  reflects_push u v n w e p named =
      let same : (key : Key) → not (names w key) ≡ not (invalidates s.mode u v key)
      = λ key. ap not (named key ∙ ap (λ m. invalidates_as m (named_keys v) key) e) in
      let pushed : is_reply (notice_of s.mode u v) ≡ false
      = ap is_reply (sym e) ∙ push_no_reply n p in
      let main : replies s.mode Main (Got u v ∷ log) ≡ replies s.mode Main log
      = replies_push s log u v pushed Main in
      let side : replies s.mode Side (Got u v ∷ log) ≡ replies s.mode Side log
      = replies_push s log u v pushed Side in
      let still : (w2 : Wire) → handshake s.mode w2 (Got u v ∷ log) ≡ handshake s.mode w2 log
      = λ w2. (λ i. flat_map (put_step s.mode
      (nat_le (length (steps s.mode Side)) (length (side i)))
      (id_in (reply_in (id_number s.mode.proto) (side i)))) (steps s.mode w2)) in
      record {
        queued_is = k.queued_is ∙ sym (untaken_same s log (Got u v ∷ log) (still Main) refl refl);
        replied_is = k.replied_is ∙ ap length (sym main);
        replied_within =
            let w = k.replied_within in omega (arith, ap length (still Main));
        ready_is = ap (λ vs. is_accepted (reply_in (handshake_length s.mode) vs)) main ∙ k.ready_is;
        told_first = elim k.told_first [
          | inl told ↦ inl (told_later s.mode (Got u v) log told)
          | inr none ↦ inr none
        ];
        pending_count = k.pending_count;
        pending_is = λ i l.
            k.pending_is i l
            ∙ sym (pending_same s log (Got u v ∷ log) refl (λ m. refl) main
            (i + first_number s.mode));
        unpolled = k.unpolled;
        owed_is = k.owed_is;
        named_is = k.named_is;
        fetches_are = fetches_kept s log (Got u v ∷ log) [] (sym (append-nil (sent s log)))
            (λ m q g. (unless_some (invalidates s.mode u v) (open_fetch s log m) q
            (sym (open_push s log u v pushed m) ∙ g)).0) k.fetches_are;
        marks_is =
            ap (filter (λ (m : Mark). not (names w (key_of m.query)))) k.marks_is
            ∙ filter_same_test (λ (m : Mark). not (names w (key_of m.query)))
            (λ m. not (invalidates s.mode u v (key_of m.query)))
            (marks_by (open_fetch s log) f.replied (numbers s log)) (λ m. same (key_of m.query))
            ∙ sym (marks_filter (open_fetch s log) (open_fetch s (Got u v ∷ log))
            (λ (m : Mark). not (invalidates s.mode u v (key_of m.query))) f.replied (numbers s log)
            (λ m le. ap (fetch_mark m) (open_push s log u v pushed m)
            ∙ mark_unless (invalidates s.mode u v) m (open_fetch s log m)));
        keys_is =
            keeps_same s.capacity (last_use s log) (last_use s (Got u v ∷ log))
            (filter (λ h. not (names w (key_of h.query))) (held s log)) (held s (Got u v ∷ log))
            (with_pairs (forgotten w f.keys.pairs) f.keys) (use_push s log u v pushed)
            (held_push s log u v pushed
            ∙ sym (filter_same_test (λ (h : CacheEntry). not (names w (key_of h.query)))
            (λ h. not (invalidates s.mode u v (key_of h.query))) (held s log)
            (λ h. same (key_of h.query))))
            (keeps_forgotten s.capacity (last_use s log) (held s log) f.keys k.keys_is w);
        ended_is = k.ended_is;
        broken_is = λ i. is_broken_notice (e i) || k.broken_is i;
        side_queued_is = k.side_queued_is ∙ sym (side_untaken_same s log (Got u v ∷ log) refl);
        side_replied_is = k.side_replied_is ∙ ap length (sym side);
        side_within = k.side_within;
        side_id_is = k.side_id_is
            ∙ sym (ap (λ vs. id_in (reply_in (id_number s.mode.proto) vs)) side);
        side_is = k.side_is;
      }

  -- ---- a reply on Main

  unanswered : (i : ℕ) → i < length f.pending → i + first_number s.mode ≡ f.replied + 1
      → (v : Value) → notice_of s.mode Main v ≡ Reply
      → answered v (get_or f.pending i Gone)
      ≡ pending_at s (Got Main v ∷ log) (i + first_number s.mode)
  unanswered i lt is v e =
      let n = i + first_number s.mode in
      let none : reply_in n (replies s.mode Main log) ≡ None
      = no_reply n (replies s.mode Main log) (omega (arith, k.replied_is)) in
      let here : reply_in n (v ∷ replies s.mode Main log) ≡ Some v
      = ap (λ b. cond b (Some v) (reply_in n (replies s.mode Main log)))
      (eq-eqb n (length (replies s.mode Main log) + 1) (omega (arith, k.replied_is))) in
      ap (answered v) (k.pending_is i lt)
      ∙ ap (λ o. answered v (cond (is_wanted s log n) (there o) Gone)) none
      ∙ now_there (is_wanted s log n) v
      ∙ ap (λ o. cond (is_wanted s log n) (there o) Gone)
      (sym (ap (reply_in n) (replies_reply s log v e) ∙ here))

  pending_other : (v : Value) (i : ℕ) → notice_of s.mode Main v ≡ Reply → i < length f.pending
      → (i + first_number s.mode ≡ f.replied + 1 → ⊥)
      → get_or f.pending i Gone ≡ pending_at s (Got Main v ∷ log) (i + first_number s.mode)
  pending_other v i e lt ne =
      let n = i + first_number s.mode in
      k.pending_is i lt
      ∙ ap (λ o. cond (is_wanted s log n) (there o) Gone)
      (sym (ap (reply_in n) (replies_reply s log v e)
      ∙ ap (λ b. cond b (Some v) (reply_in n (replies s.mode Main log)))
      (ne_eqb n (length (replies s.mode Main log) + 1)
      (λ same. ne (omega (arith, same, k.replied_is))))))

  length_settled : (v : Value) (number : ℕ)
      → length (settled s.mode number v f.pending) ≡ length f.pending
  length_settled v number =
      both_lengths (nat_lt (handshake_length s.mode) number) f.pending
      (number - first_number s.mode)
      (answered v (get_or f.pending (number - first_number s.mode) Gone))

  pending_settled : (v : Value) (number i : ℕ) → notice_of s.mode Main v ≡ Reply
      → number ≡ f.replied + 1
      → f.replied < length f.pending + handshake_length s.mode
      → i < length (settled s.mode number v f.pending)
      → get_or (settled s.mode number v f.pending) i Gone
      ≡ pending_at s (Got Main v ∷ log) (i + first_number s.mode)
  pending_settled v number i e is within lt =
      let h = handshake_length s.mode in
      let first = first_number s.mode in
      let here : i < length f.pending = omega (arith, length_settled v number) in
      elim (cases_lt h number) [
        | inl big ↦
            ap (λ b. get_or (cond b (set f.pending (number - first)
            (answered v (get_or f.pending (number - first) Gone))) f.pending) i Gone)
            (lt-ltb h number big)
            ∙ elim (cases_eq i (number - first)) [
              | inl at ↦
                  ap (λ j. get_or (set f.pending j (answered v (get_or f.pending j Gone))) i Gone)
                  (sym at)
                  ∙ get_or-set_same f.pending i (answered v (get_or f.pending i Gone)) Gone here
                  ∙ unanswered i here (omega (arith, big, at)) v e
              | inr ne ↦
                  get_or-set_other f.pending (number - first) i
                  (answered v (get_or f.pending (number - first) Gone)) Gone ne
                  ∙ pending_other v i e here (λ same. ne (omega arith))
            ]
        | inr small ↦
            ap (λ b. get_or (cond b (set f.pending (number - first)
            (answered v (get_or f.pending (number - first) Gone))) f.pending) i Gone)
            (le-ltb h number small)
            ∙ pending_other v i e here (λ same. omega (arith, same, small, is))
      ]

  owed_settled : (v : Value) (number : ℕ)
      → owed_in (settled s.mode number v f.pending) ≡ owed_in f.pending
  owed_settled v number =
      both_owed (nat_lt (handshake_length s.mode) number) f.pending
      (number - first_number s.mode) v

  abbrev front_for : ℕ → Option Written
  front_for number = cond (nat_lt (handshake_length s.mode) number) (slice_get f.named 0) None

  -- a fill's command names its key alone
  fill_names : (number : ℕ) → number ≡ length (replies s.mode Main log) + 1
      → number ≡ f.replied + 1 → (q : Words) → open_fetch s log number ≡ Some q → (w : Written)
      → front_for number ≡ Some w → (j : Key) → overtaken s log j ≡ bytes_eq j (key_of q)
  fill_names number next is q o w e j =
      ap (λ b. b && is_named (command_in s (sent s log) (length (replies s.mode Main log) + 1)) j)
      (front_pair s (sent s log) f.replied number f.named k.named_is is w e)
      ∙ ap (λ n. is_named (command_in s (sent s log) n) j) (sym next)
      ∙ k.fetches_are number q j o

  pub reflects_reply : (v : Value) (number : ℕ) → notice_of s.mode Main v ≡ Reply
      → nat_le (length (commands s Main log)) (length (replies s.mode Main log)) ≡ false
      → is_welcome s.mode Main (length (replies s.mode Main log) + 1) v ≡ true
      → number ≡ f.replied + 1
      → Reflects s (Got Main v ∷ log) (record f {
        replied = number;
        named = cond (nat_lt (handshake_length s.mode) number) (drop 1 f.named) f.named;
        pending = settled s.mode number v f.pending;
        marks = without_number number f.marks;
        keys = answered_keys (front_for number) (query_marked number f.marks) number v f.keys;
      })
  reflects_reply v number e awaited welcome is =
      let put = put_count s log in
      let short = handshake_within s.mode log in
      let fewer : f.replied < length (handshake s.mode Main log) + length (sent s log)
      = omega (
        arith,
        leb-false (length (commands s Main log)) (length (replies s.mode Main log)) awaited,
        k.replied_is,
        put,
      ) in
      let within : f.replied < numbers s log = omega (arith, fewer, short) in
      let next_is : number ≡ length (replies s.mode Main log) + 1 = omega (arith, k.replied_is) in
      let next_suc : number ≡ suc f.replied = omega arith in
      let o : Option Words = open_fetch s log (length (replies s.mode Main log) + 1) in
      let marked : query_marked number f.marks ≡ o =
      ap (query_marked number) k.marks_is
      ∙ marks_find (open_fetch s log) f.replied (numbers s log) number (omega arith)
      (omega arith) ∙ ap (open_fetch s log) next_is in
      record {
        queued_is = k.queued_is ∙ sym (untaken_same s log (Got Main v ∷ log) refl refl refl);
        replied_is = next_is
            ∙ (let g : length (replies s.mode Main log) + 1 ≡ length (v ∷ replies s.mode Main log) =
            omega arith in g) ∙ ap length (sym (replies_reply s log v e));
        replied_within = omega (arith, fewer);
        ready_is = ap (λ vs. is_accepted (reply_in (handshake_length s.mode) vs))
            (replies_reply s log v e)
            ∙ ready_next s.mode (replies s.mode Main log) v welcome
            (k.ready_is ∙ ap (nat_le (handshake_length s.mode)) k.replied_is)
            ∙ ap (nat_le (handshake_length s.mode)) (sym next_is);
        told_first = k.told_first;
        pending_count = length_settled v number ∙ k.pending_count;
        pending_is = λ i l. pending_settled v number i e is
            (omega (arith, k.pending_count, within)) l;
        unpolled = λ m l. k.unpolled m (omega arith);
        owed_is = k.owed_is ∙ sym (owed_settled v number);
        named_is = names_answered s (sent s log) f.replied number f.named k.named_is is;
        fetches_are = fetches_kept s log (Got Main v ∷ log) [] (sym (append-nil (sent s log)))
            (λ m q g. (unless_some
            (got_ends s (sent s log) (length (replies s.mode Main log)) Main v m)
            (open_fetch s log m) q g).0) k.fetches_are;
        marks_is =
            ap (without_number number) k.marks_is
            ∙ ap (λ m. without_number m (marks_by (open_fetch s log) f.replied (numbers s log)))
            next_suc
            ∙ sym (marks_next (open_fetch s log) f.replied (numbers s log))
            ∙ sym (marks_above (open_fetch s log) (open_fetch s (Got Main v ∷ log)) (suc f.replied)
            (numbers s log)
            (λ m lt. open_newer s log v e m (omega (arith, lt, k.replied_is))))
            ∙ ap (λ m. marks_by (open_fetch s (Got Main v ∷ log)) m (numbers s log)) (sym next_suc);
        keys_is =
            subst (Keeps s.capacity (last_use s (Got Main v ∷ log)) (held s (Got Main v ∷ log)))
            (λ i. answered_keys (front_for number) (sym marked i) number v f.keys)
            (keeps_same s.capacity (λ j. used_at o j (length log + 1) (last_use s log j))
            (last_use s (Got Main v ∷ log))
            (replied_to s.capacity (last_use s log) o (length (replies s.mode Main log) + 1) v
            (overtaken s log) (held s log)) (held s (Got Main v ∷ log))
            (answered_keys (front_for number) o number v f.keys)
            (use_reply s log v e o refl) (held_reply s log v e o refl)
            (subst (λ n. Keeps s.capacity (λ j. used_at o j (length log + 1) (last_use s log j))
            (replied_to s.capacity (last_use s log) o n v (overtaken s log) (held s log))
            (answered_keys (front_for number) o number v f.keys)) next_is
            (keeps_replied s.capacity (last_use s log) (held s log) f.keys k.keys_is
            (length log + 1) (used_before s log) (front_for number) o number v (overtaken s log)
            (subst (λ n. NamedAs (front_for number)
            (λ j. may_overtake Reply Main s.mode.shape && is_named (command_in s (sent s log) n) j))
            next_is
            (front_named s (sent s log) f.replied number f.named k.named_is is))
            (λ q some w there_. fill_names number next_is is q
            (ap (open_fetch s log) next_is ∙ some) w there_))));
        ended_is = k.ended_is;
        broken_is = k.broken_is ∙ (λ i. is_broken_notice (sym e i) || is_broken s.mode log);
        side_queued_is = k.side_queued_is ∙ sym (side_untaken_same s log (Got Main v ∷ log) refl);
        side_replied_is = k.side_replied_is;
        side_within = k.side_within;
        side_id_is = k.side_id_is;
        side_is = k.side_is;
      }

  -- ---- a reply on Side

  pub reflects_side : (v : Value) (number : ℕ) (id bytes : List ℕ)
      → notice_of s.mode Side v ≡ Reply
      → nat_le (length (commands s Side log)) (length (replies s.mode Side log)) ≡ false
      → number ≡ f.side.replied + 1 → id ≡ id_after s.mode.proto number v f.side.id
      → bytes ≡ tracking_behind s.mode number id
      → Reflects s (Got Side v ∷ log) (record f {
        queued = f.queued ++ bytes;
        side = record { queued = f.side.queued; replied = number; id = id; ended = f.side.ended };
      })
  reflects_side v number id bytes e awaited is id_is bytes_are =
      let fewer : f.side.replied < length (steps s.mode Side)
      = omega (
        arith,
        leb-false (length (commands s Side log)) (length (replies s.mode Side log)) awaited,
        k.side_replied_is,
        side_put_count s log,
      ) in
      let two = side_two s.mode.shape s.mode.proto (omega (arith, fewer)) in
      let untold : is_told s.mode log ≡ false
      = lt-leb (length (steps s.mode Side)) (length (replies s.mode Side log))
      (omega (arith, fewer, k.side_replied_is)) in
      let none : sent s log ≡ [] = elim k.told_first [
        | inl told ↦ absurd (let no : true ≡ false = sym told ∙ untold in cc)
        | inr none ↦ none
      ] in
      let next_is : number ≡ length (replies s.mode Side log) + 1
      = omega (arith, k.side_replied_is) in
      let told_is : is_told s.mode (Got Side v ∷ log) ≡ (number == 2) =
      ap (λ vs. nat_le (length (steps s.mode Side)) (length vs)) (replies_side s log v e)
      ∙ ap (nat_le (length (steps s.mode Side)))
      (let g : length (v ∷ replies s.mode Side log) ≡ length (replies s.mode Side log) + 1 =
      omega arith in g)
      ∙ both_told (length (steps s.mode Side)) number (length (replies s.mode Side log) + 1)
      two.1 (omega (arith, fewer, two.1, is)) next_is in
      let id_now : told_id s.mode (Got Side v ∷ log) ≡ id =
      ap (λ vs. id_in (reply_in (id_number s.mode.proto) vs)) (replies_side s log v e)
      ∙ id_cond (id_number s.mode.proto == length (replies s.mode Side log) + 1) v
      (reply_in (id_number s.mode.proto) (replies s.mode Side log))
      ∙ (λ i. cond (id_number s.mode.proto == sym next_is i) (id_in (Some v))
      (sym k.side_id_is i)) ∙ sym id_is in
      record {
        queued_is =
            ap (λ b. f.queued ++ b)
            (bytes_are ∙ behind_put s.mode (number == 2) id two.0
            ∙ (λ i. flat_map request_spelling
            (put_tracking s.mode.shape s.mode (sym told_is i) (sym id_now i))))
            ∙ ap (λ l. l ++ flat_map request_spelling
            (put_tracking s.mode.shape s.mode (is_told s.mode (Got Side v ∷ log))
            (told_id s.mode (Got Side v ∷ log)))) k.queued_is
            ∙ sym (untaken_told s log (Got Side v ∷ log) untold none none refl);
        replied_is = k.replied_is;
        replied_within =
            let w = k.replied_within in
            let more = handshake_longer s.mode (Got Side v) log in
            omega arith;
        ready_is = k.ready_is;
        told_first = inr none;
        pending_count = k.pending_count;
        pending_is = k.pending_is;
        unpolled = k.unpolled;
        owed_is = k.owed_is;
        named_is = k.named_is;
        fetches_are = fetches_kept s log (Got Side v ∷ log) [] (sym (append-nil (sent s log)))
            (λ m q g. sym (open_side s log v e m) ∙ g) k.fetches_are;
        marks_is = k.marks_is
            ∙ sym (marks_same (open_fetch s log) (open_fetch s (Got Side v ∷ log)) f.replied
            (numbers s log) (λ m le. open_side s log v e m));
        keys_is = keeps_same s.capacity (last_use s log) (last_use s (Got Side v ∷ log))
            (held s log) (held s (Got Side v ∷ log)) f.keys (use_side s log v e)
            (held_side s log v e) k.keys_is;
        ended_is = k.ended_is;
        broken_is = k.broken_is ∙ (λ i. is_broken_notice (sym e i) || is_broken s.mode log);
        side_queued_is = k.side_queued_is ∙ sym (side_untaken_same s log (Got Side v ∷ log) refl);
        side_replied_is = next_is
            ∙ (let g : length (replies s.mode Side log) + 1 ≡ length (v ∷ replies s.mode Side log) =
            omega arith in g) ∙ ap length (sym (replies_side s log v e));
        side_within = omega (arith, fewer);
        side_id_is = sym id_now;
        side_is = k.side_is;
      }
