-- What was sent to a connection, by its places and by the numbers of its entries.
use Rattle.std.proofs.Common.{◌≡◌, ◌+◌, ◌<◌, ◌≤◌, ℕ, zero, suc, List, [], ◌∷◌, ◌++◌, length, true}
use Rattle.std.proofs.Common.{false, cond, refl, ap, sym, ◌∙◌, arith, Some, ◌⊎◌, inl, inr}
use Rattle.std.proofs.Common.{append_assoc, append-nil, Bool}
use Rattle.std.specs.Prelude.{slice_get, ◌==◌, Option}
use Rattle.std.proofs.lemmas.Option.{slice_get_within}
use Rattle.resp_value.specs.Lists.{IsPrefix}
use Rattle.resp_value.specs.declared.value.Proto.{Proto}
use Rattle.resp_value.specs.declared.value.Proto.TheVariants.{Three}
use Rattle.track_modes.specs.ModeState.{ModeState}
use Rattle.serial_model.specs.declared.history.Limits.{Limits}
use Rattle.serial_model.specs.declared.history.Entry.{Entry}
use Rattle.serial_model.specs.Tracking.{Invalidation, push_of, names_key}
use Rattle.serial_model.specs.Actions.{Sending, Message, End, routed, way}
use Rattle.serial_model.specs.History.{sends, sent_to, sent, state}
use Rattle.serial_model.specs.Laws.{IsToldAmong, has_end, telling}
use Rattle.currency.proofs.Lists.{get_front, get_behind, get_middle, get_parts, Behind}
use Rattle.currency.proofs.Lists.{get_given}
use Rattle.currency.proofs.Runs.{Older}

module _ (c : ℕ) where
  -- ---- the sendings of one entry

  first : (n : ℕ) (x : Sending) (ss : List (ℕ × Sending)) (i : ℕ) (s : ℕ × Sending)
      → ((j : ℕ) → slice_get (sent_to n c ss) j ≡ Some s → s.0 ≡ n)
      → slice_get ((n, x) ∷ sent_to n c ss) i ≡ Some s → s.0 ≡ n
  first n h ss i s rest e = grind arith

  number_of : (n : ℕ) (ss : List (ℕ × Sending)) (i : ℕ) (s : ℕ × Sending)
      → slice_get (sent_to n c ss) i ≡ Some s → s.0 ≡ n
  number_of n [] i s e = cc
  number_of n (x ∷ ss) i s e =
      elim (x.0 == c) as (λ b. slice_get (cond b ((n, x.1) ∷ sent_to n c ss) (sent_to n c ss)) i
      ≡ Some s → s.0 ≡ n) [
        | true ↦ λ e. first n x.1 ss i s (λ j h. number_of n ss j s h) e
        | false ↦ λ e. number_of n ss i s e
      ] e

  pub is_sent_to : (n : ℕ) (ss : List (ℕ × Sending)) (k : ℕ) (x : ℕ × Sending)
      → slice_get ss k ≡ Some x → (x.0 == c) ≡ true
      → (j : ℕ) × (slice_get (sent_to n c ss) j ≡ Some (n, x.1))
  is_sent_to n [] k h e own = cc
  is_sent_to n (y ∷ ss) zero x e own = grind arith
  is_sent_to n (y ∷ ss) (suc k) x e own =
      let r = is_sent_to n ss k x e own in
      elim (y.0 == c) as (λ b. (j : ℕ)
      × (slice_get (cond b ((n, y.1) ∷ sent_to n c ss) (sent_to n c ss)) j ≡ Some (n, x.1))) [
        | true ↦ (suc r.0, r.1)
        | false ↦ r
      ]

  module _ (l : Limits) where
    pub sent_le : (past : List Entry) (i : ℕ) (s : ℕ × Sending)
        → slice_get (sent l c past) i ≡ Some s → s.0 ≤ length past
    sent_le [] i s e = cc
    sent_le (x ∷ past) i s e =
        elim (get_parts (sent l c past)
        (sent_to (length past + 1) c (sends l x (state l past))) i s e) [
          | inl h ↦ let r = sent_le past i s h in omega (arith, r)
          | inr b ↦ grind (arith, number_of)
        ]

    by_parts : (x : Entry) (past : List Entry) (i j : ℕ) (s t : ℕ × Sending) → i ≤ j
        → (slice_get (sent l c past) i ≡ Some s → slice_get (sent l c past) j ≡ Some t
        → s.0 ≤ t.0)
        → (slice_get (sent l c past) i ≡ Some s)
        ⊎ Behind (sent l c past) (sent_to (length past + 1) c (sends l x (state l past))) i s
        → (slice_get (sent l c past) j ≡ Some t)
        ⊎ Behind (sent l c past) (sent_to (length past + 1) c (sends l x (state l past))) j t
        → s.0 ≤ t.0
    by_parts e past i j s t le before h is = grind (arith, sent_le, number_of, slice_get_within)

    pub sent_pos : (past : List Entry) (i : ℕ) (s : ℕ × Sending)
        → slice_get (sent l c past) i ≡ Some s → 0 < s.0
    sent_pos [] i s e = cc
    sent_pos (x ∷ past) i s e =
        elim (get_parts (sent l c past)
        (sent_to (length past + 1) c (sends l x (state l past))) i s e) [
          | inl h ↦ sent_pos past i s h
          | inr b ↦ grind (arith, number_of)
        ]

    -- what was sent later was sent at a later entry, or at the same
    pub sent_order : (past : List Entry) (i j : ℕ) (s t : ℕ × Sending) → i ≤ j
        → slice_get (sent l c past) i ≡ Some s → slice_get (sent l c past) j ≡ Some t → s.0 ≤ t.0
    sent_order [] i j s t le e f = cc
    sent_order (x ∷ past) i j s t le e f =
        by_parts x past i j s t le (λ h g. sent_order past i j s t le h g)
        (get_parts (sent l c past) (sent_to (length past + 1) c (sends l x (state l past))) i s e)
        (get_parts (sent l c past) (sent_to (length past + 1) c (sends l x (state l past))) j t f)

    pub sent_more : (newer up : List Entry) → IsPrefix (sent l c up) (sent l c (newer ++ up))
    sent_more [] up = ([], append-nil (sent l c up))
    sent_more (x ∷ newer) up =
        let r = sent_more newer up in
        let new = sent_to (length (newer ++ up) + 1) c (sends l x (state l (newer ++ up))) in (
          r.0 ++ new,
          sym (append_assoc (sent l c up) r.0 new) ∙ ap (λ ss. ss ++ new) r.1,
        )

    -- a place in what was sent up to an older entry is a place in all
    pub sent_older : (up past : List Entry) → Older up past → (i : ℕ) (s : ℕ × Sending)
        → slice_get (sent l c up) i ≡ Some s → slice_get (sent l c past) i ≡ Some s
    sent_older up past o i s e =
        let m = sent_more o.newer up in
        grind (arith, get_front)

    -- ---- invalidations

    -- an invalidation of the key that was sent, in the form of this protocol
    pub record Told (proto : Proto) (past : List Entry) (n : ℕ) (key : List ℕ) : Type 0 where
      pub place : ℕ
      pub keys : Option (List (List ℕ))
      pub there : slice_get (sent l c past) place ≡ Some (n, telling proto keys)
      pub names : names_key keys key ≡ true

    -- whom a group tells directly is sent a push
    pub routed_at : (modes : ℕ → ModeState) (on : ℕ → Bool) (told : List Invalidation) (k : ℕ)
        (i : Invalidation) → slice_get told k ≡ Some i
        → way modes on i ≡ (i.to, Message Three (push_of i.keys)) ∷ []
        → (n : ℕ)
        × (slice_get (routed modes on told) n ≡ Some (i.to, Message Three (push_of i.keys)))
    routed_at modes on told k i e direct =
        get_given (way modes on) told k i (i.to, Message Three (push_of i.keys)) 0 e
        (ap (λ ss. slice_get ss 0) direct)

    -- what an entry sends it of a key has a place among all that was sent
    pub lands : (proto : Proto) (x : Entry) (up : List Entry) (key : List ℕ)
        → IsToldAmong proto key (length up + 1) (sent_to (length up + 1) c (sends l x (state l up)))
        → Told proto (x ∷ up) (length up + 1) key
    lands proto x up key h =
        let n = length up + 1 in
        let message : ℕ × Sending = (n, telling proto h.keys) in
        record {
          place = length (sent l c up) + length h.before;
          keys = h.keys;
          there =
              get_behind (sent l c up) (sent_to n c (sends l x (state l up))) (length h.before)
              message
              (ap (λ ss. slice_get ss (length h.before)) h.is
              ∙ get_middle h.before message h.behind);
          names = h.named;
        }

    -- an end that was sent has a place
    pub end_place : (ss : List (ℕ × Sending)) → has_end ss ≡ true
        → (i n : ℕ) × (slice_get ss i ≡ Some (n, End))
    end_place [] h = absurd (let no : ⊥ = cc in no)
    end_place ((n, Message p v) ∷ ss) h = let r = end_place ss h in (suc r.0, r.1, r.2)
    end_place ((n, End) ∷ ss) h = (0, n, refl)
