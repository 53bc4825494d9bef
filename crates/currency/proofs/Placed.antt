-- The reply of a place, and the Run that it replies to.
use Rattle.std.proofs.Common.{◌≡◌, ◌+◌, ◌-◌, ◌<◌, ℕ, List, [], ◌∷◌, ◌++◌, length, true, false, cond}
use Rattle.std.proofs.Common.{refl, ap, ◌∙◌, arith, Some, inl, inr, reverse}
use Rattle.std.specs.Prelude.{slice_get, ◌==◌}
use Rattle.std.proofs.lemmas.Bool.{eqb-true}
use Rattle.std.proofs.lemmas.List.{reverse-append, length-reverse}
use Rattle.std.proofs.lemmas.Grind.{common_steps}
use Rattle.resp_value.specs.declared.value.Value.{Value}
use Rattle.serial_model.specs.declared.history.Limits.{Limits}
use Rattle.serial_model.specs.declared.history.Entry.{Entry}
use Rattle.serial_model.specs.declared.history.Entry.TheVariants.{Run}
use Rattle.serial_model.specs.History.{Sending, run_entries}
use Rattle.shared_cache.specs.Log.{reply_in}
use Rattle.currency.proofs.Lists.{get_parts, get_one, get_last, get_front}
use Rattle.currency.proofs.Runs.{Older, older_all}
use Rattle.currency.proofs.Replies.{replies_of, reply_to}

module _ (l : Limits) (c : ℕ) where
  pub record Placed (past : List Entry) (place : ℕ) (s : ℕ × Sending) : Type 0 where
    pub id : ℕ
    pub words : List (List ℕ)
    pub moment : ℕ
    pub up : List Entry
    pub own : (id == c) ≡ true
    pub older : Older (Run id words moment ∷ up) past
    pub number : s.0 ≡ length up + 1
    pub reply : s.1 ≡ reply_to l up id words moment
    pub entry : slice_get (run_entries c past) place ≡ Some (length up + 1)

  replies_count : (past : List Entry) → length (replies_of l c past) ≡ length (run_entries c past)
  unfolding replies_of
  replies_count [] = refl
  replies_count (Run id words moment ∷ past) = grind (arith, common_steps, replies_count past)
  replies_count (e ∷ past) = replies_count past

  newer_placed : (e : Entry) (past : List Entry) (place : ℕ) (s : ℕ × Sending)
      → ((n : ℕ) → slice_get (run_entries c past) place ≡ Some n
      → slice_get (run_entries c (e ∷ past)) place ≡ Some n)
      → Placed past place s → Placed (e ∷ past) place s
  newer_placed e past place s grown r = record {
    id = r.id;
    words = r.words;
    moment = r.moment;
    up = r.up;
    own = r.own;
    older = record { newer = e ∷ r.older.newer; is = ap (λ l. e ∷ l) r.older.is };
    number = r.number;
    reply = r.reply;
    entry = grown (length r.up + 1) r.entry;
  }

  pub reply_at : (past : List Entry) (place : ℕ) (s : ℕ × Sending)
      → slice_get (replies_of l c past) place ≡ Some s → Placed past place s
  unfolding replies_of
  reply_at [] place s e = cc
  reply_at (Run id words moment ∷ past) place s e =
      let x = Run id words moment in
      let y : ℕ × Sending = (length past + 1, reply_to l past id words moment) in
      elim (id == c) as (λ b. (id == c) ≡ b
      → slice_get (cond b (replies_of l c past ++ y ∷ []) (replies_of l c past)) place ≡ Some s
      → Placed (x ∷ past) place s) [
        | true ↦ λ own e.
            let grown : (k n : ℕ) → slice_get (run_entries c past ++ (length past + 1) ∷ []) k
            ≡ Some n
            → slice_get (run_entries c (x ∷ past)) k ≡ Some n = grind arith in
            elim (get_parts (replies_of l c past) (y ∷ []) place s e) [
              | inl h ↦
                  newer_placed x past place s
                  (grind (arith, get_front))
                  (reply_at past place s h)
              | inr b ↦
                  let o = get_one y b.at s b.there in
                  let n : length (run_entries c past) ≡ place =
                  omega (arith, b.is, o.0, replies_count past) in grind (arith, older_all, get_last)
            ]
        | false ↦ λ own e.
            newer_placed x past place s
            (grind arith)
            (reply_at past place s e)
      ] refl e
  reply_at (x ∷ past) place s e = newer_placed x past place s (λ n h. h) (reply_at past place s e)

-- ---- replies by number

pub reply_place : (n : ℕ) (vs : List Value) (v : Value) → reply_in n vs ≡ Some v
    → (0 < n) × (slice_get (reverse vs) (n - 1) ≡ Some v)
reply_place n [] v e = absurd (let no : ⊥ = cc in no)
reply_place n (u ∷ vs) v e =
    elim (n == length vs + 1) as (λ b. (n == length vs + 1) ≡ b
    → cond b (Some u) (reply_in n vs) ≡ Some v
    → (0 < n) × (slice_get (reverse (u ∷ vs)) (n - 1) ≡ Some v)) [
      | true ↦ λ h e.
          let same : u ≡ v = cc in
          let at : n ≡ length vs + 1 = eqb-true n (length vs + 1) h in (
            omega (arith, at),
            ap (slice_get (reverse (u ∷ vs)))
                (let k : n - 1 ≡ length (reverse vs) = omega (arith, at, length-reverse vs) in k)
                ∙ ap (λ l. slice_get l (length (reverse vs))) (reverse-append (u ∷ []) vs)
                ∙ get_last (reverse vs) u ∙ ap Some same,
          )
      | false ↦ λ h e.
          let r = reply_place n vs v e in (
            r.0,
            ap (λ l. slice_get l (n - 1)) (reverse-append (u ∷ []) vs)
                ∙ get_front (reverse vs) (u ∷ []) (n - 1) v r.1,
          )
    ] refl e
