-- Where in the history a client's answers stand: by the entries of its commands, from the last on.
use Rattle.std.proofs.Common.{◌≡◌, ◌+◌, ◌-◌, ◌<◌, ◌≤◌, ℕ, zero, suc, List, [], ◌∷◌, length}
use Rattle.std.proofs.Common.{Bool, true, false, cond, drop, take, map, max, refl, ap}
use Rattle.std.proofs.Common.{◌∙◌, arith, Some, None}
use Rattle.std.specs.Prelude.{slice_get}
use Rattle.serial_model.specs.declared.history.Limits.{Limits}
use Rattle.serial_model.specs.declared.history.Entry.{Entry}
use Rattle.serial_model.specs.History.{Sending, run_entries, runs_of, sent}
use Rattle.shared_cache.specs.declared.log.LogEntry.{LogEntry}
use Rattle.shared_cache.specs.declared.log.Shape.TheVariants.{Single}
use Rattle.shared_cache.specs.declared.log.Wire.{Wire}
use Rattle.shared_cache.specs.declared.log.Wire.TheVariants.{Main}
use Rattle.shared_cache.specs.Log.{is_ended}
use Rattle.shared_cache.specs.Laws.{gots}
use Rattle.currency.specs.Links.{Client}
use Rattle.currency.specs.Points.{before_first, complete, complete_on, last_named, names_key}
use Rattle.currency.proofs.Runs.{in_order, ran_at as run_at}
use Rattle.server_links.specs.Notes.{sent_entries}

-- ---- how far a client has processed

first_some : (n : ℕ) (ss : List (ℕ × Sending)) (e all : ℕ)
    → slice_get (map (λ (s : ℕ × Sending). s.0) ss) n ≡ Some e
    → before_first (drop n ss) all ≡ e - 1
first_some zero (s ∷ ss) e all h = let same : s.0 ≡ e = cc in ap (λ n. n - 1) same
first_some (suc n) (s ∷ ss) e all h = first_some n ss e all h
first_some n [] e all h = absurd (let no : ⊥ = cc in no)

first_none : (n : ℕ) (ss : List (ℕ × Sending)) (all : ℕ)
    → slice_get (map (λ (s : ℕ × Sending). s.0) ss) n ≡ None
    → before_first (drop n ss) all ≡ all
first_none zero [] all h = refl
first_none zero (s ∷ ss) all h = absurd (let no : ⊥ = cc in no)
first_none (suc n) [] all h = refl
first_none (suc n) (s ∷ ss) all h = first_none n ss all h

module _ (l : Limits) (x : Client) (w : Wire) (past : List Entry) (log : List LogEntry) where
  going : is_ended x.setup.mode w log ≡ false
      → complete_on l x w past log
      ≡ before_first (drop (length (gots w log)) (sent l (x.id w) past)) (length past)
  going e = grind arith

  pub complete_some : is_ended x.setup.mode w log ≡ false → (n e : ℕ)
      → n ≡ length (gots w log)
      → slice_get (sent_entries l (x.id w) past) n ≡ Some e → e - 1 ≡ complete_on l x w past log
  complete_some on n e is h = grind (arith, going, first_some)

  pub complete_none : is_ended x.setup.mode w log ≡ false → (n : ℕ)
      → n ≡ length (gots w log)
      → slice_get (sent_entries l (x.id w) past) n ≡ None
      → length past ≡ complete_on l x w past log
  complete_none on n is h = grind (arith, going, first_none)

-- the least over its one link
pub complete_single : (l : Limits) (x : Client) (past : List Entry) (log : List LogEntry)
    → x.setup.mode.shape ≡ Single → complete_on l x Main past log ≡ complete l x past log
complete_single l x past log is = grind arith

-- ---- the last entry that names a key

module _ (key : List ℕ) where
  at_none : (k : ℕ) (ws : List (List (List ℕ))) (es : List ℕ) → slice_get es k ≡ None
      → last_named key (take (suc k) ws) es ≡ last_named key (take k ws) es
  at_none zero [] es e = refl
  at_none zero (w ∷ ws) [] e = refl
  at_none zero (w ∷ ws) (r ∷ es) e = absurd (let no : ⊥ = cc in no)
  at_none (suc k) [] es e = refl
  at_none (suc k) (w ∷ ws) [] e = refl
  at_none (suc k) (w ∷ ws) (r ∷ es) e = grind (arith, at_none k ws es e)

  swapped : (x : ℕ) → max x 0 ≡ max 0 x
  swapped e = omega arith

  together : (x y z : ℕ) → max x (max y z) ≡ max (max x y) z
  together e y z = omega arith

  at_some : (k : ℕ) (ws : List (List (List ℕ))) (es : List ℕ) (w : List (List ℕ)) (e : ℕ)
      → slice_get ws k ≡ Some w → slice_get es k ≡ Some e
      → last_named key (take (suc k) ws) es
      ≡ max (last_named key (take k ws) es) (cond (names_key w key) e 0)
  at_some zero (v ∷ ws) (r ∷ es) w e a b =
      let same : v ≡ w = cc in
      let there : r ≡ e = cc in
      grind (arith, swapped, max, there)
  at_some (suc k) (v ∷ ws) (r ∷ es) w e a b =
      let x = cond (names_key v key) r 0 in
      ap (max x) (at_some k ws es w e a b)
      ∙ together x (last_named key (take k ws) es) (cond (names_key w key) e 0)
  at_some k [] es w e a b = absurd (let no : ⊥ = cc in no)
  at_some k (v ∷ ws) [] w e a b = absurd (let no : ⊥ = cc in no)

  picked : (b : Bool) (r e : ℕ) → r ≤ e → cond b r 0 ≤ e
  picked b r e le = grind arith

  bound : (k : ℕ) (ws : List (List (List ℕ))) (es : List ℕ) (e : ℕ)
      → ((i p : ℕ) → i < k → slice_get es i ≡ Some p → p ≤ e)
      → last_named key (take k ws) es ≤ e
  bound zero ws es e h = omega arith
  bound (suc k) [] es e h = omega arith
  bound (suc k) (w ∷ ws) [] e h = omega arith
  bound (suc k) (w ∷ ws) (r ∷ es) e h =
      let first = picked (names_key w key) r e (h 0 r (omega arith) refl) in
      let rest = bound k ws es e (λ i p lt g. h (suc i) p (omega (arith, lt)) g) in
      omega (arith, first, rest)

-- up to so many commands
abbrev pub named_to : ℕ → List Entry → List ℕ → ℕ → ℕ
named_to id past key n = last_named key (take n (runs_of id past)) (run_entries id past)

module _ (id : ℕ) (past : List Entry) where
  -- the command that ran there
  pub there : (place p : ℕ) → slice_get (run_entries id past) place ≡ Some p
      → (words : List (List ℕ)) × (slice_get (runs_of id past) place ≡ Some words)
  there place p e = let r = run_at id past place p e in (r.words, r.words_are)

  module _ (key : List ℕ) (k m : ℕ) (next : m ≡ k + 1) where
    up : m ≡ suc k
    up = omega (arith, next)

    pub without : slice_get (run_entries id past) k ≡ None
        → named_to id past key m ≡ named_to id past key k
    without none = grind (arith, up, at_none)

    module _ (e : ℕ) (is : slice_get (run_entries id past) k ≡ Some e) where
      pub at_most : named_to id past key k ≤ e
      at_most = grind (arith, bound, in_order)

      pub grown : (ws : List (List ℕ)) → slice_get (runs_of id past) k ≡ Some ws
          → named_to id past key m
          ≡ max (named_to id past key k) (cond (names_key ws key) e 0)
      grown ws ran = grind (arith, up, at_some)

      pub named_within : named_to id past key m ≤ e
      named_within =
          let t = there k e is in
          let g = grown t.0 t.1 in
          grind (arith, picked, at_most)

      pub named_here : (ws : List (List ℕ)) → slice_get (runs_of id past) k ≡ Some ws
          → names_key ws key ≡ true → named_to id past key m ≡ e
      named_here ws ran names =
          let g = grown ws ran ∙ ap (λ b. max (named_to id past key k) (cond b e 0)) names in
          omega (arith, g, at_most)

      pub not_named : (ws : List (List ℕ)) → slice_get (runs_of id past) k ≡ Some ws
          → names_key ws key ≡ false → named_to id past key m ≡ named_to id past key k
      not_named ws ran names =
          let g = grown ws ran ∙ ap (λ b. max (named_to id past key k) (cond b e 0)) names in
          omega (arith, g)
