-- What is sent where several are told, one after another.
use Rattle.std.proofs.Common.{◌≡◌, ◌∙◌, ℕ, List, [], ◌∷◌, ◌++◌, refl, sym, ap, map, append_assoc}
use Rattle.std.proofs.Common.{append-nil, arith, Option, Some, None, true, false, cond, ◌<◌, ◌≤◌}
use Rattle.std.proofs.Common.{◌+◌, length, drop, get_or, add-one, drop-cons}
use Rattle.std.proofs.Math.ListN.{drop_of_length-le}
use Rattle.std.specs.Prelude.{filter, not, option_map}
use Rattle.std.proofs.lemmas.Grind.{flat_map-append}
use Rattle.std.proofs.lemmas.List.{map-append}
use Rattle.std.proofs.lemmas.List.Elements.{filter-append}
use Rattle.redirect.specs.declared.routes.Route.{Route}
use Rattle.redirect.specs.declared.routes.Route.TheVariants as route
use Rattle.redirect.specs.Messages.{message_of, notice_of, push_of}
use Rattle.resp_value.specs.declared.value.Proto.TheVariants.{Two, Three}
use Rattle.resp_value.specs.declared.value.Value.{Value}
use Rattle.serial_model.specs.Actions.{Sending, Message, carried, route_at, routed, to_one, way}
use Rattle.serial_model.specs.Tracking.{Invalidation, told_to}
use Rattle.track_modes.specs.ModeState.{redirect_of}
use Rattle.past_effects.specs.declared.sendings.Sent.{Sent}
use Rattle.past_effects.specs.Seen.{Seen, mode_at, on_at, passes, unpassed}
use Rattle.past_effects.specs.Sendings.{outline, outlines, told_sent}

pub outlines-append : (cs : List Seen) (xs ys : List (ℕ × Sending))
    → outlines cs (xs ++ ys) ≡ outlines cs xs ++ outlines cs ys
unfolding outlines
outlines-append cs xs ys =
    ap (map outline) (filter-append (λ (s : ℕ × Sending). on_at cs s.0) xs ys)
    ∙ map-append outline (filter (λ (s : ℕ × Sending). on_at cs s.0) xs)
    (filter (λ (s : ℕ × Sending). on_at cs s.0) ys)

pub told-append : (cs : List Seen) (xs ys : List Invalidation)
    → told_sent cs (xs ++ ys) ≡ told_sent cs xs ++ told_sent cs ys
unfolding told_sent
told-append cs xs ys =
    ap (outlines cs) (flat_map-append (way (mode_at cs) (on_at cs)) xs ys)
    ∙ outlines-append cs (routed (mode_at cs) (on_at cs) xs) (routed (mode_at cs) (on_at cs) ys)

-- where nobody is told, or nothing is sent, nothing is
pub no_outlines : (cs : List Seen) → outlines cs [] ≡ []
unfolding outlines
no_outlines cs = refl

pub told_nobody : (cs : List Seen) → told_sent cs [] ≡ []
unfolding told_sent outlines
told_nobody cs = refl

pub told_none : (cs : List Seen) (now : List Sent) → now ++ told_sent cs [] ≡ now
told_none cs now = ap (λ l. now ++ l) (told_nobody cs) ∙ append-nil now

-- the first of those that are left have been told
pub told_first : (cs : List Seen) (first rest : List Invalidation) (now next all : List Sent)
    → now ++ told_sent cs (first ++ rest) ≡ all → next ≡ now ++ told_sent cs first
    → next ++ told_sent cs rest ≡ all
told_first cs first rest now next all left told =
    ap (λ l. l ++ told_sent cs rest) told
    ∙ append_assoc now (told_sent cs first) (told_sent cs rest)
    ∙ ap (λ l. now ++ l) (sym (told-append cs first rest))
    ∙ left

pub unpassed_first : (cs : List Seen) (passed : Option ℕ) (first rest : List Invalidation)
    (now next all : List Sent)
    → now ++ told_sent cs (unpassed passed (first ++ rest)) ≡ all
    → next ≡ now ++ told_sent cs (unpassed passed first)
    → next ++ told_sent cs (unpassed passed rest) ≡ all
unpassed_first cs passed first rest now next all left told =
    told_first cs (unpassed passed first) (unpassed passed rest) now next all
    (ap (λ l. now ++ told_sent cs l)
    (sym (filter-append (λ (i : Invalidation). not (passes passed i.to)) first rest)) ∙ left)
    told

-- both groups, one after another
pub unpassed_both : (cs : List Seen) (passed : Option ℕ) (xs ys : List Invalidation)
    (old mid new : List Sent)
    → mid ≡ old ++ told_sent cs (unpassed passed xs)
    → new ≡ mid ++ told_sent cs (unpassed passed ys)
    → new ≡ old ++ told_sent cs (unpassed passed (xs ++ ys))
unpassed_both cs passed xs ys old mid new one two =
    two
    ∙ unpassed_first cs passed xs ys old mid (old ++ told_sent cs (unpassed passed (xs ++ ys)))
    refl one

-- a connection that is passed over is told nothing, another what it is told
pub passed_one : (cs : List Seen) (passed : Option ℕ) (keys : Option (List (List ℕ))) (id : ℕ)
    (now : List Sent) → passes passed id ≡ true
    → now ≡ now ++ told_sent cs (unpassed passed (told_to keys (id ∷ [])))
passed_one cs passed keys id now e =
    sym (ap (λ b. now ++ told_sent cs (cond (not b) (told_to keys (id ∷ [])) [])) e
    ∙ told_none cs now)

pub unpassed_one : (passed : Option ℕ) (keys : Option (List (List ℕ))) (id : ℕ)
    → passes passed id ≡ false
    → unpassed passed (told_to keys (id ∷ [])) ≡ told_to keys (id ∷ [])
unpassed_one passed keys id e =
    ap (λ b. cond (not b) (told_to keys (id ∷ [])) []) e

-- ---- what goes by each way

module _ (cs : List Seen) (id : ℕ) (keys : Option (List (List ℕ))) where
  abbrev goes : Route → List (ℕ × Sending)
  goes at = carried at (redirect_of (mode_at cs id).tracking) keys

  told_by : (r : Route) → r ≡ route_at (mode_at cs) (on_at cs) id
      → outlines cs (goes r) ≡ told_sent cs (told_to keys (id ∷ []))
  unfolding told_sent
  told_by r e = ap (λ x. outlines cs (goes x)) e ∙ ap (outlines cs) (sym (append-nil
      (way (mode_at cs) (on_at cs) (record { to = id; keys = keys }))))

  pub by_push : (to : ℕ) (value : Value) → Some value ≡ Some (push_of keys)
      → route.Push to ≡ route_at (mode_at cs) (on_at cs) id
      → outlines cs ((to, Message Three value) ∷ []) ≡ told_sent cs (told_to keys (id ∷ []))
  by_push to value is e =
      ap (λ v. outlines cs (to_one to Three v)) is ∙ told_by (route.Push to) e

  pub by_message : (to : ℕ) (value : Value) → Some value ≡ Some (message_of keys)
      → route.Message to ≡ route_at (mode_at cs) (on_at cs) id
      → outlines cs ((to, Message Two value) ∷ []) ≡ told_sent cs (told_to keys (id ∷ []))
  by_message to value is e =
      ap (λ v. outlines cs (to_one to Two v)) is ∙ told_by (route.Message to) e

  pub by_notice : (to target : ℕ) (value : Value) → value ≡ notice_of target
      → Some target ≡ redirect_of (mode_at cs id).tracking
      → route.BrokenNotice to ≡ route_at (mode_at cs) (on_at cs) id
      → outlines cs ((to, Message Three value) ∷ []) ≡ told_sent cs (told_to keys (id ∷ []))
  by_notice to target value is has e =
      ap (λ v. outlines cs ((to, Message Three v) ∷ [])) is
      ∙ ap (λ t. outlines cs (to_one to Three (option_map notice_of t))) has
      ∙ told_by (route.BrokenNotice to) e

  pub by_no_notice : (to : ℕ) (now : List Sent)
      → None ≡ redirect_of (mode_at cs id).tracking
      → route.BrokenNotice to ≡ route_at (mode_at cs) (on_at cs) id
      → now ≡ now ++ told_sent cs (told_to keys (id ∷ []))
  by_no_notice to now has e =
      sym (ap (λ l. now ++ l)
      (sym (ap (λ t. outlines cs (to_one to Three (option_map notice_of t))) has
      ∙ told_by (route.BrokenNotice to) e)) ∙ ap (λ l. now ++ l) (no_outlines cs) ∙ append-nil now)

  pub by_none : (now : List Sent) → route.Nowhere ≡ route_at (mode_at cs) (on_at cs) id
      → now ≡ now ++ told_sent cs (told_to keys (id ∷ []))
  by_none now e =
      sym (ap (λ l. now ++ l) (sym (told_by route.Nowhere e) ∙ no_outlines cs) ∙ append-nil now)

-- ---- one sending

pub one_on : (cs : List Seen) (to : ℕ) (s : Sending) → on_at cs to ≡ true
    → outlines cs ((to, s) ∷ []) ≡ outline (to, s) ∷ []
unfolding outlines
one_on cs to s e = ap (λ b. map outline (cond b ((to, s) ∷ []) [])) e

pub one_off : (cs : List Seen) (to : ℕ) (s : Sending) → on_at cs to ≡ false
    → outlines cs ((to, s) ∷ []) ≡ []
unfolding outlines
one_off cs to s e = ap (λ b. map outline (cond b ((to, s) ∷ []) [])) e

-- ---- one after another

pub left_first : {A : Type 0} (xs : List A) (i : ℕ) (d : A) → i < length xs
    → drop i xs ≡ get_or xs i d ∷ drop (i + 1) xs
left_first xs i d lt = rw (add-one, drop-cons xs i d) refl

module _ (cs : List Seen) (passed : Option ℕ) (keys : Option (List (List ℕ))) (ids : List ℕ)
    (i : ℕ) (now all : List Sent)
    (left : now ++ told_sent cs (unpassed passed (told_to keys (drop i ids))) ≡ all) where
  pub told_next : (next : List Sent) → i < length ids
      → next ≡ now ++ told_sent cs (unpassed passed (told_to keys (get_or ids i 0 ∷ [])))
      → next ++ told_sent cs (unpassed passed (told_to keys (drop (i + 1) ids))) ≡ all
  told_next next lt told =
      unpassed_first cs passed (told_to keys (get_or ids i 0 ∷ []))
      (told_to keys (drop (i + 1) ids)) now next all
      (ap (λ l. now ++ told_sent cs (unpassed passed (told_to keys l)))
      (sym (left_first ids i 0 lt)) ∙ left) told

  pub told_all : length ids ≤ i → now ≡ all
  told_all le =
      sym (ap (λ l. now ++ told_sent cs (unpassed passed (told_to keys l)))
      (drop_of_length-le ids le) ∙ told_none cs now) ∙ left

-- where nobody is passed over all are told
pub unpassed_nobody : (told : List Invalidation) → unpassed None told ≡ told
unpassed_nobody [] = refl
unpassed_nobody (i ∷ told) = ap (λ l. i ∷ l) (unpassed_nobody told)

-- four groups, one after another
pub in_order : (cs : List Seen) (a : List Invalidation) (b c d one two three four : List Sent)
    → one ≡ told_sent cs (unpassed None a) → two ≡ one ++ b → three ≡ two ++ c → four ≡ three ++ d
    → four ≡ told_sent cs a ++ b ++ c ++ d
in_order cs a b c d one two three four first second third fourth =
    fourth
    ∙ ap (λ l. l ++ d) (third ∙ ap (λ l. l ++ c) (second
    ∙ ap (λ l. l ++ b) (first ∙ ap (told_sent cs) (unpassed_nobody a))))
    ∙ grind (arith, append_assoc)
