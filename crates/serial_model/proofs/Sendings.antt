-- Of lists of sendings: what of them is for one connection, and that no message is an end.
use Rattle.std.proofs.Common.{◌≡◌, ℕ, List, [], ◌∷◌, ◌++◌, Bool, false, refl}
use Rattle.std.proofs.Common.{arith, map, Option, append_assoc}
use Rattle.std.specs.Prelude.{filter}
use Rattle.std.proofs.lemmas.Bool.{eqb-true}
use Rattle.std.proofs.lemmas.List.Folds.{list_any-append}
use Rattle.resp_value.specs.declared.value.Value.{Value}
use Rattle.resp_value.specs.declared.value.Proto.{Proto}
use Rattle.track_modes.specs.ModeState.{ModeState}
use Rattle.redirect.specs.declared.routes.Route.{Route}
use Rattle.serial_model.specs.declared.history.Limits.{Limits}
use Rattle.serial_model.specs.State.{State}
use Rattle.serial_model.specs.Tracking.{Invalidation, has_id}
use Rattle.serial_model.specs.Actions.{Sending, End, bytes_to, carried, routed}
use Rattle.serial_model.specs.Actions.{to_one, heard, messages, Action}
use Rattle.serial_model.specs.History.{sent_to, sent_bytes}
use Rattle.serial_model.specs.Laws.{has_end}

module _ (n c : ℕ) where
  pub bytes_are : (ss : List (ℕ × Sending)) → sent_bytes (sent_to n c ss) ≡ bytes_to c ss
  bytes_are [] = refl
  bytes_are (s ∷ ss) = grind (arith, bytes_are ss)

  pub ends_to : (ids : List ℕ)
      → has_end (sent_to n c (map (λ id. (id, End)) ids)) ≡ has_id c ids
  ends_to [] = refl
  ends_to (x ∷ xs) = grind (arith, ends_to xs)

  pub none_to : (ids : List ℕ) → has_id c ids ≡ false
      → sent_to n c (map (λ id. (id, End)) ids) ≡ []
  none_to [] h = refl
  none_to (x ∷ xs) h = grind (arith, none_to xs)

  -- one that passes no test is sent nothing
  pub none_live : (on : ℕ → Bool) (ss : List (ℕ × Sending)) → on c ≡ false
      → sent_to n c (filter (λ m. on m.0) ss) ≡ []
  none_live on [] h = refl
  none_live on (s ∷ ss) h = grind (arith, eqb-true, none_live on ss h)

  pub sent_none : (ss : List (ℕ × Sending)) → has_end ss ≡ false → has_end (sent_to n c ss) ≡ false
  sent_none [] h = refl
  sent_none (s ∷ ss) h = grind (arith, sent_none ss)

-- ---- no message is an end

one_none : (id : ℕ) (p : Proto) (v : Option Value) → has_end (to_one id p v) ≡ false
one_none id p v = grind arith

carried_none : (r : Route) (target : Option ℕ) (keys : Option (List (List ℕ)))
    → has_end (carried r target keys) ≡ false
carried_none r target keys = grind (arith, one_none)

routed_none : (modes : ℕ → ModeState) (on : ℕ → Bool) (told : List Invalidation)
    → has_end (routed modes on told) ≡ false
routed_none modes on [] = refl
routed_none modes on (i ∷ told) =
    grind (arith, list_any-append, carried_none, routed_none modes on told)

filter_none : (p : ℕ × Sending → Bool) (ss : List (ℕ × Sending))
    → has_end ss ≡ false → has_end (filter p ss) ≡ false
filter_none p [] h = refl
filter_none p (s ∷ ss) h = grind (arith, filter_none p ss)

pub messages_none : (l : Limits) (t : Action) (s : State) → has_end (messages l t s) ≡ false
messages_none l t s = grind (arith, filter_none, list_any-append, routed_none, one_none)

-- ---- what is heard of what is sent

pub heard-append : (s : State) (xs ys : List (ℕ × Sending))
    → heard s (xs ++ ys) ≡ heard s xs ++ heard s ys
heard-append s [] ys = refl
heard-append s (x ∷ xs) ys = grind (arith, heard-append s xs ys)

pub parted : (s : State) (a b c d : List (ℕ × Sending))
    → heard s (a ++ b ++ c) ++ d ≡ heard s a ++ heard s b ++ (heard s c ++ d)
parted s a b c d = grind (arith, heard-append, append_assoc)
