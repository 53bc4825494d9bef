-- Some lines of a schedule, and then more.
use Rattle.std.proofs.Common.{◌≡◌, ◌+◌, ◌<◌, ◌≤◌, ℕ, List, [], ◌∷◌, ◌++◌, Some, None, length, refl}
use Rattle.std.proofs.Common.{sym, ap, subst, ◌∙◌, append_assoc, append-nil, arith}
use Rattle.std.specs.declared.option.Option.{Option}
use Rattle.std.specs.Option.{option_map_or}
use Rattle.std.proofs.lemmas.Grind.{flat_map-append}
use Rattle.resp_value.specs.Lists.{IsPrefix}
use Rattle.script_text.specs.Events.{event_of, longest_line}
use Rattle.script_text.specs.declared.event.Event.{Event}
use Rattle.script_text.specs.declared.line.Line.{Line}
use Rattle.script_text.specs.Printed.{text_of, line_text}
use Rattle.server_links.specs.declared.fault.WorldFault.{WorldFault}
use Rattle.server_links.specs.Transcript.{unless_fault}
use Rattle.world_run.specs.WorldState.{WorldState}
use Rattle.world_run.specs.World.{step}
use Rattle.world_run.specs.WorldTranscript.{transcript, after}
use Rattle.redis_program.specs.Headline.{AreLinesOf, at_fault, event_at, events_of, first_fault}
use Rattle.redis_program.specs.Headline.{most_lines}

pub are_more : (n m : ℕ) (lines : List (List ℕ)) (events : List Event) (line : List ℕ) (e : Event)
    → AreLinesOf n lines events → m ≡ length lines + n → event_at m line ≡ Some e
    → AreLinesOf n (lines ++ line ∷ []) (events ++ e ∷ [])
are_more n m [] [] line e a k h =
    (let same : m ≡ n = omega arith in subst (λ i. event_at i line ≡ Some e) same h, tt)
are_more n m [] (d ∷ events) line e a k h = absurd a
are_more n m (l ∷ lines) [] line e a k h = absurd a
are_more n m (l ∷ lines) (d ∷ events) line e a k h =
    (a.0, are_more (n + 1) m lines events line e a.1 (omega arith) h)

pub same_length : (n : ℕ) (lines : List (List ℕ)) (events : List Event) → AreLinesOf n lines events
    → length events ≡ length lines
same_length n [] [] a = refl
same_length n [] (d ∷ events) a = absurd a
same_length n (l ∷ lines) [] a = absurd a
same_length n (l ∷ lines) (d ∷ events) a =
    let rest = same_length (n + 1) lines events a.1 in omega arith

pub events_then : (n m : ℕ) (lines more : List (List ℕ)) (events : List Event)
    → AreLinesOf n lines events → m ≡ length lines + n
    → events_of n (lines ++ more) ≡ events ++ events_of m more
events_then n m [] more [] a k =
    let same : n ≡ m = omega arith in ap (λ i. events_of i more) same
events_then n m [] more (d ∷ events) a k = absurd a
events_then n m (l ∷ lines) more [] a k = absurd a
events_then n m (l ∷ lines) more (d ∷ events) a k =
    grind (arith, events_then (n + 1) m lines more events a.1 (omega arith))

-- the line is outside the grammar
pub no_event : (n : ℕ) (line : List ℕ) (more : List (List ℕ)) → event_at n line ≡ None
    → events_of n (line ∷ more) ≡ []
no_event n line more h = ap (λ o. option_map_or (λ e. e ∷ events_of (n + 1) more) o []) h

pub one_event : (n : ℕ) (line : List ℕ) (more : List (List ℕ)) (e : Event)
    → event_at n line ≡ Some e → events_of n (line ∷ more) ≡ e ∷ events_of (n + 1) more
one_event n line more e h = ap (λ o. option_map_or (λ d. d ∷ events_of (n + 1) more) o []) h

pub fault_then : (w m : WorldState) (n k : ℕ) (events ds : List Event) → after w events ≡ Some m
    → k ≡ length events + n → first_fault w n (events ++ ds) ≡ first_fault m k ds
fault_then w m n k [] ds h q = grind arith
fault_then w m n k (d ∷ events) ds h q =
    go (step w d).fault h
    (λ p. fault_then (step w d).state m (n + 1) k events ds p (omega arith))
  where
    next : WorldState
    next = (step w d).state

    go : (f : Option WorldFault) → unless_fault f (after next events) None ≡ Some m
        → (after next events ≡ Some m
        → first_fault next (n + 1) (events ++ ds) ≡ first_fault m k ds)
        → at_fault f n (first_fault next (n + 1) (events ++ ds)) ≡ first_fault m k ds
    go f p later = grind arith

-- an event that meets a fault
pub transcript_faulty : (w : WorldState) (e : Event) (ds : List Event) (f : WorldFault)
    → (step w e).fault ≡ Some f → transcript w (e ∷ ds) ≡ (step w e).lines
transcript_faulty w e ds f h = grind (arith, append-nil)

pub fault_first : (w : WorldState) (n : ℕ) (e : Event) (ds : List Event) (f : WorldFault)
    → (step w e).fault ≡ Some f → first_fault w n (e ∷ ds) ≡ Some (n, f)
fault_first w n e ds f h = ap (λ o. at_fault o n (first_fault (step w e).state (n + 1) ds)) h

-- what one event prints is the first of what it prints with others after it
pub transcript_begins : (w : WorldState) (e : Event) (ds : List Event)
    → IsPrefix (step w e).lines (transcript w (e ∷ ds))
transcript_begins w e ds =
    (unless_fault (step w e).fault (transcript (step w e).state ds) [], refl)

pub text_more : (xs ys : List Line) → text_of (xs ++ ys) ≡ text_of xs ++ text_of ys
unfolding text_of
text_more xs ys = flat_map-append line_text xs ys

pub text_none : (text : List ℕ) → text ≡ [] → text ≡ text_of []
unfolding text_of
text_none text e = e

pub too_long : (n : ℕ) (line : List ℕ) → longest_line < length line → event_at n line ≡ None
unfolding event_of
too_long n line h = grind arith

-- a line of the grammar is not past the last number
pub numbered : (n : ℕ) (line : List ℕ) (event : Event) → event_at n line ≡ Some event
    → n ≤ most_lines
numbered n line event h = grind arith
