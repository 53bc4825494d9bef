-- Outcomes one after another: what calls give of them, and what holds of all that they reach.
use Rattle.std.proofs.Common.{◌≡◌, ◌⊎◌, List, [], ◌∷◌, ◌++◌, map, Result, Ok, Err, Option, None}
use Rattle.std.proofs.Common.{Some, inl, inr, refl, sym, ap, subst, ◌∙◌, append_assoc, append-nil}
use Rattle.std.proofs.Common.{arith}
use Rattle.resp_value.specs.Lists.{IsPrefix}
use Rattle.script_text.specs.declared.line.Line.{Line}
use Rattle.server_links.specs.declared.fault.WorldFault.{WorldFault}
use Rattle.server_links.specs.declared.fault.WorldFault.TheVariants.{NoName, NameTaken}
use Rattle.server_links.specs.declared.fault.WorldFault.TheVariants.{NothingThere, NoMemory}
use Rattle.server_links.specs.Outcome.{Outcome, stays, does, refuses, after_lines, then_by}
use Rattle.server_links.specs.Outcome.{and_then, within, IsAmong, Reached, Stops, Gives}

-- ---- points

pub among_left : {S : Type 0} → (s : S) (lines : List Line) (xs ys : List (S × List Line))
    → IsAmong s lines xs → IsAmong s lines (xs ++ ys)
among_left s lines [] ys h = absurd h
among_left s lines (x ∷ xs) ys (inl e) = inl e
among_left s lines (x ∷ xs) ys (inr h) = inr (among_left s lines xs ys h)

pub among_right : {S : Type 0} → (s : S) (lines : List Line) (xs ys : List (S × List Line))
    → IsAmong s lines ys → IsAmong s lines (xs ++ ys)
among_right s lines [] ys h = h
among_right s lines (x ∷ xs) ys h = inr (among_right s lines xs ys h)

among_split : {S : Type 0} → (s : S) (lines : List Line) (xs ys : List (S × List Line))
    → IsAmong s lines (xs ++ ys) → IsAmong s lines xs ⊎ IsAmong s lines ys
among_split s lines [] ys h = inr h
among_split s lines (x ∷ xs) ys (inl e) = inl (inl e)
among_split s lines (x ∷ xs) ys (inr h) = grind (arith, among_split s lines xs ys h)

among_after : {S : Type 0} → (s : S) (front lines : List Line) (xs : List (S × List Line))
    → IsAmong s lines xs → IsAmong s (front ++ lines) (after_lines front xs)
among_after s front lines [] h = absurd h
among_after s front lines (x ∷ xs) (inl e) = inl (e.0, ap (λ l. front ++ l) e.1)
among_after s front lines (x ∷ xs) (inr h) = inr (among_after s front lines xs h)

among_before : {S : Type 0} → (s : S) (front lines : List Line) (xs : List (S × List Line))
    → IsAmong s lines (after_lines front xs)
    → (rest : List Line) × (lines ≡ front ++ rest) × IsAmong s rest xs
among_before s front lines [] h = absurd h
among_before s front lines (x ∷ xs) (inl e) = (x.1, e.1, inl (e.0, refl))
among_before s front lines (x ∷ xs) (inr h) = grind (arith, among_before s front lines xs h)

among_within : {S T : Type 0} → (f : S → T) (s : S) (lines : List Line) (xs : List (S × List Line))
    → IsAmong s lines xs → IsAmong (f s) lines (map (λ p. (f p.0, p.1)) xs)
among_within f s lines [] h = absurd h
among_within f s lines (x ∷ xs) (inl e) = inl (ap f e.0, e.1)
among_within f s lines (x ∷ xs) (inr h) = inr (among_within f s lines xs h)

among_inside : {S T : Type 0} → (f : S → T) (t : T) (lines : List Line) (xs : List (S × List Line))
    → IsAmong t lines (map (λ p. (f p.0, p.1)) xs)
    → (s : S) × (t ≡ f s) × IsAmong s lines xs
among_inside f t lines [] h = absurd h
among_inside f t lines (x ∷ xs) (inl e) = (x.0, e.0, inl (refl, e.1))
among_inside f t lines (x ∷ xs) (inr h) = let r = among_inside f t lines xs h in (r.0, r.1, inr r.2)

-- ---- what calls give

-- it came to its end
abbrev pub Ends : {S : Type 0} → Outcome S → List Line → S → List Line → Type 0
Ends m lines t lines' = (m.fault ≡ None) × (t ≡ m.state) × (lines' ≡ lines ++ m.lines)

-- a fault of the first is the fault of both
faulted : {S : Type 0} → (m : Outcome S) (next : S → Outcome S) (fault : WorldFault)
    → m.fault ≡ Some fault → and_then m next ≡ m
unfolding and_then
faulted m next fault e = ap (λ v. then_by v m (next m.state)) e

Faults : {S : Type 0} → Outcome S → List Line → WorldFault → S → List Line → Type 0
Faults m lines fault s lines' = (m.fault ≡ Some fault) × (s ≡ m.state) × (lines' ≡ lines ++ m.lines)

faults_first : {S : Type 0} → (m : Outcome S) (next : S
    → Outcome S) (lines : List Line) (fault : WorldFault) (s : S) (lines' : List Line)
    → Faults m lines fault s lines' → Faults (and_then m next) lines fault s lines'
unfolding Faults
faults_first m next lines fault s lines' h = grind (arith, faulted)

points_first : {S : Type 0} → (m : Outcome S) (next : S → Outcome S) (s : S) (lines : List Line)
    → IsAmong s lines m.points → IsAmong s lines (and_then m next).points
unfolding and_then
points_first m next s lines h = grind (arith, among_left)

pub stops_first : {S : Type 0} → (m : Outcome S) (next : S
    → Outcome S) (lines : List Line) (fault : WorldFault) (s : S) (lines' : List Line)
    → Stops m lines fault s lines' → Stops (and_then m next) lines fault s lines'
unfolding Faults
stops_first m next lines NoMemory s lines' h = (h.0, points_first m next s h.0 h.1, h.2)
stops_first m next lines NoName s lines' h = faults_first m next lines NoName s lines' h
stops_first m next lines NameTaken s lines' h = faults_first m next lines NameTaken s lines' h
stops_first m next lines NothingThere s lines' h = faults_first m next lines NothingThere s lines' h
stops_first m next lines fault s lines' h = faults_first m next lines fault s lines' h

joined : {S : Type 0} → (m : Outcome S) (next : S → Outcome S) (s : S) → m.fault ≡ None
    → s ≡ m.state → and_then m next ≡ then_by None m (next s)
unfolding and_then
joined m next s none is = grind arith

module _ {S : Type 0} (m n : Outcome S) (lines lines1 : List Line) (t : S) (lines2 : List Line)
    (first : lines1 ≡ lines ++ m.lines) where
  added : (more : List Line) → lines2 ≡ lines1 ++ more → lines2 ≡ lines ++ (m.lines ++ more)
  added more e = e ∙ ap (λ l. l ++ more) first ∙ append_assoc lines m.lines more

  stops_second : (fault : WorldFault) → Stops n lines1 fault t lines2
      → Stops (then_by None m n) lines fault t lines2
  stops_second NoMemory g = (
    m.lines ++ g.0,
    among_right t (m.lines ++ g.0) m.points _ (among_after t m.lines g.0 n.points g.1),
    added g.0 g.2,
  )
  stops_second fault g = (g.0, g.1, added n.lines g.2)

  gives_second : {A : Type 0} → (r : Result A WorldFault) → Gives n lines1 r t lines2
      → Gives (then_by None m n) lines r t lines2
  gives_second (Ok a) g = (g.0, g.1, added n.lines g.2)
  gives_second (Err fault) g = stops_second fault g

pub after_stops : {S : Type 0} → (m : Outcome S) (next : S
    → Outcome S) (lines : List Line) (s : S) (lines1 : List Line) (fault : WorldFault) (t : S)
    (lines2 : List Line)
    → Ends m lines s lines1 → Stops (next s) lines1 fault t lines2
    → Stops (and_then m next) lines fault t lines2
after_stops m next lines s lines1 fault t lines2 h g =
    subst (λ (x : Outcome _). Stops x lines fault t lines2) (sym (joined m next s h.0 h.1))
    (stops_second m (next s) lines lines1 t lines2 h.2 fault g)

pub after_ends : {S : Type 0} → (m : Outcome S) (next : S
    → Outcome S) (lines : List Line) (s : S) (lines1 : List Line) (t : S) (lines2 : List Line)
    → Ends m lines s lines1 → Ends (next s) lines1 t lines2 → Ends (and_then m next) lines t lines2
after_ends m next lines s lines1 t lines2 h g =
    subst (λ (x : Outcome _). Ends x lines t lines2) (sym (joined m next s h.0 h.1)) (
      g.0,
      g.1,
      added m (next s) lines lines1 t lines2 h.2 (next s).lines g.2,
    )

pub gives_then : {S A B : Type 0} → (m : Outcome S) (next : S
    → Outcome S) (lines : List Line) (a : A) (s : S) (lines1 : List Line) (r : Result B WorldFault)
    (t : S) (lines2 : List Line)
    → Gives m lines (Ok a) s lines1 → Gives (next s) lines1 r t lines2
    → Gives (and_then m next) lines r t lines2
gives_then m next lines a s lines1 r t lines2 h g =
    subst (λ x. Gives x lines r t lines2) (sym (joined m next s h.0 h.1))
    (gives_second m (next s) lines lines1 t lines2 h.2 r g)

stops_within : {S T : Type 0}
    → (f : S → T) (m : Outcome S) (lines : List Line) (fault : WorldFault) (s : S)
    (lines' : List Line)
    → Stops m lines fault s lines' → Stops (within f m) lines fault (f s) lines'
unfolding within
stops_within f m lines fault s lines' g = grind (arith, among_within)

within_open : {S T : Type 0} → (f : S → T) (m : Outcome S)
    → ((within f m).fault ≡ m.fault) × ((within f m).state ≡ f m.state)
    × ((within f m).lines ≡ m.lines)
unfolding within
within_open f m = (refl, refl, refl)

pub gives_within : {S T A : Type 0}
    → (f : S → T) (m : Outcome S) (lines : List Line) (r : Result A WorldFault) (s : S)
    (lines' : List Line)
    → Gives m lines r s lines' → Gives (within f m) lines r (f s) lines'
gives_within f m lines r s lines' g = grind (arith, within_open, stops_within)

-- what came to its end came to the end of both
pub ends_parts : {S : Type 0} → (m : Outcome S) (next : S
    → Outcome S) (lines : List Line) (t : S) (lines' : List Line)
    → Ends (and_then m next) lines t lines' → (m.fault ≡ None)
    × Ends (next m.state) (lines ++ m.lines) t lines'
unfolding and_then
ends_parts m next lines t lines' h = grind (arith, append_assoc)

-- memory ran out before the thing was done
pub stops_here : {S : Type 0} → (m : Outcome S) (s : S) (lines : List Line)
    → m.points ≡ (s, []) ∷ [] → Stops m lines NoMemory s lines
stops_here m s lines e = grind (arith, append-nil)

-- ---- what holds of all that is reached

-- Q of an end without a fault, W of all states on the way
pub record Meets {S : Type 0} (Q W : S → List Line → Type 0) (m : Outcome S) : Type 0 where
  pub ends : m.fault ≡ None → Q m.state m.lines
  pub all : (s : S) (lines : List Line) → Reached m s lines → W s lines

module _ {S : Type 0} (Q W : S → List Line → Type 0) where
  pub meets_stays : (s : S) → Q s [] → W s [] → Meets Q W (stays s)
  meets_stays s q w = grind arith

  pub meets_once : (old new : S) (printed : List Line) (fault : Option WorldFault)
      → (fault ≡ None → Q new printed) → W old [] → W new printed
      → Meets Q W (record { state = new; lines = printed; fault = fault; points = (old, []) ∷ [] })
  meets_once old new printed fault q w v = grind arith

  pub meets_does : (old new : S) (printed : List Line) → Q new printed → W old [] → W new printed
      → Meets Q W (does old new printed)
  meets_does old new printed q w v = meets_once old new printed None (λ e. q) w v

  pub meets_refuses : (s : S) (fault : WorldFault) → W s [] → Meets Q W (refuses s fault)
  meets_refuses s fault w = grind arith

pub meets_then : {S : Type 0} → (P Q W : S → List Line → Type 0) (m : Outcome S) (next : S
    → Outcome S) → Meets P W m
    → (m.fault ≡ None → P m.state m.lines
    → Meets (λ s lines. Q s (m.lines ++ lines)) (λ s lines. W s (m.lines ++ lines))
    (next m.state))
    → Meets Q W (and_then m next)
unfolding and_then
meets_then P Q W m next h g = elim m.fault as (λ v. m.fault ≡ v
    → Meets Q W (then_by v m (next m.state))) [
      | Some f ↦ grind arith
      | None ↦ λ is.
          let k = g is (h.ends is) in
          record {
            ends = k.ends;
            all = λ s lines r. elim r [
              | inl e ↦ grind arith
              | inr a ↦ elim (among_split s lines m.points _ a) [
                | inl b ↦ h.all s lines (inr b)
                | inr b ↦ let c = among_before s m.lines lines (next m.state).points b in
                    subst (λ l. W s l) (sym c.1) (k.all s c.0 (inr c.2))
              ]
            ];
          }
    ] refl

pub meets_within : {S T : Type 0} → (f : S → T) (Q W : T → List Line → Type 0) (m : Outcome S)
    → Meets (λ s lines. Q (f s) lines) (λ s lines. W (f s) lines) m → Meets Q W (within f m)
unfolding within
meets_within f Q W m h = grind (arith, among_inside)

-- what follows from these
pub meets_weaker : {S : Type 0} → (P Q V W : S → List Line → Type 0) (m : Outcome S)
    → ((s : S) (lines : List Line) → P s lines → Q s lines)
    → ((s : S) (lines : List Line) → V s lines → W s lines)
    → Meets P V m → Meets Q W m
meets_weaker P Q V W m f g h = grind arith

pub reached_within : {S T : Type 0} → (f : S → T) (m : Outcome S) (t : T) (lines : List Line)
    → Reached (within f m) t lines → (s : S) × (t ≡ f s) × Reached m s lines
unfolding within
reached_within f m t lines e = grind (arith, among_inside)

-- ---- what is printed by then is the front of what is printed

pub Fronts : {S : Type 0} → Outcome S → Type 0
Fronts {S} m = (s : S) (lines : List Line) → IsAmong s lines m.points → IsPrefix lines m.lines

pub fronts_stays : {S : Type 0} → (s : S) → Fronts (stays s)
unfolding Fronts
fronts_stays s t lines h = absurd h

pub fronts_refuses : {S : Type 0} → (s : S) (fault : WorldFault) → Fronts (refuses s fault)
unfolding Fronts
fronts_refuses s fault t lines h = absurd h

pub fronts_once : {S : Type 0} → (old new : S) (printed : List Line) (fault : Option WorldFault)
    → Fronts (record { state = new; lines = printed; fault = fault; points = (old, []) ∷ [] })
unfolding Fronts
fronts_once old new printed fault t lines (inl e) = (printed, ap (λ l. l ++ printed) e.1)
fronts_once old new printed fault t lines (inr h) = absurd h

pub fronts_then : {S : Type 0} → (m : Outcome S) (next : S → Outcome S) → Fronts m
    → ((t : S) → Fronts (next t)) → Fronts (and_then m next)
unfolding Fronts and_then
fronts_then m next f g s lines =
    elim m.fault as (λ v. IsAmong s lines (then_by v m (next m.state)).points
    → IsPrefix lines (then_by v m (next m.state)).lines) [
      | Some fault ↦ λ h. f s lines h
      | None ↦ λ h. elim (among_split s lines m.points _ h) [
        | inl a ↦ let p = f s lines a in (
          p.0 ++ (next m.state).lines,
          grind (arith, append_assoc),
        )
        | inr b ↦
            let c = among_before s m.lines lines (next m.state).points b in
            let p = g m.state s c.0 c.2 in grind (arith, append_assoc)
      ]
    ]

pub fronts_within : {S T : Type 0} → (f : S → T) (m : Outcome S) → Fronts m → Fronts (within f m)
unfolding Fronts within
fronts_within f m h t lines a = let b = among_inside f t lines m.points a in h b.0 lines b.2

pub fronts_reached : {S : Type 0} → (m : Outcome S) → Fronts m → (s : S) (lines : List Line)
    → Reached m s lines → IsPrefix lines m.lines
unfolding Fronts
fronts_reached m f s lines (inl e) = ([], append-nil lines ∙ e.1)
fronts_reached m f s lines (inr a) = f s lines a

pub gives_reached : {S A : Type 0}
    → (m : Outcome S) (lines : List Line) (r : Result A WorldFault) (s : S) (lines' : List Line)
    → Gives m lines r s lines' → (printed : List Line) × Reached m s printed
    × (lines' ≡ lines ++ printed)
gives_reached m lines r s lines' g = grind arith
