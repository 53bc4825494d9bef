-- What each event adds to the history is by the clock, and so all of a schedule.
use Rattle.std.proofs.Common.{◌≡◌, ℕ, List, [], ◌∷◌, ◌++◌, Option, Some, None, max, refl, ◌+◌}
use Rattle.std.proofs.Common.{sym, ap, subst, ◌∙◌, append_assoc}
use Rattle.std.proofs.Math.Nat.{le-max_right}
use Rattle.serial_model.specs.declared.history.Entry.TheVariants as entry
use Rattle.serial_model.specs.History.{IsLegal, admitted, latest}
use Rattle.serial_model.specs.Steps.{admitting as joining}
use Rattle.serial_model.proofs.StepCases.{by_admit, by_tick, ticked}
use Rattle.script_text.specs.declared.line.Line.{Line}
use Rattle.server_links.specs.declared.fault.WorldFault.TheVariants.{NameTaken, NoName}
use Rattle.server_links.specs.Clock.{AreTimedBy, GrowsAt, KeepsTime, clock_after, moments}
use Rattle.server_links.specs.LinkEvent.{LinkEvent, Raw, Put, Over, Now, Tick}
use Rattle.server_links.specs.LinkSteps.{admitting, over, over_named, place_of, raw_step, step}
use Rattle.server_links.specs.LinkSteps.{tick, ticking}
use Rattle.server_links.specs.LinksState.{LinksState}
use Rattle.server_links.specs.Moves.{move_of}
use Rattle.server_links.specs.Outcome.{Outcome}
use Rattle.server_links.specs.Session.{Session, session_at, with_session}
use Rattle.server_links.specs.Transcript.{after, unless_fault}
use Rattle.server_links.proofs.Carries.{Carries}
use Rattle.server_links.proofs.Clock.{by_both, latest_is}
use Rattle.server_links.proofs.Moving.{every_move}
use Rattle.server_links.proofs.Outcomes.{Meets, meets_once, meets_refuses, meets_stays}
use Rattle.server_links.proofs.Outcomes.{meets_within}

-- a legal history grew by entries whose moments are by the clock, and the clock is this one then
pub record Timely (clock : ℕ) (w v : LinksState) : Type 0 where
  pub limits : v.limits ≡ w.limits
  pub now : v.now ≡ clock
  pub legal : IsLegal w.limits w.past → IsLegal w.limits v.past
  pub grows : IsLegal w.limits w.past → GrowsAt w.now w.past v.past

grows_none : (now : ℕ) (w : LinksState) → GrowsAt now w.past w.past
grows_none now w = record { entries = []; grows = refl; timed = tt }

pub timely_none : (now : ℕ) (w : LinksState) → Timely now w (record w { now = now })
timely_none now w =
    record { limits = refl; now = refl; legal = λ h. h; grows = λ h. grows_none w.now w }

pub timely_same : (w : LinksState) → Timely w.now w w
timely_same w = timely_none w.now w

pub timely_both : (now : ℕ) (w u v : LinksState) → Timely w.now w u → Timely now u v
    → Timely now w v
timely_both now w u v a b =
    let legal_then : IsLegal w.limits w.past → IsLegal u.limits u.past =
    λ h. subst (λ l. IsLegal l u.past) (sym a.limits) (a.legal h) in
    record {
      limits = b.limits ∙ a.limits;
      now = b.now;
      legal = λ h. subst (λ l. IsLegal l v.past) a.limits (b.legal (legal_then h));
      grows = λ h.
          let f = a.grows h in
          let g = b.grows (legal_then h) in
          record {
            entries = g.entries ++ f.entries;
            grows = g.grows ∙ ap (λ p. g.entries ++ p) f.grows
                ∙ sym (append_assoc g.entries f.entries w.past);
            timed = by_both w.now g.entries f.entries w.past
                (subst (λ p. AreTimedBy w.now (moments g.entries) (moments p)) f.grows
                (subst (λ n. AreTimedBy n (moments g.entries) (moments u.past)) a.now g.timed))
                f.timed;
          };
    }

abbrev pub Times : ℕ → LinksState → Outcome LinksState → Type 0
Times now w m = Meets (λ v ls. Timely now w v) (λ v ls. Timely now w v) m

over_timely : (at : ℕ) (event : LinkEvent) (w : LinksState)
    → Times w.now w (over at (move_of event) w)
unfolding over
over_timely at event w =
    let s = session_at at w in
    let c = (every_move event s).carries in
    let timely : (t : Session) (ls : List Line) → Carries s t ls
    → Timely w.now w (with_session at w t) = λ t ls d. record {
      limits = refl;
      now = refl;
      legal = d.legal;
      grows = λ h. record { entries = d.entries; grows = d.grows; timed = d.timed h };
    } in
    meets_within (with_session at w) (λ v ls. Timely w.now w v) (λ v ls. Timely w.now w v)
    (move_of event s) (record {
      ends = λ none. timely (move_of event s).state _ (c.ends none);
      all = λ t ls r. timely t ls (c.all t ls r);
    })

pub named_timely : (p : Option ℕ) (event : LinkEvent) (w : LinksState)
    → Times w.now w (over_named p (move_of event) w)
named_timely None event w =
    meets_refuses (λ v ls. Timely w.now w v) (λ v ls. Timely w.now w v) w NoName
    (timely_same w)
named_timely (Some at) event w = over_timely at event w

raw_timely : (name : List ℕ) (p : Option ℕ) (w : LinksState) → Times w.now w (raw_step w name p)
raw_timely name (Some at) w =
    meets_refuses (λ v ls. Timely w.now w v) (λ v ls. Timely w.now w v) w NameTaken
    (timely_same w)
raw_timely name None w =
    let T : LinksState → List Line → Type 0 = λ v ls. Timely w.now w v in
    let same = timely_same w in
    by_admit w.limits w.past (λ t. Times w.now w (admitting w name t))
    (meets_once T T w w [] _ (λ none. same) same same)
    (λ on.
    let made : Timely w.now w (admitting w name (joining w.past)).state = record {
      limits = refl;
      now = refl;
      legal = λ h. (on, refl, h);
      grows = λ h. record {
        entries = entry.Admit (admitted w.past + 1) ∷ [];
        grows = refl;
        timed = tt;
      };
    } in
    meets_once T T w _ _ None (λ none. made) same made)

tick_timely : (w : LinksState) → Times w.now w (tick w)
unfolding tick
tick_timely w =
    let T : LinksState → List Line → Type 0 = λ v ls. Timely w.now w v in
    let same = timely_same w in
    by_tick w.limits w.past (λ t. Times w.now w (ticking w t)) w.now
    (meets_once T T w w [] _ (λ none. same) same same)
    (meets_once T T w w [] None (λ none. same) same same)
    (λ on some.
    let made : Timely w.now w (ticking w (ticked w.past (max w.now (latest w.past)))).state =
    record {
      limits = refl;
      now = refl;
      legal = λ h. (on, some, le-max_right w.now (latest w.past), h);
      grows = λ h. record {
        entries = entry.Tick (max w.now (latest w.past)) ∷ [];
        grows = refl;
        timed = (ap (max w.now) (sym (latest_is w.limits w.past h)), tt);
      };
    } in
    meets_once T T w _ _ None (λ none. made) same made)

pub step_timely : (event : LinkEvent) (w : LinksState)
    → Times (clock_after w.now event) w (step w event)
unfolding step
step_timely (Raw name) w = raw_timely name (place_of name w) w
step_timely (Put name bytes) w = named_timely (place_of name w) (Put name bytes) w
step_timely (Over name move) w = named_timely (place_of name w) (Over name move) w
step_timely (Now moment) w =
    let k = timely_none moment w in
    meets_stays (λ v ls. Timely moment w v) (λ v ls. Timely moment w v) _ k k
step_timely Tick w = tick_timely w

-- ---- a schedule

pub keeps_time : (events : List LinkEvent) (v w : LinksState) → IsLegal v.limits v.past
    → after v events ≡ Some w → KeepsTime v.now v events
keeps_time [] v w legal e = tt
keeps_time (d ∷ more) v w legal e =
    let t = step v d in
    elim t.fault as (λ f. t.fault ≡ f → unless_fault f (after t.state more) None ≡ Some w
    → KeepsTime v.now v (d ∷ more)) [
      | Some f ↦ λ is q. absurd (let no : ⊥ = cc in no)
      | None ↦ λ is q.
          let k = (step_timely d v).ends is in (
            k.grows legal,
            subst (λ n. KeepsTime n t.state more) k.now
                (keeps_time more t.state w
                (subst (λ l. IsLegal l t.state.past) (sym k.limits) (k.legal legal)) q),
          )
    ] refl e
