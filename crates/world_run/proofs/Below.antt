-- What the crates below prove, as it is cited here.
use Rattle.std.proofs.Common.{◌≡◌, ℕ, List, ◌++◌, refl}
use Rattle.std.proofs.lemmas.Slice.Eq.{bytes_eq-Decides, slice_eq-Decides}
use Rattle.std.specs.Prelude.{true}
use Rattle.command_words.specs.Queries.{same_query}
use Rattle.serial_model.specs.declared.history.Limits.{Limits}
use Rattle.script_text.specs.declared.line.Line.{Line}
use Rattle.server_links.specs.LinkEvent.{LinkEvent}
use Rattle.server_links.specs.OneHistory.{said_by}
use Rattle.server_links.specs.LinksState.{LinksState}
use Rattle.server_links.specs.LinkSteps.{step}
use Rattle.server_links.specs.Transcript.{heard_at}
use Rattle.server_links.proofs.Events as events
use Rattle.server_links.proofs.Events.{Ends, Stops}
use Rattle.server_links.proofs.LinksStand.{Stands, PartStands}
use Rattle.server_links.proofs.Outcomes.{Meets}

-- wherever an event of the links comes to, they stand
pub stands_step : (l : Limits) (heard : ℕ → List ℕ) (said : List ℕ
    → List ℕ) (lines : List Line) (w : LinksState) → Stands l heard said lines w
    → (event : LinkEvent)
    → Meets (λ v ls. Stands l (λ i. heard i ++ heard_at w i event)
    (λ n. said n ++ said_by n event) (lines ++ ls) v)
    (λ v ls. PartStands l (λ n. said n ++ said_by n event) (lines ++ ls) v) (step w event)
unfolding Ends Stops
stands_step l heard said lines w s event = events.stands_step l heard said lines w s event

-- ---- queries

pub same_words : (p q : List (List ℕ)) → same_query p q ≡ true → p ≡ q
same_words p q h = (slice_eq-Decides bytes_eq-Decides p q _ refl).0 h
