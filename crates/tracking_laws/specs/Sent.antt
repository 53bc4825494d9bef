-- What is sent of what is told: a message each, and beside these the reply and the end alone.
use Rattle.std.specs.Prelude.{◌≡◌, ◌+◌, ◌==◌, ℕ, List, [], ◌∷◌, Bool, false, length}
use Rattle.std.specs.Prelude.{not, ◌&&◌, ◌||◌}
use Rattle.resp_value.specs.declared.value.Proto.TheVariants.{Two}
use Rattle.redirect.specs.declared.routes.Route.{Route}
use Rattle.redirect.specs.declared.routes.Route.TheVariants.{Push, Message, BrokenNotice, Nowhere}
use Rattle.serial_model.specs.declared.history.Limits.{Limits}
use Rattle.serial_model.specs.declared.history.Entry.{Entry}
use Rattle.serial_model.specs.declared.history.Entry.TheVariants.{Run}
use Rattle.serial_model.specs.Tracking.{Invalidation}
use Rattle.serial_model.specs.State.{is_on}
use Rattle.serial_model.specs.Actions.{route_at}
use Rattle.serial_model.specs.EntryEffects.{drops_one}
use Rattle.serial_model.specs.History.{has_ended, invalidations, mode, runs_on, sends, sent_to}
use Rattle.serial_model.specs.History.{state}
use Rattle.serial_model.specs.Laws.{closes_by, is_shutdown, quits_by}
use Rattle.tracking_laws.specs.Told.{once, where_so}

-- a route leads to its receiver, or to the connection that is told that its target has ended
abbrev pub goes_to : Route → ℕ → Bool
goes_to (Push r) c = r == c
goes_to (Message r) c = r == c
goes_to (BrokenNotice r) c = r == c
goes_to Nowhere c = false

-- how many of these go to the connection, each by the route of the one that is told
abbrev pub times_to : (ℕ → Route) → ℕ → List Invalidation → ℕ
times_to routes c [] = 0
times_to routes c (i ∷ told) = once (goes_to (routes i.to) c) + times_to routes c told

-- where the messages of each connection go after a past
abbrev pub routes : Limits → List Entry → ℕ → Route
routes l past c = let s = state l past in route_at s.modes (is_on s) c

-- the entry is the connection's own request, which is answered, unless it is a SHUTDOWN that stops
-- the server
abbrev pub answers : Limits → Entry → List Entry → ℕ → Bool
answers l (Run id words moment) past c =
    (id == c) && not (is_shutdown l (Run id words moment) past)
answers l _ past c = false

-- An entry sends a connection that has not ended a message for each time that it tells one whose
-- messages go to it, by the modes before the entry; one reply, where the entry is its own request
-- and no SHUTDOWN; and its end, where that request is QUIT, or the entry drops it or closes it. It
-- sends nothing to another.
abbrev pub SentIsTold : Limits → Entry → List Entry → Type 0
SentIsTold l entry past =
    (c : ℕ)
    → length (sent_to (length past + 1) c (sends l entry (state l past)))
    ≡ where_so (runs_on l past c) (times_to (routes l past) c (invalidations l entry past)
    + once (answers l entry past c) + once (quits_by entry c || drops_one l entry past c))
    + once (not (has_ended l c past) && closes_by entry c)

-- On the second protocol a connection that is not subscribed is sent its reply and its end alone,
-- whoever redirects messages to it: it has no pushes, and no messages without a subscription.
abbrev pub OnlyAnswered : Limits → Entry → List Entry → Type 0
OnlyAnswered l entry past =
    (c : ℕ)
    → (mode l c past).proto ≡ Two → (mode l c past).subscribed ≡ false
    → length (sent_to (length past + 1) c (sends l entry (state l past)))
    ≡ where_so (runs_on l past c) (once (answers l entry past c)
    + once (quits_by entry c || drops_one l entry past c))
    + once (not (has_ended l c past) && closes_by entry c)
