-- Those that track, by a walk over the connections that are kept.
use Rattle.std.proofs.Common.{◌≡◌, ◌∙◌, ◌<◌, ◌≤◌, ◌+◌, ◌-◌, ◌++◌, ◌∷◌, [], ℕ, List, Bool, false}
use Rattle.std.proofs.Common.{ap, arith, cond, length, slice_index_or, sym, None, inl, inr, refl}
use Rattle.std.specs.Prelude.{◌&&◌}
use Rattle.std.proofs.lemmas.Bool.{cases_lt}
use Rattle.std.proofs.lemmas.List.{get_or_default, get_or_past}
use Rattle.serial_model.specs.State as state
use Rattle.serial_model.specs.Tracking.{ids_where}
use Rattle.track_modes.specs.ModeState as track
use Rattle.server_book.specs.Places.{Connection, fresh}
use Rattle.server_book.specs.Roster.{AreKept, IsAmong}
use Rattle.server_book.specs.Sendings.{tracks, tracking_ids}
use Rattle.server_book.proofs.Ended.{ids_beyond, ids_next, ids_none}
use Rattle.server_book.proofs.Rosters.{none_between, none_first}

abbrev pub does_track : Connection → Bool
does_track c = track.is_on c.mode.tracking && state.is_live c.standing

-- one that is not kept does not track
untracked : (all : List Connection) (ps : List ℕ) (id : ℕ) → AreKept all ps → 0 < id
    → id ≤ length all → IsAmong ps (id - 1) None → tracks all id ≡ false
untracked all ps id h some le none = ap does_track (h.others (id - 1) (omega arith) none)

within : (all : List Connection) (ps : List ℕ) (n : ℕ) → AreKept all ps
    → slice_index_or ps n (length all) ≤ length all
within all ps n h = elim (cases_lt n (length ps)) [
  | inl lt ↦ omega (arith, get_or_default ps n (length all) 0 lt, h.there n lt)
  | inr past ↦ omega (arith, get_or_past ps n (length all) past)
]

pub none_track : (all : List Connection) (ps : List ℕ) → AreKept all ps
    → [] ≡ ids_where (tracks all) (slice_index_or ps 0 (length all))
none_track all ps h =
    sym (ids_none (tracks all) (slice_index_or ps 0 (length all)) (λ i some le.
    untracked all ps i h some (omega (arith, le, within all ps 0 h))
    (none_first ps (length all) (i - 1) h.rise (omega (arith, some, le)))))

track_next : (all : List Connection) (ps : List ℕ) (n m place : ℕ) → AreKept all ps
    → n < length ps → m ≡ n + 1 → place ≡ slice_index_or ps n 0
    → ids_where (tracks all) (slice_index_or ps m (length all))
    ≡ cond (tracks all (place + 1))
    (ids_where (tracks all) (slice_index_or ps n (length all)) ++ (place + 1) ∷ [])
    (ids_where (tracks all) (slice_index_or ps n (length all)))
track_next all ps n m place h lt next is =
    let here : slice_index_or ps n (length all) ≡ place =
    get_or_default ps n (length all) 0 lt ∙ sym is in
    ids_beyond (tracks all) (place + 1) (slice_index_or ps m (length all))
    (elim (cases_lt m (length ps)) [
      | inl low ↦
          omega (
            arith,
            get_or_default ps m (length all) 0 low,
            h.rise n m (omega (arith, next)) low,
            is,
          )
      | inr past ↦ omega (arith, get_or_past ps m (length all) past, h.there n lt, is)
    ])
    (λ i low le.
    untracked all ps i h (omega (arith, low)) (omega (arith, le, within all ps m h))
    (none_between ps (length all) n m (i - 1) h.rise lt next (omega (arith, low, is))
    (omega (arith, low, le))))
    ∙ ids_next (tracks all) place (place + 1) refl
    ∙ ap (λ p. cond (tracks all (place + 1))
    (ids_where (tracks all) p ++ (place + 1) ∷ []) (ids_where (tracks all) p)) (sym here)

pub track_one : (all : List Connection) (ps ids more : List ℕ) (n place : ℕ) (c : Connection)
    (on : Bool) → AreKept all ps → n < length ps → place ≡ slice_index_or ps n 0
    → c ≡ slice_index_or all place fresh → on ≡ does_track c
    → ids ≡ ids_where (tracks all) (slice_index_or ps n (length all))
    → more ≡ cond on (ids ++ (place + 1) ∷ []) ids
    → more ≡ ids_where (tracks all) (slice_index_or ps (n + 1) (length all))
track_one all ps ids more n place c on h lt is read tracked before after =
    let same : (place + 1) - 1 ≡ place = omega arith in
    let one : on ≡ tracks all (place + 1) = tracked ∙ ap does_track read
    ∙ sym (ap (λ k. does_track (slice_index_or all k fresh)) same) in
    after ∙ ap (λ b. cond b (ids ++ (place + 1) ∷ []) ids) one
    ∙ ap (λ l. cond (tracks all (place + 1)) (l ++ (place + 1) ∷ []) l) before
    ∙ sym (track_next all ps n (n + 1) place h lt refl is)

pub all_track : (all : List Connection) (ps : List ℕ) (n : ℕ) → length ps ≤ n
    → ids_where (tracks all) (slice_index_or ps n (length all)) ≡ tracking_ids all
all_track all ps n past = ap (ids_where (tracks all)) (get_or_past ps n (length all) past)
