-- Why a connection comes to remember a key, and why it remembers it no more.
use Rattle.std.specs.Prelude.{◌≡◌, ◌&&◌, ◌||◌, ℕ, List, ◌∷◌, Bool, true, false, not}
use Rattle.serial_model.specs.declared.history.Limits.{Limits}
use Rattle.serial_model.specs.declared.history.Entry.{Entry}
use Rattle.serial_model.specs.EntryEffects.{drops_one}
use Rattle.serial_model.specs.History.{mode, table, has_ended}
use Rattle.serial_model.specs.History.{is_admitted, is_tracking}
use Rattle.serial_model.specs.Laws.{is_told, is_due, remembers, signals_key, drops_key}
use Rattle.serial_model.specs.Laws.{closes_by, quits_by}
use Rattle.track_modes.specs.ModeState.{is_on}
use Rattle.tracking_laws.specs.Told.{reads_key, rows_at_drop}

-- the entry is the end of the connection: its Close or its QUIT, or it drops it
abbrev pub ends : Limits → Entry → List Entry → ℕ → Bool
ends l entry past c = closes_by entry c || quits_by entry c || drops_one l entry past c

-- A connection comes to remember a key only by its own read, where its mode at that read says so.
abbrev pub RememberedIsRead : Limits → Entry → List Entry → Type 0
RememberedIsRead l entry past =
    (c : ℕ) (key : List ℕ)
    → remembers (table l (entry ∷ past)) c key ≡ true
    → (remembers (table l past) c key || reads_key l entry past c key) ≡ true

-- A connection that remembers a key was admitted, tracks, and has not ended.
abbrev pub RememberedIsTracked : Limits → List Entry → Type 0
RememberedIsTracked l past =
    (c : ℕ) (key : List ℕ)
    → remembers (table l past) c key ≡ true
    → (is_admitted past c && is_tracking l past c) ≡ true

-- A connection remembers a key no more only where the entry signals the key, by its deadline, by
-- its name or with all, where the connection tracks no more or ends, or where the key is dropped.
abbrev pub LeavesForCause : Limits → Entry → List Entry → Type 0
LeavesForCause l entry past =
    (c : ℕ) (key : List ℕ)
    → remembers (table l past) c key ≡ true
    → remembers (table l (entry ∷ past)) c key ≡ false
    → (signals_key l entry past key || not (is_on (mode l c (entry ∷ past)).tracking)
    || ends l entry past c || drops_key l entry past key) ≡ true

-- A key that an entry signals or drops is forgotten: a connection remembers it behind the entry
-- only where the entry is its own read, and the key is not dropped.
abbrev pub GoneIsForgotten : Limits → Entry → List Entry → Type 0
GoneIsForgotten l entry past =
    (c : ℕ) (key : List ℕ)
    → (signals_key l entry past key || drops_key l entry past key) ≡ true
    → remembers (table l (entry ∷ past)) c key ≡ true
    → (reads_key l entry past c key && not (drops_key l entry past key)) ≡ true

-- Each key that a read names is remembered, where its connection remembers what it reads: the
-- connection is told of it from then on, or has been told of it at this entry, or has ended.
abbrev pub EachReadIsOwedOrTold : Limits → Entry → List Entry → Type 0
EachReadIsOwedOrTold l entry past =
    (c : ℕ) (key : List ℕ)
    → reads_key l entry past c key ≡ true
    → (is_told l (entry ∷ past) c key || is_due l entry past c key
    || has_ended l c (entry ∷ past)) ≡ true

-- And this read itself is remembered, whatever was told before it: the connection remembers the key
-- behind the entry; or it came to remember it, and the key is dropped at once, of which the
-- connection is told, or the connection is.
abbrev pub EachReadIsRemembered : Limits → Entry → List Entry → Type 0
EachReadIsRemembered l entry past =
    (c : ℕ) (key : List ℕ)
    → reads_key l entry past c key ≡ true
    → (remembers (table l (entry ∷ past)) c key
    || ((drops_key l entry past key || drops_one l entry past c)
    && remembers (rows_at_drop l entry past) c key)) ≡ true
