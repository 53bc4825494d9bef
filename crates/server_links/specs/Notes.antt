-- What a server notes of its history: at which entries each connection's commands ran, which
-- entries sent it something, and the words of its commands, where they are kept.
use Rattle.std.specs.Prelude.{◌≡◌, ◌-◌, ◌<◌, ◌≤◌, ◌&&◌, ◌==◌, ℕ, List, [], ◌∷◌, ◌++◌, Bool}
use Rattle.std.specs.Prelude.{Option, None, Some, true, false}
use Rattle.std.specs.Prelude.{if◌then◌else◌, length, map, nat_le, nat_lt, slice_index_or, slice_set}
use Rattle.serial_model.specs.declared.history.Limits.{Limits}
use Rattle.serial_model.specs.declared.history.Entry.{Entry}
use Rattle.serial_model.specs.declared.history.Post.{Post}
use Rattle.serial_model.specs.declared.history.BookCall.{BookCall}
use Rattle.serial_model.specs.declared.history.BookCall.TheVariants.{Admit, Run, Tick, Take}
use Rattle.serial_model.specs.declared.history.BookCall.TheVariants.{Close}
use Rattle.serial_model.specs.declared.history.BookReply.{BookReply}
use Rattle.serial_model.specs.declared.history.BookReply.TheVariants.{Admitted, Ran, Ticked, Quiet}
use Rattle.serial_model.specs.declared.history.BookReply.TheVariants.{Bytes, Closed, Refused}
use Rattle.serial_model.specs.History.{admitted, run_entries, runs_of, sent}

-- of one connection, in order
pub record TrailState : Type 0 where
  pub runs : List ℕ
  pub sent : List ℕ
  pub words : List (List (List ℕ))
  pub keeps_words : Bool

abbrev pub no_trail : TrailState
no_trail = record { runs = []; sent = []; words = []; keeps_words = false }

abbrev pub with_run : ℕ → List (List ℕ) → TrailState → TrailState
with_run n words t =
    record t {
      runs = t.runs ++ n ∷ [];
      words = if t.keeps_words then t.words ++ words ∷ [] else t.words;
    }

abbrev pub with_sent : ℕ → TrailState → TrailState
with_sent n t = record t { sent = t.sent ++ n ∷ [] }

-- from here on words are kept, if no command ran so far
abbrev pub with_words : TrailState → TrailState
with_words t =
    if length t.runs == 0 then record t { words = []; keeps_words = true } else t

-- the connection of the id n has the n-th
abbrev pub trail_of : ℕ → List TrailState → TrailState
trail_of id ts = slice_index_or ts (id - 1) no_trail

abbrev pub has_trail : ℕ → List TrailState → Bool
has_trail id ts = nat_lt 0 id && nat_le id (length ts)

abbrev pub changed : (TrailState → TrailState) → ℕ → List TrailState → List TrailState
changed f id ts = if has_trail id ts then slice_set ts (id - 1) (f (trail_of id ts)) else ts

abbrev pub noted_admit : List TrailState → List TrailState
noted_admit ts = ts ++ no_trail ∷ []

abbrev pub noted_posts : List Post → List TrailState → List TrailState
noted_posts [] ts = ts
noted_posts (p ∷ ps) ts = noted_posts ps (changed (with_sent p.entry) p.id ts)

-- the entries that sent a connection something
abbrev pub sent_entries : Limits → ℕ → List Entry → List ℕ
sent_entries l c past = map (λ s. s.0) (sent l c past)

-- the notes are what the history says
pub record IsNoted (l : Limits) (past : List Entry) (ts : List TrailState) : Type 0 where
  pub count : length ts ≡ admitted past
  pub runs : (c : ℕ) → 0 < c → c ≤ length ts → (trail_of c ts).runs ≡ run_entries c past
  pub sent : (c : ℕ) → 0 < c → c ≤ length ts → (trail_of c ts).sent ≡ sent_entries l c past
  pub words : (c : ℕ) → 0 < c → c ≤ length ts → (trail_of c ts).keeps_words ≡ true
      → (trail_of c ts).words ≡ runs_of c past

-- while no note was lost for want of memory
pub record NotesState : Type 0 where
  pub trails : List TrailState
  pub whole : Bool

abbrev pub AreNotes : Limits → List Entry → NotesState → Type 0
AreNotes l past notes = notes.whole ≡ true → IsNoted l past notes.trails

-- the connection that a call is to run a command of
abbrev pub runner_of : BookCall → Option ℕ
runner_of Admit = None
runner_of (Run id words now) = Some id
runner_of (Tick now) = None
runner_of (Take id most) = None
runner_of (Close id) = None

-- the words of that command
abbrev pub words_of : BookCall → List (List ℕ)
words_of Admit = []
words_of (Run id words now) = words
words_of (Tick now) = []
words_of (Take id most) = []
words_of (Close id) = []

-- a copy of the words, or none was made
abbrev pub IsCopy : Option (List (List ℕ)) → List (List ℕ) → Type 0
IsCopy None words = Unit {0}
IsCopy (Some copy) words = copy ≡ words

abbrev pub noted_run : Option ℕ → List (List ℕ) → ℕ → List TrailState → List TrailState
noted_run None words n ts = ts
noted_run (Some id) words n ts = changed (with_run n words) id ts

abbrev pub noted_reply : Option ℕ → List (List ℕ) → BookReply → List TrailState → List TrailState
noted_reply runner words (Admitted e id) ts = noted_admit ts
noted_reply runner words (Ran e) ts = noted_run runner words e ts
noted_reply runner words (Ticked e) ts = ts
noted_reply runner words Quiet ts = ts
noted_reply runner words (Bytes e bytes) ts = ts
noted_reply runner words (Closed e) ts = ts
noted_reply runner words (Refused r) ts = ts

-- what a turn is noted as: the connection that it admitted or that ran its command, with its words,
-- and its posts
abbrev pub noted_turn : Option ℕ → List (List ℕ) → BookReply → List Post → List TrailState
    → List TrailState
noted_turn runner words reply posts ts = noted_posts posts (noted_reply runner words reply ts)
