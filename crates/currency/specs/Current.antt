-- The theorem on currency: what a client holds is what the server would answer.
use Rattle.std.specs.Prelude.{◌≡◌, ◌-◌, ◌<◌, ◌≤◌, ℕ, List, ◌∷◌, Some, true, length}
use Rattle.std.specs.Prelude.{slice_get}
use Rattle.resp_value.specs.declared.value.Value.{Value}
use Rattle.resp_value.specs.ValueTree.{tree_of}
use Rattle.resp_value.specs.Carried.{carried}
use Rattle.resp_value.specs.Tree.{Tree}
use Rattle.command_words.specs.Queries.{key_of, writes}
use Rattle.command_words.specs.Effects.{answer}
use Rattle.serial_model.specs.declared.history.Limits.{Limits}
use Rattle.serial_model.specs.declared.history.Entry.{Entry}
use Rattle.serial_model.specs.declared.history.Entry.TheVariants.{Run}
use Rattle.serial_model.specs.History.{Sending, sent, keyspace, IsLegal}
use Rattle.serial_model.specs.Laws.{is_told}
use Rattle.shared_cache.specs.declared.log.Wire.{Wire}
use Rattle.shared_cache.specs.declared.log.Wire.TheVariants.{Main}
use Rattle.shared_cache.specs.declared.log.LogEntry.{LogEntry}
use Rattle.shared_cache.specs.declared.entry.CacheEntry.{CacheEntry}
use Rattle.shared_cache.specs.ClientFields.{IsClientMode}
use Rattle.shared_cache.specs.Notices.{invalidates}
use Rattle.shared_cache.specs.Held.{held}
use Rattle.shared_cache.specs.Laws.{Every, LegalLog, gots}
use Rattle.wire_currency.specs.Fetch.{Fetch}
use Rattle.wire_currency.specs.Current as wires
use Rattle.currency.specs.Links.{Client, HasWire, Meet, run_of, wires_of, traffic_of, up_to}
use Rattle.currency.specs.Points.{names_key}

-- a value is the answer to a query over the past up to an entry, as the client's protocol carries
-- it
abbrev pub IsAnswer : Limits → Client → List Entry → ℕ → CacheEntry → Type 0
IsAnswer l x past r h =
    tree_of h.value
    ≡ carried x.setup.mode.proto (tree_of (answer h.query (keyspace l (up_to r past))))

-- the fetch of an entry that is held: on that link, and ended by the ends of those
abbrev pub fetch_on : Limits → Client → List Entry → Wire → List Wire → CacheEntry
    → Fetch Wire (List (List ℕ)) Value Tree
fetch_on l x past home watched h = record {
  home = home;
  place = h.number - 1;
  query = h.query;
  watched = watched;
  voids = λ w v. invalidates x.setup.mode w v (key_of h.query);
  writes = λ words. writes words (key_of h.query);
  names = λ words. names_key words (key_of h.query);
  shown = λ v. tree_of v;
  is_told = λ r. is_told l (up_to r past) (x.id home) (key_of h.query);
  answer = λ r. carried x.setup.mode.proto (tree_of (answer h.query (keyspace l (up_to r past))));
}

abbrev pub fetch_of : Limits → Client → List Entry → CacheEntry
    → Fetch Wire (List (List ℕ)) Value Tree
fetch_of l x past h = fetch_on l x past Main (wires_of x.setup.mode.shape) h

-- from the entry that ran the fetch of a held entry to the last that is complete, its value is what
-- the server would answer
abbrev pub IsCurrent : Limits → Client → List Entry → List LogEntry → CacheEntry → Type 0
IsCurrent l x past log h =
    wires.IsCurrent (traffic_of l x past) (fetch_of l x past h) log h.value

-- the point of a hit, where its fetch ran at entry p: the greatest of p, what is complete, and the
-- last reply to a command that names the key
abbrev pub point : Limits → Client → List Entry → List LogEntry → CacheEntry → ℕ → ℕ
point l x past log h p = wires.point (traffic_of l x past) (fetch_of l x past h) log p

-- A hit's fetch is the Run of its query at its entry, and the hit answers what the server answers
-- at its point, which is an entry of the history that is not before any invalidation of its key
-- that the client has processed.
pub record HasPoint (l : Limits) (x : Client) (past : List Entry) (log : List LogEntry)
    (h : CacheEntry) : Type 0 where
  pub fetched : ℕ
  pub ran : run_of (x.id Main) past h.number ≡ Some fetched
  pub moment : ℕ
  pub sooner : List Entry
  pub fetch : up_to fetched past ≡ Run (x.id Main) h.query moment ∷ sooner
  pub answers : IsAnswer l x past (point l x past log h fetched) h
  pub within : point l x past log h fetched ≤ length past
  pub after :
      (w : Wire) → HasWire x.setup.mode.shape w → (i : ℕ) (v : Value) (s : ℕ × Sending)
      → slice_get (gots w log) i ≡ Some v
      → invalidates x.setup.mode w v (key_of h.query) ≡ true
      → slice_get (sent l (x.id w) past) i ≡ Some s
      → s.0 < point l x past log h fetched

-- For every legal history and every legal log that meet, of a client of one link or of two in any
-- mode: each held entry is current, and a hit on it has its point. The words of what is held are a
-- query, and each query is served.
abbrev pub Currency : Type 0
Currency =
    (l : Limits) (x : Client) (past : List Entry) (log : List LogEntry)
    → IsClientMode x.setup.mode → IsLegal l past → LegalLog x.setup log → Meet l x past log
    → Every (λ h. IsCurrent l x past log h × HasPoint l x past log h) (held x.setup log)
