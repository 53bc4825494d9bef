-- Values of the server's bytes, got one after another.
use Rattle.std.proofs.Common.{arith, ◌≡◌, ◌<◌, ℕ, List, [], ◌∷◌, ◌++◌, true, false, cond, length}
use Rattle.std.proofs.Common.{Option, Some, None, take, refl, sym, ap, subst, ◌∙◌, append_assoc}
use Rattle.std.proofs.Common.{append-nil, Result, Ok, Err}
use Rattle.std.proofs.Math.Seq.{take-append_seam}
use Rattle.resp_value.specs.declared.octets.NoMemory.{NoMemory}
use Rattle.resp_value.specs.declared.value.Value.{Value}
use Rattle.resp_value.specs.Tree.{Tree}
use Rattle.resp_value.specs.ValueTree.{tree_of, value_of}
use Rattle.resp_value.proofs.OneToOne.{value_back}
use Rattle.resp_stream.specs.declared.fault.StreamFault.{StreamFault}
use Rattle.resp_stream.specs.declared.fault.StreamFault.TheVariants as stream
use Rattle.resp_stream.specs.Parsed.{Whole, More}
use Rattle.resp_stream.specs.Parse.{Batch, parse_values}
use Rattle.resp_stream.specs.Readers.{FaultGives, IsFaultOf}
use Rattle.resp_stream.specs.Stream.{Stream, fed, moved_on}
use Rattle.resp_stream.specs.Value.{value_at}
use Rattle.resp_stream.proofs.Parse.{takes_values}
use Rattle.resp_stream.proofs.Values.{values_bad, values_more, values_whole}
use Rattle.shared_cache.specs.declared.log.LogEntry.{LogEntry}
use Rattle.shared_cache.specs.ClientFields.{Client}
use Rattle.shared_cache.specs.Held.{Setup}
use Rattle.shared_cache.specs.Laws.{LegalLog}
use Rattle.client_library.specs.Library.{CutShort, FeedGives, IsToldBy, Library, ReadGives, closed}
use Rattle.client_library.specs.Library.{feed, got, got_all, has_ended, read_all, stopped, with_log}

pub reads_less : (now new : Stream) (t : Tree) → value_at now.rest ≡ Whole t new.rest
    → length new.rest < length now.rest
reads_less now new t is = takes_values.some now t new.rest is

got_more : (s : Setup) (done : List Tree) (t : Tree) (log : List LogEntry)
    → got_all s (done ++ t ∷ []) log ≡ got s (value_of t) (got_all s done log)
unfolding got_all
got_more s [] t log = refl
got_more s (d ∷ done) t log = got_more s done t (got s (value_of d) log)

-- some of the values were got, and the others are still to be read
pub record Reads (c0 c : Library) : Type 0 where
  pub done : List Tree
  pub setup : c.setup ≡ c0.setup
  pub past : c.past ≡ got_all c0.setup done c0.past
  pub items : (parse_values c0.reader).items ≡ done ++ (parse_values c.reader).items
  pub stream : (parse_values c.reader).stream ≡ (parse_values c0.reader).stream
  pub fault : (parse_values c.reader).fault ≡ (parse_values c0.reader).fault

pub reads_none : (c : Library) → Reads c c
unfolding got_all
reads_none c = record {
  done = [];
  setup = refl;
  past = refl;
  items = refl;
  stream = refl;
  fault = refl;
}

module _ (c0 c : Library) (h : Reads c0 c) where
  module _ (v : Value) (new : Stream)
      (is : value_at c.reader.rest ≡ Whole (tree_of v) new.rest)
      (moved : new ≡ moved_on c.reader new.rest) where
    whole : parse_values c.reader
        ≡ record {
          items = tree_of v ∷ (parse_values new).items;
          stream = (parse_values new).stream;
          fault = (parse_values new).fault;
        }
    whole = values_whole c.reader (tree_of v) new.rest is
        ∙ ap (λ r. record {
          items = tree_of v ∷ (parse_values r).items;
          stream = (parse_values r).stream;
          fault = (parse_values r).fault;
        }) (sym moved)

    pub reads_more : (d : Library) → d.setup ≡ c.setup → d.reader ≡ new
        → d.past ≡ got c.setup v c.past → Reads c0 d
    reads_more d setup reader past =
        let there : parse_values d.reader ≡ parse_values new = ap parse_values reader in
        record {
          done = h.done ++ tree_of v ∷ [];
          setup = setup ∙ h.setup;
          past = grind (arith, value_back, got_more);
          items = h.items ∙ ap (λ (p : Batch Tree). h.done ++ p.items) whole
              ∙ ap (λ (p : Batch Tree). h.done ++ tree_of v ∷ p.items) (sym there)
              ∙ sym (append_assoc h.done (tree_of v ∷ []) (parse_values d.reader).items);
          stream = ap (λ (p : Batch Tree). p.stream) there
              ∙ sym (ap (λ (p : Batch Tree). p.stream) whole) ∙ h.stream;
          fault = ap (λ (p : Batch Tree). p.fault) there
              ∙ sym (ap (λ (p : Batch Tree). p.fault) whole) ∙ h.fault;
        }

  -- memory ran out, and the link ended after the values that were got
  pub cut_short : (d : Library) → d.setup ≡ c.setup → d.past ≡ closed c.setup c.past
      → CutShort c0 (parse_values c0.reader).items d
  cut_short d setup past = record {
    count = length h.done;
    setup = setup ∙ h.setup;
    past = past ∙ ap (λ s. closed s c.past) h.setup ∙ ap (λ l. closed c0.setup l) h.past
        ∙ ap (λ l. closed c0.setup (got_all c0.setup l c0.past))
        (sym (ap (λ l. take (length h.done) l) h.items
        ∙ take-append_seam h.done (parse_values c.reader).items));
  }

  -- all were got
  all_got : (parse_values c.reader).items ≡ []
      → c.past ≡ got_all c0.setup (parse_values c0.reader).items c0.past
  all_got none = grind (arith, append-nil)

  ends : (new : Stream) (fault : Option StreamFault) (past : List LogEntry)
      → (parse_values c.reader).items ≡ []
      → (parse_values c.reader).stream ≡ new
      → (parse_values c.reader).fault ≡ fault
      → past ≡ stopped c.setup fault c.past
      → record { setup = c.setup; past = past; reader = new }
      ≡ read_all c0 (parse_values c0.reader)
  unfolding read_all
  ends new fault past none stream is stops = grind (arith, all_got)

  pub ends_more : (new : Stream) → value_at c.reader.rest ≡ More → new ≡ c.reader
      → record { setup = c.setup; past = c.past; reader = new }
      ≡ read_all c0 (parse_values c0.reader)
  ends_more new more is =
      let last = values_more c.reader more in
      ends new None c.past (ap (λ (p : Batch Tree). p.items) last)
      (ap (λ (p : Batch Tree). p.stream) last ∙ sym is)
      (ap (λ (p : Batch Tree). p.fault) last) refl

  faulty : (new : Stream) (f : StreamFault) → IsFaultOf value_at c.reader f
      → new ≡ record {
        before = c.reader.before;
        rest = c.reader.rest;
        failed = true;
      }
      → record { setup = c.setup; past = closed c.setup c.past; reader = new }
      ≡ read_all c0 (parse_values c0.reader)
  faulty new f bad is =
      let last = values_bad c.reader bad.fault bad.left bad.is in
      ends new (Some f) (closed c.setup c.past) (ap (λ (p : Batch Tree). p.items) last)
      (ap (λ (p : Batch Tree). p.stream) last ∙ sym is)
      (ap (λ (p : Batch Tree). p.fault) last ∙ ap Some (sym bad.place)) refl

  pub ends_told : (new : Stream) (f : StreamFault) (r : Result (Unit {0}) NoMemory)
      → FaultGives value_at c.reader c.reader new f → IsToldBy f r
      → ReadGives c0 (parse_values c0.reader) r
      (record { setup = c.setup; past = closed c.setup c.past; reader = new })
  ends_told new (stream.BadByte o) (Ok u) g t = faulty new (stream.BadByte o) g.0 g.1
  ends_told new (stream.TooLong o n) (Ok u) g t = faulty new (stream.TooLong o n) g.0 g.1
  ends_told new (stream.TooDeep o) (Ok u) g t = faulty new (stream.TooDeep o) g.0 g.1
  ends_told new (stream.NotServed o b) (Ok u) g t = faulty new (stream.NotServed o b) g.0 g.1
  ends_told new stream.NoMemory (Ok u) g t = absurd (let no : ⊥ = cc in no)
  ends_told new (stream.BadByte o) (Err e) g t = absurd (let no : ⊥ = cc in no)
  ends_told new (stream.TooLong o n) (Err e) g t = absurd (let no : ⊥ = cc in no)
  ends_told new (stream.TooDeep o) (Err e) g t = absurd (let no : ⊥ = cc in no)
  ends_told new (stream.NotServed o b) (Err e) g t = absurd (let no : ⊥ = cc in no)
  ends_told new stream.NoMemory (Err e) g t =
      cut_short (record { setup = c.setup; past = closed c.setup c.past; reader = new }) refl refl

-- ---- at a client and its reader

abbrev pub library : Client → Stream → Library
library state reader = record { setup = state.setup; past = state.past; reader = reader }

pub record Getting (c0 : Library) (state : Client) (reader : Stream) : Type 0 where
  pub reads : Reads c0 (library state reader)
  pub legal : LegalLog state.setup state.past

pub getting_none : (c0 : Library) (state : Client) (reader : Stream) → library state reader ≡ c0
    → LegalLog state.setup state.past → Getting c0 state reader
getting_none c0 state reader view legal = record {
  reads = subst (λ c. Reads c (library state reader)) view (reads_none (library state reader));
  legal = legal;
}

module _ (c0 : Library) (state : Client) (reader : Stream) (h : Getting c0 state reader)
    (new : Stream) where
  pub getting_more : (v : Value) → value_at reader.rest ≡ Whole (tree_of v) new.rest
      → new ≡ moved_on reader new.rest → (next : Client)
      → next ≡ with_log state (got state.setup v state.past)
      → LegalLog next.setup next.past → Getting c0 next new
  getting_more v is moved next e legal = record {
    reads = reads_more c0 (library state reader) h.reads v new is moved (library next new)
        (ap (λ (x : Client). x.setup) e) refl (ap (λ (x : Client). x.past) e);
    legal = legal;
  }

  pub getting_cut : (next : Client) → next ≡ with_log state (closed state.setup state.past)
      → CutShort c0 (parse_values c0.reader).items (library next new)
  getting_cut next e =
      cut_short c0 (library state reader) h.reads (library next new)
      (ap (λ (x : Client). x.setup) e) (ap (λ (x : Client). x.past) e)

  pub getting_ends : value_at reader.rest ≡ More → new ≡ reader
      → library state new ≡ read_all c0 (parse_values c0.reader)
  getting_ends more is = ends_more c0 (library state reader) h.reads new more is

  pub getting_told : (f : StreamFault) (r : Result (Unit {0}) NoMemory) (next : Client)
      → next ≡ with_log state (closed state.setup state.past)
      → FaultGives value_at reader reader new f → IsToldBy f r
      → ReadGives c0 (parse_values c0.reader) r (library next new)
  getting_told f r next e g t =
      subst (λ (x : Client). ReadGives c0 (parse_values c0.reader) r (library x new)) (sym e)
      (ends_told c0 (library state reader) h.reads new f r g t)

-- ---- what is fed

pub feed_ended : (c : Library) (bytes : List ℕ) → has_ended c ≡ true → c ≡ feed c bytes
unfolding feed
feed_ended c bytes e =
    sym (ap (λ b. cond b c (read_all c (parse_values (fed c.reader bytes)))) e)

feed_on : (c : Library) (bytes : List ℕ) → has_ended c ≡ false
    → read_all c (parse_values (fed c.reader bytes)) ≡ feed c bytes
unfolding feed
feed_on c bytes e =
    sym (ap (λ b. cond b c (read_all c (parse_values (fed c.reader bytes)))) e)

read_same : (state : Client) (reader now : Stream) (p : Batch Tree)
    → read_all (library state now) p ≡ read_all (library state reader) p
unfolding read_all
read_same state reader now p = refl

gives_fed : (state : Client) (reader : Stream) (bytes : List ℕ) (r : Result (Unit {0}) NoMemory)
    (new : Library) → has_ended (library state reader) ≡ false
    → ReadGives (library state (fed reader bytes)) (parse_values (fed reader bytes)) r new
    → FeedGives (library state reader) bytes r new
gives_fed state reader bytes (Ok u) new going h =
    h ∙ read_same state reader (fed reader bytes) (parse_values (fed reader bytes))
    ∙ feed_on (library state reader) bytes going
gives_fed state reader bytes (Err e) new going h =
    record { count = h.count; setup = h.setup; past = h.past }

pub feed_reads : (old : Library) (state : Client) (reader now : Stream) (bytes : List ℕ)
    (r : Result (Unit {0}) NoMemory) (new : Library) → library state reader ≡ old
    → has_ended old ≡ false → now ≡ fed reader bytes
    → ReadGives (library state now) (parse_values now) r new → FeedGives old bytes r new
feed_reads old state reader now bytes r new view going is h = grind (arith, gives_fed, library)

pub feed_cut : (old : Library) (state next : Client) (reader now : Stream) (values : List Tree)
    → library state reader ≡ old → next ≡ with_log state (closed state.setup state.past)
    → CutShort old values (library next now)
unfolding got_all
feed_cut old state next reader now values view e = grind (arith, library)
