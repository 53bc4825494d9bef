-- Items of a stream that are read one after another, each with what it brings.
use Rattle.std.proofs.Common.{◌≡◌, ◌-◌, ℕ, List, [], ◌∷◌, ◌++◌, true, length, Some, None, Result}
use Rattle.std.proofs.Common.{Ok, Err, refl, sym, ap, subst, ◌∙◌, append_assoc, append-nil, arith}
use Rattle.resp_stream.specs.declared.fault.Fault.{Fault}
use Rattle.resp_stream.specs.declared.fault.FaultPlace.{FaultPlace}
use Rattle.resp_stream.specs.declared.fault.StreamFault.{StreamFault}
use Rattle.resp_stream.specs.declared.fault.StreamFault.TheVariants as stream
use Rattle.resp_stream.specs.Parsed.{Parsed, Whole, More, Bad}
use Rattle.resp_stream.specs.Parse.{Batch}
use Rattle.resp_stream.specs.Readers.{FaultGives, IsFaultOf}
use Rattle.resp_stream.specs.Stream.{Stream, fault_place, moved_on, offset_by, stream_fault}
use Rattle.script_text.specs.declared.line.Line.{Line}
use Rattle.server_links.specs.declared.fault.WorldFault.{WorldFault}
use Rattle.server_links.specs.declared.fault.WorldFault.TheVariants.{NoMemory}
use Rattle.server_links.specs.Moves.{stopped_at}
use Rattle.server_links.specs.Outcome.{Gives, Outcome, Stops, and_then, does, stays}
use Rattle.server_links.proofs.Outcomes.{Ends, after_ends, after_stops, ends_parts, gives_then}
use Rattle.server_links.proofs.Outcomes.{stops_first, stops_here}

-- how a state reads its items, and what an item brings
pub record Runner (S A : Type 0) : Type 0 where
  pub read : List ℕ → Parsed A
  pub past : Stream → Stream
  pub all : Stream → Batch A
  pub reader : S → Stream
  pub with_reader : S → Stream → S
  pub next : S → S
  pub brings : A → S → Outcome S
  pub one : A → S → Outcome S
  pub run : List A → S → Outcome S

pub record Runs {S A : Type 0} (k : Runner S A) : Type 0 where
  pub whole : (s : Stream) (x : A) (r : List ℕ) → k.read (k.past s).rest ≡ Whole x r
      → k.all s ≡ record {
        items = x ∷ (k.all (moved_on s r)).items;
        stream = (k.all (moved_on s r)).stream;
        fault = (k.all (moved_on s r)).fault;
      }
  pub more : (s : Stream) → k.read (k.past s).rest ≡ More
      → k.all s ≡ record { items = []; stream = k.past s; fault = None }
  pub bad : (s : Stream) (g : Fault) (r : List ℕ) → k.read (k.past s).rest ≡ Bad g r
      → k.all s ≡ record {
        items = [];
        stream = record (k.past s) { failed = true };
        fault = Some (stream_fault g
            (offset_by (k.past s).before (length (k.past s).rest - length r)));
      }
  pub same : (s : S) → k.with_reader s (k.reader s) ≡ s
  pub next_is : (s : S) (x : A) (r : List ℕ) → k.read (k.past (k.reader s)).rest ≡ Whole x r
      → k.with_reader s (moved_on (k.reader s) r) ≡ k.next s
  pub one_is : (x : A) (s : S) → k.one x s ≡ and_then (does s (k.next s) []) (k.brings x)
  pub none_is : (s : S) → k.run [] s ≡ stays s
  pub some_is : (x : A) (xs : List A) (s : S)
      → k.run (x ∷ xs) s ≡ and_then (k.one x s) (k.run xs)

abbrev pub rest_of : {S A : Type 0} → Runner S A → Stream → S → Outcome S
rest_of k rest s = does s (k.with_reader s rest) []

-- all whole items of what was read, and the reader after them
abbrev pub read_all : {S A : Type 0} → Runner S A → S → Outcome S
read_all k s =
    let p = k.all (k.reader s) in and_then (k.run p.items s) (rest_of k p.stream)

-- what was read and run so far, and what is left of it
pub record Reads {S A : Type 0} (k : Runner S A) (s0 s : S) (lines0 lines : List Line) : Type 0
  where
    pub done : List A
    pub items : (k.all (k.reader s0)).items ≡ done ++ (k.all (k.reader s)).items
    pub stream : (k.all (k.reader s)).stream ≡ (k.all (k.reader s0)).stream
    pub fault : (k.all (k.reader s)).fault ≡ (k.all (k.reader s0)).fault
    pub ran : Ends (k.run done s0) lines0 s lines

module _ {S A : Type 0} (k : Runner S A) (laws : Runs k) where
  -- some items ran, and then these: as all of them
  more_give : {B : Type 0} → (done todo : List A) (s0 s t : S) (lines lines1 lines2 : List Line)
      (r : Result B WorldFault) → Ends (k.run done s0) lines s lines1
      → Gives (k.run todo s) lines1 r t lines2 → Gives (k.run (done ++ todo) s0) lines r t lines2
  more_give [] todo s0 s t lines lines1 lines2 r h g = grind (arith, append-nil)
  more_give (d ∷ done) todo s0 s t lines lines1 lines2 r h g =
      let m = k.one d s0 in
      let e = subst (λ (m : Outcome S). Ends m lines s lines1) (laws.some_is d done s0) h in
      let p = ends_parts m (k.run done) lines s lines1 e in
      subst (λ (m : Outcome S). Gives m lines r t lines2) (sym (laws.some_is d (done ++ todo) s0))
      (gives_then m (k.run (done ++ todo)) lines (tt {0}) m.state (lines ++ m.lines) r t lines2
      (p.0, refl, refl)
      (more_give done todo m.state s t (lines ++ m.lines) lines1 lines2 r p.1 g))

  item_stops : (x : A) (xs : List A) (s t : S) (lines lines1 : List Line) (fault : WorldFault)
      → Stops (k.one x s) lines fault t lines1 → Stops (k.run (x ∷ xs) s) lines fault t lines1
  item_stops e xs s t lines lines1 fault g = grind (arith, stops_first)

  -- memory can run out before an item is read
  item_here : (x : A) (s : S) (lines : List Line) → Stops (k.one x s) lines NoMemory s lines
  item_here x s lines =
      subst (λ (m : Outcome S). Stops m lines NoMemory s lines) (sym (laws.one_is x s))
      (stops_first (does s (k.next s) []) (k.brings x) lines NoMemory s lines
      (stops_here (does s (k.next s) []) s lines refl))

  pub reads_none : (s : S) (lines : List Line) → Reads k s s lines lines
  reads_none s lines = grind (arith, append-nil)

  module _ (s0 s : S) (lines0 lines : List Line) (h : Reads k s0 s lines0 lines) where
    -- the item that begins what was read runs
    module _ (x : A) (new : Stream) (is : k.read (k.past (k.reader s)).rest ≡ Whole x new.rest)
        (moved : new ≡ moved_on (k.reader s) new.rest) where
      whole : k.all (k.reader s)
          ≡ record {
            items = x ∷ (k.all new).items;
            stream = (k.all new).stream;
            fault = (k.all new).fault;
          }
      whole = grind arith

      one_gives : {B : Type 0} → (r : Result B WorldFault) (t : S) (lines1 : List Line)
          → Gives (k.brings x (k.with_reader s new)) lines r t lines1
          → Gives (k.one x s) lines r t lines1
      one_gives r t lines1 g =
          subst (λ (m : Outcome S). Gives m lines r t lines1) (sym (laws.one_is x s))
          (gives_then (does s (k.next s) []) (k.brings x) lines (tt {0}) (k.with_reader s new) lines
          r t lines1 (
            refl,
            ap (k.with_reader s) moved ∙ laws.next_is s x new.rest is,
            sym (append-nil lines),
          ) g)

      pub reads_more : (t : S) (lines1 : List Line) → k.reader t ≡ new
          → Ends (k.brings x (k.with_reader s new)) lines t lines1 → Reads k s0 t lines0 lines1
      reads_more t lines1 same g =
          let r : Result (Unit {0}) WorldFault = Ok (tt {0}) in
          let there : k.all (k.reader t) ≡ k.all new = ap k.all same in
          record {
            done = h.done ++ x ∷ [];
            items = grind (arith, append_assoc);
            stream = grind arith;
            fault = grind arith;
            ran = more_give h.done (x ∷ []) s0 s t lines0 lines lines1 r h.ran
                (subst (λ (m : Outcome S). Gives m lines r t lines1) (sym (laws.some_is x [] s))
                (gives_then (k.one x s) (k.run []) lines (tt {0}) t lines1 r t lines1
                (one_gives r t lines1 g)
                (grind (arith, append-nil))));
          }

      pub reads_stop : (fault : WorldFault) (t : S) (lines1 : List Line)
          → Stops (k.brings x (k.with_reader s new)) lines fault t lines1
          → Stops (read_all k s0) lines0 fault t lines1
      reads_stop fault t lines1 g =
          let r : Result (Unit {0}) WorldFault = Err fault in
          let p = k.all (k.reader s0) in
          stops_first (k.run p.items s0) (rest_of k p.stream) lines0 fault t lines1
          (subst (λ l. Stops (k.run l s0) lines0 fault t lines1)
          (sym (h.items ∙ ap (λ (p : Batch A). h.done ++ p.items) whole))
          (more_give h.done (x ∷ (k.all new).items) s0 s t lines0 lines lines1 r h.ran
          (item_stops x (k.all new).items s t lines lines1 fault (one_gives r t lines1 g))))

    all_ran : (k.all (k.reader s)).items ≡ []
        → Ends (k.run (k.all (k.reader s0)).items s0) lines0 s lines
    all_ran none = grind (arith, append-nil)

    -- no item is left
    ends_at : (last : Batch A) → k.all (k.reader s) ≡ last → last.items ≡ [] → (new : Stream)
        → new ≡ last.stream → Ends (read_all k s0) lines0 (k.with_reader s new) lines
        × (last.fault ≡ (k.all (k.reader s0)).fault)
    ends_at last is none new e =
        let p = k.all (k.reader s0) in (
          after_ends (k.run p.items s0) (rest_of k p.stream) lines0 s lines (k.with_reader s new)
              lines (all_ran (ap (λ (p : Batch A). p.items) is ∙ none)) (
                refl,
                ap (k.with_reader s) (e ∙ sym (ap (λ (p : Batch A). p.stream) is) ∙ h.stream),
                sym (append-nil lines),
              ),
          sym (ap (λ (p : Batch A). p.fault) is) ∙ h.fault,
        )

    pub ends_more : (new : Stream) → k.read (k.past (k.reader s)).rest ≡ More
        → new ≡ k.past (k.reader s) → Ends (read_all k s0) lines0 (k.with_reader s new) lines
        × (None ≡ stopped_at (k.all (k.reader s0)).fault)
    ends_more new more is =
        let r = ends_at _ (laws.more (k.reader s) more) refl new is in (r.0, ap stopped_at r.1)

    faulty : (new : Stream) (f : StreamFault) → IsFaultOf k.read (k.past (k.reader s)) f
        → new ≡ record (k.past (k.reader s)) { failed = true }
        → Ends (read_all k s0) lines0 (k.with_reader s new) lines
        × (fault_place f ≡ stopped_at (k.all (k.reader s0)).fault)
    faulty new f bad is =
        let r = ends_at _ (laws.bad (k.reader s) bad.fault bad.left bad.is) refl new is in
        (r.0, ap fault_place bad.place ∙ ap stopped_at r.1)

    pub ends_bad : (new : Stream) (f : StreamFault) (place : FaultPlace)
        → FaultGives k.read (k.past (k.reader s)) (k.reader s) new f → Some place ≡ fault_place f
        → Ends (read_all k s0) lines0 (k.with_reader s new) lines
        × (Some place ≡ stopped_at (k.all (k.reader s0)).fault)
    ends_bad new stream.NoMemory place g at = absurd (let no : ⊥ = cc in no)
    ends_bad new f place g at = let r = faulty new f g.0 g.1 in (r.0, at ∙ r.1)

    -- memory ran out in the reading, which is as before
    here_stops : (items : List A) → (k.all (k.reader s)).items ≡ items
        → Stops (read_all k s0) lines0 NoMemory s lines
    here_stops [] none =
        let p = k.all (k.reader s0) in
        after_stops (k.run p.items s0) (rest_of k p.stream) lines0 s lines NoMemory s lines
        (all_ran none) (stops_here (rest_of k p.stream s) s lines refl)
    here_stops (x ∷ items) some =
        let r : Result (Unit {0}) WorldFault = Err NoMemory in
        let p = k.all (k.reader s0) in
        stops_first (k.run p.items s0) (rest_of k p.stream) lines0 NoMemory s lines
        (subst (λ l. Stops (k.run l s0) lines0 NoMemory s lines)
        (sym (h.items ∙ ap (λ l. h.done ++ l) some))
        (more_give h.done (x ∷ items) s0 s s lines0 lines lines r h.ran
        (item_stops x items s s lines lines NoMemory (item_here x s lines))))

    pub reads_short : (new : Stream) (f : StreamFault)
        → FaultGives k.read (k.past (k.reader s)) (k.reader s) new f → None ≡ fault_place f
        → Stops (read_all k s0) lines0 NoMemory (k.with_reader s new) lines
    reads_short new stream.NoMemory g at =
        subst (λ x. Stops (read_all k s0) lines0 NoMemory x lines)
        (sym (ap (k.with_reader s) g ∙ laws.same s))
        (here_stops (k.all (k.reader s)).items refl)
    reads_short new f g at = absurd (let no : ⊥ = cc in no)
