-- How many a reader reads of one piece, and of pieces one after the other.
use Rattle.std.proofs.Common.{◌≡◌, ◌<◌, ◌+◌, ◌-◌, ◌^◌, ℕ, suc, List, [], ◌∷◌, ◌++◌, length, refl}
use Rattle.std.proofs.Common.{sym, ap, subst, ◌∙◌, arith, append-nil}
use Rattle.std.proofs.Common.{append_assoc, Bool, true, false}
use Rattle.std.proofs.Common.{Option, Some, None, Ok, Err}
use Rattle.std.specs.Prelude.{min, Result}
use Rattle.std.proofs.Common.{length-append}
use Rattle.resp_stream.specs.declared.fault.StreamFault.{StreamFault}
use Rattle.resp_stream.specs.declared.fault.StreamFault.TheVariants.{NoMemory, BadByte, TooLong}
use Rattle.resp_stream.specs.declared.fault.StreamFault.TheVariants.{TooDeep, NotServed}
use Rattle.resp_stream.specs.Parse.{Batch, batch_by, batch_in}
use Rattle.resp_stream.specs.Parsed.{Parsed}
use Rattle.resp_stream.specs.Readers.{ReaderGives, skipped}
use Rattle.resp_stream.specs.Request.{request_at}
use Rattle.resp_stream.specs.Stream.{Stream, moved_on, fed}
use Rattle.resp_stream.specs.Value.{value_at}
use Rattle.stream_bench.specs.declared.Readers.{Readers}
use Rattle.stream_bench.specs.Reading.{repeated, joined, batch_of, Counts, Reads, new_readers}
use Rattle.stream_bench.proofs.Repeating.{not_once, once_more, both_times}

abbrev pub last : ℕ
last = 2 ^ 64 - 1

-- of a batch so many were read, and the rest is read behind them
pub record HasRead {A : Type 0} (all rest : Batch A) (count : ℕ) : Type 0 where
  pub sum : ℕ
  pub count_is : count ≡ min sum last
  pub items : length all.items ≡ sum + length rest.items
  pub stream : all.stream ≡ rest.stream
  pub fault : all.fault ≡ rest.fault

pub none_read : {A : Type 0} (all : Batch A) → HasRead all all 0
none_read all =
    record { sum = 0; count_is = refl; items = omega arith; stream = refl; fault = refl }

-- ---- one piece

module _ {A X : Type 0} (read : List ℕ → Parsed A) (past : Stream → Stream) (view : X → A) where
  one_in : (n : ℕ) (s : Stream) → batch_in read past (suc n) s
      ≡ batch_by (past s) (read (past s).rest) (λ r. batch_in read past n (moved_on s r))
  unfolding batch_in
  one_in n s = refl

  none_in : (s : Stream) → batch_in read past 0 s ≡ record { items = []; stream = s; fault = None }
  unfolding batch_in
  none_in s = refl

  more_in : (n i : ℕ) (s : Stream) → i < n → batch_in read past (n - i) s
      ≡ batch_by (past s) (read (past s).rest)
      (λ r. batch_in read past (n - (i + 1)) (moved_on s r))
  more_in n i s lt =
      let is : n - i ≡ suc (n - (i + 1)) = omega (arith, lt) in
      ap (λ m. batch_in read past m s) is ∙ one_in (n - (i + 1)) s

  module _ (all : Batch A) (n i count : ℕ) (old new : Stream) (lt : i < n)
      (so_far : HasRead all (batch_in read past (n - i) old) count) where
    front : HasRead all (batch_by (past old) (read (past old).rest)
        (λ r. batch_in read past (n - (i + 1)) (moved_on old r))) count
    front = subst (λ b. HasRead all b count) (more_in n i old lt) so_far

    pub one_read : (o : Option X) (x : X) (more : ℕ) → o ≡ Some x
        → ReaderGives read view (past old) old new (Ok o) → more ≡ min (count + 1) last
        → HasRead all (batch_in read past (n - (i + 1)) new) more
    one_read o x more is gave more_is =
        let gives = subst (λ p. ReaderGives read view (past old) old new (Ok p)) is gave in
        let rest = batch_in read past (n - (i + 1)) new in
        let by : batch_by (past old) (read (past old).rest)
        (λ r. batch_in read past (n - (i + 1)) (moved_on old r))
        ≡ record { items = view x ∷ rest.items; stream = rest.stream; fault = rest.fault }
        = grind (arith, gives) in
        let h = subst (λ b. HasRead all b count) by front in
        record {
          sum = h.sum + 1;
          count_is = grind (arith, more_is, h.count_is);
          items = omega (arith, h.items);
          stream = h.stream;
          fault = h.fault;
        }

    pub all_read : (o : Option X) → o ≡ None → ReaderGives read view (past old) old new (Ok o)
        → Counts all new (Ok count)
    all_read o is gave =
        let gives = subst (λ p. ReaderGives read view (past old) old new (Ok p)) is gave in
        let by : batch_by (past old) (read (past old).rest)
        (λ r. batch_in read past (n - (i + 1)) (moved_on old r))
        ≡ record { items = []; stream = past old; fault = None }
        = grind (arith, gives) in
        let h = subst (λ b. HasRead all b count) by front in
        grind (arith, h.count_is, h.items, h.stream, h.fault, gives)

    pub stopped : (f : StreamFault) → ReaderGives read view (past old) old new (Err f)
        → Counts all new (Err f)
    stopped NoMemory gives = tt
    stopped (BadByte o) gives = grind (arith, gives, front)
    stopped (TooLong o m) gives = grind (arith, gives, front)
    stopped (TooDeep o) gives = grind (arith, gives, front)
    stopped (NotServed o c) gives = grind (arith, gives, front)

  -- as many were read as may be
  pub most_read : (all : Batch A) (n i count : ℕ) (s : Stream) → i ≡ n
      → HasRead all (batch_in read past (n - i) s) count → Counts all s (Ok count)
  most_read all n i count s is so_far =
      let zero_is : n - i ≡ 0 = omega arith in
      let by = ap (λ m. batch_in read past m s) zero_is ∙ none_in s in
      let h = subst (λ b. HasRead all b count) by so_far in
      grind (arith, h.count_is, h.items, h.stream, h.fault)

-- ---- pieces

module _ {A : Type 0} where
  alone : (b : Batch A) (o : Option StreamFault) → b.fault ≡ o
      → joined b o (record { items = []; stream = b.stream; fault = None }) ≡ b
  alone b None is = grind (arith, append-nil, is)
  alone b (Some f) is = refl

  assoc_by : (a b : Batch A) (c : Stream → Batch A) (o p : Option StreamFault) → a.fault ≡ o
      → b.fault ≡ p → joined a o (joined b p (c b.stream))
      ≡ joined (joined a o b) (joined a o b).fault (c (joined a o b).stream)
  assoc_by a b c None None is too = grind (arith, append_assoc, is, too)
  assoc_by a b c None (Some f) is too = grind (arith, is, too)
  assoc_by a b c (Some f) p is too = grind (arith, is, too)

  by_fault : (a b : Batch A) (o : Option StreamFault) → a.fault ≡ o
      → joined a a.fault b ≡ joined a o b
  by_fault a b o is = ap (λ p. joined a p b) is

  counts_both : (a b : Batch A) (m n sum : ℕ) (middle new : Stream) → Counts a middle (Ok m)
      → Counts b new (Ok n) → sum ≡ min (m + n) last → Counts (joined a a.fault b) new (Ok sum)
  counts_both a b m n sum middle new first next sum_is =
      let count : sum ≡ min (length (a.items ++ b.items)) last
      = grind (arith, sum_is, first, next, length-append a.items b.items) in
      subst (λ c. Counts c new (Ok sum)) (sym (by_fault a b None first.0)) (
        next.0,
        count,
        next.2,
      )

  counts_fault : (a b : Batch A) (m : ℕ) (f : StreamFault) (middle new : Stream)
      → Counts a middle (Ok m) → Counts b new (Err f) → Counts (joined a a.fault b) new (Err f)
  counts_fault a b m NoMemory middle new first next = tt
  counts_fault a b m (BadByte o) middle new first next = grind (arith, by_fault, first, next)
  counts_fault a b m (TooLong o n) middle new first next = grind (arith, by_fault, first, next)
  counts_fault a b m (TooDeep o) middle new first next = grind (arith, by_fault, first, next)
  counts_fault a b m (NotServed o c) middle new first next = grind (arith, by_fault, first, next)

  counts_stop : (a b : Batch A) (f : StreamFault) (new : Stream) → Counts a new (Err f)
      → Counts (joined a a.fault b) new (Err f)
  counts_stop a b NoMemory new first = tt
  counts_stop a b (BadByte o) new first = grind (arith, by_fault, first)
  counts_stop a b (TooLong o n) new first = grind (arith, by_fault, first)
  counts_stop a b (TooDeep o) new first = grind (arith, by_fault, first)
  counts_stop a b (NotServed o c) new first = grind (arith, by_fault, first)

module _ {A : Type 0} (read : List ℕ → Parsed A) (past : Stream → Stream) where
  pub one_piece : (piece : List ℕ) (s new : Stream) (r : Result ℕ StreamFault)
      → Counts (batch_in read past 65536 (fed s piece)) new r
      → Counts (batch_of read past (piece ∷ []) s) new r
  unfolding batch_of
  one_piece piece s new r h =
      let b = batch_in read past 65536 (fed s piece) in
      subst (λ c. Counts c new r) (sym (alone b b.fault refl)) h

  pub no_piece : (s : Stream) → Counts (batch_of read past [] s) s (Ok 0)
  unfolding batch_of
  no_piece s = (refl, refl, refl)

  append : (ps qs : List (List ℕ)) (s : Stream) → batch_of read past (ps ++ qs) s
      ≡ joined (batch_of read past ps s) (batch_of read past ps s).fault
      (batch_of read past qs (batch_of read past ps s).stream)
  unfolding batch_of
  append [] qs s = refl
  append (p ∷ ps) qs s =
      let a = batch_in read past 65536 (fed s p) in
      let b = batch_of read past ps a.stream in
      ap (λ z. joined a a.fault z) (append ps qs a.stream)
      ∙ assoc_by a b (batch_of read past qs) a.fault b.fault refl refl

  module _ (ps qs : List (List ℕ)) (s t u : Stream) where
    both : (m n sum : ℕ) → Counts (batch_of read past ps s) t (Ok m)
        → Counts (batch_of read past qs t) u (Ok n) → sum ≡ min (m + n) last
        → Counts (batch_of read past (ps ++ qs) s) u (Ok sum)
    both m n sum first next sum_is =
        subst (λ c. Counts c u (Ok sum)) (sym (append ps qs s))
        (counts_both _ _ m n sum t u first
        (subst (λ z. Counts (batch_of read past qs z) u (Ok n)) first.2 next) sum_is)

    fault : (m : ℕ) (f : StreamFault) → Counts (batch_of read past ps s) t (Ok m)
        → Counts (batch_of read past qs t) u (Err f)
        → Counts (batch_of read past (ps ++ qs) s) u (Err f)
    fault m f first next =
        subst (λ c. Counts c u (Err f)) (sym (append ps qs s))
        (counts_fault _ _ m f t u first
        (subst (λ z. Counts (batch_of read past qs z) u (Err f)) first.2 next))

  stop : (ps qs : List (List ℕ)) (s t : Stream) (f : StreamFault)
      → Counts (batch_of read past ps s) t (Err f)
      → Counts (batch_of read past (ps ++ qs) s) t (Err f)
  stop ps qs s t f first =
      subst (λ c. Counts c t (Err f)) (sym (append ps qs s)) (counts_stop _ _ f t first)

-- ---- of either reader

pub reads_none : (requests : Bool) (old : Readers) → Reads requests [] old old (Ok 0)
reads_none true old = (no_piece request_at skipped old.requests, refl)
reads_none false old = (no_piece value_at (λ t. t) old.values, refl)

pub reads_not : (requests : Bool) (ps : List (List ℕ)) (old : Readers)
    → Reads requests ps old old (Err NoMemory)
reads_not true ps old = (tt, refl)
reads_not false ps old = (tt, refl)

pub reads_both : (requests : Bool) (ps qs : List (List ℕ)) (a b c : Readers) (m n sum : ℕ)
    → Reads requests ps a b (Ok m) → Reads requests qs b c (Ok n) → sum ≡ min (m + n) last
    → Reads requests (ps ++ qs) a c (Ok sum)
reads_both true ps qs a b c m n sum first next sum_is = (
  both request_at skipped ps qs a.requests b.requests c.requests m n sum first.0 next.0 sum_is,
  next.1 ∙ first.1,
)
reads_both false ps qs a b c m n sum first next sum_is = (
  both value_at (λ t. t) ps qs a.values b.values c.values m n sum first.0 next.0 sum_is,
  next.1 ∙ first.1,
)

pub reads_fault : (requests : Bool) (ps qs : List (List ℕ)) (a b c : Readers) (m : ℕ)
    (f : StreamFault) → Reads requests ps a b (Ok m) → Reads requests qs b c (Err f)
    → Reads requests (ps ++ qs) a c (Err f)
reads_fault true ps qs a b c m f first next = (
  fault request_at skipped ps qs a.requests b.requests c.requests m f first.0 next.0,
  next.1 ∙ first.1,
)
reads_fault false ps qs a b c m f first next = (
  fault value_at (λ t. t) ps qs a.values b.values c.values m f first.0 next.0,
  next.1 ∙ first.1,
)

pub reads_stop : (requests : Bool) (ps qs : List (List ℕ)) (a b : Readers) (f : StreamFault)
    → Reads requests ps a b (Err f) → Reads requests (ps ++ qs) a b (Err f)
reads_stop true ps qs a b f first =
    (stop request_at skipped ps qs a.requests b.requests f first.0, first.1)
reads_stop false ps qs a b f first =
    (stop value_at (λ t. t) ps qs a.values b.values f first.0, first.1)

-- the same pieces once more
pub once_more_read : (requests : Bool) (ps : List (List ℕ)) (i : ℕ) (a b c : Readers) (m n sum : ℕ)
    → Reads requests (repeated i ps) a b (Ok m) → Reads requests ps b c (Ok n)
    → sum ≡ min (m + n) last → Reads requests (repeated (i + 1) ps) a c (Ok sum)
once_more_read requests ps i a b c m n sum first next sum_is =
    subst (λ qs. Reads requests qs a c (Ok sum)) (sym (once_more ps i))
    (reads_both requests (repeated i ps) ps a b c m n sum first next sum_is)

-- a fault stops them all
pub fault_met : (requests : Bool) (ps : List (List ℕ)) (i times : ℕ) (a b c : Readers) (m : ℕ)
    (f : StreamFault) → i < times → Reads requests (repeated i ps) a b (Ok m)
    → Reads requests ps b c (Err f) → Reads requests (repeated times ps) a c (Err f)
fault_met requests ps i times a b c m f lt first next =
    let left = times - (i + 1) in
    let all : (i + 1) + left ≡ times = omega (arith, lt) in
    subst (λ qs. Reads requests qs a c (Err f))
    (ap (λ qs. qs ++ repeated left ps) (sym (once_more ps i)) ∙ both_times ps (i + 1) left times
    all)
    (reads_stop requests (repeated i ps ++ ps) (repeated left ps) a c f
    (reads_fault requests (repeated i ps) ps a b c m f first next))

pub not_once_read : (requests : Bool) (ps : List (List ℕ)) (old : Readers)
    → Reads requests (repeated 0 ps) old old (Ok 0)
not_once_read requests ps old =
    subst (λ qs. Reads requests qs old old (Ok 0)) (sym (not_once ps)) (reads_none requests old)

pub begins : (requests : Bool) (ps : List (List ℕ)) (new : Readers) → new ≡ new_readers
    → Reads requests (repeated 0 ps) new_readers new (Ok 0)
begins requests ps new is =
    subst (λ r. Reads requests (repeated 0 ps) new_readers r (Ok 0)) (sym is)
    (not_once_read requests ps new_readers)
