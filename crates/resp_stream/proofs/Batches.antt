-- What stands in a stream, one after another and in pieces, for any reader that takes bytes.
use Rattle.std.proofs.Common.{◌≡◌, ℕ, zero, suc, ◌+◌, ◌-◌, ◌<◌, List, [], ◌∷◌, ◌++◌, refl, sym, ap}
use Rattle.std.proofs.Common.{◌∙◌, true, false, cond, length, arith, add-one, Option, Some, None}
use Rattle.resp_stream.specs.declared.fault.Fault.{Fault}
use Rattle.resp_stream.specs.declared.fault.StreamFault.{StreamFault}
use Rattle.resp_stream.specs.Parsed.{Parsed, Whole, More, Bad}
use Rattle.resp_stream.specs.Parse.{Batch, batch_by, batch_in, batch}
use Rattle.resp_stream.specs.Stream.{Stream, fed, moved_on, offset_by, stream_fault}

pub fed_rest : (s : Stream) (b : List ℕ) → s.failed ≡ false → (fed s b).rest ≡ s.rest ++ b
fed_rest s b t = ap (λ c. cond c s.rest (s.rest ++ b)) t

-- `past` passes over bytes by the rest alone; what is read behind takes bytes, and stays with more.
pub record Takes {A : Type 0} (read : List ℕ → Parsed A) (past : Stream → Stream) : Type 0 where
  pub some : (s : Stream) (x : A) (r : List ℕ) → read (past s).rest ≡ Whole x r
      → length r < length s.rest
  pub by_rest : (s t : Stream) → s.rest ≡ t.rest → (past s).rest ≡ (past t).rest
  pub failed : (s : Stream) → (past s).failed ≡ s.failed
  pub kept : (s : Stream) (b : List ℕ) (x : A) (r : List ℕ) → s.failed ≡ false
      → read (past s).rest ≡ Whole x r → read (past (fed s b)).rest ≡ Whole x (r ++ b)
  pub joined : (s : Stream) (b : List ℕ) → s.failed ≡ false
      → (past (fed s b)).rest ≡ (past (fed (past s) b)).rest
  pub stays : (s t : Stream) (g : Fault) (r : List ℕ) → read (past s).rest ≡ Bad g r
      → t.rest ≡ (past s).rest → (past t).rest ≡ (past s).rest

same_by : {A : Type 0} (s : Stream) (f g : List ℕ → Batch A) (a : Parsed A)
    → ((x : A) (r : List ℕ) → a ≡ Whole x r → f r ≡ g r) → batch_by s a f ≡ batch_by s a g
same_by {A} s f g (Whole x r) h = ap (λ (p : Batch A). batch_by s (Whole x r) (λ _. p)) (h x r refl)
same_by s f g More h = refl
same_by s f g (Bad e r) h = refl

unfailed_by : {A : Type 0} (s : Stream) (f : List ℕ → Batch A) (a : Parsed A) → s.failed ≡ false
    → ((r : List ℕ) → (f r).fault ≡ None → (f r).stream.failed ≡ false)
    → (batch_by s a f).fault ≡ None → (batch_by s a f).stream.failed ≡ false
unfailed_by s f a t h e = grind arith

items_by : {A : Type 0} (s t : Stream) (f g : List ℕ → Batch A) (a : Parsed A)
    → ((r : List ℕ) → (f r).items ≡ (g r).items) → (batch_by s a f).items ≡ (batch_by t a g).items
items_by {A} s t f g (Whole x r) h = ap (λ (q : List A). x ∷ q) (h r)
items_by s t f g More h = refl
items_by s t f g (Bad e r) h = refl

module _ {A : Type 0} (read : List ℕ → Parsed A) (past : Stream → Stream) (takes : Takes read past)
  where
    -- more steps than bytes change nothing
    steps_enough : (n m : ℕ) (s : Stream) → length s.rest < n → length s.rest < m
        → batch_in read past n s ≡ batch_in read past m s
    unfolding batch_in
    steps_enough zero m s p q = absurd (omega arith)
    steps_enough (suc n) zero s p q = absurd (omega arith)
    steps_enough (suc n) (suc m) s p q =
        same_by (past s) (λ r. batch_in read past n (moved_on s r))
        (λ r. batch_in read past m (moved_on s r)) (read (past s).rest)
        (λ x r e. steps_enough n m (moved_on s r) (omega (arith, takes.some s x r e))
        (omega (arith, takes.some s x r e)))

    one_step : (n : ℕ) (s : Stream)
        → batch_in read past (suc n) s
        ≡ batch_by (past s) (read (past s).rest) (λ r. batch_in read past n (moved_on s r))
    unfolding batch_in
    one_step n s = refl

    batch_step : (s : Stream) → batch read past s ≡ batch_by (past s) (read (past s).rest)
        (λ r. batch read past (moved_on s r))
    unfolding batch
    batch_step s = grind (arith, add-one, one_step, same_by, steps_enough)

    pub batch_whole : (s : Stream) (x : A) (r : List ℕ) → read (past s).rest ≡ Whole x r →
        batch read past s ≡ record {
          items = x ∷ (batch read past (moved_on s r)).items;
          stream =
              (batch read past (moved_on s r)).stream;
          fault = (batch read past (moved_on s r)).fault;
        }
    batch_whole s h r e = grind (arith, batch_step)

    pub batch_more : (s : Stream) → read (past s).rest ≡ More
        → batch read past s ≡ record { items = []; stream = past s; fault = None }
    batch_more s e = grind (arith, batch_step)

    pub batch_bad : (s : Stream) (g : Fault) (r : List ℕ) → read (past s).rest ≡ Bad g r →
        batch read past s ≡ record {
          items = [];
          stream = record (past s) { failed = true };
          fault =
              Some (stream_fault g (offset_by (past s).before (length (past s).rest - length r)));
        }
    batch_bad s g r e = grind (arith, batch_step)

    -- ---- where no fault was met the stream has not failed

    unfailed_in : (n : ℕ) (s : Stream) → s.failed ≡ false → (batch_in read past n s).fault ≡ None
        → (batch_in read past n s).stream.failed ≡ false
    unfolding batch_in
    unfailed_in zero s t e = t
    unfailed_in (suc n) s t e =
        unfailed_by (past s) (λ r. batch_in read past n (moved_on s r)) (read (past s).rest)
        (takes.failed s ∙ t) (λ r h. unfailed_in n (moved_on s r) t h) e

    pub batch_unfailed : (s : Stream) → s.failed ≡ false → (batch read past s).fault ≡ None
        → (batch read past s).stream.failed ≡ false
    unfolding batch
    batch_unfailed s t e = unfailed_in (length s.rest + 1) s t e

    -- ---- what is read depends on the rest alone

    rest_in : (n : ℕ) (s t : Stream) → s.rest ≡ t.rest
        → (batch_in read past n s).items ≡ (batch_in read past n t).items
    unfolding batch_in
    rest_in zero s t e = refl
    rest_in (suc n) s t e =
        items_by (past s) (past t) (λ r. batch_in read past n (moved_on s r))
        (λ r. batch_in read past n (moved_on t r)) (read (past s).rest)
        (λ r. rest_in n (moved_on s r) (moved_on t r) refl)
        ∙ ap (λ (q : List ℕ).
        (batch_by (past t) (read q) (λ r. batch_in read past n (moved_on t r))).items)
        (takes.by_rest s t e)

    pub batch_rest : (s t : Stream) → s.rest ≡ t.rest
        → (batch read past s).items ≡ (batch read past t).items
    unfolding batch
    batch_rest s t e = grind (arith, rest_in)

    -- and on what follows the bytes that are passed over
    pub batch_past : (s t : Stream) → (past s).rest ≡ (past t).rest
        → (batch read past s).items ≡ (batch read past t).items
    batch_past s t e = grind (arith, batch_step, items_by, batch_rest)

    -- ---- in two pieces

    -- the items of s, and of b after what s left
    in_turn : Batch A → List ℕ → List A
    in_turn p b = p.items ++ (batch read past (fed p.stream b)).items

    pieces_by : (s : Stream) (b : List ℕ) → s.failed ≡ false → (batch read past s).fault ≡ None →
        ((x : A) (r : List ℕ) → read (past s).rest ≡ Whole x r
        → (batch read past (moved_on s r)).fault ≡ None
        → (batch read past (fed (moved_on s r) b)).items
        ≡ in_turn (batch read past (moved_on s r)) b) →
        (a : Parsed A) → read (past s).rest ≡ a
        → (batch read past (fed s b)).items ≡ in_turn (batch read past s) b
    unfolding in_turn
    pieces_by s b t e ih (Whole x r) h =
        let p = batch_whole s x r h in
        ap (λ (q : Batch A). q.items) (batch_whole (fed s b) x (r ++ b) (takes.kept s b x r t h))
        ∙ ap (λ (q : List A). x ∷ q)
        (batch_rest (moved_on (fed s b) (r ++ b)) (fed (moved_on s r) b)
        (sym (fed_rest (moved_on s r) b t))
        ∙ ih x r h (ap (λ (q : Batch A). q.fault) (sym p) ∙ e))
        ∙ ap (λ (q : Batch A). q.items ++ (batch read past (fed q.stream b)).items) (sym p)
    pieces_by s b t e ih More h = grind (arith, batch_past, batch_more)
    pieces_by s b t e ih (Bad g r) h =
        absurd (faulty (batch read past s).fault (ap (λ (q : Batch A). q.fault) (batch_bad s g r h))
        e)
      where
        faulty : {f : StreamFault} (o : Option StreamFault) → o ≡ Some f → o ≡ None → ⊥
        faulty o k z = cc

    pieces : (n : ℕ) (s : Stream) (b : List ℕ) → length s.rest < n → s.failed ≡ false
        → (batch read past s).fault ≡ None
        → (batch read past (fed s b)).items ≡ in_turn (batch read past s) b
    pieces zero s b lt t e = absurd (omega arith)
    pieces (suc n) s b lt t e =
        pieces_by s b t e (λ x r h. pieces n (moved_on s r) b (omega (arith, takes.some s x r h)) t)
        (read (past s).rest) refl

    pub batch_joined : (s : Stream) (b : List ℕ) → s.failed ≡ false
        → (batch read past s).fault ≡ None
        → (batch read past (fed s b)).items
        ≡ (batch read past s).items ++ (batch read past (fed (batch read past s).stream b)).items
    unfolding in_turn
    batch_joined s b t e = pieces (length s.rest + 1) s b (omega arith) t e
