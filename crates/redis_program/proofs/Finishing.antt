-- The last line after what was played, and the status.
use Rattle.std.proofs.Common.{arith, ◌≡◌, ℕ, List, [], ◌++◌, IfSome, refl, sym, subst, ◌∙◌}
use Rattle.std.proofs.Common.{append-nil, inl, inr}
use Rattle.std.specs.declared.option.Option.{Option}
use Rattle.std.specs.Io.KnownBytes.{Appends}
use Rattle.edge_links.specs.declared.counts.Counts.{Counts}
use Rattle.edge_links.specs.Counts.{Counted}
use Rattle.resp_value.proofs.Prefixes.{prefix_by}
use Rattle.serial_model.specs.declared.history.Limits.{Limits}
use Rattle.script_text.specs.declared.event.Event.{Event}
use Rattle.script_text.specs.declared.line.Line.{Line}
use Rattle.world_run.specs.WorldState.{WorldState}
use Rattle.redis_program.specs.declared.status.Status.{Status}
use Rattle.redis_program.specs.declared.status.Status.TheVariants as status
use Rattle.redis_program.specs.declared.status.Ending.{Ending}
use Rattle.redis_program.specs.declared.status.Ending.TheVariants.{Done, BadLine, ReadFault}
use Rattle.redis_program.specs.declared.status.Ending.TheVariants.{WriteFault, Refused, HistoryFull}
use Rattle.redis_program.specs.declared.status.Ending.TheVariants.{NoMemory}
use Rattle.redis_program.specs.Headline.{AppendsFirst, Comes, EndsAs, IsPlain, IsVerdict, Next}
use Rattle.redis_program.specs.Headline.{PlayedThen, Writes, last_line, status_of, text_lines}
use Rattle.redis_program.specs.Playing.{ComesTo, EndingRead, EndingWrote, LastGives, WritesBody}
use Rattle.edge_links.proofs.Bytes.{appends_more}
use Rattle.edge_lines.proofs.Bytes.{first_longer, first_then}
use Rattle.redis_program.proofs.Judging.{ends_as}

body_written : (ending : Ending) (old new : Option (List ℕ)) (body : List ℕ)
    → (ending ≡ WriteFault → ⊥) → WritesBody ending old new body → Appends old new body
body_written ending old new body n w = grind arith

module _ (Ends : Ending → List ℕ → Type 0) where
  -- the body was written, and then the last line of the ending
  pub ends_as_said : (ending : Ending) (body : List ℕ) (result : Status)
      (out0 out1 out2 : Option (List ℕ)) (before now : Counts) → (ending ≡ WriteFault → ⊥)
      → Ends ending body → Ends NoMemory body → Appends out0 out1 body
      → LastGives ending result out1 out2 before now → Writes Ends result out0 out2
  ends_as_said ending body result out0 out1 out2 before now n ends poor wrote last =
      let P : Status → Type 0 = λ s. Writes Ends s out0 out2 in
      elim last [
        | inl h ↦ subst P (sym h.0) (grind (arith, appends_more))
        | inr (inl h) ↦ subst P (sym h.0) (
          NoMemory,
          body,
          refl,
          poor,
          appends_more out0 out1 out2 body (last_line NoMemory) wrote h.1,
        )
        | inr (inr (inl h)) ↦ subst P (sym h.0) (
          ending,
          body,
          ends,
          first_then out0 out1 out2 body (last_line ending) wrote h.2,
        )
        | inr (inr (inr h)) ↦ subst P (sym h.0) (
          NoMemory,
          body,
          poor,
          first_then out0 out1 out2 body (last_line NoMemory) wrote h.2,
        )
      ]

  -- the body was written, and nothing follows it
  pub all_written : (body : List ℕ) (out0 out1 : Option (List ℕ)) → Ends Done body
      → Appends out0 out1 body → Writes Ends status.Done out0 out1
  all_written body out0 out1 ends wrote =
      (Done, body, refl, ends, subst (λ l. Appends out0 out1 l) (sym (append-nil body)) wrote)

  -- the sink failed in the body
  pub first_written : (ending : Ending) (body : List ℕ) (out0 out1 : Option (List ℕ))
      → Ends ending body → AppendsFirst out0 out1 body → Writes Ends status.WriteFault out0 out1
  first_written ending body out0 out1 ends first = (
    ending,
    body,
    ends,
    first_longer out0 out1 body (body ++ last_line ending)
        (prefix_by body (body ++ last_line ending) (last_line ending) refl) first,
  )

module _ (limits : Limits) (in0 in1 : Option (List ℕ)) where
  -- memory for the last line may be wanting, whatever it is
  next_too : (ending : Ending) (events : List Event) (n : ℕ) (w : WorldState) (more : List ℕ)
      (printed : List Line) → (ending ≡ WriteFault → ⊥)
      → Next limits ending in1 events n w more printed
      → Next limits NoMemory in1 events n w more printed
  next_too Done events n w more printed f x = absurd x
  next_too (BadLine k) events n w more printed f x = elim x.3 [
    | inl whole ↦ inr (inl (x.1, x.2, whole))
    | inr long ↦ inl (x.1, subst IsPlain (sym long.1) long.0)
  ]
  next_too ReadFault events n w more printed f x = inl x
  next_too WriteFault events n w more printed f x = absurd (f refl)
  next_too (Refused k g) events n w more printed f x = inr (inl (x.1, x.3, x.5))
  next_too HistoryFull events n w more printed f x = inr (inr (x.0, x.1, x.3, x.4, x.7))
  next_too NoMemory events n w more printed f x = x

  then_too : (ending : Ending) (body : List ℕ) → (ending ≡ WriteFault → ⊥)
      → PlayedThen limits ending in0 in1 body → PlayedThen limits NoMemory in0 in1 body
  then_too ending body f p = record {
    lines = p.lines;
    events = p.events;
    w = p.w;
    more = p.more;
    printed = p.printed;
    reads = p.reads;
    plays = p.plays;
    next = next_too ending p.events _ p.w p.more p.printed f p.next;
    prints = p.prints;
  }

  no_memory_too : (ending : Ending) (body : List ℕ) → (ending ≡ Done → ⊥)
      → (ending ≡ WriteFault → ⊥) → Comes limits in0 in1 ending body
      → Comes limits in0 in1 NoMemory body
  no_memory_too ending body d n c = grind (arith, then_too)

  pub finishes : (ending : Ending) (result : Status) (out0 out1 out2 : Option (List ℕ))
      (before now : Counts) → (ending ≡ Done → ⊥) → (ending ≡ WriteFault → ⊥)
      → ComesTo limits in0 in1 ending out0 out1 → LastGives ending result out1 out2 before now
      → Writes (Comes limits in0 in1) result out0 out2
  finishes ending result out0 out1 out2 before now d n c last =
      ends_as_said (Comes limits in0 in1) ending c.0 result out0 out1 out2 before now n c.1
      (no_memory_too ending c.0 d n c.1) (body_written ending out0 out1 c.0 n c.2) last

  pub done_writes : (out0 out1 : Option (List ℕ)) → ComesTo limits in0 in1 Done out0 out1
      → Writes (Comes limits in0 in1) status.Done out0 out1
  done_writes out0 out1 c = all_written (Comes limits in0 in1) c.0 out0 out1 c.1 c.2

  pub cut_writes : (out0 out1 : Option (List ℕ)) → ComesTo limits in0 in1 WriteFault out0 out1
      → Writes (Comes limits in0 in1) status.WriteFault out0 out1
  cut_writes out0 out1 c = first_written (Comes limits in0 in1) WriteFault c.0 out0 out1 c.1 c.2

writes_too : (P Q : Ending → List ℕ → Type 0) (result : Status) (old new : Option (List ℕ))
    → ((ending : Ending) (body : List ℕ) → P ending body → Q ending body)
    → Writes P result old new → Writes Q result old new
writes_too P Q result old new f w = grind arith

-- the same of the whole input, where it is known
pub writes_known : (limits : Limits) (in0 in1 out0 out1 : Option (List ℕ)) (result : Status)
    → Writes (Comes limits in0 in1) result out0 out1
    → IfSome in0 (λ text. Writes (EndsAs limits (text_lines text)) result out0 out1)
writes_known limits in0 in1 out0 out1 result w = grind (arith, writes_too, ends_as)

module _ (limits : Limits) (lines : List (List ℕ)) where
  complete : (result : Status) (old new : Option (List ℕ)) → (result ≡ status.ReadFault → ⊥)
      → (result ≡ status.WriteFault → ⊥) → Writes (EndsAs limits lines) result old new
      → IsVerdict limits lines result
  complete result old new r w x = grind arith

-- where neither fault is the answer
pub complete_known : (limits : Limits) (in0 out0 out1 : Option (List ℕ)) (result : Status)
    → (result ≡ status.ReadFault → ⊥) → (result ≡ status.WriteFault → ⊥)
    → IfSome in0 (λ text. Writes (EndsAs limits (text_lines text)) result out0 out1)
    → IfSome in0 (λ text. IsVerdict limits (text_lines text) result)
complete_known limits in0 out0 out1 result r w x = grind (arith, complete)

ending_read : (ending : Ending) (old now : Counts) → status_of ending ≡ status.ReadFault
    → EndingRead ending old now → Counted old.faults now.faults
ending_read ending old now e r = grind arith

pub last_read : (ending : Ending) (result : Status) (out1 out2 : Option (List ℕ))
    (k1 k2 c0 c1 : Counts) → LastGives ending result out1 out2 k1 k2 → EndingRead ending c0 c1
    → result ≡ status.ReadFault
    → Counted c0.faults c1.faults
last_read ending result out1 out2 k1 k2 c0 c1 last read e = elim last [
  | inl h ↦ ending_read ending c0 c1 (sym h.0 ∙ e) read
  | inr (inl h) ↦ let clash : status.NoMemory ≡ status.ReadFault = sym h.0 ∙ e in
      absurd (let no : ⊥ = cc in no)
  | inr (inr (inl h)) ↦ let clash : status.WriteFault ≡ status.ReadFault = sym h.0 ∙ e in
      absurd (let no : ⊥ = cc in no)
  | inr (inr (inr h)) ↦ let clash : status.WriteFault ≡ status.ReadFault = sym h.0 ∙ e in
      absurd (let no : ⊥ = cc in no)
]

pub last_wrote : (ending : Ending) (result : Status) (out1 out2 : Option (List ℕ))
    (k0 k1 k2 : Counts) → (ending ≡ WriteFault → ⊥) → LastGives ending result out1 out2 k1 k2
    → EndingWrote ending k0 k1
    → result ≡ status.WriteFault → Counted k0.faults k2.faults
last_wrote ending result out1 out2 k0 k1 k2 n last wrote e = grind arith

ending_done : (ending : Ending) → (ending ≡ Done → ⊥) → status_of ending ≡ status.Done → ⊥
ending_done ending n e = grind arith

pub last_not_done : (ending : Ending) (result : Status) (out1 out2 : Option (List ℕ))
    (k1 k2 : Counts) → (ending ≡ Done → ⊥) → LastGives ending result out1 out2 k1 k2
    → result ≡ status.Done → ⊥
last_not_done ending result out1 out2 k1 k2 n last e = elim last [
  | inl h ↦ ending_done ending n (sym h.0 ∙ e)
  | inr (inl h) ↦ let clash : status.NoMemory ≡ status.Done = sym h.0 ∙ e in (let no : ⊥ = cc in no)
  | inr (inr (inl h)) ↦ let clash : status.WriteFault ≡ status.Done = sym h.0 ∙ e in
      (let no : ⊥ = cc in no)
  | inr (inr (inr h)) ↦ let clash : status.WriteFault ≡ status.Done = sym h.0 ∙ e in
      (let no : ⊥ = cc in no)
]

no_usage : (ending : Ending) → status_of ending ≡ status.Usage → ⊥
no_usage ending e = grind arith

pub last_not_usage : (ending : Ending) (result : Status) (out1 out2 : Option (List ℕ))
    (k1 k2 : Counts) → LastGives ending result out1 out2 k1 k2 → result ≡ status.Usage → ⊥
last_not_usage ending result out1 out2 k1 k2 last e = elim last [
  | inl h ↦ no_usage ending (sym h.0 ∙ e)
  | inr (inl h) ↦ let clash : status.NoMemory ≡ status.Usage = sym h.0 ∙ e in
      (let no : ⊥ = cc in no)
  | inr (inr (inl h)) ↦ let clash : status.WriteFault ≡ status.Usage = sym h.0 ∙ e in
      (let no : ⊥ = cc in no)
  | inr (inr (inr h)) ↦ let clash : status.WriteFault ≡ status.Usage = sym h.0 ∙ e in
      (let no : ⊥ = cc in no)
]
