-- What a turn of one connection leaves of the others.
use Rattle.std.proofs.Common.{◌≡◌, ◌+◌, ℕ, List, [], ◌∷◌, ◌++◌, true, cond, length, max, refl, sym}
use Rattle.std.proofs.Common.{ap, ◌∙◌, append-nil, append_assoc, arith}
use Rattle.std.proofs.lemmas.Bool.Decides.{nat_tests}
use Rattle.serial_model.specs.declared.history.Limits.{Limits}
use Rattle.serial_model.specs.declared.history.Entry.{Entry}
use Rattle.serial_model.specs.declared.history.Entry.TheVariants as entry
use Rattle.serial_model.specs.declared.history.BookCall.{BookCall}
use Rattle.serial_model.specs.declared.history.BookCall.TheVariants.{Admit, Run, Tick, Take, Close}
use Rattle.serial_model.specs.History.{admitted, is_admitted, has_ended, latest, taken, runs_of}
use Rattle.serial_model.specs.History.{state, sends, sent_to, sent_bytes}
use Rattle.serial_model.specs.Steps.{Turn, book_step}
use Rattle.serial_model.specs.Laws.{Extends, IsOther}
use Rattle.serial_model.proofs.StepCases.{by_admit, by_run, by_tick, by_take, by_close}
use Rattle.serial_model.proofs.Ends.{ended_then}
use Rattle.serial_model.proofs.Streams.{stream_more}
use Rattle.std.proofs.lemmas.Bool.{or_left}

module _ (l : Limits) (c : ℕ) where
  pub extends_none : (past : List Entry) → Extends l c past past
  extends_none past = grind (arith, append-nil)

  pub extends_more : (a b d : List Entry) → Extends l c a b → Extends l c b d → Extends l c a d
  extends_more a b d f g = grind (arith, append_assoc)

  stays : (past : List Entry) (e : Entry) → has_ended l c past ≡ true
      → has_ended l c (e ∷ past) ≡ true
  unfolding state
  stays past e h = ended_then l e (state l past) (length past + 1) c ∙ or_left _ _ h

  -- one more entry, which is none of the connection's
  extends_entry : (past : List Entry) (e : Entry)
      → (is_admitted past c ≡ true → is_admitted (e ∷ past) c ≡ true)
      → taken l c (e ∷ past) ≡ taken l c past → runs_of c (e ∷ past) ≡ runs_of c past
      → Extends l c past (e ∷ past)
  extends_entry past e on took ran = record {
    is_still_admitted = on;
    stream_grew = (
      sent_bytes (sent_to (length past + 1) c (sends l e (state l past))),
      sym (stream_more l past c e),
    );
    taken_is = took;
    runs_are = ran;
    stays_ended = stays past e;
  }

  abbrev Grown : List Entry → Turn → Type 0
  Grown past turn = Extends l c past turn.past

  pub others_extend : (past : List Entry) (call : BookCall) → IsOther c call
      → Extends l c past (book_step l past call).past
  others_extend past Admit other =
      by_admit l past (Grown past) (extends_none past)
      (λ on. extends_entry past (entry.Admit (admitted past + 1))
      (grind (arith, nat_tests)) refl refl)
  others_extend past (Run id words now) other =
      by_run l past (Grown past) id words now (extends_none past)
      (λ on. extends_entry past (entry.Run id words (max now (latest past))) (λ h. h) refl
      (ap (λ b. cond b (runs_of c past ++ words ∷ []) (runs_of c past)) other))
  others_extend past (Tick now) other =
      by_tick l past (Grown past) now (extends_none past) (extends_none past)
      (λ on some. extends_entry past (entry.Tick (max now (latest past))) (λ h. h) refl refl)
  others_extend past (Take id most) other =
      by_take l past (Grown past) id most (extends_none past) (extends_none past)
      (λ on some. extends_entry past (entry.Take id most) (λ h. h) (grind arith) refl)
  others_extend past (Close id) other =
      by_close l past (Grown past) id (extends_none past)
      (λ on. extends_entry past (entry.Close id) (λ h. h) refl refl)
