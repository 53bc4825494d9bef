-- A reader of values goes on from where it stands.
use Rattle.std.proofs.Common.{◌≡◌, ℕ, List, [], ◌∷◌, ◌++◌, refl, sym, ap, ◌∙◌, append_assoc}
use Rattle.std.proofs.Common.{append-nil, false, None, arith}
use Rattle.resp_value.specs.Tree.{Tree}
use Rattle.resp_stream.specs.declared.fault.Fault.{Fault}
use Rattle.resp_stream.specs.Parsed.{Whole, More, Bad}
use Rattle.resp_stream.specs.Parse.{Batch, parse_values, values_of}
use Rattle.resp_stream.specs.Stream.{Stream, fed, moved_on}
use Rattle.resp_stream.specs.Value.{value_at}
use Rattle.resp_stream.proofs.Batches.{fed_rest, batch_whole, batch_more, batch_bad, batch_rest}
use Rattle.resp_stream.proofs.Batches.{batch_unfailed}
use Rattle.resp_stream.proofs.Parse.{takes_values}
use Rattle.resp_laws.specs.Progress.{BeginsRead, AnswersRead, WaitsRead, StopsRead, HoldsRead}
use Rattle.resp_laws.proofs.Steadiness.{steady_values}

pub values_rest : (s t : Stream) → s.rest ≡ t.rest → (parse_values s).items ≡ (parse_values t).items
unfolding parse_values
values_rest s t e = batch_rest value_at (λ q. q) takes_values s t e

values_whole : (s : Stream) (x : Tree) (r : List ℕ) → value_at s.rest ≡ Whole x r
    → (parse_values s).items ≡ x ∷ (parse_values (moved_on s r)).items
unfolding parse_values
values_whole s x r e =
    ap (λ (q : Batch Tree). q.items) (batch_whole value_at (λ q. q) takes_values s x r e)

pub values_more : (s : Stream) → value_at s.rest ≡ More → (parse_values s).items ≡ []
unfolding parse_values
values_more s e = ap (λ (q : Batch Tree). q.items) (batch_more value_at (λ q. q) takes_values s e)

values_bad : (s : Stream) (g : Fault) (r : List ℕ) → value_at s.rest ≡ Bad g r
    → (parse_values s).items ≡ []
unfolding parse_values
values_bad s g r e =
    ap (λ (q : Batch Tree). q.items) (batch_bad value_at (λ q. q) takes_values s g r e)

pub values_unfailed : (s : Stream) → s.failed ≡ false → (parse_values s).fault ≡ None
    → (parse_values s).stream.failed ≡ false
unfolding parse_values
values_unfailed s t e = batch_unfailed value_at (λ q. q) takes_values s t e

pub fed_twice : (s : Stream) (a b : List ℕ) → s.failed ≡ false
    → (fed s (a ++ b)).rest ≡ (fed (fed s a) b).rest
fed_twice s a b t = grind (arith, fed_rest, append_assoc)

pub begins_read : BeginsRead
begins_read = record { untold = refl; further = λ m. refl }

next_items : (s : Stream) (x : Tree) (r m : List ℕ) → s.failed ≡ false
    → value_at s.rest ≡ Whole x r
    → (parse_values (fed s m)).items ≡ x ∷ (parse_values (fed (moved_on s r) m)).items
next_items s x r m t e =
    values_whole (fed s m) x (r ++ m) (takes_values.kept s m x r t e)
    ∙ ap (λ (q : List Tree). x ∷ q)
    (grind (arith, values_rest, fed_rest))

pub answers_read : AnswersRead
answers_read got b r s x h e = record {
  untold = h.untold;
  further = λ m. h.further m ∙ ap (λ (q : List Tree). got ++ q) (next_items s x r m h.untold e)
      ∙ sym (append_assoc got (x ∷ []) (parse_values (fed (moved_on s r) m)).items);
}

pub holds_read : HoldsRead
holds_read got b s h =
    ap values_of (sym (append-nil b)) ∙ h.further []
    ∙ ap (λ (q : List Tree). got ++ q)
    (values_rest (fed s []) s (fed_rest s [] h.untold ∙ append-nil s.rest))

pub waits_read : WaitsRead
waits_read got b s h e =
    holds_read got b s h ∙ ap (λ (q : List Tree). got ++ q) (values_more s e) ∙ append-nil got

pub stops_read : StopsRead
stops_read got b r m s g h e =
    h.further m
    ∙ ap (λ (q : List Tree). got ++ q)
    (values_bad (fed s m) g (r ++ m)
    (ap value_at (fed_rest s m h.untold) ∙ steady_values.bad s.rest r g e m))
    ∙ append-nil got
