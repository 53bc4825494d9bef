-- What is read of a link is what was written on it.
use Rattle.std.proofs.Common.{◌≡◌, ◌+◌, ℕ, List, [], ◌∷◌, ◌++◌, Bool, true, false, length, refl}
use Rattle.std.proofs.Common.{sym, subst, ◌∙◌, map, append_assoc, arith}
use Rattle.std.specs.Prelude.{◌||◌}
use Rattle.std.specs.List.{flat_map}
use Rattle.resp_value.specs.declared.value.Proto.{Proto}
use Rattle.resp_value.specs.declared.value.Value.{Value}
use Rattle.resp_value.specs.Lists.{IsPrefix}
use Rattle.resp_value.specs.Tree.{Tree}
use Rattle.resp_value.specs.ValueTree.{tree_of}
use Rattle.resp_value.specs.Spelling.{spelling}
use Rattle.resp_value.specs.Carried.{carried}
use Rattle.resp_stream.specs.Parse.{values_of}
use Rattle.serial_model.specs.declared.history.Limits.{Limits}
use Rattle.serial_model.specs.declared.history.Entry.{Entry}
use Rattle.serial_model.specs.Actions.{Sending, Message, End, spelled, sending_bytes}
use Rattle.serial_model.specs.History.{sent, sent_bytes, stream, has_ended, IsLegal}
use Rattle.serial_model.specs.Laws.{is_end, has_end}
use Rattle.serial_model.proofs.Ends.{end_is_at_its_entry, end_is_last, end_is_sent}
use Rattle.shared_cache.specs.Out.{out}
use Rattle.shared_cache.proofs.CommandLaws.{commands_have_words}
use Rattle.currency.specs.Links.{AreGot}
use Rattle.resp_laws.specs.Fronts.{Every, IsWellFormed}
use Rattle.resp_laws.proofs.Requests.{requests_in_order}
use Rattle.resp_laws.proofs.Spelled.{values_in_order}
use Rattle.link_laws.specs.Crossing.{IsReadable, ReadWasSent, HeardWasCommanded}
use Rattle.link_laws.proofs.SentMessages.{sent_is_well_formed}

pub heard_was_commanded : HeardWasCommanded
unfolding out
heard_was_commanded s w log b legal p = grind (arith, requests_in_order, commands_have_words)

-- ---- the messages of what was sent

abbrev messages_then : Sending → List (Proto × Tree) → List (Proto × Tree)
messages_then (Message proto value) rest = (proto, tree_of value) ∷ rest
messages_then End rest = rest

abbrev messages : List (ℕ × Sending) → List (Proto × Tree)
messages [] = []
messages (s ∷ ss) = messages_then s.1 (messages ss)

abbrev spell : Proto × Tree → List ℕ
spell m = spelling m.0 m.1

abbrev says : Proto × Tree → Tree
says m = carried m.0 m.1

then_bytes : (x : Sending) (ms : List (Proto × Tree)) (bytes : List ℕ) → flat_map spell ms ≡ bytes
    → flat_map spell (messages_then x ms) ≡ sending_bytes x ++ bytes
unfolding spelled
then_bytes x ms bytes e = grind arith

message_bytes : (ss : List (ℕ × Sending)) → flat_map spell (messages ss) ≡ sent_bytes ss
message_bytes [] = refl
message_bytes (s ∷ ss) = then_bytes s.1 (messages ss) (sent_bytes ss) (message_bytes ss)

then_good : (x : Sending) (ms : List (Proto × Tree)) → IsReadable x
    → Every (λ m. IsWellFormed m.0 m.1) ms → Every (λ m. IsWellFormed m.0 m.1) (messages_then x ms)
then_good x ms h k = grind arith

messages_good : (ss : List (ℕ × Sending)) → Every (λ s. IsReadable s.1) ss
    → Every (λ m. IsWellFormed m.0 m.1) (messages ss)
messages_good [] h = tt
messages_good (s ∷ ss) h = then_good s.1 (messages ss) h.0 (messages_good ss h.1)

-- ---- nothing stands behind an end

abbrev ends_there : Sending → List (ℕ × Sending) → Type 0 → Type 0
ends_there (Message proto value) ss rest = rest
ends_there End ss rest = ss ≡ []

abbrev EndsLast : List (ℕ × Sending) → Type 0
EndsLast [] = Unit {0}
EndsLast (s ∷ ss) = ends_there s.1 ss (EndsLast ss)

then_last : (x : Sending) (ss : List (ℕ × Sending)) (rest : Bool) (P : Type 0)
    → (is_end x || rest) ≡ false → (rest ≡ false → P) → ends_there x ss P
then_last x ss rest P e f = grind arith

no_end_last : (ss : List (ℕ × Sending)) → has_end ss ≡ false → EndsLast ss
no_end_last [] e = tt
no_end_last (s ∷ ss) e =
    then_last s.1 ss (has_end ss) (EndsLast ss) e (λ h. no_end_last ss h)

-- an end behind messages
then_behind : (x : Sending) (ss ys : List (ℕ × Sending)) (rest : Bool) (P : Type 0)
    → (is_end x || rest) ≡ false → (rest ≡ false → P) → ends_there x (ss ++ ys) P
then_behind x ss ys rest P e f = grind arith

end_behind : (xs ys : List (ℕ × Sending)) → has_end xs ≡ false → EndsLast ys → EndsLast (xs ++ ys)
end_behind [] ys e h = h
end_behind (x ∷ xs) ys e h =
    then_behind x.1 xs ys (has_end xs) (EndsLast (xs ++ ys)) e (λ g. end_behind xs ys g h)

module _ (l : Limits) (c : ℕ) where
  unended : (past : List Entry) → has_ended l c past ≡ false → has_end (sent l c past) ≡ false
  unended past e = sym (end_is_sent l c past) ∙ e

  ends_last : (past : List Entry) → EndsLast (sent l c past)
  ends_last [] = tt
  ends_last (entry ∷ past) =
      elim (has_ended l c past) as (λ b. has_ended l c past ≡ b
      → EndsLast (sent l c (entry ∷ past))) [
        | true ↦ λ ended.
            subst EndsLast (sym (end_is_last l c entry past ended)) (ends_last past)
        | false ↦ λ live.
            elim (has_ended l c (entry ∷ past)) as (λ b. has_ended l c (entry ∷ past) ≡ b
            → EndsLast (sent l c (entry ∷ past))) [
              | true ↦ λ over.
                  let w = end_is_at_its_entry l c entry past live over in
                  subst EndsLast (sym w.2)
                  (end_behind w.0 ((length past + 1, End) ∷ []) w.1 refl)
              | false ↦ λ still.
                  no_end_last (sent l c (entry ∷ past)) (unended (entry ∷ past) still)
            ] refl
      ] refl

-- ---- values that are the first messages are what was sent

none_first : (v : Tree) (vs rest : List Tree) → v ∷ (vs ++ rest) ≡ [] → ⊥
none_first v vs rest e = cc

got_by : (v : Value) (vs : List Value) (n : ℕ) (x : Sending) (ss : List (ℕ × Sending))
    → ends_there x ss (EndsLast ss)
    → IsPrefix (map tree_of (v ∷ vs)) (map says (messages_then x (messages ss)))
    → (EndsLast ss → IsPrefix (map tree_of vs) (map says (messages ss)) → AreGot vs ss)
    → AreGot (v ∷ vs) ((n, x) ∷ ss)
got_by v vs n x ss h p f = grind (arith, none_first)

are_got : (vs : List Value) (ss : List (ℕ × Sending)) → EndsLast ss
    → IsPrefix (map tree_of vs) (map says (messages ss)) → AreGot vs ss
are_got [] ss h p = tt
are_got (v ∷ vs) [] h p = none_first (tree_of v) (map tree_of vs) p.0 p.1
are_got (v ∷ vs) (s ∷ ss) h p =
    got_by v vs s.0 s.1 ss h p (λ g q. are_got vs ss g q)

front_of_front : {A : Type 0} (xs ys zs : List A) → IsPrefix xs ys → IsPrefix ys zs
    → IsPrefix xs zs
front_of_front xs ys zs p q = grind (arith, append_assoc)

pub read_was_sent : ReadWasSent IsLegal
unfolding stream
read_was_sent l c past b values legal p q =
    let ss = sent l c past in
    are_got values ss (ends_last l c past)
    (front_of_front (map tree_of values) (values_of b) (map says (messages ss)) q
    (grind (arith, values_in_order, messages_good, sent_is_well_formed, message_bytes)))
