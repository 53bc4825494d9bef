-- A line has an event exactly where it is a line of that event, and the event is valid.
use Rattle.std.proofs.Common.{◌≡◌, ◌<◌, ◌==◌, ℕ, List, [], ◌∷◌, true, false, nat_le}
use Rattle.std.proofs.Common.{codes, refl, sym, ap, ◌∙◌, subst, arith, length, map, ◌⊎◌, inl, inr}
use Rattle.std.specs.declared.option.Option.{Option}
use Rattle.std.specs.declared.option.Option.TheVariants.{None, Some}
use Rattle.std.specs.Fmt.{decimal}
use Rattle.std.specs.List.{list_all, slice_split, join_with_byte}
use Rattle.std.specs.Option.{option_map}
use Rattle.std.specs.Str.{bytes_eq}
use Rattle.std.proofs.lemmas.Bool.{lt-ltb}
use Rattle.std.proofs.lemmas.List.Splits.{join_with_byte-slice_split}
use Rattle.command_words.specs.Printed.{printed}
use Rattle.command_words.specs.Queries.{query_of}
use Rattle.shared_cache.specs.declared.log.ClientMode.{ClientMode}
use Rattle.script_text.specs.declared.event.Event.{Event}
use Rattle.script_text.specs.declared.event.Event.TheVariants.{Raw, Say, Bytes, Client, Out, Serve}
use Rattle.script_text.specs.declared.event.Event.TheVariants.{Send, Recv, Flow, FlowAll, Cut, Ask}
use Rattle.script_text.specs.declared.event.Event.TheVariants.{Do, Poll, Show, Now, Tick}
use Rattle.script_text.specs.Words.{is_name, is_link, word_of, words_of, number_within, greatest}
use Rattle.script_text.specs.Clients.{client_of}
use Rattle.script_text.specs.Events.{event_of, event_of_parts, named_event, link_event, first_there}
use Rattle.script_text.specs.Events.{bare, request_of, bytes_of, asked_of, polled_of, amount_of}
use Rattle.script_text.specs.Events.{longest_line}
use Rattle.script_text.specs.Grammar.{parts_of, line_of, amount_parts, client_parts, asking}
use Rattle.script_text.specs.Grammar.{is_amount, is_request, are_bytes, has_fields, is_valid}
use Rattle.script_text.specs.Grammar.{IsLineOf, LinesComeBack, EventsComeBack}
use Rattle.script_text.proofs.Numbers.{both_true, both, number_within-decimal}
use Rattle.script_text.proofs.Numbers.{decimal-number_within, small_within}
use Rattle.script_text.proofs.Choices.{none_is_some, same_text, by_test, named, when}
use Rattle.script_text.proofs.Spelling.{word_of-printed, printed-word_of}
use Rattle.script_text.proofs.Parts.{is_unbroken, parted-joined, parted-bytes, name-unbroken}
use Rattle.script_text.proofs.Parts.{link-unbroken, printed-unbroken, all_printed-unbroken}
use Rattle.script_text.proofs.Parts.{decimal-unbroken}
use Rattle.script_text.proofs.Fields.{word-bytes, words_of-printed, printed-words_of, WordsComeFrom}
use Rattle.script_text.proofs.Fields.{amount_of-parts, parts-amount_of, option_map-some}
use Rattle.script_text.proofs.ClientFields.{client_there, client_back, ClientComesFrom, there_then}
use Rattle.script_text.proofs.ClientFields.{client-unbroken}
use Rattle.script_text.proofs.Asking.{is_query-read, query_of-is_query, query_bytes, query-length}

-- ---- from the event to its parts
pub requested : (words : List (List ℕ)) → is_request words ≡ true
    → request_of (map printed words) ≡ Some words
requested [] h = cc
requested (word ∷ words) h = words_of-printed (word ∷ words) (both_true _ _ h).1

-- an event of a name
of_name : (kind name : List ℕ) (rest : List (List ℕ)) (event : Event)
    → bytes_eq kind (codes "now") ≡ false → is_name name ≡ true
    → named_event kind name rest ≡ Some event → event_of_parts (kind ∷ name ∷ rest) ≡ Some event
unfolding event_of_parts
of_name kind name rest event later n e = grind (arith, named)

-- an event of a link
of_link : (kind link : List ℕ) (rest : List (List ℕ)) (event : Event)
    → bytes_eq kind (codes "now") ≡ false → named_event kind link rest ≡ None → is_link link ≡ true
    → link_event kind link rest ≡ Some event → event_of_parts (kind ∷ link ∷ rest) ≡ Some event
unfolding event_of_parts
of_link kind link rest event later other n e = grind (arith, named)

asked_there : (client : List ℕ) (words query : List (List ℕ)) → is_name client ≡ true
    → query_of words ≡ Some query → list_all are_bytes words ≡ true
    → event_of_parts (asking client words) ≡ Some (Ask client query)
unfolding named_event
asked_there client words query n q b =
    of_name (codes "ask") client (map printed words) (Ask client query) refl n
    (grind (arith, words_of-printed))

event_of_parts-parts : (event : Event) → has_fields event ≡ true
    → event_of_parts (parts_of event) ≡ Some event
unfolding event_of_parts named_event link_event
event_of_parts-parts (Raw link) h = of_name (codes "raw") link [] (Raw link) refl h refl
event_of_parts-parts (Say link words) h = grind (arith, both_true, of_name, codes, requested)
event_of_parts-parts (Bytes link bytes) h =
    grind (arith, both_true, of_name, codes, word_of-printed)
event_of_parts-parts (Client client mode keys) h =
    grind (arith, both_true, of_name, codes, client_there)
event_of_parts-parts (Out link amount) h = grind (arith, both_true, of_link, codes, amount_of-parts)
event_of_parts-parts (Serve link amount) h =
    grind (arith, both_true, of_link, codes, amount_of-parts)
event_of_parts-parts (Send link amount) h =
    grind (arith, both_true, of_link, codes, amount_of-parts)
event_of_parts-parts (Recv link amount) h =
    grind (arith, both_true, of_link, codes, amount_of-parts)
event_of_parts-parts (Flow link) h = of_link (codes "flow") link [] (Flow link) refl refl h refl
event_of_parts-parts FlowAll h = refl
event_of_parts-parts (Cut link) h = of_link (codes "cut") link [] (Cut link) refl refl h refl
event_of_parts-parts (Now moment) h = grind (arith, number_within-decimal, small_within)
event_of_parts-parts Tick h = refl
event_of_parts-parts (Ask client query) h = grind (arith, both_true, asked_there, query_of-is_query)
event_of_parts-parts (Do client words) h = grind (arith, both_true, of_name, codes, requested)
event_of_parts-parts (Poll client number) h =
    grind (arith, both_true, of_name, codes, number_within-decimal, small_within)
event_of_parts-parts (Show client) h = of_name (codes "show") client [] (Show client) refl h refl

-- ---- from the parts to their event
-- the event asks for the query that these words are
record Asked (event : Event) : Type 0 where
  client : List ℕ
  query : List (List ℕ)
  words : List (List ℕ)
  is_ask : Ask client query ≡ event
  is_read : query_of words ≡ Some query
  of_bytes : list_all are_bytes words ≡ true

record ComesBack (parts : List (List ℕ)) (event : Event) : Type 0 where
  parted : (parts_of event ≡ parts) ⊎ ((a : Asked event) × (asking a.client a.words ≡ parts))
  fields : has_fields event ≡ true

bare_back : (made : Event) (kind word link : List ℕ) (rest : List (List ℕ)) (event : Event)
    → bytes_eq kind word ≡ true → parts_of made ≡ word ∷ link ∷ [] → has_fields made ≡ true
    → bare made rest ≡ Some event → ComesBack (kind ∷ link ∷ rest) event
bare_back made kind word link [] event k p f h =
    let same : made ≡ event = cc in
    subst (λ e. ComesBack (kind ∷ link ∷ []) e) same
    (record { parted = inl (p ∙ ap (λ n. n ∷ link ∷ []) (same_text kind word k)); fields = f })
bare_back made kind word link (part ∷ rest) event k p f h = cc

amount_back : (make : Option ℕ → Event) (kind word link : List ℕ) (rest : List (List ℕ))
    (event : Event) → bytes_eq kind word ≡ true
    → ((a : Option ℕ) → parts_of (make a) ≡ word ∷ link ∷ amount_parts a)
    → ((a : Option ℕ) → is_amount a ≡ true → has_fields (make a) ≡ true)
    → option_map make (amount_of rest) ≡ Some event → ComesBack (kind ∷ link ∷ rest) event
amount_back make kind word link rest event k p f h =
    let found = option_map-some make (amount_of rest) event h in
    let back = parts-amount_of rest found.0 found.1.0 in
    subst (λ e. ComesBack (kind ∷ link ∷ rest) e) found.1.1
    (record {
      parted = inl (p found.0 ∙ ap (λ n. n ∷ link ∷ amount_parts found.0) (same_text kind word k)
          ∙ ap (λ more. kind ∷ link ∷ more) back.0);
      fields = f found.0 back.1;
    })

words_back : (make : List (List ℕ) → Event) (kind word name : List ℕ) (rest : List (List ℕ))
    (event : Event) → bytes_eq kind word ≡ true
    → ((ws : List (List ℕ)) → parts_of (make ws) ≡ word ∷ name ∷ map printed ws)
    → ((ws : List (List ℕ)) → is_request ws ≡ true → has_fields (make ws) ≡ true)
    → list_all are_bytes rest ≡ true
    → option_map make (request_of rest) ≡ Some event → ComesBack (kind ∷ name ∷ rest) event
words_back make kind word name [] event k p f b h = cc
words_back make kind word name (text ∷ texts) event k p f b h =
    let found = option_map-some make (words_of (text ∷ texts)) event h in
    let words = found.0 in
    let back : WordsComeFrom (text ∷ texts) words =
    printed-words_of (text ∷ texts) words found.1.0 b in
    subst (λ e. ComesBack (kind ∷ name ∷ text ∷ texts) e) found.1.1
    (record {
      parted = inl (p words ∙ ap (λ n. n ∷ name ∷ map printed words) (same_text kind word k)
          ∙ ap (λ more. kind ∷ name ∷ more) back.printed_as);
      fields = f words (both _ _ (lt-ltb _ _ (omega (arith, back.as_many))) back.of_bytes);
    })

bytes_back_from : (kind link : List ℕ) (rest : List (List ℕ)) (event : Event)
    → bytes_eq kind (codes "bytes") ≡ true → is_name link ≡ true → list_all are_bytes rest ≡ true
    → option_map (Bytes link) (bytes_of rest) ≡ Some event → ComesBack (kind ∷ link ∷ rest) event
bytes_back_from kind link [] event k n b h = cc
bytes_back_from kind link (text ∷ []) event k n b h =
    let found = option_map-some (Bytes link) (word_of text) event h in
    let word = found.0 in
    subst (λ e. ComesBack (kind ∷ link ∷ text ∷ []) e) found.1.1
    (record {
      parted = inl (ap (λ n. n ∷ link ∷ printed word ∷ []) (same_text kind (codes "bytes") k)
          ∙ ap (λ t. kind ∷ link ∷ t ∷ []) (printed-word_of word text found.1.0));
      fields = both _ _ n (word-bytes text word found.1.0 (both_true _ _ b).0);
    })
bytes_back_from kind link (text ∷ next ∷ rest) event k n b h = cc

made_back : (kind name : List ℕ) (rest : List (List ℕ)) (event : Event)
    → bytes_eq kind (codes "client") ≡ true → is_name name ≡ true → list_all are_bytes rest ≡ true
    → option_map (λ (made : ClientMode × ℕ). Client name made.0 made.1) (client_of rest)
    ≡ Some event → ComesBack (kind ∷ name ∷ rest) event
made_back kind name rest event k n b h =
    let found = option_map-some (λ (made : ClientMode × ℕ). Client name made.0 made.1)
    (client_of rest) event h in
    let made = found.0 in
    let back : ClientComesFrom rest made = client_back rest made found.1.0 b in
    subst (λ e. ComesBack (kind ∷ name ∷ rest) e) found.1.1
    (record {
      parted = inl (ap (λ w. w ∷ name ∷ client_parts made.0 made.1)
          (same_text kind (codes "client") k) ∙ ap (λ more. kind ∷ name ∷ more) back.parted);
      fields = both _ _ n (both _ _ back.mode_fits back.keys_fit);
    })

ask_back : (kind name : List ℕ) (rest : List (List ℕ)) (event : Event)
    → bytes_eq kind (codes "ask") ≡ true → is_name name ≡ true → list_all are_bytes rest ≡ true
    → option_map (Ask name) (asked_of rest) ≡ Some event → ComesBack (kind ∷ name ∷ rest) event
ask_back kind name rest event k n b h =
    let found = option_map-some (Ask name) (asked_of rest) event h in
    let query = found.0 in
    let read = there_then query_of (words_of rest) query found.1.0 in
    let words = read.0 in
    let back : WordsComeFrom rest words = printed-words_of rest words read.1.0 b in
    let asked : Asked event = grind arith in
    record {
      parted = inr (
        asked,
        ap (λ w. w ∷ name ∷ map printed words) (same_text kind (codes "ask") k)
            ∙ ap (λ more. kind ∷ name ∷ more) back.printed_as,
      );
      fields = grind (arith, both, is_query-read, query_bytes);
    }

poll_back : (kind name : List ℕ) (rest : List (List ℕ)) (event : Event)
    → bytes_eq kind (codes "poll") ≡ true → is_name name ≡ true
    → option_map (Poll name) (polled_of rest) ≡ Some event → ComesBack (kind ∷ name ∷ rest) event
poll_back kind name [] event k n h = cc
poll_back kind name (text ∷ []) event k n h =
    let found = option_map-some (Poll name) (number_within 0 greatest text) event h in
    let back = decimal-number_within 0 greatest found.0 text found.1.0 in
    subst (λ e. ComesBack (kind ∷ name ∷ text ∷ []) e) found.1.1
    (record {
      parted = inl (ap (λ w. w ∷ name ∷ decimal found.0 ∷ []) (same_text kind (codes "poll") k)
          ∙ ap (λ t. kind ∷ name ∷ t ∷ []) back.1);
      fields = both _ _ n back.0;
    })
poll_back kind name (text ∷ next ∷ rest) event k n h = cc

named_back : (kind name : List ℕ) (rest : List (List ℕ)) (event : Event) → is_name name ≡ true
    → list_all are_bytes rest ≡ true → named_event kind name rest ≡ Some event
    → ComesBack (kind ∷ name ∷ rest) event
unfolding named_event
named_back kind name rest event n b =
    let R = ComesBack (kind ∷ name ∷ rest) event in
    let fields = λ (ws : List (List ℕ)) (g : is_request ws ≡ true). both _ _ n g in
    by_test R event (bytes_eq kind (codes "raw")) (bare (Raw name) rest) _
    (λ k h. bare_back (Raw name) kind (codes "raw") name rest event k refl n h) (
    by_test R event (bytes_eq kind (codes "say")) (option_map (Say name) (request_of rest)) _
    (λ k h. words_back (Say name) kind (codes "say") name rest event k (λ ws. refl) fields b h) (
    by_test R event (bytes_eq kind (codes "bytes")) (option_map (Bytes name) (bytes_of rest)) _
    (λ k h. bytes_back_from kind name rest event k n b h) (
    by_test R event (bytes_eq kind (codes "client"))
    (option_map (λ (made : ClientMode × ℕ). Client name made.0 made.1) (client_of rest)) _
    (λ k h. made_back kind name rest event k n b h) (
    by_test R event (bytes_eq kind (codes "ask")) (option_map (Ask name) (asked_of rest)) _
    (λ k h. ask_back kind name rest event k n b h) (
    by_test R event (bytes_eq kind (codes "do")) (option_map (Do name) (request_of rest)) _
    (λ k h. words_back (Do name) kind (codes "do") name rest event k (λ ws. refl) fields b h) (
    by_test R event (bytes_eq kind (codes "poll")) (option_map (Poll name) (polled_of rest)) _
    (λ k h. poll_back kind name rest event k n h) (
    grind (arith, by_test, codes, bare_back, none_is_some))))))))

link_back : (kind link : List ℕ) (rest : List (List ℕ)) (event : Event) → is_link link ≡ true
    → link_event kind link rest ≡ Some event → ComesBack (kind ∷ link ∷ rest) event
unfolding link_event
link_back kind link rest event n =
    let R = ComesBack (kind ∷ link ∷ rest) event in
    let fields = λ (a : Option ℕ) (g : is_amount a ≡ true). both _ _ n g in
    by_test R event (bytes_eq kind (codes "out")) (option_map (Out link) (amount_of rest)) _
    (λ k h. amount_back (Out link) kind (codes "out") link rest event k (λ a. refl) fields h) (
    by_test R event (bytes_eq kind (codes "serve")) (option_map (Serve link) (amount_of rest)) _
    (λ k h. amount_back (Serve link) kind (codes "serve") link rest event k (λ a. refl) fields
    h) (
    by_test R event (bytes_eq kind (codes "send")) (option_map (Send link) (amount_of rest)) _
    (λ k h. amount_back (Send link) kind (codes "send") link rest event k (λ a. refl) fields h)
    (
    by_test R event (bytes_eq kind (codes "recv")) (option_map (Recv link) (amount_of rest)) _
    (λ k h. amount_back (Recv link) kind (codes "recv") link rest event k (λ a. refl) fields h)
    (
    by_test R event (bytes_eq kind (codes "flow")) (bare (Flow link) rest) _
    (λ k h. bare_back (Flow link) kind (codes "flow") link rest event k refl n h) (
    by_test R event (bytes_eq kind (codes "cut")) (bare (Cut link) rest) None
    (λ k h. bare_back (Cut link) kind (codes "cut") link rest event k refl n h) (
    none_is_some R event))))))

tick_back : (kind : List ℕ) (event : Event) → bytes_eq kind (codes "tick") ≡ true
    → Some Tick ≡ Some event → ComesBack (kind ∷ []) event
tick_back kind event k h =
    let same : Tick ≡ event = cc in
    subst (λ e. ComesBack (kind ∷ []) e) same
    (record { parted = inl (ap (λ n. n ∷ []) (same_text kind (codes "tick") k)); fields = refl })

now_back : (kind : List ℕ) (rest : List (List ℕ)) (event : Event)
    → bytes_eq kind (codes "now") ≡ true
    → option_map Now (polled_of rest) ≡ Some event → ComesBack (kind ∷ rest) event
now_back kind [] event k h = cc
now_back kind (text ∷ []) event k h =
    let found = option_map-some Now (number_within 0 greatest text) event h in
    let back = decimal-number_within 0 greatest found.0 text found.1.0 in
    subst (λ e. ComesBack (kind ∷ text ∷ []) e) found.1.1
    (record {
      parted = inl (ap (λ w. w ∷ decimal found.0 ∷ []) (same_text kind (codes "now") k)
          ∙ ap (λ t. kind ∷ t ∷ []) back.1);
      fields = back.0;
    })
now_back kind (text ∷ next ∷ rest) event k h = cc

all_back : (kind : List ℕ) (event : Event) → bytes_eq kind (codes "flow") ≡ true
    → Some FlowAll ≡ Some event → ComesBack (kind ∷ []) event
all_back kind event k h =
    let same : FlowAll ≡ event = cc in
    subst (λ e. ComesBack (kind ∷ []) e) same
    (record { parted = inl (ap (λ n. n ∷ []) (same_text kind (codes "flow") k)); fields = refl })

first_or_other : (o p : Option Event) (event : Event) → first_there o p ≡ Some event
    → (o ≡ Some event) ⊎ (p ≡ Some event)
first_or_other o p event h = grind arith

parts_back : (parts : List (List ℕ)) (event : Event) → list_all are_bytes parts ≡ true
    → event_of_parts parts ≡ Some event → ComesBack parts event
unfolding event_of_parts
parts_back [] event b h = cc
parts_back (kind ∷ []) event b h = grind (arith, by_test, codes, all_back, tick_back, none_is_some)
parts_back (kind ∷ name ∷ rest) event b h =
    let bytes = (both_true _ _ (both_true _ _ b).1).1 in
    by_test (ComesBack (kind ∷ name ∷ rest) event) event (bytes_eq kind (codes "now"))
    (option_map Now (polled_of (name ∷ rest))) _ (now_back kind (name ∷ rest) event)
    (λ g. elim (first_or_other _ _ event g) [
      | inl e ↦ let found = when (is_name name) (named_event kind name rest) event e in
          named_back kind name rest event found.0 bytes found.1
      | inr e ↦ let found = when (is_link name) (link_event kind name rest) event e in
          link_back kind name rest event found.0 found.1
    ]) h

-- ---- no part of an event's line holds a blank
amount-unbroken : (amount : Option ℕ) → is_amount amount ≡ true
    → list_all is_unbroken (amount_parts amount) ≡ true
amount-unbroken amount h = grind (arith, both, decimal-unbroken, small_within)

parts-unbroken : (event : Event) → has_fields event ≡ true
    → list_all is_unbroken (parts_of event) ≡ true
parts-unbroken (Raw link) h = both _ _ (name-unbroken link h) refl
parts-unbroken (Say link words) h =
    both _ _ (name-unbroken link (both_true _ _ h).0) (all_printed-unbroken words)
parts-unbroken (Bytes link bytes) h =
    both _ _ (name-unbroken link (both_true _ _ h).0) (both _ _ (printed-unbroken bytes) refl)
parts-unbroken (Client client mode keys) h =
    grind (arith, both_true, both, name-unbroken, client-unbroken)
parts-unbroken (Out link amount) h =
    both _ _ (link-unbroken link (both_true _ _ h).0) (amount-unbroken amount (both_true _ _ h).1)
parts-unbroken (Serve link amount) h =
    both _ _ (link-unbroken link (both_true _ _ h).0) (amount-unbroken amount (both_true _ _ h).1)
parts-unbroken (Send link amount) h =
    both _ _ (link-unbroken link (both_true _ _ h).0) (amount-unbroken amount (both_true _ _ h).1)
parts-unbroken (Recv link amount) h =
    both _ _ (link-unbroken link (both_true _ _ h).0) (amount-unbroken amount (both_true _ _ h).1)
parts-unbroken (Flow link) h = both _ _ (link-unbroken link h) refl
parts-unbroken FlowAll h = refl
parts-unbroken (Cut link) h = both _ _ (link-unbroken link h) refl
parts-unbroken (Now moment) h =
    both _ _ (decimal-unbroken moment (small_within 0 greatest moment (omega arith) h)) refl
parts-unbroken Tick h = refl
parts-unbroken (Ask client query) h =
    both _ _ (name-unbroken client (both_true _ _ h).0) (all_printed-unbroken query)
parts-unbroken (Do client words) h =
    both _ _ (name-unbroken client (both_true _ _ h).0) (all_printed-unbroken words)
parts-unbroken (Poll client number) h =
    grind (arith, both_true, both, name-unbroken, decimal-unbroken, small_within)
parts-unbroken (Show client) h = both _ _ (name-unbroken client h) refl

pub parted_again : (parts : List (List ℕ)) → list_all is_unbroken parts ≡ true → 0 < length parts
    → slice_split (λ b. b == 32) (join_with_byte 32 parts) ≡ parts
parted_again [] h l = absurd (omega arith)
parted_again (part ∷ parts) h l = parted-joined part parts h

some_part : (event : Event) → 0 < length (parts_of event)
some_part event = grind arith

-- the others ask for a query
line_is : (event : Event) (line : List ℕ) → IsLineOf event line
    → (line_of event ≡ line)
    ⊎ ((a : Asked event) × (join_with_byte 32 (asking a.client a.words) ≡ line))
line_is (Raw link) line e = inl e
line_is (Say link words) line e = inl e
line_is (Bytes link bytes) line e = inl e
line_is (Client client mode keys) line e = inl e
line_is (Out link amount) line e = inl e
line_is (Serve link amount) line e = inl e
line_is (Send link amount) line e = inl e
line_is (Recv link amount) line e = inl e
line_is (Flow link) line e = inl e
line_is FlowAll line e = inl e
line_is (Cut link) line e = inl e
line_is (Now moment) line e = inl e
line_is Tick line e = inl e
line_is (Ask client query) line e = inr (
  record {
    client = client;
    query = query;
    words = e.0;
    is_ask = refl;
    is_read = e.1.0;
    of_bytes = e.1.1;
  },
  e.1.2,
)
line_is (Do client words) line e = inl e
line_is (Poll client number) line e = inl e
line_is (Show client) line e = inl e

-- ---- the law
valid_line : (event : Event) (line : List ℕ) → are_bytes line ≡ true → event_of line ≡ Some event
    → (is_valid event ≡ true) × IsLineOf event line
unfolding event_of
valid_line event line b h =
    let short = when _ _ event h in
    let back : ComesBack (slice_split (λ b. b == 32) line) event =
    parts_back (slice_split (λ b. b == 32) line) event (parted-bytes line b) short.1 in
    let whole = join_with_byte-slice_split 32 line in
    elim back.parted [
      | inl p ↦ grind (arith, both, nat_le, both_true, query_of-is_query)
      | inr p ↦ grind (arith, both, nat_le, query-length)
    ]

parted_back : (event : Event) (parts : List (List ℕ)) (line : List ℕ)
    → nat_le (length line) longest_line ≡ true → join_with_byte 32 parts ≡ line
    → list_all is_unbroken parts ≡ true → 0 < length parts → event_of_parts parts ≡ Some event
    → event_of line ≡ Some event
unfolding event_of
parted_back event parts line short joined u l there = grind (arith, parted_again, named)

event_back : (event : Event) (line : List ℕ) → is_valid event ≡ true → IsLineOf event line
    → event_of line ≡ Some event
event_back event line v is_line =
    let valid = both_true _ _ v in
    elim (line_is event line is_line) [
      | inl e ↦ parted_back event (parts_of event) line
          (ap (λ l. nat_le (length l) longest_line) (sym e) ∙ valid.1) e
          (parts-unbroken event valid.0) (some_part event) (event_of_parts-parts event valid.0)
      | inr p ↦ let a : Asked event = p.0 in
          let client : is_name a.client ≡ true =
          (both_true _ _ (subst (λ e. has_fields e ≡ true) (sym a.is_ask) valid.0)).0 in
          parted_back event (asking a.client a.words) line
          (grind (arith, nat_le, query-length)) p.1
          (both _ _ (name-unbroken a.client client) (all_printed-unbroken a.words))
          (omega arith)
          (asked_there a.client a.words a.query client a.is_read a.of_bytes ∙ ap Some a.is_ask)
    ]

pub lines_come_back : LinesComeBack
lines_come_back event line b = (valid_line event line b, λ h. event_back event line h.0 h.1)

own_line : (event : Event) → has_fields event ≡ true → IsLineOf event (line_of event)
own_line (Raw link) h = refl
own_line (Say link words) h = refl
own_line (Bytes link bytes) h = refl
own_line (Client client mode keys) h = refl
own_line (Out link amount) h = refl
own_line (Serve link amount) h = refl
own_line (Send link amount) h = refl
own_line (Recv link amount) h = refl
own_line (Flow link) h = refl
own_line FlowAll h = refl
own_line (Cut link) h = refl
own_line (Now moment) h = refl
own_line Tick h = refl
own_line (Ask client query) h =
    let asked = both_true _ _ (both_true _ _ h).1 in
    (query, (query_of-is_query query asked.0, asked.1, refl))
own_line (Do client words) h = refl
own_line (Poll client number) h = refl
own_line (Show client) h = refl

pub events_come_back : EventsComeBack
events_come_back event v = event_back event (line_of event) v (own_line event (both_true _ _ v).0)
