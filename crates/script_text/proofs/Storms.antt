-- The events of a storm: what is taken of them, that each is valid, and how they grow by a step.
use Rattle.std.proofs.Common.{◌≡◌, ◌<◌, ◌≤◌, ◌+◌, ◌-◌, ◌*◌, ◌/◌, ◌^◌, ◌==◌, ℕ, zero, suc, List}
use Rattle.std.proofs.Common.{[], ◌∷◌, ◌++◌, Bool, true, false, cond, refl, sym, ap, ◌∙◌, subst}
use Rattle.std.proofs.Common.{arith, codes, drop, length, map, nat_lt, nat_le, append_assoc}
use Rattle.std.proofs.Common.{add-one, zero-add}
use Rattle.std.specs.declared.option.Option.{Option}
use Rattle.std.specs.declared.option.Option.TheVariants.{None, Some}
use Rattle.std.specs.Fmt.{decimal, digits}
use Rattle.std.specs.List.{list_all, slice_get, count_by, join_with_byte}
use Rattle.std.specs.Option.{option_to_list}
use Rattle.std.specs.Str.Parse.{AllDigits}
use Rattle.std.proofs.Math.Nat.{min-le_right}
use Rattle.std.proofs.lemmas.Bool.{lt-ltb, le-leb}
use Rattle.std.proofs.lemmas.Bool.Decides.{nat_tests}
use Rattle.std.proofs.lemmas.Fmt.{decimal_is_IsNumeral, length-decimal-le}
use Rattle.std.proofs.lemmas.List.{length-append}
use Rattle.std.proofs.lemmas.List.Folds.{list_all-append}
use Rattle.std.proofs.lemmas.List.Sums.{sum_by-append}
use Rattle.std.proofs.lemmas.Nat.{mod_below}
use Rattle.std.proofs.lemmas.Str.Parse.{digit_from_value}
use Rattle.command_words.specs.Printed.{printed, printed_byte, printed_bytes}
use Rattle.command_words.specs.Queries.{query_of}
use Rattle.command_words.specs.StringWords.{string_reading}
use Rattle.command_words.specs.Words.{reading}
use Rattle.script_text.specs.declared.event.Event.{Event}
use Rattle.script_text.specs.declared.event.Event.TheVariants.{Say, Out, Serve}
use Rattle.script_text.specs.declared.event.Event.TheVariants.{Send, Recv, Flow, Ask}
use Rattle.script_text.specs.declared.event.Event.TheVariants.{Do, Now}
use Rattle.script_text.specs.Words.{greatest, is_name, is_link}
use Rattle.script_text.specs.Events.{longest_line}
use Rattle.script_text.specs.Grammar.{are_bytes, is_valid, line_of}
use Rattle.script_text.specs.Printed.{words_text}
use Rattle.script_text.specs.Storm.{number_below, draw, state_behind, storm_client}
use Rattle.script_text.specs.Storm.{storm_link, storm_key, get_words, set_words, lapsing_words}
use Rattle.script_text.specs.Storm.{del_words, opening, step_at, clock_behind, steps_from}
use Rattle.script_text.specs.Storm.{Step, left_of_storm, begins_step, StormsAreValid}
use Rattle.script_text.specs.Storm.{StormsGrow, StepsBeginOnce}
use Rattle.script_text.specs.Valid.{IsValid}
use Rattle.script_text.proofs.Asking.{is_query-read}
use Rattle.script_text.proofs.Grammar.{events_come_back}
use Rattle.script_text.proofs.Joining.{joined, printed_parts}
use Rattle.script_text.proofs.Numbers.{both_true, both}
use Rattle.script_text.proofs.Valid.{events_are_valid}

-- ---- draws
below : (n state : ℕ) → 0 < n → number_below n state < n
unfolding number_below
below n state h = mod_below (state / 2 ^ 33) n h

-- ---- what is left
pub drop_taken : (events : List Event) (place : ℕ) (event : Event)
    → slice_get events place ≡ Some event → drop place events ≡ event ∷ drop (suc place) events
drop_taken [] place event h = cc
drop_taken (first ∷ events) zero event h = grind arith
drop_taken (first ∷ events) (suc place) event h = drop_taken events place event h

pub drop_past : (events : List Event) (place : ℕ) → slice_get events place ≡ None
    → drop place events ≡ []
drop_past [] zero h = refl
drop_past [] (suc place) h = refl
drop_past (first ∷ events) zero h = cc
drop_past (first ∷ events) (suc place) h = drop_past events place h

pub steps_begin : (steps state clock : ℕ) → 0 < steps → steps_from steps state clock
    ≡ (step_at state clock).events ++ steps_from (steps - 1)
    (state_behind (step_at state clock).draws state)
    (clock_behind (step_at state clock).events clock)
unfolding steps_from
steps_begin zero state clock h = absurd (omega arith)
steps_begin (suc steps) state clock h = grind arith

no_step : (state clock : ℕ) → steps_from 0 state clock ≡ []
unfolding steps_from
no_step state clock = refl

pub opening_taken : (given : ℕ) (second : Option Event) (steps state clock : ℕ) (event : Event)
    → slice_get opening given ≡ Some event → left_of_storm given second steps state clock
    ≡ event ∷ left_of_storm (given + 1) second steps state clock
opening_taken given second steps state clock event h =
    ap (λ front. front ++ option_to_list second ++ steps_from steps state clock)
    (drop_taken opening given event h
    ∙ ap (λ next. event ∷ drop next opening) (sym (add-one given)))

pub second_taken : (given : ℕ) (second after : Option Event) (steps state clock : ℕ)
    (event : Event) → slice_get opening given ≡ None → Some event ≡ second → after ≡ None
    → left_of_storm given second steps state clock ≡ event ∷ left_of_storm given after steps state
    clock
second_taken given second after steps state clock event h e n =
    let tail = steps_from steps state clock in
    let lists = λ (front : List Event) (o p : Option Event).
    front ++ option_to_list o ++ tail ≡ event ∷ (front ++ option_to_list p ++ tail) in
    subst (λ front. lists front second after) (sym (drop_past opening given h))
    (subst (λ o. lists [] o after) e (subst (λ p. lists [] (Some event) p) (sym n) refl))

pub none_left : (given : ℕ) (second : Option Event) (steps state clock : ℕ)
    → slice_get opening given ≡ None → second ≡ None → steps ≡ 0
    → left_of_storm given second steps state clock ≡ []
none_left given second steps state clock h n z =
    ap (λ front. front ++ option_to_list second ++ steps_from steps state clock)
    (drop_past opening given h)
    ∙ ap (λ o. [] ++ option_to_list o ++ steps_from steps state clock) n
    ∙ ap (λ count. steps_from count state clock) z ∙ no_step state clock

pub step_taken : (given : ℕ) (second after : Option Event) (steps state clock next moment : ℕ)
    (first : Event) → slice_get opening given ≡ None → second ≡ None → 0 < steps
    → first ∷ option_to_list after ≡ (step_at state clock).events
    → next ≡ state_behind (step_at state clock).draws state
    → moment ≡ clock_behind (step_at state clock).events clock
    → left_of_storm given second steps state clock
    ≡ first ∷ left_of_storm given after (steps - 1) next moment
step_taken given second after steps state clock next moment first h n some e s m =
    let step = step_at state clock in
    let left = steps_from (steps - 1) in
    let nothing = drop_past opening given h in
    ap (λ front. front ++ option_to_list second ++ steps_from steps state clock) nothing
    ∙ ap (λ o. [] ++ option_to_list o ++ steps_from steps state clock) n
    ∙ steps_begin steps state clock some
    ∙ ap (λ events. events ++ left (state_behind step.draws state)
    (clock_behind step.events clock)) (sym e)
    ∙ ap (λ t. first ∷ (option_to_list after ++ left t (clock_behind step.events clock))) (sym s)
    ∙ ap (λ t. first ∷ (option_to_list after ++ left next t)) (sym m)
    ∙ ap (λ front. first ∷ (front ++ option_to_list after ++ left next moment)) (sym nothing)

-- ---- the words of a step
byte-length : (b : ℕ) → length (printed_byte b) ≤ 4
byte-length b = grind (arith, codes, nat_tests)

bytes-length : (word : List ℕ) → length (printed_bytes word) ≤ 4 * length word
unfolding printed_bytes
bytes-length [] = omega arith
bytes-length (b ∷ word) =
    omega (
      arith,
      byte-length b,
      bytes-length word,
      length-append (printed_byte b) (printed_bytes word),
    )

printed-length : (word : List ℕ) → length (printed word) ≤ 4 * length word + 2
printed-length [] = omega arith
printed-length (b ∷ word) = omega (arith, bytes-length (b ∷ word))

digit-bytes : (ds : List ℕ) → AllDigits 10 ds → are_bytes ds ≡ true
digit-bytes [] h = refl
digit-bytes (d ∷ ds) h =
    grind (arith, digit_from_value, both, lt-ltb, nat_tests, digit-bytes ds h.1)

decimal-bytes : (n : ℕ) → n < 2 ^ 64 → are_bytes (decimal n) ≡ true
decimal-bytes n h = digit-bytes (decimal n) (decimal_is_IsNumeral n h).0.1

decimal-length : (n : ℕ) → n < 2 ^ 64 → length (decimal n) ≤ 20
decimal-length n h = length-decimal-le 20 n (omega arith) (omega arith) h

-- bytes whose printed form is short
record IsWord (word : List ℕ) : Type 0 where
  of_bytes : are_bytes word ≡ true
  short : length word ≤ 21

abbrev AreWords : List (List ℕ) → Type 0
AreWords [] = Unit {0}
AreWords (word ∷ words) = IsWord word × AreWords words

decimal_word : (n : ℕ) → n < 2 ^ 64 → IsWord (decimal n)
decimal_word n h =
    record { of_bytes = decimal-bytes n h; short = omega (arith, decimal-length n h) }

key_word : (n : ℕ) → n < 2 ^ 64 → IsWord (storm_key n)
key_word n h = record {
  of_bytes = both _ _ refl (decimal-bytes n h);
  short = omega (arith, decimal-length n h);
}

words-bytes : (words : List (List ℕ)) → AreWords words → list_all are_bytes words ≡ true
words-bytes [] h = refl
words-bytes (word ∷ words) h = both _ _ h.0.of_bytes (words-bytes words h.1)

words-length : (words : List (List ℕ)) → AreWords words
    → length (words_text words) ≤ 87 * length words
words-length [] h = omega arith
words-length (word ∷ words) h =
    omega (
      arith,
      printed-length word,
      words-length words h.1,
      h.0.short,
      length-append (printed word) (words_text words),
    )

-- ---- the line of a step is short
short_line : (line : List ℕ) → length line ≤ 1000 → nat_le (length line) longest_line ≡ true
short_line line h = le-leb _ _ (omega arith)

said_short : (kind name : List ℕ) (words : List (List ℕ)) → length kind ≤ 3 → length name ≤ 16
    → length words ≤ 5 → AreWords words
    → nat_le (length (join_with_byte 32 (kind ∷ name ∷ map printed words))) longest_line ≡ true
said_short kind name words k n w h =
    let named : join_with_byte 32 (name ∷ map printed words) ≡ name ++ words_text words =
    joined name (map printed words) ∙ ap (λ rest. name ++ rest) (printed_parts words) in
    short_line _ (omega (
      arith,
      words-length words h,
      length-append kind (32 ∷ join_with_byte 32 (name ∷ map printed words)),
      length-append name (words_text words),
      ap length named,
    ))

move_short : (kind link : List ℕ) → length kind ≤ 5 → length link ≤ 20
    → nat_le (length (join_with_byte 32 (kind ∷ link ∷ []))) longest_line ≡ true
move_short kind link k l = short_line _ (omega (arith, length-append kind (32 ∷ link)))

-- ---- each event of a step is valid
by_choice : {A : Type 0} (P : A → Type 0) (test : Bool) (a b : A) → P a → P b → P (cond test a b)
by_choice P test a b h k = elim test as (λ t. P (cond t a b)) [ true ↦ h | false ↦ k ]

abbrev IsClient : List ℕ → Type 0
IsClient name = (is_name name ≡ true) × (length name ≤ 16)

client_there : (number : ℕ) → IsClient (storm_client number)
client_there number =
    by_choice IsClient (number == 0) _ _ (refl, omega arith) (
    by_choice IsClient (number == 1) _ _ (refl, omega arith) (
    by_choice IsClient (number == 2) _ _ (refl, omega arith) (refl, omega arith)))

abbrev IsLink : List ℕ → Type 0
IsLink name = (is_link name ≡ true) × (length name ≤ 20)

link_there : (number : ℕ) → IsLink (storm_link number)
link_there number =
    by_choice IsLink (number == 0) _ _ (refl, omega arith) (
    by_choice IsLink (number == 1) _ _ (refl, omega arith) (
    by_choice IsLink (number == 2) _ _ (refl, omega arith) (
    by_choice IsLink (number == 3) _ _ (refl, omega arith) (
    by_choice IsLink (number == 4) _ _ (refl, omega arith) (
    by_choice IsLink (number == 5) _ _ (refl, omega arith) (refl, omega arith))))))

name_word : (word : List ℕ) → are_bytes word ≡ true → length word ≤ 3 → IsWord word
name_word word h l = record { of_bytes = h; short = omega arith }

set_there : (key value : ℕ) → key < 2 ^ 64 → value < 2 ^ 64 → AreWords (set_words key value)
set_there key value h k =
    (name_word (codes "SET") refl (omega arith), (key_word key h, (decimal_word value k, tt)))

lapsing_there : (key value life : ℕ) → key < 2 ^ 64 → value < 2 ^ 64 → life < 2 ^ 64
    → AreWords (lapsing_words key value life)
lapsing_there key value life h k l = (
  name_word (codes "SET") refl (omega arith),
  (
    key_word key h,
    (
      decimal_word value k,
      (name_word (codes "PX") refl (omega arith), (decimal_word life l, tt)),
    ),
  ),
)

del_there : (key : ℕ) → key < 2 ^ 64 → AreWords (del_words key)
del_there key h = (name_word (codes "DEL") refl (omega arith), (key_word key h, tt))

pub get_is_query : (key : ℕ) → query_of (get_words key) ≡ Some (get_words key)
unfolding reading string_reading
get_is_query key = refl

ask_valid : (number key : ℕ) → key < 2 ^ 64
    → is_valid (Ask (storm_client number) (get_words key)) ≡ true
ask_valid number key h =
    let client = client_there number in
    let words : AreWords (get_words key) =
    (name_word (codes "GET") refl (omega arith), (key_word key h, tt)) in
    both _ _ (both _ _ client.0 (both _ _
    (is_query-read (get_words key) (get_words key) (get_is_query key))
    (words-bytes (get_words key) words)))
    (said_short (codes "ask") (storm_client number) (get_words key) (omega arith) client.1
    (omega arith) words)

do_valid : (number key value : ℕ) → key < 2 ^ 64 → value < 2 ^ 64
    → is_valid (Do (storm_client number) (set_words key value)) ≡ true
do_valid number key value h k =
    let client = client_there number in
    let words = set_there key value h k in
    both _ _ (both _ _ client.0 (both _ _ refl (words-bytes (set_words key value) words)))
    (said_short (codes "do") (storm_client number) (set_words key value) (omega arith) client.1
    (omega arith) words)

say_valid : (words : List (List ℕ)) → 0 < length words → length words ≤ 5 → AreWords words
    → is_valid (Say (codes "w") words) ≡ true
say_valid words some few h =
    both _ _ (both _ _ refl (both _ _ (lt-ltb _ _ some) (words-bytes words h)))
    (said_short (codes "say") (codes "w") words (omega arith) (omega arith) few h)

say_set_valid : (key value : ℕ) → key < 2 ^ 64 → value < 2 ^ 64
    → is_valid (Say (codes "w") (set_words key value)) ≡ true
say_set_valid key value h k =
    say_valid (set_words key value) (omega arith) (omega arith) (set_there key value h k)

say_lapsing_valid : (key value life : ℕ) → key < 2 ^ 64 → value < 2 ^ 64 → life < 2 ^ 64
    → is_valid (Say (codes "w") (lapsing_words key value life)) ≡ true
say_lapsing_valid key value life h k l =
    say_valid (lapsing_words key value life) (omega arith) (omega arith)
    (lapsing_there key value life h k l)

say_del_valid : (key : ℕ) → key < 2 ^ 64 → is_valid (Say (codes "w") (del_words key)) ≡ true
say_del_valid key h = say_valid (del_words key) (omega arith) (omega arith) (del_there key h)

now_valid : (moment : ℕ) → moment ≤ greatest → is_valid (Now moment) ≡ true
now_valid moment h =
    both _ _ (both _ _ (le-leb _ _ (omega arith)) (le-leb _ _ h))
    (move_short (codes "now") (decimal moment) (omega arith)
    (decimal-length moment (omega arith)))

-- a draw below that number is one of 64 bits
drawn : (state place n : ℕ) → 0 < n → n ≤ 100 → draw state place n < 2 ^ 64
drawn state place n some few = omega (arith, below n (state_behind place state) some)

flow_valid : (link : List ℕ) → IsLink link → is_valid (Flow link) ≡ true
flow_valid link h = both _ _ h.0 (move_short (codes "flow") link (omega arith) h.1)

out_valid : (link : List ℕ) → IsLink link → is_valid (Out link None) ≡ true
out_valid link h = both _ _ (both _ _ h.0 refl) (move_short (codes "out") link (omega arith) h.1)

serve_valid : (link : List ℕ) → IsLink link → is_valid (Serve link None) ≡ true
serve_valid link h =
    both _ _ (both _ _ h.0 refl) (move_short (codes "serve") link (omega arith) h.1)

send_valid : (link : List ℕ) → IsLink link → is_valid (Send link None) ≡ true
send_valid link h = both _ _ (both _ _ h.0 refl) (move_short (codes "send") link (omega arith) h.1)

recv_valid : (link : List ℕ) → IsLink link → is_valid (Recv link None) ≡ true
recv_valid link h = both _ _ (both _ _ h.0 refl) (move_short (codes "recv") link (omega arith) h.1)

abbrev AreValid : Step → Type 0
AreValid step = list_all is_valid step.events ≡ true

step_valid : (state clock : ℕ) → AreValid (step_at state clock)
unfolding step_at
step_valid state clock =
    let kind = draw state 1 16 in
    let client = draw state 2 4 in
    let link = storm_link (draw state 2 7) in
    let moved = link_there (draw state 2 7) in
    let key = drawn state 2 16 (omega arith) (omega arith) in
    let value = drawn state 3 100 (omega arith) (omega arith) in
    let key_of_client = drawn state 3 16 (omega arith) (omega arith) in
    let value_of_client = drawn state 4 100 (omega arith) (omega arith) in
    let life : 1 + draw state 4 50 < 2 ^ 64 =
    omega (arith, below 50 (state_behind 4 state) (omega arith)) in
    by_choice AreValid (nat_lt kind 6) _ _
    (both _ _ (ask_valid client _ key_of_client) refl) (
    by_choice AreValid (kind == 6) _ _
    (both _ _ (do_valid client _ _ key_of_client value_of_client) refl) (
    by_choice AreValid (nat_lt kind 9) _ _
    (both _ _ (say_set_valid _ _ key value) refl) (
    by_choice AreValid (kind == 9) _ _
    (both _ _ (say_lapsing_valid _ _ _ key value life) refl) (
    by_choice AreValid (kind == 10) _ _ (both _ _ (say_del_valid _ key) refl) (
    by_choice AreValid (kind == 11) _ _ (both _ _ (flow_valid link moved) refl) (
    by_choice AreValid (kind == 12) _ _
    (both _ _ (out_valid link moved) (both _ _ (serve_valid link moved) refl)) (
    by_choice AreValid (kind == 13) _ _ (both _ _ (send_valid link moved) refl) (
    by_choice AreValid (kind == 14) _ _ (both _ _ (recv_valid link moved) refl)
    (both _ _ (now_valid _ (min-le_right (clock + draw state 2 20) greatest)) refl)))))))))

steps_valid : (steps state clock : ℕ) → list_all is_valid (steps_from steps state clock) ≡ true
unfolding steps_from
steps_valid zero state clock = refl
steps_valid (suc steps) state clock =
    let step = step_at state clock in
    list_all-append is_valid step.events _
    ∙ both _ _ (step_valid state clock)
    (steps_valid steps (state_behind step.draws state) (clock_behind step.events clock))

opening_valid : list_all is_valid opening ≡ true
unfolding printed_bytes digits
opening_valid = refl

pub storms_are_valid : StormsAreValid
storms_are_valid number steps =
    list_all-append is_valid opening (steps_from steps number 0)
    ∙ both _ _ opening_valid (steps_valid steps number 0)

pub valid_is : (event : Event) → is_valid event ≡ true → IsValid event
valid_is event h = events_are_valid (line_of event) event (events_come_back event h)

pub valid_parts : (all : List Event) (event : Event) (rest : List Event) → all ≡ event ∷ rest
    → list_all is_valid all ≡ true → (is_valid event ≡ true) × (list_all is_valid rest ≡ true)
valid_parts all event rest e h =
    both_true (is_valid event) (list_all is_valid rest) (sym (ap (list_all is_valid) e) ∙ h)

-- ---- more steps
grown : (steps more state clock : ℕ) → (rest : List Event)
    × (steps_from (steps + more) state clock ≡ steps_from steps state clock ++ rest)
unfolding steps_from
grown zero more state clock =
    (steps_from more state clock, ap (λ n. steps_from n state clock) (zero-add more))
grown (suc steps) more state clock =
    let step = step_at state clock in
    let next = state_behind step.draws state in
    let moment = clock_behind step.events clock in
    let rest = grown steps more next moment in
    let count : suc steps + more ≡ suc (steps + more) = omega arith in (
      rest.0,
      ap (λ n. steps_from n state clock) count
          ∙ ap (λ events. step.events ++ events) rest.1
          ∙ sym (append_assoc step.events (steps_from steps next moment) rest.0),
    )

pub storms_grow : StormsGrow
storms_grow number steps more =
    let rest = grown steps more number 0 in (
      rest.0,
      ap (λ events. opening ++ events) rest.1
          ∙ sym (append_assoc opening (steps_from steps number 0) rest.0),
    )

-- ---- each step begins once
abbrev BeginsOnce : Step → Type 0
BeginsOnce step = count_by begins_step step.events ≡ 1

step_begins : (state clock : ℕ) → BeginsOnce (step_at state clock)
unfolding step_at
step_begins state clock =
    let kind = draw state 1 16 in
    by_choice BeginsOnce (nat_lt kind 6) _ _ refl (
    by_choice BeginsOnce (kind == 6) _ _ refl (
    by_choice BeginsOnce (nat_lt kind 9) _ _ refl (
    by_choice BeginsOnce (kind == 9) _ _ refl (
    by_choice BeginsOnce (kind == 10) _ _ refl (
    by_choice BeginsOnce (kind == 11) _ _ refl (
    by_choice BeginsOnce (kind == 12) _ _ refl (
    by_choice BeginsOnce (kind == 13) _ _ refl (
    by_choice BeginsOnce (kind == 14) _ _ refl refl))))))))

count_joined : (xs ys : List Event)
    → count_by begins_step (xs ++ ys) ≡ count_by begins_step xs + count_by begins_step ys
count_joined xs ys = sum_by-append _ xs ys

steps_count : (steps state clock : ℕ) → count_by begins_step (steps_from steps state clock) ≡ steps
unfolding steps_from
steps_count zero state clock = refl
steps_count (suc steps) state clock =
    let step = step_at state clock in
    omega (
      arith,
      count_joined step.events
          (steps_from steps (state_behind step.draws state) (clock_behind step.events clock)),
      step_begins state clock,
      steps_count steps (state_behind step.draws state) (clock_behind step.events clock),
    )

pub steps_begin_once : StepsBeginOnce
steps_begin_once number steps =
    omega (arith, count_joined opening (steps_from steps number 0), steps_count steps number 0)
