-- The keys that commands name, and which of them a reply is to.
use Rattle.std.proofs.Common.{◌≡◌, ◌+◌, ◌-◌, ◌<◌, ◌≤◌, ◌++◌, ◌||◌, ◌&&◌, ℕ, zero, suc, List, []}
use Rattle.std.proofs.Common.{◌∷◌, length, drop, Bool, true, false, cond, Option, Some, None, sym}
use Rattle.std.proofs.Common.{ap, ◌∙◌, refl, subst, arith, inl, inr, length-append}
use Rattle.std.specs.Prelude.{nat_lt, Ok, Err, Result}
use Rattle.std.specs.List.{list_any, slice_get}
use Rattle.std.specs.Str.{bytes_eq}
use Rattle.std.proofs.lemmas.Bool.{le-ltb, lt-ltb, cases_lt}
use Rattle.std.proofs.lemmas.List.{drop-append-le, map-append}
use Rattle.command_words.specs.declared.command.Command.{Command}
use Rattle.command_words.specs.declared.command.WordFault.{WordFault}
use Rattle.command_words.specs.declared.written.Written.{Written}
use Rattle.command_words.specs.Words.{reading}
use Rattle.command_words.specs.Queries.{reads_as_cacheable, key_of, reads_key, written_as}
use Rattle.command_words.specs.Queries.{written_by, names, names_key}
use Rattle.command_words.proofs.Readings.{keys_read, reads_its_key}
use Rattle.shared_cache.specs.declared.log.Wire.TheVariants.{Main}
use Rattle.shared_cache.specs.declared.log.Shape.{Shape}
use Rattle.shared_cache.specs.declared.log.Shape.TheVariants.{Single, Pair}
use Rattle.shared_cache.specs.declared.log.LogEntry.{LogEntry}
use Rattle.shared_cache.specs.declared.lead.CachingWord.{CachingWord}
use Rattle.shared_cache.specs.declared.notices.Notice.TheVariants.{Reply}
use Rattle.shared_cache.specs.Log.{handshake_length, first_number}
use Rattle.shared_cache.specs.Held.{Setup, Key, Words, SentCommand, led_by, sent}
use Rattle.shared_cache.specs.Held.{numbers, numbered, command_in, is_named, may_overtake}
use Rattle.shared_cache.specs.Held.{open_fetch}
use Rattle.shared_cache.specs.ClientFields.{named_by, names_for}
use Rattle.shared_cache.specs.Laws.{IsQuery}
use Rattle.shared_cache.proofs.Handshakes.{one_or_two}
use Rattle.shared_cache.proofs.Fetches.{beyond}
use Rattle.shared_cache.proofs.Led.{own, get_left, at_length, led_some, led_parts}
use Rattle.shared_cache.proofs.Keeps.{NamedAs}
use Rattle.shared_cache.proofs.NamedWords.{names_named}

-- ---- a query names its key alone

cacheable_writes_none : (r : Result Command WordFault) (k : Key) → reads_as_cacheable r ≡ true
    → names (written_as r) k ≡ false
cacheable_writes_none r k e = grind arith

is_cacheable_query : (q : Words) → IsQuery q → reads_as_cacheable (reading q) ≡ true
is_cacheable_query q e = grind arith

reads_of : (r : Result Command WordFault) (k : Key)
    → reads_key r k ≡ list_any (bytes_eq k) (keys_read r)
reads_of (Ok command) k = refl
reads_of (Err fault) k = refl

or_false : (b : Bool) → (b || false) ≡ b
or_false true = refl
or_false false = refl

pub query_names : (q : Words) (k : Key) → IsQuery q → names_key q k ≡ bytes_eq k (key_of q)
unfolding written_by
query_names q k is =
    let c = is_cacheable_query q is in
    (λ i. reads_key (reading q) k || cacheable_writes_none (reading q) k c i)
    ∙ or_false (reads_key (reading q) k)
    ∙ reads_of (reading q) k
    ∙ ap (list_any (bytes_eq k)) (reads_its_key q c)
    ∙ or_false (bytes_eq k (key_of q))

-- ---- the command of a number

pub command_kept : (s : Setup) (xs ys : List SentCommand) (n : ℕ) → n ≤ numbered s xs
    → command_in s (xs ++ ys) n ≡ command_in s xs n
command_kept s xs ys n le = elim (cases_lt (handshake_length s.mode) n) [
  | inl low ↦
      ap (λ c. cond (nat_lt (handshake_length s.mode) n) c None)
      (get_left xs ys (n - first_number s.mode) (omega arith))
  | inr high ↦
      ap (λ b. cond b (slice_get (xs ++ ys) (n - first_number s.mode)) None)
      (le-ltb (handshake_length s.mode) n high)
      ∙ sym (ap (λ b. cond b (slice_get xs (n - first_number s.mode)) None)
      (le-ltb (handshake_length s.mode) n high))
]

-- the last of a led command's is the caller's
pub command_last : (s : Setup) (xs : List SentCommand) (l : Option CachingWord) (ws : Words)
    (n : ℕ) → n ≡ numbered s xs + length (led_by l ws)
    → command_in s (xs ++ led_by l ws) n ≡ Some (own ws)
command_last s xs l ws n e =
    let p = led_parts l ws in
    let low : handshake_length s.mode < n = omega (arith, e, led_some l ws) in
    let at : n - first_number s.mode ≡ length xs + length p.front =
    omega (arith, e, ap length p.parts, length-append p.front (own ws ∷ [])) in
    ap (λ b. cond b (slice_get (xs ++ led_by l ws) (n - first_number s.mode)) None)
    (lt-ltb (handshake_length s.mode) n low)
    ∙ (λ i. slice_get (xs ++ p.parts i) (at i))
    ∙ at_length xs p.front [] (own ws)

-- what the commands of open fetches name
abbrev pub FetchesAre : Setup → List LogEntry → Type 0
FetchesAre s log =
    (n : ℕ) (q : Words) (k : Key) → open_fetch s log n ≡ Some q
    → is_named (command_in s (sent s log) n) k ≡ bytes_eq k (key_of q)

pub within_sent : (s : Setup) (log : List LogEntry) (n : ℕ) (q : Words)
    → open_fetch s log n ≡ Some q
    → n ≤ numbers s log
within_sent s log n q f = elim (cases_lt (numbers s log) n) [
  | inl past ↦ absurd (let no : None ≡ Some q = sym (beyond s log n past) ∙ f in cc)
  | inr le ↦ le
]

-- they stay as they are where none is opened
pub fetches_kept : (s : Setup) (log new : List LogEntry) (cs : List SentCommand)
    → sent s new ≡ sent s log ++ cs
    → ((n : ℕ) (q : Words) → open_fetch s new n ≡ Some q → open_fetch s log n ≡ Some q)
    → FetchesAre s log → FetchesAre s new
fetches_kept s log new cs more old are n q k f =
    let before = old n q f in
    ap (λ l. is_named (command_in s l n) k) more
    ∙ ap (λ c. is_named c k)
    (command_kept s (sent s log) cs n (within_sent s log n q before))
    ∙ are n q k before

-- ---- what a reply's command names

map_drop : (n : ℕ) (cs : List SentCommand)
    → names_for Pair (drop n cs) ≡ drop n (names_for Pair cs)
map_drop zero cs = refl
map_drop (suc n) [] = refl
map_drop (suc n) (c ∷ cs) = map_drop n cs

get_dropped : (n : ℕ) (cs : List SentCommand) → slice_get (drop n cs) 0 ≡ slice_get cs n
get_dropped zero cs = refl
get_dropped (suc n) [] = refl
get_dropped (suc n) (c ∷ cs) = get_dropped n cs

abbrev named_command : Option SentCommand → Option Written
named_command None = None
named_command (Some c) = Some (named_by c.words)

first_named : (cs : List SentCommand)
    → slice_get (names_for Pair cs) 0 ≡ named_command (slice_get cs 0)
first_named [] = refl
first_named (c ∷ cs) = refl

named_rightly : (o : Option SentCommand) → NamedAs (named_command o) (is_named o)
named_rightly None = λ k. refl
named_rightly (Some c) = λ k. sym (names_named c.words k)

module _ (s : Setup) (cs : List SentCommand) (replied number : ℕ) (named : List Written)
    (is : named ≡ names_for s.mode.shape (drop (replied - handshake_length s.mode) cs))
    (next : number ≡ replied + 1) where
  abbrev front : Option Written
  front = cond (nat_lt (handshake_length s.mode) number) (slice_get named 0) None

  of_pair : s.mode.shape ≡ Pair → front ≡ named_command (command_in s cs number)
  of_pair two = elim (cases_lt (handshake_length s.mode) number) [
    | inl low ↦
        let at : replied - handshake_length s.mode ≡ number - first_number s.mode
        = omega arith in
        ap (λ b. cond b (slice_get named 0) None) (lt-ltb (handshake_length s.mode) number low)
        ∙ ap (λ l. slice_get l 0) is
        ∙ ap (λ h. slice_get (names_for h (drop (replied - handshake_length s.mode) cs)) 0) two
        ∙ first_named (drop (replied - handshake_length s.mode) cs)
        ∙ ap named_command (get_dropped (replied - handshake_length s.mode) cs
        ∙ ap (slice_get cs) at)
        ∙ sym (ap (λ b. named_command (cond b (slice_get cs (number - first_number s.mode)) None))
        (lt-ltb (handshake_length s.mode) number low))
    | inr high ↦
        ap (λ b. cond b (slice_get named 0) None) (le-ltb (handshake_length s.mode) number high)
        ∙ sym (ap (λ b. named_command (cond b (slice_get cs (number - first_number s.mode)) None))
        (le-ltb (handshake_length s.mode) number high))
  ]

  no_front : (b : Bool) → cond b (slice_get {X = Written} [] 0) None ≡ None
  no_front true = refl
  no_front false = refl

  of_one : s.mode.shape ≡ Single → front ≡ None
  of_one one =
      ap (λ l. cond (nat_lt (handshake_length s.mode) number) (slice_get l 0) None)
      (is ∙ ap (λ h. names_for h (drop (replied - handshake_length s.mode) cs)) one)
      ∙ no_front (nat_lt (handshake_length s.mode) number)

  -- what is kept for it is what it names, of two links
  pub front_named : NamedAs front
      (λ k. may_overtake Reply Main s.mode.shape && is_named (command_in s cs number) k)
  front_named = elim (one_or_two s.mode.shape) [
    | inl one ↦
        subst (λ o. NamedAs o
        (λ k. may_overtake Reply Main s.mode.shape && is_named (command_in s cs number) k))
        (sym (of_one one))
        (λ k. ap (λ h. may_overtake Reply Main h && is_named (command_in s cs number) k) one)
    | inr two ↦
        subst (λ h. NamedAs front
        (λ k. may_overtake Reply Main h && is_named (command_in s cs number) k)) (sym two)
        (subst (λ o. NamedAs o (is_named (command_in s cs number))) (sym (of_pair two))
        (named_rightly (command_in s cs number)))
  ]

  -- where something is kept, there are two links
  pub front_pair : (w : Written) → front ≡ Some w → may_overtake Reply Main s.mode.shape ≡ true
  front_pair w e = elim (one_or_two s.mode.shape) [
    | inl one ↦ absurd (let no : None ≡ Some w = sym (of_one one) ∙ e in cc)
    | inr two ↦ ap (may_overtake Reply Main) two
  ]

-- ---- what is kept of them, as commands are sent and answered

more_names : (shape : Shape) (xs ys : List SentCommand)
    → names_for shape (xs ++ ys) ≡ names_for shape xs ++ names_for shape ys
more_names Single xs ys = refl
more_names Pair xs ys = map-append (λ (c : SentCommand). named_by c.words) xs ys

pub names_more : (shape : Shape) (n : ℕ) (xs ys : List SentCommand) → n ≤ length xs
    → names_for shape (drop n (xs ++ ys)) ≡ names_for shape (drop n xs) ++ names_for shape ys
names_more shape n xs ys le =
    ap (names_for shape) (drop-append-le n xs ys le) ∙ more_names shape (drop n xs) ys

dropped_one : (shape : Shape) (n : ℕ) (cs : List SentCommand)
    → names_for shape (drop (suc n) cs) ≡ drop 1 (names_for shape (drop n cs))
dropped_one Single n cs = refl
dropped_one Pair n cs =
    map_drop (suc n) cs
    ∙ sym (ap (drop 1) (map_drop n cs) ∙ drop_twice n (names_for Pair cs))
  where
    drop_twice : (n : ℕ) (ws : List Written) → drop 1 (drop n ws) ≡ drop (suc n) ws
    drop_twice zero ws = refl
    drop_twice (suc n) [] = refl
    drop_twice (suc n) (w ∷ ws) = drop_twice n ws

pub names_answered : (m : Setup) (cs : List SentCommand) (replied number : ℕ)
    (named : List Written)
    → named ≡ names_for m.mode.shape (drop (replied - handshake_length m.mode) cs)
    → number ≡ replied + 1
    → cond (nat_lt (handshake_length m.mode) number) (drop 1 named) named
    ≡ names_for m.mode.shape (drop (number - handshake_length m.mode) cs)
names_answered m cs replied number named is next =
    elim (cases_lt (handshake_length m.mode) number) [
      | inl low ↦
          let more : suc (replied - handshake_length m.mode) ≡ number - handshake_length m.mode
          = omega arith in
          ap (λ b. cond b (drop 1 named) named) (lt-ltb (handshake_length m.mode) number low)
          ∙ ap (drop 1) is
          ∙ sym (dropped_one m.mode.shape (replied - handshake_length m.mode) cs)
          ∙ ap (λ n. names_for m.mode.shape (drop n cs)) more
      | inr high ↦
          let same : replied - handshake_length m.mode ≡ number - handshake_length m.mode
          = omega arith in
          ap (λ b. cond b (drop 1 named) named) (le-ltb (handshake_length m.mode) number high)
          ∙ is
          ∙ ap (λ n. names_for m.mode.shape (drop n cs)) same
    ]
