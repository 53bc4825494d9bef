-- The words of QUIT are its name alone, in any case.
use Rattle.std.proofs.Common.{◌≡◌, ◌∙◌, refl, sym, ap, ℕ, List, [], ◌∷◌, Bool, true, false, Ok}
use Rattle.std.proofs.Common.{Err, length, arith}
use Rattle.std.specs.Prelude.{if◌then◌else◌, codes}
use Rattle.std.specs.Bool.{IsTrue}
use Rattle.std.specs.Str.{bytes_eq, str_to_ascii_lowercase}
use Rattle.std.proofs.lemmas.Bool.Decides.{nat_tests}
use Rattle.std.proofs.lemmas.Slice.Eq.{bytes_eq-Decides}
use Rattle.command_words.specs.declared.command.Command.{Command}
use Rattle.command_words.specs.declared.command.Command.TheVariants as command
use Rattle.command_words.specs.declared.command.WordFault.{WordFault}
use Rattle.command_words.specs.declared.command.WordFault.TheVariants.{Unknown, Arity, Syntax}
use Rattle.command_words.specs.declared.command.WordFault.TheVariants.{BadNumber, BadExpire}
use Rattle.command_words.specs.declared.command.WordFault.TheVariants.{NoMemory}
use Rattle.command_words.specs.ClientWords.{client_reading, client_words, yes_or_no}
use Rattle.command_words.specs.ConnectionWords.{connection_reading, hello_version, save_mode}
use Rattle.command_words.specs.HashWords.{hash_reading, hincrby_reading}
use Rattle.command_words.specs.KeyWords.{flush_mode, key_reading, one_and_seconds}
use Rattle.command_words.specs.Reading.{Read, read_as, read_then}
use Rattle.command_words.specs.SetOptions.{set_options, set_reading}
use Rattle.command_words.specs.declared.command.SetLife.TheVariants.{Cleared}
use Rattle.command_words.specs.declared.command.SetWhen.TheVariants.{Always}
use Rattle.command_words.specs.StringWords.{range_reading, string_reading}
use Rattle.command_words.specs.TrackingWords.{tracking}
use Rattle.command_words.specs.WordCounts.{no_word, one, two, at_most_one, at_least_one, in_pairs}
use Rattle.command_words.specs.WordCounts.{number, one_and_more, one_and_number, one_and_pairs}
use Rattle.command_words.specs.Words.{or_else, reading, reading_of}
use Rattle.serial_model.specs.Modes.{ending_of, is_quitting}
use Rattle.serial_model.specs.History.{is_quit, served}

-- what was read is no QUIT
record NoQuit (r : Read Command) : Type 0 where
  stays : is_quitting (ending_of (served r)) ≡ false

plain : {r : Read Command} → is_quitting (ending_of (served r)) ≡ false → NoQuit r
plain e = record { stays = e }

fault : {f : WordFault} → NoQuit (Err f)
fault = plain refl

either : (b : Bool) {x y : Read Command} → NoQuit x → NoQuit y → NoQuit (if b then x else y)
either true one rest = one
either false one rest = rest

other : (b : Bool) (x : Read Command) {y : Read Command} → b ≡ false → NoQuit y
    → NoQuit (if b then x else y)
other true x e rest = absurd (let no : ⊥ = cc in no)
other false x e rest = rest

both : (x y : Read Command) → NoQuit x → NoQuit y → NoQuit (or_else x y)
both (Ok command) y one rest = one
both (Err Unknown) y one rest = rest
both (Err Arity) y one rest = fault
both (Err Syntax) y one rest = fault
both (Err BadNumber) y one rest = fault
both (Err BadExpire) y one rest = fault
both (Err NoMemory) y one rest = fault

none : {A : Type 0} (f : A → Command) (r : Read A) → ((a : A) → NoQuit (Ok (f a)))
    → NoQuit (read_as f r)
none f (Ok a) each = each a
none f (Err e) each = fault

then_none : {A : Type 0} (r : Read A) (f : A → Read Command) → ((a : A) → NoQuit (f a))
    → NoQuit (read_then r f)
then_none (Ok a) f each = each a
then_none (Err e) f each = fault

-- ---- the commands on data

of_set : (ws : List (List ℕ)) → NoQuit (set_reading ws)
unfolding set_reading
of_set [] = fault
of_set (key ∷ []) = fault
of_set (key ∷ value ∷ options) =
    none (λ o. command.Set key value o.0 o.1) (set_options Always Cleared options) (λ a. plain refl)

of_range : (ws : List (List ℕ)) → NoQuit (range_reading ws)
of_range (key ∷ a ∷ b ∷ []) =
    then_none (number a) (λ i. read_as (λ j. command.GetRange key i j) (number b))
    (λ i. none (λ j. command.GetRange key i j) (number b) (λ a. plain refl))
of_range _ = fault

of_strings : (n : List ℕ) (ws : List (List ℕ)) → NoQuit (string_reading n ws)
unfolding string_reading
of_strings n ws =
    either (bytes_eq n (codes "get")) (none command.Get (one ws) (λ a. plain refl))
    (either (bytes_eq n (codes "set")) (of_set ws)
    (either (bytes_eq n (codes "setnx"))
    (none (λ p. command.SetNx p.0 p.1) (two ws) (λ a. plain refl))
    (either (bytes_eq n (codes "getdel")) (none command.GetDel (one ws) (λ a. plain refl))
    (either (bytes_eq n (codes "append"))
    (none (λ p. command.Append p.0 p.1) (two ws) (λ a. plain refl))
    (either (bytes_eq n (codes "strlen")) (none command.StrLen (one ws) (λ a. plain refl))
    (either (bytes_eq n (codes "getrange")) (of_range ws)
    (either (bytes_eq n (codes "incr")) (none command.Incr (one ws) (λ a. plain refl))
    (either (bytes_eq n (codes "decr")) (none command.Decr (one ws) (λ a. plain refl))
    (either (bytes_eq n (codes "incrby"))
    (none (λ p. command.IncrBy p.0 p.1) (one_and_number ws) (λ a. plain refl))
    (either (bytes_eq n (codes "decrby"))
    (none (λ p. command.DecrBy p.0 p.1) (one_and_number ws) (λ a. plain refl))
    (either (bytes_eq n (codes "mget")) (none command.MGet (at_least_one ws) (λ a. plain refl))
    (either (bytes_eq n (codes "mset")) (none command.MSet (in_pairs ws) (λ a. plain refl))
    fault))))))))))))

of_hincrby : (ws : List (List ℕ)) → NoQuit (hincrby_reading ws)
of_hincrby (key ∷ field ∷ n ∷ []) =
    none (λ i. command.HIncrBy key field i) (number n) (λ a. plain refl)
of_hincrby _ = fault

of_hashes : (n : List ℕ) (ws : List (List ℕ)) → NoQuit (hash_reading n ws)
unfolding hash_reading
of_hashes n ws =
    either (bytes_eq n (codes "hset"))
    (none (λ p. command.HSet p.0 p.1) (one_and_pairs ws) (λ a. plain refl))
    (either (bytes_eq n (codes "hget"))
    (none (λ p. command.HGet p.0 p.1) (two ws) (λ a. plain refl))
    (either (bytes_eq n (codes "hmget"))
    (none (λ p. command.HMGet p.0 p.1) (one_and_more ws) (λ a. plain refl))
    (either (bytes_eq n (codes "hgetall")) (none command.HGetAll (one ws) (λ a. plain refl))
    (either (bytes_eq n (codes "hdel"))
    (none (λ p. command.HDel p.0 p.1) (one_and_more ws) (λ a. plain refl))
    (either (bytes_eq n (codes "hlen")) (none command.HLen (one ws) (λ a. plain refl))
    (either (bytes_eq n (codes "hexists"))
    (none (λ p. command.HExists p.0 p.1) (two ws) (λ a. plain refl))
    (either (bytes_eq n (codes "hkeys")) (none command.HKeys (one ws) (λ a. plain refl))
    (either (bytes_eq n (codes "hvals")) (none command.HVals (one ws) (λ a. plain refl))
    (either (bytes_eq n (codes "hincrby")) (of_hincrby ws) fault)))))))))

of_keys : (n : List ℕ) (ws : List (List ℕ)) → NoQuit (key_reading n ws)
unfolding key_reading
of_keys n ws =
    either (bytes_eq n (codes "del")) (none command.Del (at_least_one ws) (λ a. plain refl))
    (either (bytes_eq n (codes "exists")) (none command.Exists (at_least_one ws) (λ a. plain refl))
    (either (bytes_eq n (codes "type")) (none command.KeyType (one ws) (λ a. plain refl))
    (either (bytes_eq n (codes "rename"))
    (none (λ p. command.Rename p.0 p.1) (two ws) (λ a. plain refl))
    (either (bytes_eq n (codes "expire"))
    (none (λ p. command.Expire p.0 p.1) (one_and_seconds ws) (λ a. plain refl))
    (either (bytes_eq n (codes "pexpire"))
    (none (λ p. command.PExpire p.0 p.1) (one_and_number ws) (λ a. plain refl))
    (either (bytes_eq n (codes "expireat"))
    (none (λ p. command.ExpireAt p.0 p.1) (one_and_seconds ws) (λ a. plain refl))
    (either (bytes_eq n (codes "pexpireat"))
    (none (λ p. command.PExpireAt p.0 p.1) (one_and_number ws) (λ a. plain refl))
    (either (bytes_eq n (codes "ttl")) (none command.Ttl (one ws) (λ a. plain refl))
    (either (bytes_eq n (codes "pttl")) (none command.PTtl (one ws) (λ a. plain refl))
    (either (bytes_eq n (codes "persist")) (none command.Persist (one ws) (λ a. plain refl))
    (either (bytes_eq n (codes "dbsize"))
    (none (λ _. command.DbSize) (no_word ws) (λ a. plain refl))
    (either (bytes_eq n (codes "flushall"))
    (none command.FlushAll (flush_mode ws) (λ a. plain refl))
    (either (bytes_eq n (codes "flushdb"))
    (none command.FlushDb (flush_mode ws) (λ a. plain refl))
    fault)))))))))))))

of_data : (n : List ℕ) (ws : List (List ℕ)) → NoQuit (connection_reading n ws)
    → NoQuit (reading_of n ws)
of_data n ws rest =
    let keys = or_else (key_reading n ws) (connection_reading n ws) in
    both (string_reading n ws) (or_else (hash_reading n ws) keys) (of_strings n ws)
    (both (hash_reading n ws) keys (of_hashes n ws)
    (both (key_reading n ws) (connection_reading n ws) (of_keys n ws) rest))

-- ---- those of a connection

of_client : (n : List ℕ) (ws : List (List ℕ)) → NoQuit (client_reading n ws)
unfolding client_reading
of_client n ws =
    either (bytes_eq n (codes "id")) (none (λ _. command.ClientId) (no_word ws) (λ a. plain refl))
    (either (bytes_eq n (codes "tracking"))
    (none command.ClientTracking (tracking ws) (λ a. plain refl))
    (either (bytes_eq n (codes "caching"))
    (none command.ClientCaching (yes_or_no ws) (λ a. plain refl))
    (either (bytes_eq n (codes "getredir"))
    (none (λ _. command.ClientGetRedir) (no_word ws) (λ a. plain refl))
    (either (bytes_eq n (codes "trackinginfo"))
    (none (λ _. command.ClientTrackingInfo) (no_word ws) (λ a. plain refl))
    fault))))

of_client_words : (ws : List (List ℕ)) → NoQuit (client_words ws)
of_client_words [] = fault
of_client_words (w ∷ ws) = of_client (str_to_ascii_lowercase w) ws

-- QUIT with no word behind it apart, if a word may be
module _ (n : List ℕ) (ws : List (List ℕ))
    (quit : (y : Read Command) → NoQuit y
    → NoQuit (if bytes_eq n (codes "quit") then read_as (λ _. command.Quit) (no_word ws) else y))
  where
    of_connection : NoQuit (connection_reading n ws)
    unfolding connection_reading
    of_connection =
        either (bytes_eq n (codes "ping")) (none command.Ping (at_most_one ws) (λ a. plain refl))
        (either (bytes_eq n (codes "echo")) (none command.Echo (one ws) (λ a. plain refl))
        (either (bytes_eq n (codes "hello"))
        (none command.Hello (hello_version ws) (λ a. plain refl))
        (either (bytes_eq n (codes "reset"))
        (none (λ _. command.Reset) (no_word ws) (λ a. plain refl))
        (quit _
        (either (bytes_eq n (codes "shutdown"))
        (none command.Shutdown (save_mode ws) (λ a. plain refl))
        (either (bytes_eq n (codes "client")) (of_client_words ws)
        (either (bytes_eq n (codes "subscribe")) (none command.Subscribe (one ws) (λ a. plain refl))
        (either (bytes_eq n (codes "unsubscribe"))
        (none command.Unsubscribe (at_most_one ws) (λ a. plain refl))
        fault))))))))

-- ---- QUIT

at_quit : is_quitting (ending_of (served (reading_of (codes "quit") []))) ≡ true
unfolding string_reading hash_reading key_reading connection_reading
at_quit = refl

named : (n : List ℕ) (b : Bool) → bytes_eq n (codes "quit") ≡ b
    → is_quitting (ending_of (served (reading_of n []))) ≡ b
named n true e =
    ap (λ m. is_quitting (ending_of (served (reading_of m []))))
    ((bytes_eq-Decides n (codes "quit")).0 e) ∙ at_quit
named n false e =
    (of_data n [] (of_connection n [] (λ y rest. other (bytes_eq n (codes "quit")) _ e rest))).stays

test_is : (n q : List ℕ) (b : Bool) → (IsTrue b → n ≡ q) → (n ≡ q → IsTrue b)
    → bytes_eq n q ≡ b
test_is n q b f g = grind (arith, bytes_eq-Decides, nat_tests)

-- a test of the name is one of the word alone
pub by_name : (name : List ℕ) (b : Bool)
    → (IsTrue b → str_to_ascii_lowercase name ≡ codes "quit")
    → (str_to_ascii_lowercase name ≡ codes "quit" → IsTrue b) → b ≡ is_quit (name ∷ [])
unfolding reading
by_name name b f g =
    let n = str_to_ascii_lowercase name in sym (named n b (test_is n (codes "quit") b f g))

no_words : is_quit [] ≡ false
unfolding reading
no_words = refl

many_words : (name word : List ℕ) (words : List (List ℕ))
    → is_quit (name ∷ word ∷ words) ≡ false
unfolding reading
many_words name word words =
    let n = str_to_ascii_lowercase name in
    (of_data n (word ∷ words) (of_connection n (word ∷ words)
    (λ y rest. either (bytes_eq n (codes "quit")) fault rest))).stays

-- no words but one alone are QUIT
pub not_alone : (words : List (List ℕ)) → (length words ≡ 1 → ⊥) → is_quit words ≡ false
not_alone [] many = no_words
not_alone (name ∷ []) many = absurd (many refl)
not_alone (name ∷ word ∷ words) many = many_words name word words
