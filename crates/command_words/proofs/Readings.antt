-- What a name and the words after it read as: a cacheable query reads the first of these words
-- alone, and no command on strings, hashes or keys is a control command.
use Rattle.std.proofs.Common.{◌≡◌, sym, ap, subst, refl, ℕ, List, [], ◌∷◌, Bool, true, false, Ok}
use Rattle.std.proofs.Common.{Err, not, ◌&&◌, ◌||◌, arith}
use Rattle.std.specs.Prelude.{if◌then◌else◌, codes}
use Rattle.std.specs.Str.{bytes_eq}
use Rattle.command_words.specs.declared.command.Command.{Command}
use Rattle.command_words.specs.declared.command.Command.TheVariants as command
use Rattle.command_words.specs.declared.command.WordFault.{WordFault}
use Rattle.command_words.specs.declared.command.WordFault.TheVariants.{Unknown}
use Rattle.command_words.specs.ClientWords.{client_reading}
use Rattle.command_words.specs.ConnectionWords.{connection_reading}
use Rattle.command_words.specs.Control.{is_control_command, reads_as_control}
use Rattle.command_words.specs.HashWords.{hash_reading}
use Rattle.command_words.specs.KeyWords.{key_reading, one_and_seconds}
use Rattle.command_words.specs.Queries.{is_cacheable, reads_as_cacheable, read, key_of}
use Rattle.command_words.specs.Reading.{Read, read_as}
use Rattle.command_words.specs.SetOptions.{set_reading}
use Rattle.command_words.specs.StringWords.{string_reading}
use Rattle.command_words.specs.WordCounts.{one, two, at_least_one, one_and_pairs, one_and_number}
use Rattle.command_words.proofs.KeysOnce.{left_false, right_false}
use Rattle.command_words.specs.Words.{or_else, reading_of, reading}

-- the keys that what was read as a command reads
abbrev pub keys_read : Read Command → List (List ℕ)
keys_read (Ok command) = read command
keys_read (Err fault) = []

-- these keys are the first of the words alone
abbrev AreFirst : List (List ℕ) → List (List ℕ) → Type 0
AreFirst [] keys = ⊥
AreFirst (word ∷ words) keys = keys ≡ word ∷ []

-- a command on data that reads the first word alone
abbrev Own : List (List ℕ) → Command → Type 0
Own words c = AreFirst words (read c) × (is_control_command c ≡ false)

-- where it is a cacheable query, it reads the first word alone; and it is a control command only
-- where that may be
record Reads (may_control : Bool) (words : List (List ℕ)) (r : Read Command) : Type 0 where
  first : reads_as_cacheable r ≡ true → AreFirst words (keys_read r)
  control : (reads_as_control r && not may_control) ≡ false

module _ {may : Bool} {ws : List (List ℕ)} where
  either : (b : Bool) {x y : Read Command} → Reads may ws x → Reads may ws y →
      Reads may ws (if b then x else y)
  either b reads rest = grind arith

  fault : {f : WordFault} → Reads may ws (Err f)
  fault = record { first = λ h. absurd (let no : ⊥ = cc in no); control = refl }

  both : (x y : Read Command) → Reads may ws x → Reads may ws y → Reads may ws (or_else x y)
  both x y reads rest = grind (arith, fault)

  -- no cacheable query is made
  none : {A : Type 0} (f : A → Command) (r : Read A) →
      ((a : A) → (is_cacheable (f a) || (is_control_command (f a) && not may)) ≡ false) →
      Reads may ws (read_as f r)
  none f r other = grind (arith, left_false, right_false, fault)

  own : (c : Command) → Own ws c → Reads may ws (Ok c)
  own c h = record { first = λ _. h.0; control = ap (λ b. b && not may) h.1 }

  made : {A : Type 0} (f : A → Command) (r : Read A) → ((a : A) → Own ws (f a)) →
      Reads may ws (read_as f r)
  made f r owns = grind (arith, own, fault)

module _ {may : Bool} where
  of_set : (ws : List (List ℕ)) → Reads may ws (set_reading ws)
  unfolding set_reading
  of_set ws = grind (arith, none, fault)

  of_strings : (name : List ℕ) (ws : List (List ℕ)) → Reads may ws (string_reading name ws)
  unfolding string_reading
  of_strings name ws =
      either (bytes_eq name (codes "get")) (grind (arith, own, fault))
      (either (bytes_eq name (codes "set")) (of_set ws)
      (either (bytes_eq name (codes "setnx"))
      (none (λ p. command.SetNx p.0 p.1) (two ws) (λ a. refl))
      (either (bytes_eq name (codes "getdel")) (none command.GetDel (one ws) (λ a. refl))
      (either (bytes_eq name (codes "append"))
      (none (λ p. command.Append p.0 p.1) (two ws) (λ a. refl))
      (either (bytes_eq name (codes "strlen")) (grind (arith, own, fault))
      (either (bytes_eq name (codes "getrange")) (grind (arith, made, fault))
      (grind (arith, either, none, fault))))))))

  of_hashes : (name : List ℕ) (ws : List (List ℕ)) → Reads may ws (hash_reading name ws)
  unfolding hash_reading
  of_hashes name ws =
      either (bytes_eq name (codes "hset"))
      (none (λ p. command.HSet p.0 p.1) (one_and_pairs ws) (λ a. refl))
      (either (bytes_eq name (codes "hget"))
      (grind (arith, own, fault))
      (grind (arith, either, none, fault, own)))

  of_keys : (name : List ℕ) (ws : List (List ℕ)) → Reads may ws (key_reading name ws)
  unfolding key_reading
  of_keys name ws =
      either (bytes_eq name (codes "del")) (none command.Del (at_least_one ws) (λ a. refl))
      (either (bytes_eq name (codes "exists")) (grind (arith, fault, own))
      (either (bytes_eq name (codes "type")) (grind (arith, own, fault))
      (either (bytes_eq name (codes "rename"))
      (none (λ p. command.Rename p.0 p.1) (two ws) (λ a. refl))
      (either (bytes_eq name (codes "expire"))
      (none (λ p. command.Expire p.0 p.1) (one_and_seconds ws) (λ a. refl))
      (either (bytes_eq name (codes "pexpire"))
      (none (λ p. command.PExpire p.0 p.1) (one_and_number ws) (λ a. refl))
      (either (bytes_eq name (codes "expireat"))
      (none (λ p. command.ExpireAt p.0 p.1) (one_and_seconds ws) (λ a. refl))
      (either (bytes_eq name (codes "pexpireat"))
      (none (λ p. command.PExpireAt p.0 p.1) (one_and_number ws) (λ a. refl))
      (grind (arith, either, none, fault)))))))))

-- ---- of a connection's own commands, some are control commands

of_client : (name : List ℕ) (vs ws : List (List ℕ)) → Reads true vs (client_reading name ws)
unfolding client_reading
of_client name vs ws = grind (arith, either, none, fault)

of_connection : (name : List ℕ) (ws : List (List ℕ)) → Reads true ws (connection_reading name ws)
unfolding connection_reading
of_connection name ws = grind (arith, either, none, fault, of_client)

of_data : (may : Bool) (name : List ℕ) (ws : List (List ℕ)) →
    Reads may ws (connection_reading name ws) → Reads may ws (reading_of name ws)
of_data may name ws rest =
    both _ _ (of_strings name ws)
    (both _ _ (of_hashes name ws) (both _ _ (of_keys name ws) rest))

of_name : (name : List ℕ) (ws : List (List ℕ)) → Reads true ws (reading_of name ws)
of_name name ws = of_data true name ws (of_connection name ws)

-- a name that is none of the connection's has no control command
pub no_control : (name : List ℕ) (ws : List (List ℕ)) →
    connection_reading name ws ≡ Err Unknown → reads_as_control (reading_of name ws) ≡ false
no_control name ws unknown =
    by (reads_as_control (reading_of name ws))
    (of_data false name ws (subst (Reads false ws) (sym unknown) fault)).control
  where
    by : (b : Bool) → (b && true) ≡ false → b ≡ false
    by b e = grind arith

-- no cacheable query is read of no words
pub no_query : (name : List ℕ) → reads_as_cacheable (reading_of name []) ≡ false
no_query name = grind (arith, of_name, none)

-- a cacheable query reads the key of its words alone
pub reads_its_key : (words : List (List ℕ)) → reads_as_cacheable (reading words) ≡ true →
    keys_read (reading words) ≡ key_of words ∷ []
unfolding reading
reads_its_key words h = grind (arith, of_name)
