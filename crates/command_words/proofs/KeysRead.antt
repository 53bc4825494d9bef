-- The reply to a read is that of the contents of the keys that it reads.
use Rattle.std.proofs.Common.{◌≡◌, ◌∙◌, refl, ap, ℕ, List, [], ◌∷◌, Bool, true, Option, cond}
use Rattle.std.proofs.Common.{length, arith}
use Rattle.std.specs.Prelude.{pos, is_some}
use Rattle.std.specs.FinMap.{contains_key, get}
use Rattle.std.specs.Option.{option_map}
use Rattle.std.specs.List.{filter, list_any}
use Rattle.std.specs.Str.{bytes_eq}
use Rattle.resp_value.specs.declared.value.Value.TheVariants.{Array, Number}
use Rattle.command_words.specs.declared.command.Command.TheVariants as command
use Rattle.command_words.specs.Space.{Held, Space, content_at}
use Rattle.command_words.specs.Effects.{read_reply}
use Rattle.command_words.specs.Laws.{RepliesAreOfKeysRead}
use Rattle.command_words.proofs.KeysOnce.{any_once, first, is_itself, map_alike, or_true}

-- two keyspaces that agree at a command's one key
at_one : (key : List ℕ) (space other : Space) →
    ((k : List ℕ) → list_any (bytes_eq k) (key ∷ []) ≡ true →
    content_at k space ≡ content_at k other) →
    content_at key space ≡ content_at key other
at_one key space other same = same key (first (bytes_eq key key) _ (is_itself key))

there_alike : (a b : Option Held) →
    option_map (λ held. held.content) a ≡ option_map (λ held. held.content) b →
    is_some a ≡ is_some b
there_alike a b e = grind arith

-- tests that agree at each of the keys pass the same ones
passing_alike : (p q : List ℕ → Bool) (keys : List (List ℕ)) →
    ((k : List ℕ) → list_any (bytes_eq k) keys ≡ true → p k ≡ q k) →
    filter p keys ≡ filter q keys
passing_alike p q [] same = refl
passing_alike p q (k ∷ keys) same =
    ap (λ b. cond b (k ∷ filter p keys) (filter p keys))
    (same k (first (bytes_eq k k) _ (is_itself k)))
    ∙ ap (λ r. cond (q k) (k ∷ r) r)
    (passing_alike p q keys (λ j among. same j (or_true (bytes_eq j k) _ among)))

pub replies_alike : RepliesAreOfKeysRead
unfolding read_reply
replies_alike (command.Get key) s o same = rw (at_one key s o same) refl
replies_alike (command.StrLen key) s o same = rw (at_one key s o same) refl
replies_alike (command.GetRange key a b) s o same = rw (at_one key s o same) refl
replies_alike (command.MGet keys) s o same =
    ap Array (map_alike _ _ keys
    (grind (arith, any_once)))
replies_alike (command.HGet key field) s o same = rw (at_one key s o same) refl
replies_alike (command.HMGet key fields) s o same = rw (at_one key s o same) refl
replies_alike (command.HGetAll key) s o same = rw (at_one key s o same) refl
replies_alike (command.HLen key) s o same = rw (at_one key s o same) refl
replies_alike (command.HExists key field) s o same = rw (at_one key s o same) refl
replies_alike (command.HKeys key) s o same = rw (at_one key s o same) refl
replies_alike (command.HVals key) s o same = rw (at_one key s o same) refl
replies_alike (command.Exists keys) s o same =
    ap (λ ks. Number (pos (length ks))) (passing_alike (contains_key s) (contains_key o) keys
    (λ k among. there_alike (get s k) (get o k) (same k (any_once k keys ∙ among))))
replies_alike (command.KeyType key) s o same = rw (at_one key s o same) refl
replies_alike _ s o same = refl
