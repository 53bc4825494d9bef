-- A name that is none of a family's is unknown to it.
use Rattle.std.proofs.Common.{◌≡◌, refl, ℕ, List, false, Err, arith}
use Rattle.std.specs.Str.{bytes_eq}
use Rattle.command_words.specs.declared.command.WordFault.TheVariants.{Unknown}
use Rattle.command_words.specs.declared.string_words.StringName.{StringName}
use Rattle.command_words.specs.declared.string_words.StringName.TheVariants as string
use Rattle.command_words.specs.StringWords.{string_name_text, string_reading}
use Rattle.command_words.specs.declared.hash_words.HashName.{HashName}
use Rattle.command_words.specs.declared.hash_words.HashName.TheVariants as hash
use Rattle.command_words.specs.HashWords.{hash_name_text, hash_reading}
use Rattle.command_words.specs.declared.key_words.KeyName.{KeyName}
use Rattle.command_words.specs.declared.key_words.KeyName.TheVariants as key
use Rattle.command_words.specs.KeyWords.{key_name_text, key_reading}
use Rattle.command_words.specs.declared.connection_words.ConnectionName.{ConnectionName}
use Rattle.command_words.specs.declared.connection_words.ConnectionName.TheVariants as connection
use Rattle.command_words.specs.ConnectionWords.{connection_name_text, connection_reading}
use Rattle.command_words.specs.Words.{reading_of}
use Rattle.command_words.specs.declared.client_words.ClientName.{ClientName}
use Rattle.command_words.specs.declared.client_words.ClientName.TheVariants as client
use Rattle.command_words.specs.ClientWords.{client_name_text, client_reading}

pub no_string_name : (name : List ℕ) (words : List (List ℕ)) →
    ((n : StringName) → bytes_eq name (string_name_text n) ≡ false) →
    string_reading name words ≡ Err Unknown
unfolding string_reading
no_string_name name words none =
    rw (
      none string.Get,
      none string.Set,
      none string.SetNx,
      none string.GetDel,
      none string.Append,
      none string.StrLen,
      none string.GetRange,
      none string.Incr,
      none string.Decr,
      none string.IncrBy,
      none string.DecrBy,
      none string.MGet,
      none string.MSet,
    ) refl

pub no_hash_name : (name : List ℕ) (words : List (List ℕ)) →
    ((n : HashName) → bytes_eq name (hash_name_text n) ≡ false) →
    hash_reading name words ≡ Err Unknown
unfolding hash_reading
no_hash_name name words none =
    rw (
      none hash.HSet,
      none hash.HGet,
      none hash.HMGet,
      none hash.HGetAll,
      none hash.HDel,
      none hash.HLen,
      none hash.HExists,
      none hash.HKeys,
      none hash.HVals,
      none hash.HIncrBy,
    ) refl

pub no_key_name : (name : List ℕ) (words : List (List ℕ)) →
    ((n : KeyName) → bytes_eq name (key_name_text n) ≡ false) →
    key_reading name words ≡ Err Unknown
unfolding key_reading
no_key_name name words none =
    rw (
      none key.Del,
      none key.Exists,
      none key.KeyType,
      none key.Rename,
      none key.Expire,
      none key.PExpire,
      none key.ExpireAt,
      none key.PExpireAt,
      none key.Ttl,
      none key.PTtl,
      none key.Persist,
      none key.DbSize,
      none key.FlushAll,
      none key.FlushDb,
    ) refl

pub no_connection_name : (name : List ℕ) (words : List (List ℕ)) →
    ((n : ConnectionName) → bytes_eq name (connection_name_text n) ≡ false) →
    connection_reading name words ≡ Err Unknown
unfolding connection_reading
no_connection_name name words none =
    rw (
      none connection.Ping,
      none connection.Echo,
      none connection.Hello,
      none connection.Reset,
      none connection.Quit,
      none connection.Shutdown,
      none connection.Client,
      none connection.Subscribe,
      none connection.Unsubscribe,
    ) refl

pub no_client_name : (name : List ℕ) (words : List (List ℕ)) →
    ((n : ClientName) → bytes_eq name (client_name_text n) ≡ false) →
    client_reading name words ≡ Err Unknown
unfolding client_reading
no_client_name name words none =
    rw (
      none client.Id,
      none client.Tracking,
      none client.Caching,
      none client.GetRedir,
      none client.TrackingInfo,
    ) refl

-- the names of a connection's commands are none of another family's
pub connection_alone : (n : ConnectionName) (ws : List (List ℕ)) →
    reading_of (connection_name_text n) ws ≡ connection_reading (connection_name_text n) ws
unfolding string_reading hash_reading key_reading
connection_alone n ws = grind arith
