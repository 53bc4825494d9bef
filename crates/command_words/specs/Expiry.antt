-- Keys whose deadline is past.
use Rattle.std.specs.Prelude.{ℕ, Bool, false, not, nat_lt, Option, Some, None}
use Rattle.std.specs.FinMap.{retain_keys}
use Rattle.command_words.specs.Space.{Space, deadline_at}

-- a key is due where its deadline is before the moment
abbrev pub is_past : ℕ → Option ℕ → Bool
is_past moment None = false
is_past moment (Some deadline) = nat_lt deadline moment

-- the keyspace without the keys that are due
abbrev pub without_due : ℕ → Space → Space
without_due moment space = retain_keys space (λ key. not (is_past moment (deadline_at key space)))
