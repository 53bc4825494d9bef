-- Where a blob lies in a text.
use Rattle.std.specs.Prelude.{◌≡◌, ◌≤◌, ◌-◌, ℕ, List, ◌∷◌, length, drop, Some}
use Rattle.resp_stream.specs.declared.tokens.LengthRule.{LengthRule}
use Rattle.resp_stream.specs.Parsed.{Whole}
use Rattle.resp_stream.specs.Tokens.{length_at}

-- The text begins with a blob, whose `count` bytes stand from `first` on, with its end.
pub record LiesAt (rule : LengthRule) (text : List ℕ) (first count : ℕ) : Type 0 where
  pub sized : List ℕ
  pub bytes : List ℕ
  pub behind : List ℕ
  pub mark : text ≡ 36 ∷ sized
  pub long : length_at rule sized ≡ Whole (Some count) bytes
  pub whole : count ≤ length bytes
  pub end : drop count bytes ≡ 13 ∷ 10 ∷ behind
  pub place : first ≡ length text - length bytes
