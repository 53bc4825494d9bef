-- A value under the limit of the whole.
use Rattle.std.proofs.Common.{◌≡◌, ℕ, ◌+◌, ◌-◌, ◌<◌, ◌≤◌, List, sym, subst, length, drop, arith, Ok}
use Rattle.std.proofs.lemmas.List.{length-drop}
use Rattle.resp_value.specs.Tree.{Tree}
use Rattle.resp_stream.specs.declared.fault.Fault.{Fault}
use Rattle.resp_stream.specs.declared.fault.Fault.TheVariants.{TooLong}
use Rattle.resp_stream.specs.declared.stack.ValueReading.{ValueReading}
use Rattle.resp_stream.specs.declared.stack.ValueReading.TheVariants as reading
use Rattle.resp_stream.specs.Parsed.{Whole, More, Bad}
use Rattle.resp_stream.specs.Tokens.{limited}
use Rattle.resp_stream.specs.Request.{whole_limit}
use Rattle.resp_stream.specs.Value.{value_in, value_at}
use Rattle.resp_stream.specs.ValueSteps.{ValueReadingGives}
use Rattle.resp_stream.proofs.ValueLaws.{reader_value}
use Rattle.resp_stream.proofs.Places.{bad_within}
use Rattle.resp_stream.proofs.Capped.{whole_within, whole_over, more_within, more_over}

pub bad_left : (text : List ℕ) (g : Fault) (left : ℕ)
    → ((r : List ℕ) × (value_in 8 text ≡ Bad g r) × (length r ≡ left)) → left ≤ length text
bad_left text g left h =
    omega (arith, (bad_within (value_in 8) (reader_value 8) text h.0 g h.1).1, h.2)

pub bad_gives : (text : List ℕ) (g : Fault) (left : ℕ) (p : Fault × ℕ)
    → ((r : List ℕ) × (value_in 8 text ≡ Bad g r) × (length r ≡ left))
    → p ≡ limited whole_limit (length text - left) g →
    (p.1 ≤ length text) × (value_at text ≡ Bad p.0 (drop p.1 text))
unfolding value_at
bad_gives text g left p h e = grind arith

module _ (text : List ℕ) (t : Tree) (taken : ℕ)
    (h : (taken ≤ length text) × (value_in 8 text ≡ Whole t (drop taken text))) where
  taken_is : length text - length (drop taken text) ≡ taken
  taken_is = omega (arith, length-drop taken text, h.0)

  pub whole_fits : taken ≤ whole_limit → (taken ≤ length text)
      × (value_at text ≡ Whole t (drop taken text))
  unfolding value_at
  whole_fits le = (
    h.0,
    whole_within whole_limit text (value_in 8 text) t (drop taken text) h.1
        (omega (arith, taken_is)),
  )

  pub whole_long : (result : ValueReading) → whole_limit < taken
      → result ≡ reading.Faulty (TooLong (whole_limit + 1)) whole_limit
      → ValueReadingGives text (Ok result)
  unfolding value_at
  whole_long result lt e =
      subst (λ (r : ValueReading). ValueReadingGives text (Ok r)) (sym e) (
        omega (arith, h.0),
        whole_over whole_limit text (value_in 8 text) t (drop taken text) h.1
            (omega (arith, taken_is)),
      )

pub more_fits : (text : List ℕ) → value_in 8 text ≡ More → length text ≤ whole_limit
    → value_at text ≡ More
unfolding value_at
more_fits text e le = more_within whole_limit text (value_in 8 text) e le

pub more_long : (text : List ℕ) (result : ValueReading) → value_in 8 text ≡ More
    → whole_limit < length text → result ≡ reading.Faulty (TooLong (whole_limit + 1)) whole_limit
    → ValueReadingGives text (Ok result)
unfolding value_at
more_long text result e lt k = grind (arith, more_over)
