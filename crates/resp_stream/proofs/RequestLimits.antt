-- A request under the limit of the whole, and behind empty ones.
use Rattle.std.proofs.Common.{◌≡◌, ℕ, ◌+◌, ◌-◌, ◌<◌, ◌≤◌, List, [], ◌∷◌, refl, sym, ap, subst, ◌∙◌}
use Rattle.std.proofs.Common.{length, drop, arith, Ok}
use Rattle.std.proofs.lemmas.List.{length-drop, drop-drop}
use Rattle.resp_stream.specs.declared.fault.Fault.{Fault}
use Rattle.resp_stream.specs.declared.fault.Fault.TheVariants.{TooLong}
use Rattle.resp_stream.specs.declared.request.Reading.{Reading}
use Rattle.resp_stream.specs.declared.request.Reading.TheVariants as reading
use Rattle.resp_stream.specs.Parsed.{Whole, More, Bad}
use Rattle.resp_stream.specs.Tokens.{limited}
use Rattle.resp_stream.specs.Request.{whole_limit, request_begun, request_at, skip_empty}
use Rattle.resp_stream.specs.RequestSteps.{RequestReadingGives, IsPast}
use Rattle.resp_stream.proofs.RequestLaws.{reader_request}
use Rattle.resp_stream.proofs.Places.{bad_within}
use Rattle.resp_stream.proofs.Skipping.{takes, skip_on, skip_more, skip_bad, skip_whole}
use Rattle.resp_stream.proofs.Capped.{whole_within, whole_over, more_within, more_over}

-- a fault under the limit is no later
pub limited_le : (most o : ℕ) (g : Fault) → (limited most o g).1 ≤ o
limited_le most o g = grind arith

pub bad_left : (text : List ℕ) (g : Fault) (left : ℕ)
    → ((r : List ℕ) × (request_begun text ≡ Bad g r) × (length r ≡ left)) → left ≤ length text
bad_left text g left h =
    omega (arith, (bad_within request_begun reader_request text h.0 g h.1).1, h.2)

pub bad_gives : (text : List ℕ) (g : Fault) (left : ℕ) (p : Fault × ℕ)
    → ((r : List ℕ) × (request_begun text ≡ Bad g r) × (length r ≡ left))
    → p ≡ limited whole_limit (length text - left) g →
    (p.1 ≤ length text) × (request_at text ≡ Bad p.0 (drop p.1 text))
unfolding request_at
bad_gives text g left p h e = grind arith

module _ (text : List ℕ) (ws : List (List ℕ)) (taken : ℕ)
    (h : (taken ≤ length text) × (request_begun text ≡ Whole ws (drop taken text))) where
  taken_is : length text - length (drop taken text) ≡ taken
  taken_is = omega (arith, length-drop taken text, h.0)

  pub whole_fits : taken ≤ whole_limit → (taken ≤ length text)
      × (request_at text ≡ Whole ws (drop taken text))
  unfolding request_at
  whole_fits le = (
    h.0,
    whole_within whole_limit text (request_begun text) ws (drop taken text) h.1
        (omega (arith, taken_is)),
  )

  pub whole_long : (result : Reading) → whole_limit < taken
      → result ≡ reading.Faulty (TooLong (whole_limit + 1)) whole_limit
      → RequestReadingGives text (Ok result)
  unfolding request_at
  whole_long result lt e =
      subst (λ (r : Reading). RequestReadingGives text (Ok r)) (sym e) (
        omega (arith, h.0),
        whole_over whole_limit text (request_begun text) ws (drop taken text)
            h.1 (omega (arith, taken_is)),
      )

pub more_fits : (text : List ℕ) → request_begun text ≡ More → length text ≤ whole_limit
    → request_at text ≡ More
unfolding request_at
more_fits text e le = more_within whole_limit text (request_begun text) e le

pub more_long : (text : List ℕ) (result : Reading) → request_begun text ≡ More
    → whole_limit < length text → result ≡ reading.Faulty (TooLong (whole_limit + 1)) whole_limit
    → RequestReadingGives text (Ok result)
unfolding request_at
more_long text result e lt k = grind (arith, more_over)

-- ---- behind empty requests

module _ (text rest : List ℕ) (passed : ℕ) (le : passed ≤ length text)
    (past : skip_empty text ≡ skip_empty (drop passed text)) (back : rest ≡ drop passed text) where
  stop_here : skip_empty rest ≡ rest → skip_empty text ≡ rest
  stop_here e = past ∙ ap skip_empty (sym back) ∙ e

  pub faulty_here : (g : Fault) (at : ℕ)
      → ((at ≤ length rest) × (request_at rest ≡ Bad g (drop at rest))) → IsPast text passed
      × (at ≤ length (skip_empty text))
      × (request_at (skip_empty text) ≡ Bad g (drop at (skip_empty text)))
  faulty_here g at h = grind (arith, stop_here, skip_bad)

  pub more_here : request_at rest ≡ More → IsPast text passed
      × (request_at (skip_empty text) ≡ More)
  more_here h = grind (arith, stop_here, skip_more)

  module _ (ws : List (List ℕ)) (taken : ℕ)
      (h : (taken ≤ length rest) × (request_at rest ≡ Whole ws (drop taken rest))) where
    rest_length : length rest ≡ length text - passed
    rest_length = ap length back ∙ length-drop passed text

    rest_drop : drop taken rest ≡ drop (passed + taken) text
    rest_drop = ap (drop taken) back ∙ drop-drop taken passed text

    pub whole_here : 0 < length ws → (passed + taken ≤ length text) × (0 < length ws)
        × (request_at (skip_empty text) ≡ Whole ws (drop (passed + taken) text))
    whole_here some = grind (arith, rest_length, stop_here, skip_whole, rest_drop)

    pub place_here : passed + taken ≤ length text
    place_here = omega (arith, h.0, rest_length)

    pub further : length text - (passed + taken) < length text - passed
    further =
        omega (arith, h.0, rest_length, takes rest (drop taken rest) ws h.1, length-drop taken rest)

    pub empty_here : ws ≡ [] → skip_empty text ≡ skip_empty (drop (passed + taken) text)
    empty_here none = grind (arith, skip_on, rest_drop)

pub no_words : (ws : List (List ℕ)) → length ws ≡ 0 → ws ≡ []
no_words [] e = refl
no_words (w ∷ ws) e = absurd (omega arith)
