-- A request whose last word was cut out of what was fed.
use Rattle.std.proofs.Common.{◌≡◌, ◌<◌, ℕ, ◌+◌, ◌-◌, List, [], ◌∷◌, ◌++◌, length, take, drop}
use Rattle.std.proofs.Common.{ap, sym, ◌∙◌, arith, Some, Ok}
use Rattle.std.proofs.lemmas.List.{length-append, length-drop}
use Rattle.std.proofs.Math.Seq.{take-append_seam}
use Rattle.resp_stream.specs.Parsed.{Whole}
use Rattle.resp_stream.specs.Readers.{RequestGives}
use Rattle.resp_stream.specs.Request.{request_at, skip_empty}
use Rattle.resp_stream.specs.RequestSteps.{IsLastAt}
use Rattle.resp_stream.specs.Stream.{Stream, offset_by}
use Rattle.resp_stream.proofs.Skipping.{skip_whole}

-- the word stands in the place of the empty one that was put there for it
pub last_set : (ws pushed : List (List ℕ)) (empty word : List ℕ) → pushed ≡ ws ++ empty ∷ []
    → take (length pushed - 1) pushed ++ word ∷ [] ≡ ws ++ word ∷ []
last_set ws pushed empty word e =
    ap (λ (q : List (List ℕ)). take (length q - 1) q ++ word ∷ []) e
    ∙ ap (λ k. take k (ws ++ empty ∷ []) ++ word ∷ [])
    (omega (arith, length-append ws (empty ∷ [])))
    ∙ ap (λ (q : List (List ℕ)). q ++ word ∷ []) (take-append_seam ws (empty ∷ []))

module _ (old new : Stream) (ws all : List (List ℕ)) (first n : ℕ)
    (l : IsLastAt old.rest ws first n)
    (all_is : all ≡ ws ++ take n (drop first old.rest) ∷ [])
    (rest_is : new.rest ≡ drop (first + n + 2) old.rest)
    (before_is : new.before ≡ offset_by old.before (first + n + 2))
    (failed_is : new.failed ≡ old.failed) where
  whole : request_at old.rest ≡ Whole all new.rest
  whole = l.is ∙ ap (λ q. Whole q (drop (first + n + 2) old.rest)) (sym all_is)
      ∙ ap (λ q. Whole all q) (sym rest_is)

  some : 0 < length all
  some = omega (arith, ap length all_is, length-append ws (take n (drop first old.rest) ∷ []))

  count : length old.rest - length new.rest ≡ first + n + 2
  count = omega (arith, ap length rest_is, length-drop (first + n + 2) old.rest, l.within)

  stays : skip_empty old.rest ≡ old.rest
  stays = skip_whole old.rest new.rest all whole some

  pub last_gives : RequestGives old new (Ok (Some all))
  last_gives = grind (arith, whole, count, stays)
