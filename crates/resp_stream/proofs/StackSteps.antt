-- The steps of a reader with a stack.
use Rattle.std.proofs.lemmas.List.{take-append-le, length-append, drop-append-le}
use Rattle.std.proofs.Common.{◌≡◌, ℕ, suc, ◌≤◌, List, [], ◌∷◌, ◌++◌, refl, sym, ap, ◌∙◌}
use Rattle.std.proofs.Common.{append_assoc, length, drop, arith}
use Rattle.resp_value.specs.Tree.{Tree}
use Rattle.resp_stream.specs.declared.fault.Fault.{Fault}
use Rattle.resp_stream.specs.declared.stack.Frame.{Frame}
use Rattle.resp_stream.specs.declared.value.Kind.{Kind}
use Rattle.resp_stream.specs.Parsed.{Whole, More, Bad, ◌>>=◌}
use Rattle.resp_stream.specs.Tokens.{many}
use Rattle.resp_stream.specs.Value.{build, value_in}
use Rattle.resp_stream.specs.ValueSteps.{rest_of, resume, IsStack, HasRead, LineSeen}
use Rattle.resp_stream.proofs.Compose.{append_nil}
use Rattle.resp_stream.proofs.Line.{passed_none}
use Rattle.resp_stream.proofs.ValueLaws.{reader_value}
use Rattle.resp_stream.proofs.Places.{steady}

pub begin : (whole : ℕ) (text : List ℕ) → IsStack whole text 0 whole []
unfolding resume
begin whole text = record { within = omega arith; same = λ m. refl }

pub grow : (whole : ℕ) (text piece : List ℕ) (at room : ℕ) (fs : List Frame)
    → IsStack whole text at room fs → IsStack whole (text ++ piece) at room fs
grow whole text piece at room fs s = grind (arith, length-append, append_assoc, drop-append-le)

pub seen_none : (b : List ℕ) → LineSeen b 0
seen_none b = grind (arith, passed_none)

pub seen_grows : (text piece : List ℕ) (at seen : ℕ) → at ≤ length text
    → LineSeen (drop at text) seen → LineSeen (drop at (text ++ piece)) seen
seen_grows text piece at seen le h =
    grind (arith, drop-append-le, seen_none, length-append, take-append-le)

pub has_leaf : (whole : ℕ) (text : List ℕ) (at next room : ℕ) (fs : List Frame) (t : Tree)
    → IsStack whole text at room fs → next ≤ length text
    → value_in room (drop at text) ≡ Whole t (drop next text) → HasRead whole text next room fs t
has_leaf whole text at next room fs t s le e = record {
  within = le;
  same = λ m. s.same m
      ∙ ap (λ q. resume room fs q)
      (steady (value_in room) (reader_value room) (drop at text) (drop next text) t e m);
}

-- an aggregate of suc n elements, by its first
first_by : (d n : ℕ) (kind : Kind) (r : List ℕ)
    → (many (value_in d) (suc n) r >>= λ ts s. Whole (build kind ts) s)
    ≡ (value_in d r >>= rest_of d (record { kind = kind; left = n; done = [] }))
unfolding many rest_of
first_by d n kind r = grind arith

pub opens : (whole : ℕ) (text : List ℕ) (at next room d n : ℕ) (kind : Kind) (fs : List Frame)
    → IsStack whole text at room fs → next ≤ length text → room ≡ suc d →
    ((m : List ℕ)
    → value_in room (drop at text ++ m)
    ≡ (many (value_in d) (suc n) (drop next text ++ m) >>= λ ts s. Whole (build kind ts) s))
    → IsStack whole text next d (record { kind = kind; left = n; done = [] } ∷ fs)
unfolding resume
opens whole text at next room d n kind fs s le one e = grind (arith, first_by)

-- an element behind others
next_element : (d k : ℕ) (kind : Kind) (done : List Tree) (t : Tree) (r : List ℕ)
    → rest_of d (record { kind = kind; left = suc k; done = done }) t r
    ≡ (value_in d r >>= rest_of d (record { kind = kind; left = k; done = done ++ t ∷ [] }))
unfolding rest_of many
next_element d k kind done t r = grind (arith, append_assoc)

pub has_next : (whole : ℕ) (text : List ℕ) (at d k : ℕ) (kind : Kind) (done : List Tree)
    (fs : List Frame) (t : Tree)
    → HasRead whole text at d (record { kind = kind; left = suc k; done = done } ∷ fs) t
    → IsStack whole text at d (record { kind = kind; left = k; done = done ++ t ∷ [] } ∷ fs)
unfolding resume
has_next whole text at d k kind done fs t h = grind (arith, next_element)

last_element : (d : ℕ) (kind : Kind) (done : List Tree) (t : Tree) (r : List ℕ)
    → rest_of d (record { kind = kind; left = 0; done = done }) t r
    ≡ Whole (build kind (done ++ t ∷ [])) r
unfolding rest_of many
last_element d kind done t r = refl

pub has_up : (whole : ℕ) (text : List ℕ) (at d : ℕ) (kind : Kind) (done : List Tree)
    (fs : List Frame) (t : Tree)
    → HasRead whole text at d (record { kind = kind; left = 0; done = done } ∷ fs) t
    → HasRead whole text at (suc d) fs (build kind (done ++ t ∷ []))
unfolding resume
has_up whole text at d kind done fs t h = grind (arith, last_element)

pub has_all : (whole : ℕ) (text : List ℕ) (at d : ℕ) (t : Tree) → HasRead whole text at d [] t
    → value_in whole text ≡ Whole t (drop at text)
unfolding resume
has_all whole text at d t h = ap (λ q. value_in whole q) (sym (append_nil text)) ∙ h.same []
    ∙ ap (λ q. Whole t q) (append_nil (drop at text))

resume_more : (d : ℕ) (fs : List Frame) → resume d fs More ≡ More
unfolding resume
resume_more d [] = refl
resume_more d (f ∷ fs) = resume_more (suc d) fs

resume_bad : (d : ℕ) (fs : List Frame) (g : Fault) (r : List ℕ) → resume d fs (Bad g r) ≡ Bad g r
unfolding resume
resume_bad d [] g r = refl
resume_bad d (f ∷ fs) g r = resume_bad (suc d) fs g r

here : (whole : ℕ) (text : List ℕ) (at room : ℕ) (fs : List Frame) → IsStack whole text at room fs
    → value_in whole text ≡ resume room fs (value_in room (drop at text))
here whole text at room fs s =
    ap (λ q. value_in whole q) (sym (append_nil text)) ∙ s.same []
    ∙ ap (λ q. resume room fs (value_in room q)) (append_nil (drop at text))

pub needs_more : (whole : ℕ) (text : List ℕ) (at room : ℕ) (fs : List Frame)
    → IsStack whole text at room fs → value_in room (drop at text) ≡ More
    → value_in whole text ≡ More
needs_more whole text at room fs s e =
    here whole text at room fs s ∙ ap (λ q. resume room fs q) e ∙ resume_more room fs

pub is_bad : (whole : ℕ) (text r : List ℕ) (at room : ℕ) (fs : List Frame) (g : Fault)
    → IsStack whole text at room fs → value_in room (drop at text) ≡ Bad g r
    → value_in whole text ≡ Bad g r
is_bad whole text r at room fs g s e =
    here whole text at room fs s ∙ ap (λ q. resume room fs q) e ∙ resume_bad room fs g r
