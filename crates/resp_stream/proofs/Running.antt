-- A step over the whole text.
use Rattle.std.proofs.Common.{◌≡◌, ℕ, suc, ◌-◌, ◌<◌, List, [], ◌∷◌, ◌++◌, sym, ap, subst, ◌∙◌}
use Rattle.std.proofs.Common.{length, drop, reverse, arith}
use Rattle.resp_stream.specs.declared.stack.Frame.{Frame}
use Rattle.resp_stream.specs.Parsed.{Whole, More, Bad, ◌>>=◌}
use Rattle.resp_stream.specs.Results.{StopGives}
use Rattle.resp_stream.specs.declared.fault.ReadStop.{ReadStop}
use Rattle.resp_value.specs.declared.value.Value.{Value}
use Rattle.resp_stream.specs.declared.fault.Fault.{Fault}
use Rattle.resp_stream.specs.declared.stack.Step.{Step}
use Rattle.resp_stream.specs.declared.stack.Step.TheVariants.{Leaf, Open}
use Rattle.resp_stream.specs.declared.value.Kind.{Kind}
use Rattle.resp_value.specs.Tree.{Tree}
use Rattle.resp_value.specs.ValueTree.{tree_of}
use Rattle.resp_stream.specs.Tokens.{many}
use Rattle.resp_stream.specs.Value.{build, value_in}
use Rattle.resp_stream.specs.ValueSteps.{IsStack, HasRead, Opened, IsStep}
use Rattle.resp_stream.proofs.ValueLaws.{reader_value, no_value}
use Rattle.resp_stream.proofs.StackSteps.{has_leaf, opens, needs_more, is_bad}
use Rattle.resp_stream.proofs.Closing.{pushed}
use Rattle.resp_stream.proofs.Places.{Goes, goes, reads_on}

module _ (whole : ℕ) (text : List ℕ) (at room : ℕ) (fs : List Frame)
    (s : IsStack whole text at room fs) (rest : List ℕ) (back : rest ≡ drop at text) where
  leaf_goes : (t : Tree) (r : List ℕ) → value_in room rest ≡ Whole t r → Goes text at r
  leaf_goes t r e =
      reads_on (value_in room) (reader_value room) (no_value room) text r at t s.within
      (ap (λ q. value_in room q) (sym back) ∙ e)

  open_goes : (kind : Kind) (n : ℕ) (r : List ℕ) → Opened room rest kind n r → Goes text at r
  open_goes kind n r o = goes text o.front r at s.within (sym back ∙ o.parts) o.long

  pub step_on : (st : Step) (r : List ℕ) → IsStep room rest st r → Goes text at r
  step_on (Leaf v) r h = leaf_goes (tree_of v) r h
  step_on (Open kind n) r h = open_goes kind n r h

  pub step_leaf : (st : Step) (v : Value) (r : List ℕ) → IsStep room rest st r → st ≡ Leaf v
      → HasRead whole text (length text - length r) room fs (tree_of v)
  step_leaf st v r h e =
      let k : value_in room rest ≡ Whole (tree_of v) r =
      subst (λ (x : Step). IsStep room rest x r) e h in
      let g = leaf_goes (tree_of v) r k in
      has_leaf whole text at (length text - length r) room fs (tree_of v) s (omega arith)
      (grind arith)

  pub step_counts : (st : Step) (kind : Kind) (n : ℕ) (r : List ℕ) → IsStep room rest st r
      → st ≡ Open kind n → (0 < n) × (0 < room)
  step_counts st kind n r h e = grind arith

  pub step_open : (st : Step) (kind : Kind) (n : ℕ) (r : List ℕ) (f : Frame) (zs ys : List Frame)
      → IsStep room rest st r → st ≡ Open kind n → fs ≡ reverse ys → zs ≡ ys ++ f ∷ []
      → f.kind ≡ kind → f.left ≡ n - 1 → f.done ≡ [] →
      IsStack whole text (length text - length r) (room - 1) (reverse zs)
  step_open st kind n r f zs ys h e fe ze ke le de =
      let o : Opened room rest kind n r = subst (λ (x : Step). IsStep room rest x r) e h in
      let g = open_goes kind n r o in
      let one : n ≡ suc f.left = omega (arith, o.some) in
      let two : o.inner ≡ room - 1 = omega (arith, o.room_is) in
      let same : (m : List ℕ) → value_in room (drop at text ++ m)
      ≡ (many (value_in o.inner) (suc f.left) (drop (length text - length r) text ++ m)
      >>= λ ts z. Whole (build kind ts) z) =
      λ m. grind arith in
      let w =
      opens whole text at (length text - length r) room o.inner f.left kind fs s (omega arith)
      o.room_is same in
      grind (arith, pushed, reverse)

  pub none_gives : value_in room rest ≡ More → value_in whole text ≡ More
  none_gives e = needs_more whole text at room fs s (ap (λ q. value_in room q) (sym back) ∙ e)

  pub bad_gives : (g : Fault) (r : List ℕ) → value_in room rest ≡ Bad g r
      → value_in whole text ≡ Bad g r
  bad_gives g r e = is_bad whole text r at room fs g s (ap (λ q. value_in room q) (sym back) ∙ e)

  pub err_gives : (e : ReadStop) → StopGives e (value_in room rest)
      → StopGives e (value_in whole text)
  err_gives e h = grind (arith, bad_gives)
