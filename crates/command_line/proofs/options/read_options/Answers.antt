use Rattle.std.proofs.Common.{[], ◌≡◌, ◌∙◌, inl, inr, sym, ap, subst, map, List, true, false}
use Rattle.std.specs.Prelude.{string_bytes}
use Rattle.std.specs.List.{list_any}
use Rattle.clap.specs.Words.{app_of, kind_of, fault_of, matches_of, App}
use Rattle.clap.specs.Kinds.{Kinds, IsAmong}
use Rattle.clap.specs.Faults.{is_simple_and_free}
use Rattle.clap.specs.Simple.{is_simple}
use Rattle.command_line.specs.Options.{Word, is_stray, options_of}
use Rattle.command_line.specs.Clap.{app_for}
use Rattle.command_line.proofs.Finishing.{clap_reads, simple_is, free_is}
use Rattle.command_line.proofs.Reading.{holds_some, holds_none}
use Rattle.command_line.proofs.options.read_options.Goals as goal

pub returns-in-Ok : goal.returns-in-Ok
returns-in-Ok c = λ name known is.
    let words : List Word = map string_bytes c.args.words.now in
    let sound : list_any is_stray words ≡ false = sym c.if-has_stray_word.ensures in
    let simple : is_simple (app_of c.args.command) ≡ true
    = ap is_simple is.is ∙ simple_is name known in
    let free : is_simple_and_free (app_of c.args.command) ≡ true
    = ap is_simple_and_free is.is ∙ free_is name known in
    let none : fault_of (app_for name known) words ≡ []
    = ap (λ (a : App). fault_of a words) (sym is.is) ∙ c.in-Ok.ensures.kinds free in
    let rows = (c.in-Ok.ensures.matches simple).0 ∙ ap (λ (a : App). matches_of a words) is.is in
    holds_some known (options_of known words) (fault_of (app_for name known) words)
    (matches_of (app_for name known) words) c.in-Ok.matches
    (clap_reads name known words sound) none rows

pub returns : goal.returns
returns c = λ name known is.
    let words : List Word = map string_bytes c.args.words.now in
    let sound : list_any is_stray words ≡ false = sym c.if-has_stray_word.ensures in
    let free : is_simple_and_free (app_of c.args.command) ≡ true
    = ap is_simple_and_free is.is ∙ free_is name known in
    holds_none known (options_of known words) (fault_of (app_for name known) words)
    (matches_of (app_for name known) words) (clap_reads name known words sound)
    (λ none. elim (c.in-Err.ensures.kinds free) [
      | inl memory ↦ c.in_default.not-OutOfMemory (c.kind.ensures ∙ memory)
      | inr among ↦ subst (λ (ks : Kinds). IsAmong (kind_of c.in-Err.error) ks)
          (ap (λ (a : App). fault_of a words) is.is ∙ none) among
    ])
