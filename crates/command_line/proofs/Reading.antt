-- From what a parse answers to the settings.
use Rattle.std.specs.Prelude.{IfOk}
use Rattle.std.proofs.Common.{◌≡◌, ap₂, cond, List, [], Option, Some, None, Result, arith}
use Rattle.clap.specs.Words.{first_value, found_of}
use Rattle.clap.specs.Kinds.{Kinds}
use Rattle.clap.specs.Walk.{Row, rows_of}
use Rattle.clap.specs.declared.parser.matches.ArgMatches.{ArgMatches}
use Rattle.clap.proofs.WalkLemmas.{first_value-rows}
use Rattle.command_line.specs.Options.{Word, Known, Written, Reading, flag_named, value_of}
use Rattle.command_line.specs.Options.{option_value, options_of, settings_by}
use Rattle.command_line.specs.Clap.{Holds, flags_in}
use Rattle.command_line.proofs.Finishing.{Comes, Found, first_is}

same_value : (known : List Known) (seen : Written) (name : Word) (text : Option Word)
    → Found known seen name text
    → cond (flag_named name known) None text ≡ cond (flag_named name known) None
    (value_of name seen)
same_value known seen name text found = grind arith

-- a parse that succeeded
pub holds_some : (known : List Known) (o : Option Written) (kinds : Kinds) (rows : List Row)
    (m : ArgMatches) → Comes known o kinds rows → kinds ≡ [] → rows_of (found_of m) ≡ rows
    → Holds known o (Some m)
holds_some known None kinds rows m comes none is = absurd (comes none)
holds_some known (Some seen) kinds rows m comes none is =
    let found : (name : Word) → Found known seen name (first_value (found_of m) name) =
    λ name.
    let all = comes.1 name in
    grind (arith, first_value-rows, first_is)
    in
    grind (arith, same_value)

-- one that did not
pub holds_none : (known : List Known) (o : Option Written) (kinds : Kinds) (rows : List Row)
    → Comes known o kinds rows → (kinds ≡ [] → ⊥) → Holds known o None
holds_none known o kinds rows comes some = grind arith

-- the same of settings that a function made of the matches, or wanted memory for
pub settles_as : {S E : Type 0} (known : List Known) (reading : Reading S) (words : List Word)
    (m : ArgMatches) (o : Option ArgMatches) (result : Result (Option S) E)
    → Holds known (options_of known words) o → o ≡ Some m
    → IfOk result (λ s. s ≡ reading (option_value known (first_value (found_of m))) (flags_in m))
    → IfOk result (λ s. s ≡ settings_by known reading words)
settles_as known reading words m o result h is made = grind (arith, ap₂)

pub settles_none : {S : Type 0} (known : List Known) (reading : Reading S) (words : List Word)
    (o : Option ArgMatches) → Holds known (options_of known words) o → o ≡ None
    → None ≡ settings_by known reading words
settles_none known reading words o h is = grind arith
