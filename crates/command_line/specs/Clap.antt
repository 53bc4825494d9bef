-- A command of `clap` that has only options, and what its matches say.
use Rattle.std.specs.Prelude.{◌≡◌, List, [], ◌∷◌, ◌++◌, map, true, Bool, IfOk, Result}
use Rattle.std.specs.declared.option.Option.{Option}
use Rattle.std.specs.declared.option.Option.TheVariants.{None, Some}
use Rattle.std.specs.declared.alloc.AllocError.{AllocError}
use Rattle.clap.specs.Words.{App, Rule, app_of, first_value, found_of, new_rule}
use Rattle.clap.specs.Simple.{new_shape}
use Rattle.clap.specs.declared.builder.action.ArgAction.TheVariants.{Set, SetTrue}
use Rattle.clap.specs.declared.builder.action.ArgAction.{ArgAction}
use Rattle.clap.specs.declared.builder.command.Command.{Command}
use Rattle.clap.specs.declared.parser.matches.ArgMatches.{ArgMatches}
use Rattle.command_line.specs.Options.{Word, Known, Written, flag, is_required, is_true, name_of}
use Rattle.command_line.specs.Options.{option_value, value_of, valued}

abbrev pub action_for : Known → ArgAction
action_for (valued name required) = Set
action_for (flag name) = SetTrue

abbrev pub raw_rule : Known → Rule
raw_rule k = record (new_rule (name_of k)) {
  long = Some (name_of k);
  action = Some (action_for k);
  required = is_required k;
}

-- the command with these options, its words without the program's name, and no `--help`
abbrev pub app_for : Word → List Known → App
app_for name known = record {
  top = record (new_shape name) {
    rules = map raw_rule known;
    no_binary_name = true;
    disable_help_flag = true;
  };
  subs = [];
}

pub record HasOptions (name : Word) (known : List Known) (command : Command) : Type 0 where
  pub is : app_of command ≡ app_for name known

-- options are added last, in this order
abbrev pub AddsAll : List Known → Command → Result Command AllocError → Type 0
AddsAll more old result =
    (name : Word) → (known : List Known) → HasOptions name known old
    → IfOk result (HasOptions name (known ++ more))

abbrev pub Adds : Known → Command → Result Command AllocError → Type 0
Adds k old result = AddsAll (k ∷ []) old result

-- whether a flag is among the matches as written
abbrev pub flags_in : ArgMatches → Word → Bool
flags_in m name = is_true (first_value (found_of m) name)

-- the matches have the values and flags that were written
pub record Agrees (known : List Known) (seen : Written) (m : ArgMatches) : Type 0 where
  pub values : option_value known (first_value (found_of m))
      ≡ option_value known (λ n. value_of n seen)
  pub flags : flags_in m ≡ (λ n. is_true (value_of n seen))

-- there are matches exactly where the words are in the definition, and they agree with it
abbrev pub Holds : List Known → Option Written → Option ArgMatches → Type 0
Holds known None None = Unit {0}
Holds known (Some seen) (Some m) = Agrees known seen m
Holds known _ _ = ⊥
