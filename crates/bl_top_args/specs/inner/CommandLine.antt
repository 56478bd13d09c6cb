-- The command line as the parser of words is told of it.
use Rattle.std.specs.Prelude.{true, Option, Some, None, if◌then◌else◌, codes, option_and_then, option_map}
use Rattle.std.specs.Prelude.{List}
use Rattle.std.specs.Str.{bytes_eq}
use Rattle.clap.specs.Words.{App, Row, Rule, Shape, Text, first_of, new_app, new_rule}
use Rattle.clap.specs.Words.{with_rule, with_subcommand}
use Rattle.clap.specs.Simple.{on_top}
use Rattle.bl_top_args.specs.Jobs.{JobSpec, bound, build, check, count, exec, resumed, run, save, save_from, seeded, staged}

-- a value that has to be there, read back by this name
abbrev pub required_value : Text → Rule
required_value id = record (new_rule id) { required = true }

-- the command of this name with one value
abbrev pub one_command : Text → App
one_command name = with_rule (new_app name) (required_value (codes "first"))

-- the command of this name with two values
abbrev pub two_command : Text → App
two_command name = with_rule (one_command name) (required_value (codes "second"))

-- the command of this name with three values
abbrev pub three_command : Text → App
three_command name = with_rule (two_command name) (required_value (codes "third"))

-- the command of this name with two values, and a third that may be left out
abbrev pub two_or_three_command : Text → App
two_or_three_command name = with_rule (two_command name) (new_rule (codes "third"))

-- a command that has to be named, and no help and no version
abbrev pub with_own_words_only : Shape → Shape
with_own_words_only s = record s {
  no_binary_name = true;
  disable_help_flag = true;
  disable_help_subcommand = true;
  disable_version_flag = true;
  subcommand_required = true;
}

-- the program with all its commands
abbrev pub command_line : App
command_line = with_subcommand (with_subcommand (with_subcommand (with_subcommand (with_subcommand (with_subcommand
    (with_subcommand (with_subcommand (with_subcommand (with_subcommand
    (on_top with_own_words_only (new_app (codes "blechc")))
    (one_command (codes "check")).top)
    (one_command (codes "build")).top)
    (two_command (codes "run")).top)
    (three_command (codes "walk")).top)
    (two_command (codes "exec")).top)
    (one_command (codes "gen")).top)
    (one_command (codes "bound")).top)
    (two_command (codes "count")).top)
    (two_or_three_command (codes "save")).top)
    (three_command (codes "resume")).top

-- the job of one value that was read
abbrev pub one_read : (Text → JobSpec) → Option Text → Option JobSpec
one_read job first = option_map job first

-- the job of one value that was read, where it asks for one
abbrev pub one_if_read : (Text → Option JobSpec) → Option Text → Option JobSpec
one_if_read job first = option_and_then job first

-- the job of two values that were read
abbrev pub two_read : (Text → Text → JobSpec) → Option Text → Option Text → Option JobSpec
two_read job first second = option_and_then (λ word. option_map (job word) second) first

-- the job of three values that were read, where they ask for one
abbrev pub three_read : (Text → Text → Text → Option JobSpec) → Option Text → Option Text → Option Text → Option JobSpec
three_read job first second third = option_and_then (λ a. option_and_then (λ b. option_and_then (job a b) third) second) first

-- the job of two values that were read, or the other one where a third was
abbrev pub two_or_three_read : (Text → Text → JobSpec) → (Text → Text → Text → JobSpec) → Option Text → Option Text → Option Text →
    Option JobSpec
two_or_three_read job further first second None = two_read job first second
two_or_three_read job further first second (Some third) = two_read (λ a b. further a b third) first second

-- the job of the command of this name, by the values that were read for it
abbrev pub named_read : Text → Option Text → Option Text → Option Text → Option JobSpec
named_read name first second third = if bytes_eq (codes "check") name then one_read check first
    else (if bytes_eq (codes "build") name then one_read build first
    else (if bytes_eq (codes "run") name then two_read run first second
    else (if bytes_eq (codes "walk") name then three_read seeded first second third
    else (if bytes_eq (codes "exec") name then two_read exec first second
    else (if bytes_eq (codes "gen") name then one_if_read staged first
    else (if bytes_eq (codes "bound") name then one_read bound first
    else (if bytes_eq (codes "count") name then two_read count first second
    else (if bytes_eq (codes "save") name then two_or_three_read save save_from first second third
    else (if bytes_eq (codes "resume") name then three_read resumed first second third else None)))))))))

-- the job of the command that was read
abbrev pub job_read : Option (Text × List Row) → Option JobSpec
job_read None = None
job_read (Some command) = named_read command.0 (first_of (codes "first") command.1)
    (first_of (codes "second") command.1) (first_of (codes "third") command.1)
