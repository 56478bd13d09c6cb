-- The program's command line, and what every command's reading stands on.
use Rattle.std.proofs.Common.{◌≡◌, ◌∙◌, ◌==◌, ◌⊎◌, ap, inl, inr, false, true, ℕ, sym, List, [], ◌∷◌, Option, Some, None, codes, find, true≢false}
use Rattle.std.specs.List.{list_all}
use Rattle.std.specs.Str.{bytes_eq}
use Rattle.clap.specs.Faults.{fault_of, level_fault}
use Rattle.clap.specs.Simple.{App, Shape, built, built_leaf, inherited, label_of, names_of, rows_at, subcommand_of}
use Rattle.clap.specs.Walk.{Names, Text, answers_to, nothing_held}
use Rattle.clap.specs.declared.error.kind.ErrorKind.TheVariants.{InvalidSubcommand, UnknownArgument}
use Rattle.clap.proofs.SimpleLemmas.{is_false}
use Rattle.clap.proofs.WalkLemmas.{both}
use Rattle.bl_top_args.specs.inner.CommandLine.{command_line, job_read}
use Rattle.bl_top_args.specs.Jobs.{JobSpec, is_plain_word}
use Rattle.bl_top_args.proofs.Walks.{fault_below, rows_below, unknown_refused}

-- the command line as the parser builds it, and the names of its commands
abbrev pub program : App
program = built command_line

abbrev pub commands : Names
commands = names_of program

-- one of its commands, as the parser builds it
abbrev pub built_command : App → Shape
built_command command = built_leaf (inherited program.top command.top)

-- the parse takes the words and gives the job, or refuses them and there is none
abbrev pub ReadsAs : Option JobSpec → List Text → Type 0
ReadsAs job words =
    ((fault_of command_line words ≡ []) × (job_read (subcommand_of command_line words) ≡ job))
    ⊎ ((fault_of command_line words ≡ [] → ⊥) × (job ≡ None))

pub no_hyphen : (byte : ℕ) (rest : Text) (words : List Text) → list_all is_plain_word ((byte ∷ rest) ∷ words) ≡ true → (byte == 45) ≡ false
no_hyphen byte rest words plain = is_false (byte == 45) (both (is_plain_word (byte ∷ rest)) (list_all is_plain_word words) plain).0

pub others_plain : (word : Text) (words : List Text) → list_all is_plain_word (word ∷ words) ≡ true → list_all is_plain_word words ≡ true
others_plain word words plain = (both (is_plain_word word) (list_all is_plain_word words) plain).1

-- words whose first names no command are refused
pub name_refused : (name : Text) (values : List Text) → list_all is_plain_word (name ∷ values) ≡ true → find (answers_to name) commands ≡ None
    → fault_of command_line (name ∷ values) ≡ [] → ⊥
name_refused [] values plain unnamed none = true≢false (sym plain)
name_refused (byte ∷ rest) values plain unnamed none =
    let refused = unknown_refused program.top program.subs byte rest values (no_hyphen byte rest values plain) unnamed in
    let bad : UnknownArgument ∷ InvalidSubcommand ∷ [] ≡ [] = sym refused ∙ none in
    cc

-- one of the commands takes the values and gives the job, or refuses them and there is none
abbrev pub TakesAs : Shape → Option JobSpec → List Text → Type 0
TakesAs command job values = ((level_fault command [] nothing_held values false [] ≡ []) × (job_read (Some (rows_at command values)) ≡ job))
    ⊎ ((level_fault command [] nothing_held values false [] ≡ [] → ⊥) × (job ≡ None))

-- words whose first names that command are read as it takes the others
module _ (name : Text) (command : Shape) (named : find (answers_to name) commands ≡ Some (name, []))
    (is : find (λ c. answers_to name (label_of c)) program.subs ≡ Some command)
    (own : bytes_eq name (codes "help") ≡ false) where
  pub command_faults : (values : List Text) → fault_of command_line (name ∷ values) ≡ level_fault command [] nothing_held values false []
  command_faults values = fault_below program.top program.subs name [] command values named is own

  pub command_rows : (values : List Text) → subcommand_of command_line (name ∷ values) ≡ Some (rows_at command values)
  command_rows values = rows_below program.top program.subs name [] command values named is

  pub takes_reads : (job : Option JobSpec) (values : List Text) → TakesAs command job values → ReadsAs job (name ∷ values)
  takes_reads job values (inl h) = inl (command_faults values ∙ h.0, ap job_read (command_rows values) ∙ h.1)
  takes_reads job values (inr h) = inr (λ none. h.0 (sym (command_faults values) ∙ none), h.1)
