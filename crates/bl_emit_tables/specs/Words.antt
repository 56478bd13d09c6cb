-- The words in the C names of flags and marks, where nodes are told by their numbers.
use Rattle.std.specs.Prelude.{ℕ, List, [], ◌∷◌, ◌++◌, codes, nat_eq, slice_get, unwrap_or, if◌then◌else◌}
use Rattle.bl_tree.specs.declared.text.Text.{Text}
use Rattle.bl_tree.specs.Typing.{TypingContext}
use Rattle.bl_machine_transitions.specs.declared.transition.Silent.{Silent}
use Rattle.bl_machine_transitions.specs.declared.transition.Silent.TheVariants as silent
use Rattle.bl_machine_transitions.specs.Told.{Acts, Enters, Nothing, NumberedTransition, Resumes, Task, Tests}
use Rattle.bl_emit_spec.specs.Blocks.{name_in}
use Rattle.bl_emit_spec.specs.Words.{act_word}

-- the word of a silent node
abbrev pub silent_word : Silent → Text
silent_word silent.Pause = codes "await"
silent_word silent.Head = codes "repeat"
silent_word silent.Start = codes "when"
silent_word silent.End = codes "end"
silent_word silent.Fork = codes "cobegin"
silent_word silent.Join = codes "join"

-- the word of a node, by what is done there
abbrev pub task_word : TypingContext → Task → Text
task_word site (Nothing kind) = silent_word kind
task_word site (Acts s) = act_word site s
task_word site (Tests e) = codes "test"
task_word site (Enters at a arguments) = codes "run_" ++ name_in (slice_get site.earlier a)
task_word site (Resumes at a arguments) = codes "resume_" ++ name_in (slice_get site.earlier a)

-- the word of the first of some rules that has the number; empty where there is none
abbrev pub word_told : TypingContext → List NumberedTransition → ℕ → Text
word_told site [] k = []
word_told site (rule ∷ rest) k = if nat_eq rule.number k then task_word site rule.task else word_told site rest k

-- the word that a table has for the number; empty where it has none
abbrev pub kept_word : List Text → ℕ → Text
kept_word words k = unwrap_or (slice_get words k) []
