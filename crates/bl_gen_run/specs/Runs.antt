-- Runs of the generated program.
use Rattle.std.specs.Prelude.{◌≡◌, ◌↔◌, ℕ, ◌<◌, ◌≤◌, ℤ, List, codes}
use Rattle.bl_ctree.specs.Means.{Means, ShownTrace, shown_trace}
use Rattle.bl_gen.specs.Outputs.{input_rows, report_text}
use Rattle.bl_gen.specs.Text.{most_stages, program_text}
use Rattle.bl_gen_run.specs.declared.unrun.Unrun.{Unrun}
use Rattle.bl_gen_run.specs.declared.unrun.Unrun.TheVariants.{TooLarge, Refused}
use Rattle.bl_rules.specs.Accepted.{HasProgram}
use Rattle.bl_rules.specs.Rules.{Fails}
use Rattle.bl_tree.specs.declared.program.Program.{Program}
use Rattle.bl_tree.specs.declared.row.Last.{Last}
use Rattle.bl_tree.specs.declared.row.Last.TheVariants.{Open, Ended, Trap}
use Rattle.bl_tree.specs.declared.row.Trace.{Trace}
use Rattle.bl_tree.specs.Rules.{IsCause}

-- no rule fails for the text of so many stages, and the semantics of its program allows only this trace over its rows
pub record HasTrace (stages : ℕ) (trace : Trace) : Type 0 where
  pub program : Program
  pub has : HasProgram (program_text stages) program
  pub one : (shows : ShownTrace) → Means program.structs program.units program.entry input_rows shows ↔ (shows ≡ shown_trace trace)

-- the text that is reported of a run, from its rows of outputs and its last state: four lines, unless it trapped
abbrev pub run_text : ℕ → List (List ℤ) → Last → List ℕ
run_text stages rows Open = report_text stages rows
run_text stages rows Ended = report_text stages rows
run_text stages rows Trap = codes "trap\n"

-- the text and the last state are those of the one trace of a program with so many stages, at most 2,000
pub record IsGeneratedRun (stages : ℕ) (text : List ℕ) (last : Last) : Type 0 where
  pub within : stages ≤ most_stages
  pub trace : Trace
  pub has : HasTrace stages trace
  pub text_is : text ≡ run_text stages trace.rows trace.last
  pub last_is : last ≡ trace.last

-- the reason why so many stages aren't run: there are more than 2,000, or else the first rule that fails for their text
abbrev pub IsUnrun : ℕ → Unrun → Type 0
IsUnrun stages (TooLarge number) = (most_stages < stages) × (number ≡ stages)
IsUnrun stages (Refused refusal) = (stages ≤ most_stages) × IsCause (Fails (program_text stages)) refusal
