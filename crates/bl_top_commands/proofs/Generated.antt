-- How `gen` ends.
use Rattle.std.proofs.Common.{◌≡◌, ◌≢◌, ◌∙◌, ℕ, ◌<◌, ◌≤◌, ℤ, List, [], ap, inl, inr, refl, subst, sym}
use Rattle.bl_top_commands.specs.Calls.{Call}
use Rattle.bl_top_commands.specs.Gen.{GenEnds, IsNotRun, last_status, ran, refused as is_refused, short, stopped, too_large}
use Rattle.bl_top_commands.specs.inner.Outcomes.{IsRefusedBy, IsTold, line_in}
use Rattle.bl_top_commands.specs.Notes.{WritesLines, line_of, too_large_line}
use Rattle.bl_top_commands.specs.declared.outcome.Outcome.{Outcome}
use Rattle.bl_top_commands.specs.declared.status.Status.{Status}
use Rattle.bl_top_commands.specs.declared.status.Status.TheVariants as status
use Rattle.bl_gen.specs.Outputs.{line_text, report_text}
use Rattle.bl_gen.specs.Text.{most_stages, program_text}
use Rattle.bl_gen_run.specs.Runs.{IsGeneratedRun, run_text}
use Rattle.bl_io.specs.Left.{IsKept}
use Rattle.bl_rules.specs.Rules.{Fails}
use Rattle.bl_tree.specs.declared.row.Last.{Last}
use Rattle.bl_tree.specs.declared.row.Last.TheVariants as last
use Rattle.bl_tree.specs.declared.rule.Refusal.{Refusal}
use Rattle.bl_tree.specs.declared.rule.Refusal.TheVariants as refusal
use Rattle.bl_tree.specs.Rules.{IsCause}

-- what is told of a run isn't empty
some_told : (stages : ℕ) (rows : List (List ℤ)) (how : Last) → run_text stages rows how ≢ []
unfolding report_text line_text
some_told stages rows last.Open none = cc
some_told stages rows last.Ended none = cc
some_told stages rows last.Trap none = cc

pub run_is_told : (stages : ℕ) (text : List ℕ) (how : Last) → IsGeneratedRun stages text how → text ≢ []
run_is_told stages text how run none = some_told stages run.trace.rows run.trace.last (sym run.text_is ∙ none)

-- ---- where nothing was run

pub not_run_large : (stages number told : ℕ) (outcome : Outcome) → (most_stages < stages) × (number ≡ stages) → told ≡ number →
    IsTold status.TooLarge (too_large_line told) outcome → IsNotRun stages outcome.status (line_in outcome)
not_run_large stages number told outcome why same is = elim is [
  | inl as_told ↦ rw as_told.0
      (subst (λ l. IsNotRun stages status.TooLarge l) (sym (as_told.1 ∙ ap too_large_line (same ∙ why.1))) (too_large why.0))
  | inr none ↦ rw none short
]

pub not_run_refused : (stages : ℕ) (told : Refusal) (outcome : Outcome) → (stages ≤ most_stages) × IsCause (Fails (program_text stages)) told →
    IsRefusedBy told outcome → IsNotRun stages outcome.status (line_in outcome)
not_run_refused stages (refusal.Rule rule place also) outcome why by = elim by [
  | inl as_told ↦ rw as_told.0 (is_refused why.0 (record {
    text = program_text stages;
    of_source = refl;
    rule = rule;
    place = place;
    also = also;
    first = why.1;
    told = as_told.1;
  }))
  | inr none ↦ rw none short
]
not_run_refused stages refusal.NoMemory outcome why none = rw none short

-- ---- the end of the command

pub gen_ran : (c : Call) (stages : ℕ) (text : List ℕ) (how : Last) (ended : Status) (line : List ℕ) → IsGeneratedRun stages text how →
    WritesLines c.out text (last_status how) ended → line ≡ line_of ended → GenEnds c stages ended line
gen_ran c stages text how ended line run written told = rw told (ran text how run written)

pub gen_stopped : (c : Call) (stages : ℕ) (ended : Status) (line : List ℕ) → IsNotRun stages ended line → IsKept c.out.before c.out.after →
    GenEnds c stages ended line
gen_stopped c stages ended line why kept = stopped why kept
