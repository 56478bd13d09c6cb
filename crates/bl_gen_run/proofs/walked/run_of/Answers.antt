-- The program has one trace, and this is it.
use Rattle.std.proofs.Common.{◌≡◌, ◌≤◌, ◌∙◌, ℕ, List, refl, subst, sym}
use Rattle.bl_ctree.specs.Means.{Means, shown_trace}
use Rattle.bl_gen.specs.Outputs.{input_rows}
use Rattle.bl_gen.specs.Text.{most_stages, program_text}
use Rattle.bl_gen_run.specs.Runs.{HasTrace, IsGeneratedRun, run_text}
use Rattle.bl_rules.specs.Accepted.{HasProgram}
use Rattle.bl_rules_laws.specs.Traces.OneTrace.{SourceHasOneTrace}
use Rattle.bl_tree.specs.declared.program.Program.{Program}
use Rattle.bl_tree.specs.declared.row.Last.{Last}
use Rattle.bl_tree.specs.declared.row.Trace.{Trace}
use Rattle.bl_tree.specs.declared.tree.Unit.{Unit as UnitDef}
use Rattle.bl_gen_run.proofs.walked.run_of.Goals as goal

-- a trace that the meaning allows is the one
the_trace : (stages : ℕ) (program : Program) (peeled : List UnitDef) (trace : Trace) → HasProgram (program_text stages) program →
    SourceHasOneTrace program.structs program.units program.entry peeled → Means program.structs program.units program.entry input_rows (shown_trace trace) →
    HasTrace stages trace
the_trace stages program peeled trace has one means =
    let only = (one.each input_rows).only in record {
      program = program;
      has = has;
      one = λ shows. (
        λ allowed. only shows allowed ∙ sym (only (shown_trace trace) means),
        λ same. subst (λ s. Means program.structs program.units program.entry input_rows s) (sym same) means,
      );
    }

is_run : (stages : ℕ) (trace : Trace) (text : List ℕ) (last : Last) → stages ≤ most_stages → HasTrace stages trace →
    text ≡ run_text stages trace.rows trace.last → last ≡ trace.last → IsGeneratedRun stages text last
is_run stages trace text last within has text_is last_is =
    record { within = within; trace = trace; has = has; text_is = text_is; last_is = last_is }

pub returns : goal.returns
returns c =
    is_run c.args.stages c.in_ok-trace.trace _ _ c.requires.within
    (the_trace c.args.stages c.args.accepted.now.program c.args.accepted.now.peeled.program.units c.in_ok-trace.trace c.requires.program
    (c.accepted_trees_have_one_trace.ensures c.args.accepted.now.program c.args.accepted.now.peeled.program.units
    c.is_accepted.ensures.of_tree c.is_accepted.ensures.is_peeled.units)
    c.in_ok-trace.ensures)
    c.in_ok-text.ensures refl
