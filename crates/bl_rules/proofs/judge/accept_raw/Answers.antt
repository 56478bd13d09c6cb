-- The first rule that fails of the tree, judge by judge.
use Rattle.bl_rules.proofs.Causes.{program_cause, program_passes, typing_cause}
use Rattle.bl_rules.proofs.judge.accept_raw.Goals as goal

pub returns-in-Err-clause-cause : goal.returns-in-Err-clause-cause
returns-in-Err-clause-cause c = typing_cause c.args.tree.now.raw c.in-Err.refusal c.in-Err.ensures.cause

pub accept_program-requires : goal.accept_program-requires
accept_program-requires c =
    let program = c.in-Ok.program in
    record {
      of_tree = λ passes. record {
        raw = c.args.tree.now.raw;
        well_formed = c.args.tree.now.well_formed;
        passes = program_passes c.args.tree.now.raw program c.in-Ok.ensures.typed c.in-Ok.ensures.names c.in-Ok.ensures.types passes;
        is = c.in-Ok.ensures.typed;
      };
      typed = c.peeled_units_stay_typed.ensures program.structs program.units program.entry program.well_typed c.in-Ok.ensures.shallow c.in-Ok.ensures.ordered;
    }

pub returns-in-Ok-accept_program-clause-passes : goal.returns-in-Ok-accept_program-clause-passes
returns-in-Ok-accept_program-clause-passes c =
    program_passes c.args.tree.now.raw c.in-Ok.program c.in-Ok.ensures.typed c.in-Ok.ensures.names c.in-Ok.ensures.types
    c.in-Ok-accept_program.ensures.passes

pub returns-in-Err-accept_program-clause-cause : goal.returns-in-Err-accept_program-clause-cause
returns-in-Err-accept_program-clause-cause c =
    program_cause c.args.tree.now.raw c.in-Ok.program c.in-Ok.ensures.typed c.in-Err-accept_program.refusal c.in-Ok.ensures.names c.in-Ok.ensures.types
    c.in-Err-accept_program.ensures.cause
