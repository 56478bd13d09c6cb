-- Where each unit stays as it is there is one program.
use Rattle.std.proofs.Common.{subst, sym}
use Rattle.std.specs.Prelude.{Option, unwrap_or}
use Rattle.bl_cause_trees.specs.Peeled.{IsPeeled}
use Rattle.bl_rules.specs.Accepted.{IsOfTree}
use Rattle.bl_rules.specs.Rules.{ProgramPasses}
use Rattle.bl_tree.specs.declared.program.Program.{Program}
use Rattle.bl_rules.proofs.accepted.AcceptedSource.new.Goals as goal

pub invariant_of-result : goal.invariant_of-result
invariant_of-result c = record {
  of_tree = subst IsOfTree (sym c.new-in-None.ensures) c.requires.of_tree;
  passes = subst (λ (p : Program). ProgramPasses p.structs p.units p.entry) (sym c.new-in-None.ensures) c.requires.passes;
  is_peeled = subst (λ (p : Program). IsPeeled p p) (sym c.new-in-None.ensures)
      (subst (λ (t : Option Program). IsPeeled c.args.program (unwrap_or t c.args.program)) c.in-None.is c.requires.is_peeled);
}
