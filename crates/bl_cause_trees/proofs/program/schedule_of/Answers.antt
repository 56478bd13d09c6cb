use Rattle.std.proofs.Common.{refl, subst, sym}
use Rattle.bl_cause.specs.Activities.{AreGraphs}
use Rattle.bl_cause_trees.specs.inner.Judging.{with_bodies}
use Rattle.bl_cause_trees.specs.Peeled.{ArePeeled}
use Rattle.bl_cause_trees.proofs.KeptUnits.{few_bodies, peeled_by}
use Rattle.bl_cause_trees.proofs.program.schedule_of.Goals as goal

pub peeled_program-requires-clause-few : goal.peeled_program-requires-clause-few
peeled_program-requires-clause-few c = few_bodies c.args.program.now.units c.args.kept.bodies c.requires.kept.each_peeled

pub peeled_program-requires-clause-typed : goal.peeled_program-requires-clause-typed
peeled_program-requires-clause-typed c =
    c.requires.typed (with_bodies c.args.program.now.units c.args.kept.bodies)
    (peeled_by c.args.program.now.units c.args.kept.bodies c.requires.kept.each_peeled)

pub returns-in_ok-peeled-clause-peeled : goal.returns-in_ok-peeled-clause-peeled
returns-in_ok-peeled-clause-peeled c = record {
  structs = c.in_ok-peeled.ensures.structs;
  units = subst (ArePeeled c.args.program.now.units) (sym c.in_ok-peeled.ensures.units)
      (peeled_by c.args.program.now.units c.args.kept.bodies c.requires.kept.each_peeled);
  entry = c.in_ok-peeled.ensures.entry;
}

pub returns-in_ok-peeled-clause-schedule : goal.returns-in_ok-peeled-clause-schedule
returns-in_ok-peeled-clause-schedule c = record {
  each_graph = subst (λ it. AreGraphs it c.args.kept.graphs) (sym c.in_ok-peeled.ensures.units) c.requires.kept.each_graph;
  each_order = c.requires.kept.each_order;
}

pub returns-else-peels-clause-peeled : goal.returns-else-peels-clause-peeled
returns-else-peels-clause-peeled c = record {
  structs = refl;
  units = subst (ArePeeled c.args.program.now.units) (c.requires.kept.own c.if-peels.false)
      (peeled_by c.args.program.now.units c.args.kept.bodies c.requires.kept.each_peeled);
  entry = refl;
}

pub returns-else-peels-clause-schedule : goal.returns-else-peels-clause-schedule
returns-else-peels-clause-schedule c = record {
  each_graph = subst (λ it. AreGraphs it c.args.kept.graphs) (c.requires.kept.own c.if-peels.false) c.requires.kept.each_graph;
  each_order = c.requires.kept.each_order;
}
