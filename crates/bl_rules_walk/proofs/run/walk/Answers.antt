-- The program of an accepted source keeps what a walk asks for.
use Rattle.std.proofs.Common.{arith, sym, subst}
use Rattle.bl_ctree.specs.Measure.{steps}
use Rattle.bl_ctree.specs.Reaches.{Bounded}
use Rattle.bl_rules.specs.Accepted.{IsAcceptedSource, SeenSource}
use Rattle.bl_rules_laws.specs.Traces.OneTrace.{SourceHasOneTrace}
use Rattle.bl_rules_walk.proofs.run.walk.Goals as goal

-- the bound on ticks is that of the peeled program
bounded_by : (source : SeenSource) → IsAcceptedSource source →
    SourceHasOneTrace source.program.structs source.program.units source.program.entry source.peeled.program.units →
    Bounded (steps source.peeled.program.structs source.peeled.program.units source.peeled.program.entry) source.program.structs source.program.units
    source.program.entry
bounded_by source is one =
    let program = source.program in
    let peeled = source.peeled.program in
    subst (λ structs. Bounded (steps structs peeled.units peeled.entry) program.structs program.units program.entry) (sym is.is_peeled.structs)
    (subst (λ entry. Bounded (steps program.structs peeled.units entry) program.structs program.units program.entry) (sym is.is_peeled.entry) one.bounded)

pub walk_bounded-requires : goal.walk_bounded-requires
walk_bounded-requires c =
    let accepted = c.args.accepted.now in
    let is = c.is_accepted.ensures in
    let few = c.accepted_trees_have_few_instances.ensures accepted.program is.of_tree in
    let one = c.accepted_trees_have_one_trace.ensures accepted.program accepted.peeled.program.units is.of_tree is.is_peeled.units in
    (omega (arith, few), (bounded_by accepted is one, one.never_stuck))
