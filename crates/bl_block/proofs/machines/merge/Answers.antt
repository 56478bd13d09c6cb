use Rattle.std.proofs.Common.{sym, subst}
use Rattle.bl_machine.specs.Machines.{AreActivitiesOf}
use Rattle.bl_block.specs.Merged.{AreMergedFrom}
use Rattle.bl_block.proofs.Merging.{as_many, machine_merges}
use Rattle.bl_block.proofs.machines.merge.Goals as goal

pub all-requires : goal.all-requires
all-requires c =
    as_many c.args.machine.now.program c.args.accepted.now.program c.args.machine.now.activities c.activities.result.now
    c.args.accepted.now.graphs c.graphs.result.now c.requires c.is_machine.ensures c.is_accepted.ensures.schedule.each_graph
    c.activities.ensures c.graphs.ensures

pub new-requires : goal.new-requires
new-requires c =
    let both = machine_merges c.args.machine.now.program c.args.accepted.now.program c.args.machine.now.activities c.activities.result.now
    c.args.accepted.now.graphs c.graphs.result.now c.requires c.is_machine.ensures c.is_accepted.ensures.schedule.each_graph
    c.activities.ensures c.graphs.ensures c.in_ok-activities.activities c.in_ok-activities.ensures in
    subst (λ program. AreActivitiesOf program.units c.in_ok-activities.activities) (sym c.program.ensures) both.0

pub returns-clause-merged : goal.returns-clause-merged
returns-clause-merged c =
    let both = machine_merges c.args.machine.now.program c.args.accepted.now.program c.args.machine.now.activities c.activities.result.now
    c.args.accepted.now.graphs c.graphs.result.now c.requires c.is_machine.ensures c.is_accepted.ensures.schedule.each_graph
    c.activities.ensures c.graphs.ensures c.in_ok-activities.activities c.in_ok-activities.ensures in
    subst (AreMergedFrom c.args.machine.now.program.units c.args.machine.now.activities) (sym c.new.ensures.activities) both.1
