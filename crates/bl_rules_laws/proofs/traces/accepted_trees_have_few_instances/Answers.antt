use Rattle.bl_rules_laws.proofs.OnTraces.Instances.{trees_have_few_instances}
use Rattle.bl_rules_laws.proofs.traces.accepted_trees_have_few_instances.Goals as goal

pub returns : goal.returns
returns c =
    trees_have_few_instances c.accepted_trees_keep.ensures c.units_use_earlier_ones.ensures c.instances_are_counted.ensures
    c.peeled_programs_are_alike.ensures c.units_are_peeled_in_one_way.ensures.there
