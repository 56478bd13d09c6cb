use Rattle.bl_rules_laws.proofs.OnTraces.Peeled.{accepted_keep}
use Rattle.bl_rules_laws.proofs.traces.accepted_trees_keep.Goals as goal

pub returns : goal.returns
returns c =
    accepted_keep (record {
      keeps = c.what_is_typed_keeps.ensures.keeps;
      shallow = c.what_is_typed_keeps.ensures.shallow;
      in_order = c.statements_begin_in_order.ensures;
      peel = c.units_are_peeled.ensures;
      typed = c.peeled_units_stay_typed.ensures;
      unit_rules = c.peeled_units_pass_the_rules.ensures.units;
      graph_rules = c.peeled_units_pass_the_rules.ensures.graphs;
      ordered = c.accepted_programs_are_ordered.ensures;
    })
