use Rattle.bl_rules_laws.proofs.OnDeclared.{peeled_declare, trees_declare}
use Rattle.bl_rules_laws.proofs.declared.accepted_trees_declare.Goals as goal

pub returns-clause-units : goal.returns-clause-units
returns-clause-units c = trees_declare c.typed_texts_declare.ensures

pub returns-clause-peeled : goal.returns-clause-peeled
returns-clause-peeled c =
    peeled_declare (trees_declare c.typed_texts_declare.ensures) c.units_are_peeled.ensures c.prevs_of_peeled_units_are_declared.ensures.units
