use Rattle.bl_rules.proofs.Peeled.{peeled_typed}
use Rattle.bl_rules.proofs.laws.peeled_units_stay_typed.Goals as goal

pub returns : goal.returns
returns c =
    peeled_typed c.units_are_peeled.ensures c.places_of_peeled_units_decide.ensures.effects c.places_of_peeled_units_decide.ensures.runs
    c.peeled_programs_keep_typing.ensures.whole
