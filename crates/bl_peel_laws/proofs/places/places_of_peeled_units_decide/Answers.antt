use Rattle.bl_peel_laws.proofs.Deciding.{peeled_places_decide, peeled_runs_decide}
use Rattle.bl_peel_laws.proofs.places.places_of_peeled_units_decide.Goals as goal

pub returns-clause-effects : goal.returns-clause-effects
returns-clause-effects c = peeled_places_decide

pub returns-clause-runs : goal.returns-clause-runs
returns-clause-runs c = peeled_runs_decide
