use Rattle.bl_peel_laws.proofs.Failures.{failures_are_of_sources, peeled_units_pass}
use Rattle.bl_peel_laws.proofs.rules.peeled_units_keep_the_rules.Goals as goal

pub returns-clause-failures : goal.returns-clause-failures
returns-clause-failures c = failures_are_of_sources

pub returns-clause-passes : goal.returns-clause-passes
returns-clause-passes c = peeled_units_pass
