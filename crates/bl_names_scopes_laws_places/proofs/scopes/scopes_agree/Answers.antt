use Rattle.bl_names_scopes_laws_places.proofs.Agreeing.{agreement_stays}
use Rattle.bl_names_scopes_laws_places.proofs.Failing.{failures_agree, passing_agrees}
use Rattle.bl_names_scopes_laws_places.proofs.scopes.scopes_agree.Goals as goal

pub returns-clause-stays : goal.returns-clause-stays
returns-clause-stays c = agreement_stays

pub returns-clause-failures : goal.returns-clause-failures
returns-clause-failures c = failures_agree

pub returns-clause-passing : goal.returns-clause-passing
returns-clause-passing c = passing_agrees
