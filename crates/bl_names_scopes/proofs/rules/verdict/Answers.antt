use Rattle.std.proofs.Common.{sym, ◌∙◌}
use Rattle.bl_names_scopes.specs.Marks.{marks_of}
use Rattle.bl_names_scopes.specs.Scopes.{opened_by}
use Rattle.bl_names_scopes.proofs.CauseLemmas.{has_cause, passes}
use Rattle.bl_names_scopes.proofs.rules.verdict.Goals as goal

pub returns-in-None-clause-passes : goal.returns-in-None-clause-passes
returns-in-None-clause-passes c = passes (opened_by c.args.headings.now) (marks_of c.args.raw.now.items) (sym c.in-None.is ∙ c.requires)

pub returns-in-Some-clause-cause : goal.returns-in-Some-clause-cause
returns-in-Some-clause-cause c =
    has_cause (opened_by c.args.headings.now) (marks_of c.args.raw.now.items) c.in-Some.first c.refusal.result (sym c.in-Some.is ∙ c.requires) c.refusal.ensures
