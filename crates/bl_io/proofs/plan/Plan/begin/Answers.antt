use Rattle.std.proofs.Common.{sym, ◌∙◌, ap}
use Rattle.std.specs.BTreeSet.{contains}
use Rattle.std.specs.Ordering.{nat_cmp}
use Rattle.bl_io.proofs.Planned.{contains-keys}
use Rattle.bl_io.proofs.plan.Plan.begin.Goals as goal

pub returns-clause-answer : goal.returns-clause-answer
returns-clause-answer c =
    rw (← c.self.view_is)
    (c.contains.ensures
    ∙ ap (λ n. contains nat_cmp c.self.inside.failing n) c.saturating_add-self-inside.ensures
    ∙ sym (contains-keys c.self.inside.failing _))
