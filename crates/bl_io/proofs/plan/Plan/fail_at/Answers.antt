use Rattle.bl_io.proofs.Planned.{from_list-update}
use Rattle.bl_io.proofs.plan.Plan.fail_at.Goals as goal

pub returns-clause-ok : goal.returns-clause-ok
returns-clause-ok c =
    rw (← c.self.view_is, from_list-update c.self.inside.failing c.insert.new.self c.args.call (rw c.from.ensures at c.in_ok-insert.ensures.updates))
