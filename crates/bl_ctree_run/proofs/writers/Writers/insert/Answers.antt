use Rattle.std.proofs.Common.{ap, cond, Some, ◌∙◌}
use Rattle.std.specs.BTreeMap.{is_at}
use Rattle.std.specs.Map.{lookup}
use Rattle.bl_ctree_run.specs.inner.Writers.{key_cmp}
use Rattle.bl_ctree_run.proofs.writers.Writers.insert.Goals as goal

pub returns-in-Ok : goal.returns-in-Ok
returns-in-Ok c q =
    c.in-Ok.ensures.updates.0 q ∙ ap (λ entries. cond (is_at (key_cmp c.args.key) q) (Some c.args.writes)
    (lookup (is_at (key_cmp q)) entries)) c.self.view_is
