use Rattle.std.proofs.Common.{None, ap, cond, ◌∙◌}
use Rattle.std.specs.BTreeMap.{is_at}
use Rattle.std.specs.Map.{lookup}
use Rattle.bl_ctree_run.specs.inner.Writers.{key_cmp}
use Rattle.bl_ctree_run.proofs.writers.Writers.take.Goals as goal

pub returns-clause-others : goal.returns-clause-others
returns-clause-others c q =
    c.remove.ensures.updates.0 q ∙ ap (λ entries. cond (is_at (key_cmp c.args.key) q) None (lookup (is_at (key_cmp q)) entries)) c.self.view_is
