use Rattle.std.proofs.Common.{ap, cond, Some, ◌∙◌}
use Rattle.std.specs.BTreeMap.{is_at}
use Rattle.std.specs.Map.{lookup}
use Rattle.bl_machine_transitions.specs.Runs.{key_cmp}
use Rattle.bl_machine_transitions.proofs.numbers.RunNumbers.insert.Goals as goal

pub returns : goal.returns
returns c q =
    c.in_default.ensures.updates.0 q ∙ ap (λ entries. cond (is_at (key_cmp c.args.key) q) (Some c.args.number)
    (lookup (is_at (key_cmp q)) entries)) c.self.view_is
