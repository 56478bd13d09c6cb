use Rattle.std.proofs.Common.{rules}
use Rattle.bl_simplify_steps.proofs.ForgetLemmas.{entry-added, entry-left}
use Rattle.bl_simplify_steps.proofs.forget.add_if_apart.Goals as goal

pub returns-in_ok-push : goal.returns-in_ok-push
returns-in_ok-push c =
    entry-added c.args.gone.now c.args.left.now c.push.new.self c.args.entry.now c.in_ok-copy_of_entry.field-0 (search rules) (search rules)
    (search rules)

pub returns-else-is_apart : goal.returns-else-is_apart
returns-else-is_apart c = entry-left c.args.gone.now c.args.left.now c.args.entry.now (search rules)
