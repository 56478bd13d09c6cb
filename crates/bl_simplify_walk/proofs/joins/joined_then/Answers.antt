use Rattle.std.proofs.Common.{rules}
use Rattle.bl_simplify_walk.proofs.OnJoined.{by-and}
use Rattle.bl_simplify_walk.proofs.joins.joined_then.Goals as goal

pub returns-then-is_same_block : goal.returns-then-is_same_block
returns-then-is_same_block c =
    let inner = c.in-Some.inner in
    by-and c.args.it.now c.in_ok-with_block.field-0 inner.place inner.condition.now inner.block.now inner.other.now c.in_ok-first.first
    c.in_ok-second.second c.in_ok-test.test c.in_ok-other.other (search rules) (search rules) c.join_forms.ensures.and c.args.place (search rules)
    (search rules) (search rules) (search rules) (search rules)
