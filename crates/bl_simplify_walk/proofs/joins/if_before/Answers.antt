use Rattle.std.proofs.Common.{rules}
use Rattle.bl_simplify_walk.proofs.OnJoined.{none-left, some-left}
use Rattle.bl_simplify_walk.proofs.joins.if_before.Goals as goal

pub returns-then-is_total : goal.returns-then-is_total
returns-then-is_total c =
    let left = c.in_ok-block.field-0 in
    none-left c.join_forms.ensures.ends c.args.place c.args.test c.args.new c.args.others c.args.following left.block left.other left.behind
    c.in_ok-block.ensures c.join_forms.ensures.nothing (search rules) (search rules) (search rules)

pub returns : goal.returns
returns c =
    let left = c.in_ok-block.field-0 in
    some-left c.join_forms.ensures.ends c.args.place c.args.test c.args.new c.args.others c.args.following left.block left.other left.behind
    c.in_ok-block.ensures c.join_forms.ensures.followed c.in_ok-made.made (search rules) c.with_if.result (search rules)
