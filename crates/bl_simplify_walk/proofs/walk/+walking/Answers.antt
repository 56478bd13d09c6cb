use Rattle.std.proofs.Common.{IfOk, rules, subst}
use Rattle.bl_simplify_laws.specs.Rules.{AlikeWhere}
use Rattle.bl_simplify_facts.specs.Entries.{facts_of}
use Rattle.bl_simplify_walk.specs.Blocks.{in_turn}
use Rattle.bl_simplify_walk.proofs.OnBlocks.{next_first, part_of}
use Rattle.bl_simplify_walk.proofs.OnJoined.{part-made}
use Rattle.bl_simplify_walk.proofs.walk.+walking.Goals as goal

pub walked-returns-in-Some-split_last : goal.walked-returns-in-Some-split_last
walked-returns-in-Some-split_last t c =
    subst (λ b. IfOk c.walked.result (λ new. AlikeWhere (facts_of c.args.cases.now) b new))
    (next_first (λ b. b.now) c.args.block.now c.args.rest.now c.in-Some-split_last.others.now c.in-Some-split_last.next.now
    c.in-None.ensures.cases c.in-Some-split_last.ensures.cases.0)
    c.walked.ensures

pub part-returns : goal.part-returns
part-returns t c =
    let near = c.split_at.result.0.now in
    let far = c.split_at.result.1.now in
    let left = in_turn (λ b. b.now) c.in_ok-left.left.items in
    part-made c.part_forms.ensures (facts_of c.args.cases.now) (facts_of c.in_ok-after.after) c.args.it.now.whole.now near left
    (in_turn (λ b. b.now) c.args.rest.now) c.in_ok-first.first c.in_ok-following.following (search rules) (search rules) (search rules)
    (part_of (λ b. b.now) c.args.rest.now c.in-Some.others.now c.in-Some.next.now near far left (search rules) (search rules) (search rules))
    c.before-2.result (search rules)
