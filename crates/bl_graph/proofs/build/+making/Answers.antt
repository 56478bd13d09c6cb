use Rattle.std.proofs.Common.{◌+◌, ◌-◌, ◌++◌, ◌||◌, not, nat_lt, length, take, drop, ap, ◌∙◌}
use Rattle.bl_graph.specs.inner.Parts.{branch_links, joined_branch, links_each}
use Rattle.bl_graph_nodes.specs.Plain.{passed_one}
use Rattle.bl_graph.proofs.Branching.{assign_kind, await_kind, branch_added, branches_all, branches_next, call_kind, cobegin_ends, cobegin_kind, cobegin_made}
use Rattle.bl_graph.proofs.Branching.{declare_kind, if_kind, in_order, repeat_kind, return_kind, run_kind, until_kind, when_kind, while_kind}
use Rattle.bl_graph.proofs.Building.{block_all, block_next, chain_all, chain_step, choice_made, endless_made, first_of_arms, guarded_made, if_none, if_some}
use Rattle.bl_graph.proofs.Building.{left_next, no_arms, some_arms, turn_made, until_made, while_made}
use Rattle.bl_graph.proofs.build.+making.Goals as goal

pub all_branches-loop-each-preserved : goal.all_branches-loop-each-preserved
all_branches-loop-each-preserved t c =
    branches_next c.args.branches.now c.loop-each.each-index c.each-item.result c.args.first c.args.join c.args.instant c.loop-each.made c.in_ok-made.made
    c.args.links.now c.loop-each.links c.branch-alloc.new.links c.loop-each-test.true c.each-item.is c.loop-each.invariant c.in_ok-made.ensures

pub all_branches-returns : goal.all_branches-returns
all_branches-returns t c =
    branches_all c.args.branches.now c.loop-each.each-index c.args.first c.args.join c.args.instant c.loop-each.made c.args.links.now c.loop-each.links
    c.loop-each-test.false c.loop-each.invariant

pub block-loop-s-preserved : goal.block-loop-s-preserved
block-loop-s-preserved t c =
    block_next c.args.body.now c.loop-s.s-index c.s-item.result c.args.first c.in_ok-next.next c.loop-s.made c.in_ok-more.more c.in_ok-made.made
    c.args.links.now c.loop-s.links c.statement.new.links c.link_each.new.control c.loop-s-test.true c.s-item.is
    (c.in_ok-next.ensures ∙ ap (λ n. c.args.first + n) c.len.ensures) c.loop-s.invariant c.in_ok-more.ensures
    (c.in_ok-link_each.ensures ∙ ap (λ outs. c.statement.new.links.control ++ links_each outs c.in_ok-next.next) c.deref.ensures)
    c.in_ok-made.ensures

pub block-returns : goal.block-returns
block-returns t c = block_all c.args.body.now c.loop-s.s-index c.args.first c.loop-s.made c.args.links.now c.loop-s.links c.loop-s-test.false c.loop-s.invariant

pub branch-returns : goal.branch-returns
branch-returns t c =
    branch_added c.args.branch.now c.as_slice-inside.result.now c.args.first c.args.join c.in_ok-begins.begins c.in_ok-start.start c.args.instant
    c.is_empty-empty.result c.args.made c.in_ok-joined.joined c.in_ok-body.body c.args.links.now c.block.new.links c.link_branch.new.control
    c.as_slice-inside.ensures c.in_ok-begins.ensures (c.in_ok-start.ensures ∙ ap (λ n. c.in_ok-begins.begins + n) c.len.ensures)
    c.is_empty-empty.ensures c.in_ok-body.ensures
    (c.in_ok-link_branch.ensures ∙ ap (λ leave. c.block.new.links.control
    ++ branch_links c.is_empty-empty.result c.args.instant c.args.first c.args.join c.in_ok-start.start leave) (c.deref.ensures ∙ c.in_ok-leave.ensures))
    (c.in_ok-joined.ensures ∙ ap (λ leave. joined_branch c.args.made leave c.in_ok-body.body) (c.deref-2.ensures ∙ c.in_ok-leave.ensures))

pub branching-returns-in_ok-all : goal.branching-returns-in_ok-all
branching-returns-in_ok-all t c =
    if_kind c.args.at c.args.what.now c.in-If.arms c.as_slice-arms.result.now c.in-If.other c.as_slice-other.result.now c.args.first c.in_ok-all.all
    c.args.links.now c.block.new.links c.in-If.is c.as_slice-arms.ensures c.as_slice-other.ensures
    (if_none c.args.at c.as_slice-arms.result.now c.as_slice-other.result.now _ _ c.args.first c.in_ok-next.next c.in_ok-made.made c.in_ok-last.last
    c.in_ok-all.all c.args.links.now c.choice.new.links c.block.new.links
    (no_arms c.as_slice-arms.result.now c.is_empty.result c.if-is_empty.true c.is_empty.ensures)
    (ap not c.is_empty-bare.ensures) c.new.ensures c.in_ok-made.ensures (c.in_ok-next.ensures ∙ ap (λ n. c.args.first + n) c.len.ensures)
    c.in_ok-last.ensures c.in_ok-all.ensures)

pub branching-returns-in_ok-all-2 : goal.branching-returns-in_ok-all-2
branching-returns-in_ok-all-2 t c =
    let some = some_arms c.as_slice-arms.result.now c.is_empty.result c.if-is_empty.false c.is_empty.ensures in
    if_kind c.args.at c.args.what.now c.in-If.arms c.as_slice-arms.result.now c.in-If.other c.as_slice-other.result.now c.args.first c.in_ok-all-2.all
    c.args.links.now c.block-else-is_empty.new.links c.in-If.is c.as_slice-arms.ensures c.as_slice-other.ensures
    (if_some c.args.at c.as_slice-arms.result.now _ c.index-arms-0.result c.deref.result.now c.as_slice-other.result.now _ c.is_empty-bare.result
    c.in_ok-reads.reads c.args.first c.in_ok-next-2.next c.in_ok-made-2.made c.in_ok-part.part c.in_ok-last-2.last c.in_ok-all-2.all c.args.links.now
    c.choice-else-is_empty.new.links c.chain.new.links c.block-else-is_empty.new.links
    (first_of_arms c.as_slice-arms.result.now c.index-arms-0.result some c.index-arms-0.is)
    (ap (λ bare. nat_lt 0 (length (take (length c.as_slice-arms.result.now - 1) (drop 1 c.as_slice-arms.result.now))) || not bare) c.is_empty-bare.ensures)
    c.is_empty-bare.ensures c.in_ok-reads.ensures c.deref.ensures c.in_ok-made-2.ensures c.in_ok-part.ensures
    (c.in_ok-next-2.ensures ∙ ap (λ n. c.args.first + n) c.len-else-is_empty.ensures) c.in_ok-last-2.ensures c.in_ok-all-2.ensures)

pub chain-loop-arm-preserved : goal.chain-loop-arm-preserved
chain-loop-arm-preserved t c =
    let size = left_next c.args.arms.now c.loop-arm.arm-index c.loop-arm.left c.loop-arm-test.true c.loop-arm.invariant.0 in (
      size,
      λ at naming whole start other is opens.
          let before = c.loop-arm.invariant.1 at naming whole start other is opens in (
            passed_one before.0,
            chain_step c.args.arms.now other c.loop-arm.arm-index c.arm-item.result c.deref.result.now _ c.in_ok-reads.reads c.args.first
                c.in_ok-next.next c.loop-arm.made c.in_ok-part.part c.in_ok-made.made start c.loop-arm.links c.choice.new.links naming whole before.0
                c.loop-arm-test.true c.arm-item.is (λ i. nat_lt 0 (size i) || not (is i)) c.in_ok-reads.ensures c.deref.ensures
                (c.in_ok-next.ensures ∙ ap (λ n. c.args.first + n) c.len.ensures) c.in_ok-part.ensures c.in_ok-made.ensures before.1,
          ),
    )

pub chain-returns : goal.chain-returns
chain-returns t c at naming whole start other is opens =
    let before = c.loop-arm.invariant.1 at naming whole start other is opens in
    chain_all c.args.arms.now other c.loop-arm.arm-index _ c.loop-arm.made start c.loop-arm.links naming whole before.0 c.loop-arm-test.false before.1

pub choice-returns : goal.choice-returns
choice-returns t c =
    choice_made c.args.at c.args.reads c.args.body.now c.args.more c.is_empty-empty.result c.args.first c.in_ok-start.start c.in_ok-next.next
    c.in_ok-inside.inside c.in_ok-made.made c.args.links.now c.block.new.links c.link_if.new.control c.link_if-2.new.control c.in_ok-start.ensures
    (c.in_ok-next.ensures ∙ ap (λ n. c.in_ok-start.start + n) c.len.ensures) c.is_empty-empty.ensures c.in_ok-inside.ensures c.in_ok-link_if.ensures
    c.in_ok-link_if-2.ensures c.in_ok-made.ensures

pub cobegin-cross-requires : goal.cobegin-cross-requires
cobegin-cross-requires t c =
    in_order c.args.branches.now c.args.first c.in_ok-join.join c.branches_instant-instant.result c.in_ok-made.made c.args.links.now
    c.all_branches.new.links c.in_ok-join.ensures c.in_ok-made.ensures

pub cobegin-returns : goal.cobegin-returns
cobegin-returns t c =
    cobegin_made c.args.at c.args.branches.now c.branches_instant-instant.result c.args.first c.in_ok-join.join c.in_ok-after.field-0 c.in_ok-made.made
    c.in_ok-part.part c.args.links.now c.all_branches.new.links c.cross.new.edges
    (cobegin_ends c.args.at c.args.branches.now c.branches_instant-instant.result c.branches_instant-instant.ensures) c.in_ok-join.ensures
    c.in_ok-after.ensures c.in_ok-made.ensures c.in_ok-cross.ensures c.in_ok-part.ensures

pub endless-returns : goal.endless-returns
endless-returns t c =
    endless_made c.args.at c.args.body.now c.args.first c.in_ok-start.start c.in_ok-inside.inside c.in_ok-made.made c.args.links.now c.turn.new.links
    c.in_ok-start.ensures c.in_ok-inside.ensures c.in_ok-made.ensures

pub guarded-returns : goal.guarded-returns
guarded-returns t c =
    guarded_made c.args.at c.args.guard c.args.e.now c.args.body.now c.is_instant_block-instant.result c.is_empty-empty.result c.args.first
    c.in_ok-check.check c.in_ok-start.start c.in_ok-reads.reads c.in_ok-inside.inside c.in_ok-made.made c.args.links.now c.block.new.links
    c.link_guarded.new.control c.is_instant_block-instant.ensures c.in_ok-check.ensures c.in_ok-start.ensures c.is_empty-empty.ensures
    c.in_ok-inside.ensures c.in_ok-link_guarded.ensures c.in_ok-reads.ensures c.in_ok-made.ensures

pub statement-returns-in_ok-made-in-Declare : goal.statement-returns-in_ok-made-in-Declare
statement-returns-in_ok-made-in-Declare t c =
    declare_kind c.args.at c.args.what.now c.in-Declare.k c.in-Declare.initial c.args.first c.in_ok-made-in-Declare.made c.args.links.now
    c.in-Declare.is c.in_ok-made-in-Declare.ensures

pub statement-returns-in_ok-made-in-Assign : goal.statement-returns-in_ok-made-in-Assign
statement-returns-in_ok-made-in-Assign t c =
    assign_kind c.args.at c.args.what.now c.in-Assign.path c.in-Assign.e c.args.first c.in_ok-made-in-Assign.made c.args.links.now
    c.in-Assign.is c.in_ok-made-in-Assign.ensures

pub statement-returns-in_ok-made-in-Call : goal.statement-returns-in_ok-made-in-Call
statement-returns-in_ok-made-in-Call t c =
    call_kind c.args.at c.args.what.now c.in-Call.field-0 c.in-Call.inputs c.deref.result.now c.in-Call.outputs
    c.deref-in-Call.result.now c.args.first c.in_ok-made-in-Call.made c.args.links.now c.in-Call.is c.deref.ensures c.deref-in-Call.ensures
    c.in_ok-made-in-Call.ensures

pub statement-returns-in_ok-made-in-Await : goal.statement-returns-in_ok-made-in-Await
statement-returns-in_ok-made-in-Await t c =
    await_kind c.args.at c.args.what.now c.in-Await.e c.args.first c.in_ok-made-in-Await.made c.args.links.now c.in-Await.is c.in_ok-made-in-Await.ensures

pub statement-returns-in_ok-made-in-Run : goal.statement-returns-in_ok-made-in-Run
statement-returns-in_ok-made-in-Run t c =
    run_kind c.args.at c.args.what.now c.in-Run.target c.in-Run.field-1 c.in-Run.inputs c.deref-in-Run.result.now c.in-Run.outputs
    c.deref-in-Run-2.result.now c.args.first c.in_ok-made-in-Run.made c.args.links.now c.in-Run.is c.deref-in-Run.ensures c.deref-in-Run-2.ensures
    c.in_ok-made-in-Run.ensures

pub statement-returns-in_ok-made-in-If : goal.statement-returns-in_ok-made-in-If
statement-returns-in_ok-made-in-If t c =
    c.in_ok-made-in-If.ensures

pub statement-returns-in_ok-made-in-Cobegin : goal.statement-returns-in_ok-made-in-Cobegin
statement-returns-in_ok-made-in-Cobegin t c =
    cobegin_kind c.args.at c.args.what.now c.in-Cobegin.branches c.deref-in-Cobegin.result.now c.args.first c.in_ok-made-in-Cobegin.made
    c.args.links.now c.cobegin.new.links c.in-Cobegin.is c.deref-in-Cobegin.ensures c.in_ok-made-in-Cobegin.ensures

pub statement-returns-in_ok-made-in-When : goal.statement-returns-in_ok-made-in-When
statement-returns-in_ok-made-in-When t c =
    when_kind c.args.at c.args.what.now c.in-When.guard c.in-When.e c.in-When.body c.deref-in-When.result.now c.args.first
    c.in_ok-made-in-When.made c.args.links.now c.guarded.new.links c.in-When.is c.deref-in-When.ensures c.in_ok-made-in-When.ensures

pub statement-returns-in_ok-made-in-Repeat : goal.statement-returns-in_ok-made-in-Repeat
statement-returns-in_ok-made-in-Repeat t c =
    repeat_kind c.args.at c.args.what.now c.in-Repeat.body c.deref-in-Repeat.result.now c.args.first c.in_ok-made-in-Repeat.made
    c.args.links.now c.endless.new.links c.in-Repeat.is c.deref-in-Repeat.ensures c.in_ok-made-in-Repeat.ensures

pub statement-returns-in_ok-made-in-Until : goal.statement-returns-in_ok-made-in-Until
statement-returns-in_ok-made-in-Until t c =
    until_kind c.args.at c.args.what.now c.in-Until.body c.deref-in-Until.result.now c.in-Until.e c.args.first c.in_ok-made-in-Until.made
    c.args.links.now c.until.new.links c.in-Until.is c.deref-in-Until.ensures c.in_ok-made-in-Until.ensures

pub statement-returns-in_ok-made-in-While : goal.statement-returns-in_ok-made-in-While
statement-returns-in_ok-made-in-While t c =
    while_kind c.args.at c.args.what.now c.in-While.e c.in-While.body c.deref-in-While.result.now c.args.first c.in_ok-made-in-While.made
    c.args.links.now c.testing.new.links c.in-While.is c.deref-in-While.ensures c.in_ok-made-in-While.ensures

pub statement-returns-in_ok-made-in-Return : goal.statement-returns-in_ok-made-in-Return
statement-returns-in_ok-made-in-Return t c =
    return_kind c.args.at c.args.what.now c.in-Return.e c.args.first c.in_ok-made-in-Return.made c.args.links.now c.in-Return.is
    c.in_ok-made-in-Return.ensures

pub testing-returns : goal.testing-returns
testing-returns t c =
    while_made c.args.at c.args.e.now c.args.body.now c.args.first c.in_ok-start.start c.in_ok-reads.reads c.in_ok-inside.inside c.in_ok-made.made
    c.args.links.now c.turn.new.links c.in_ok-start.ensures c.in_ok-reads.ensures c.in_ok-inside.ensures c.in_ok-made.ensures

pub turn-returns : goal.turn-returns
turn-returns t c =
    turn_made c.args.body.now c.args.start c.args.first c.args.last c.is_empty-empty.result c.in_ok-inside.inside c.args.links.now c.block.new.links
    c.link_lead.new.control c.link_each.new.control c.is_empty-empty.ensures c.in_ok-inside.ensures c.in_ok-link_lead.ensures
    (c.in_ok-link_each.ensures ∙ ap (λ outs. c.link_lead.new.control ++ links_each outs c.args.last) c.deref.ensures)

pub until-returns : goal.until-returns
until-returns t c =
    until_made c.args.at c.args.body.now c.args.e.now c.args.first c.in_ok-test.test c.in_ok-start.start c.is_empty-empty.result c.in_ok-reads.reads
    c.in_ok-inside.inside c.in_ok-made.made c.args.links.now c.turn.new.links c.link_if.new.control c.in_ok-test.ensures c.in_ok-start.ensures
    c.is_empty-empty.ensures c.in_ok-reads.ensures c.in_ok-inside.ensures c.in_ok-link_if.ensures c.in_ok-made.ensures
