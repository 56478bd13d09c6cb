use Rattle.std.proofs.Common.{sym, ◌∙◌}
use Rattle.bl_cparse_syntax.proofs.Failing.{fails_here, reads_on, shorter, passes_here, fails_at_end}
use Rattle.bl_cparse_syntax.proofs.rules.check.Goals as goal

pub returns-then-not-branch : goal.returns-then-not-branch
returns-then-not-branch c =
    let i = c.loop-piece.invariant in
    fails_here c.args.text.now c.args.start c.loop-piece.piece.start c.loop-piece.piece.end c.new-seen.result _ _ _
    c.new-seen.ensures i.read c.loop-piece-test.true i.inside i.there i.no_blank c.in_ok-take.ensures c.if-not-branch.true

pub loop-piece-smaller : goal.loop-piece-smaller
loop-piece-smaller c =
    shorter c.args.text.now c.args.start c.loop-piece.piece.start c.loop-piece.piece.end _ c.loop-piece-test.true
    c.loop-piece.invariant.inside c.next_piece-piece-in-loop-piece.ensures.left

pub loop-piece-preserved : goal.loop-piece-preserved
loop-piece-preserved c =
    let i = c.loop-piece.invariant in
    let n = c.next_piece-piece-in-loop-piece.ensures in
    record {
      read = reads_on c.args.text.now c.args.start c.loop-piece.piece.start c.loop-piece.piece.end c.new-seen.result _ _ _
          c.new-seen.ensures i.read c.loop-piece-test.true i.inside _ n.left c.in_ok-take.ensures c.if-not-branch.false;
      in_order = n.in_order;
      inside = n.inside;
      at_end = n.at_end;
      there = n.starts ∙ sym n.left;
      no_blank = n.no_blank;
    }

pub returns-then-may_end : goal.returns-then-may_end
returns-then-may_end c =
    let i = c.loop-piece.invariant in
    passes_here c.args.text.now c.args.start c.loop-piece.piece.start c.loop-piece.piece.end c.loop-piece.stack.wanted.items _
    i.read i.in_order i.at_end c.loop-piece-test.false c.may_end.ensures c.if-may_end.true

pub returns : goal.returns
returns c =
    let i = c.loop-piece.invariant in
    fails_at_end c.args.text.now c.args.start c.loop-piece.piece.start c.loop-piece.piece.end c.loop-piece.stack.wanted.items _
    i.read i.in_order i.at_end c.loop-piece-test.false c.may_end.ensures c.if-may_end.false
