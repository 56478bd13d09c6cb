use Rattle.bl_parse_syntax.proofs.Reading.{fault_here, read_next, line_after, whole}
use Rattle.bl_parse_syntax.proofs.rules.first_fault.Goals as goal

pub returns-then-not-branch : goal.returns-then-not-branch
returns-then-not-branch c =
    fault_here _ _ _ c.loop-token-test.true _ c.loop-token.invariant.line _ c.view_of.ensures _ _ c.loop-token.invariant.stands _ _
    c.in_ok-take.ensures c.if-not-branch.true

pub loop-token-preserved : goal.loop-token-preserved
loop-token-preserved c = record {
  line = line_after _ _ _ c.loop-token-test.true;
  stands = read_next _ _ _ c.loop-token-test.true _ c.loop-token.invariant.line _ c.view_of.ensures _ _
      c.loop-token.invariant.stands _ c.in_ok-take.ensures c.if-not-branch.false;
}

pub returns : goal.returns
returns c = whole _ _ _ _ _ c.loop-token-test.false c.loop-token.invariant.stands c.fault_at_end.ensures
