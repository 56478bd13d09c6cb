use Rattle.bl_parse_syntax.proofs.Reading.{at_terminal, at_none, at_part, nearer}
use Rattle.bl_parse_syntax.proofs.stack.Stack.take.Goals as goal

pub returns-in-Terminal : goal.returns-in-Terminal
returns-in-Terminal c = at_terminal _ _ _ _ _ c.loop-symbol.invariant c.in-Some.ensures.items _ _ c.in-Terminal.is c.is_same.ensures

pub loop-symbol-smaller : goal.loop-symbol-smaller
loop-symbol-smaller c = nearer _ _ _ _ _ c.loop-symbol.invariant c.in-Some.ensures.items _ c.in-Nonterminal.is _
    c.in-Some-pick.ensures _ c.in_ok-push_all-in-Some-pick.ensures

pub loop-symbol-preserved : goal.loop-symbol-preserved
loop-symbol-preserved c = at_part _ _ _ _ _ c.loop-symbol.invariant c.in-Some.ensures.items _ c.in-Nonterminal.is _
    c.in-Some-pick.ensures _ c.in_ok-push_all-in-Some-pick.ensures

pub returns-in-None : goal.returns-in-None
returns-in-None c = at_none _ _ _ _ _ c.loop-symbol.invariant c.in-Some.ensures.items _ c.in-Nonterminal.is c.in-None.ensures
