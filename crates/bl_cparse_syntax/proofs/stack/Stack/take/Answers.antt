use Rattle.std.proofs.Common.{map, reverse, ap, ◌∙◌}
use Rattle.bl_cparse_syntax.specs.Tables.{turn_name_for}
use Rattle.bl_cparse_syntax.specs.inner.Stacks.{shown}
use Rattle.bl_cparse_syntax.proofs.Picking.{with_turn}
use Rattle.bl_cparse_syntax.proofs.Reading.{at_terminal, at_none, at_part, nearer}
use Rattle.bl_cparse_syntax.proofs.stack.Stack.take.Goals as goal

pub returns-in-Terminal : goal.returns-in-Terminal
returns-in-Terminal c = at_terminal _ _ _ _ _ c.loop-first.invariant c.in-Some.ensures.items _ _ c.in-Terminal.is c.is_of.ensures

pub loop-first-smaller : goal.loop-first-smaller
loop-first-smaller c = nearer _ _ _ _ _ c.loop-first.invariant c.in-Some.ensures.items _ c.in-Nonterminal.is _
    c.in-Some-pick.ensures c.push_all.new.wanted.items
    (with_turn c.in-Nonterminal.whole.room c.turn_of.result.now c.args.piece.now c.in-Some-pick.shapes.now
    (reverse (map shown c.push_all.new.wanted.items)) (reverse (map shown c.pop.new.self.items))
    (c.turn_of.ensures ∙ ap turn_name_for c.bytes.ensures) c.in_ok-push_all-in-Some-pick.ensures)

pub loop-first-preserved : goal.loop-first-preserved
loop-first-preserved c = at_part _ _ _ _ _ c.loop-first.invariant c.in-Some.ensures.items _ c.in-Nonterminal.is _
    c.in-Some-pick.ensures c.push_all.new.wanted.items
    (with_turn c.in-Nonterminal.whole.room c.turn_of.result.now c.args.piece.now c.in-Some-pick.shapes.now
    (reverse (map shown c.push_all.new.wanted.items)) (reverse (map shown c.pop.new.self.items))
    (c.turn_of.ensures ∙ ap turn_name_for c.bytes.ensures) c.in_ok-push_all-in-Some-pick.ensures)

pub returns-in-None : goal.returns-in-None
returns-in-None c = at_none _ _ _ _ _ c.loop-first.invariant c.in-Some.ensures.items _ c.in-Nonterminal.is c.in-None.ensures
