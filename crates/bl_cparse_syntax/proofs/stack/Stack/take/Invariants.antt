use Rattle.std.proofs.Common.{map, reverse}
use Rattle.bl_cparse_syntax.specs.inner.Stacks.{StackExpands, level, shown}
use Rattle.bl_cparse_syntax.proofs.stack.Stack.take.Given as goal

abbrev pub invariant-loop-first : goal.invariant-loop-first
invariant-loop-first l = StackExpands l.piece (reverse (map shown l.initial.self.wanted.items)) (reverse (map shown l.self.wanted.items))

abbrev pub decreases-loop-first : goal.decreases-loop-first
decreases-loop-first l = level (reverse (map shown l.self.wanted.items))
