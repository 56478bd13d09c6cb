use Rattle.std.proofs.Common.{reverse}
use Rattle.bl_parse_syntax.specs.inner.Stacks.{StackExpands}
use Rattle.bl_parse_syntax.specs.Stack.{level}
use Rattle.bl_parse_syntax.proofs.stack.Stack.take.Given as goal

abbrev pub invariant-loop-symbol : goal.invariant-loop-symbol
invariant-loop-symbol l = StackExpands l.next (reverse l.initial.self.symbols.items) (reverse l.self.symbols.items)

abbrev pub decreases-loop-symbol : goal.decreases-loop-symbol
decreases-loop-symbol l = level (reverse l.self.symbols.items)
