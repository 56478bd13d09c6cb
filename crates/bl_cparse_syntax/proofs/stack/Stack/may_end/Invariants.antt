use Rattle.std.proofs.Common.{◌≡◌, map, drop}
use Rattle.std.specs.List.{list_all}
use Rattle.bl_cparse_syntax.specs.inner.Stacks.{may_vanish, shown}
use Rattle.bl_cparse_syntax.proofs.stack.Stack.may_end.Given as goal

abbrev pub invariant-loop-wanted : goal.invariant-loop-wanted
invariant-loop-wanted l = list_all may_vanish (map shown (drop l.wanted-index l.wanted-items)) ≡ list_all may_vanish (map shown l.self.wanted.items)
