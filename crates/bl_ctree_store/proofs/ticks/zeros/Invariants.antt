use Rattle.std.proofs.Common.{◌≡◌, ◌++◌, drop}
use Rattle.bl_ctree.specs.Store.{zeros}
use Rattle.bl_ctree_store.proofs.ticks.zeros.Given as goal

abbrev pub invariant-loop-var : goal.invariant-loop-var
invariant-loop-var l = l.made ++ zeros l.structs (drop l.var-index l.vars) ≡ zeros l.structs l.vars
