use Rattle.std.proofs.Common.{◌≡◌, map, take}
use Rattle.bl_tree.specs.Reduce.{total}
use Rattle.bl_limits_measures.specs.Saturated.{saturated}
use Rattle.bl_limits_measures.specs.Types.{size_by}
use Rattle.bl_limits_measures.proofs.measures.variables_by.Given as goal

abbrev pub invariant-loop-var : goal.invariant-loop-var
invariant-loop-var l = l.size ≡ saturated (total (map (λ var. size_by l.sizes var.ty) (take l.var-index l.var-items)))
