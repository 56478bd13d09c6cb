use Rattle.std.proofs.Common.{◌≡◌, map, take}
use Rattle.bl_limits_measures.specs.Saturated.{saturated}
use Rattle.bl_limits_measures.specs.Types.{struct_sizes}
use Rattle.bl_limits_measures.proofs.types.struct_sizes.Given as goal

abbrev pub invariant-loop-def : goal.invariant-loop-def
invariant-loop-def l = l.sizes ≡ map saturated (struct_sizes (take l.def-index l.structs))
