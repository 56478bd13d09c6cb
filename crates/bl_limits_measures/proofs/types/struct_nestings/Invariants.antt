use Rattle.std.proofs.Common.{◌≡◌, map, take}
use Rattle.bl_limits_measures.specs.Saturated.{saturated}
use Rattle.bl_limits_measures.specs.Types.{struct_nestings}
use Rattle.bl_limits_measures.proofs.types.struct_nestings.Given as goal

abbrev pub invariant-loop-def : goal.invariant-loop-def
invariant-loop-def l = l.nestings ≡ map saturated (struct_nestings (take l.def-index l.structs))
