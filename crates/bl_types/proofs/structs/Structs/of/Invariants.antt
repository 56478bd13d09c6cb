use Rattle.std.proofs.Common.{◌≡◌}
use Rattle.bl_types.proofs.structs.Structs.of.Given as goal

abbrev pub invariant-loop-def : goal.invariant-loop-def
invariant-loop-def l = l.structs ≡ l.yielded
