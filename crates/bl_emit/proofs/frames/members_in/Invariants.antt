use Rattle.std.proofs.Common.{◌≡◌}
use Rattle.bl_emit.specs.inner.Members.{members_within}
use Rattle.bl_emit.proofs.frames.members_in.Given as goal

abbrev pub invariant-loop-s : goal.invariant-loop-s
invariant-loop-s l = l.made ≡ members_within l.yielded
