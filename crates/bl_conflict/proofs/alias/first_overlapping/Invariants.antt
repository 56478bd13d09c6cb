use Rattle.std.proofs.Common.{◌≡◌, drop}
use Rattle.bl_conflict.specs.inner.Failures.{place_overlapping}
use Rattle.bl_conflict.proofs.alias.first_overlapping.Given as goal

abbrev pub invariant-loop-other : goal.invariant-loop-other
invariant-loop-other l = place_overlapping (drop l.other-index l.others) l.one ≡ place_overlapping l.others l.one
