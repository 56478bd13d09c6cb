use Rattle.std.proofs.Common.{ℕ, ◌<◌}
use Rattle.bl_link.specs.Fits.{FaceFits}
use Rattle.bl_link.proofs.fits.first_wrong_face.Given as goal

abbrev pub invariant-loop-k : goal.invariant-loop-k
invariant-loop-k l = (j : ℕ) → j < l.k → FaceFits l.parts j
