use Rattle.std.proofs.Common.{ℕ, ◌<◌}
use Rattle.bl_link.specs.Fits.{LastFits}
use Rattle.bl_link.proofs.fits.first_wrong_last.Given as goal

abbrev pub invariant-loop-k : goal.invariant-loop-k
invariant-loop-k l = (j : ℕ) → j < l.k → LastFits l.parts j
