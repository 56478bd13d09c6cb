use Rattle.std.proofs.Common.{◌≡◌, take}
use Rattle.bl_simplify_walk.specs.Blocks.{in_turn}
use Rattle.bl_simplify_walk.proofs.made.copies.Given as goal

abbrev pub invariant-loop-following : goal.invariant-loop-following
invariant-loop-following l = l.made ≡ in_turn (λ b. b.now) (take l.following-index l.rest)
