use Rattle.std.proofs.Common.{◌≡◌, ◌&&◌, drop, map}
use Rattle.bl_tree.specs.Reduce.{all_of}
use Rattle.bl_tree.specs.Returns.{last_of}
use Rattle.bl_types.specs.Returns.{arm_surely_returns, surely_returns}
use Rattle.bl_types.proofs.LastLemmas.{last_or}
use Rattle.bl_types.proofs.returns.+sure.Given as goal

abbrev pub invariant-arms_return-loop-arm : goal.invariant-arms_return-loop-arm
invariant-arms_return-loop-arm l = (l.sure && all_of (map arm_surely_returns (drop l.arm-index l.all))) ≡ all_of (map arm_surely_returns l.all)

abbrev pub invariant-block_returns-loop-s : goal.invariant-block_returns-loop-s
invariant-block_returns-loop-s l = last_or l.sure (map surely_returns (drop l.s-index l.body)) ≡ last_of (map surely_returns l.body)
