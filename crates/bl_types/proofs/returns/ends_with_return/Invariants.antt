use Rattle.std.proofs.Common.{◌≡◌, drop, map}
use Rattle.bl_tree.specs.Returns.{last_of}
use Rattle.bl_types.specs.Returns.{is_return}
use Rattle.bl_types.proofs.LastLemmas.{last_or}
use Rattle.bl_types.proofs.returns.ends_with_return.Given as goal

abbrev pub invariant-loop-s : goal.invariant-loop-s
invariant-loop-s l = last_or l.ends (map is_return (drop l.s-index l.body)) ≡ last_of (map is_return l.body)
