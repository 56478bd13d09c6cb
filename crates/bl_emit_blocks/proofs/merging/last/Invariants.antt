use Rattle.std.proofs.Common.{◌≡◌, drop, map}
use Rattle.std.specs.Prelude.{option_map}
use Rattle.bl_machine_transitions.specs.Told.{rule_in}
use Rattle.bl_emit_blocks.specs.Merging.{last_at, last_behind}
use Rattle.bl_emit_blocks.proofs.merging.last.Given as goal

abbrev pub invariant-loop-k : goal.invariant-loop-k
invariant-loop-k l =
    last_behind (map rule_in l.rules) (option_map rule_in (option_map (λ rule. rule.now) l.found)) (drop l.k-index l.block)
    ≡ last_at (map rule_in l.rules) l.block
