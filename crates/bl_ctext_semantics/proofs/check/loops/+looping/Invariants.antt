use Rattle.std.proofs.Common.{◌≡◌, drop, ◌++◌}
use Rattle.bl_ctext_semantics.specs.Loops.{turns_in_block}
use Rattle.bl_ctext_semantics.specs.inner.Maps.{named_entries}
use Rattle.bl_ctext_semantics.proofs.check.loops.+looping.Given as goal

abbrev pub invariant-add_turns-loop-stmt : goal.invariant-add_turns-loop-stmt
invariant-add_turns-loop-stmt l = named_entries l.turns.items ++ turns_in_block (drop l.stmt-index l.block) ≡ named_entries l.initial.turns.items
    ++ turns_in_block l.block
