use Rattle.std.proofs.Common.{◌≡◌, ◌||◌, drop}
use Rattle.bl_tree.specs.declared.text.Text.{Text}
use Rattle.bl_tree.specs.Words.{is_among}
use Rattle.bl_emit_functions.specs.Reads.{reads_in_block}
use Rattle.bl_emit_functions.proofs.reads.+reading_statements.Given as goal

abbrev pub invariant-in_block-loop-stmt : goal.invariant-in_block-loop-stmt
invariant-in_block-loop-stmt l = (name : Text) → is_among name l.into || reads_in_block name (drop l.stmt-index l.block)
    ≡ is_among name l.initial.into || reads_in_block name l.block
