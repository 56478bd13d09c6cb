use Rattle.std.proofs.Common.{◌≡◌, ◌&&◌, List, drop}
use Rattle.std.specs.List.{list_all}
use Rattle.bl_tree.specs.declared.text.Text.{Text}
use Rattle.bl_ctext_semantics.specs.inner.Maps.{text_at}
use Rattle.bl_simplify_laws.specs.Tables.{calls_stand_in}
use Rattle.bl_ctext_places.specs.Names.{HasNames}
use Rattle.bl_simplify_calls.proofs.stmts.+standing.Given as goal

abbrev pub invariant-in_block-loop-stmt : goal.invariant-in_block-loop-stmt
invariant-in_block-loop-stmt l =
    (names : List Text) → HasNames (text_at l.framed) names →
    (l.stand && list_all (calls_stand_in names) (drop l.stmt-index l.block)) ≡ list_all (calls_stand_in names) l.block
