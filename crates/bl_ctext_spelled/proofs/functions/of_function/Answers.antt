use Rattle.std.proofs.Common.{◌≡◌, ◌+◌, ◌&&◌, map, max, rules, arith, ◌∙◌}
use Rattle.bl_tree.specs.Reduce.{all_of, greatest}
use Rattle.bl_ctext.specs.Spellable.{spells_func, spells_stmt}
use Rattle.bl_ctext.specs.inner.Depths.{func_depth, stmt_depth}
use Rattle.bl_ctext_spelled.proofs.Depths.{and_five, spelled_as}
use Rattle.bl_ctext_spelled.proofs.functions.of_function.Goals as goal

pub returns : goal.returns
returns c =
    let spells : spells_func c.args.function.now
    ≡ (c.is_returned.result && (c.is_function_name.result && (c.are_params.result && (c.are_locals.result && all_of (map spells_stmt c.deref-3.result.now)))))
    = search rules in
    let depth : func_depth c.args.function.now ≡ max 1 (greatest (map stmt_depth c.deref-3.result.now)) + 1 = search rules in
    let deep : func_depth c.args.function.now ≡ max (max (max 0 0) (max 0 0)) (max 1 (greatest (map stmt_depth c.deref-3.result.now)) + 1)
    = depth ∙ omega arith in
    spelled_as _ _ _ _ _
    (spells ∙ and_five c.is_returned.result c.is_function_name.result c.are_params.result c.are_locals.result (all_of (map spells_stmt c.deref-3.result.now)))
    deep
    (c.deeper-3.ensures _ _ _ _
    (c.deeper-front.ensures _ _ _ _ (c.deeper.ensures _ _ _ _ c.flat-result.ensures c.flat-name.ensures)
    (c.deeper-2.ensures _ _ _ _ c.flat-params.ensures c.flat-locals.ensures))
    (c.within.ensures _ _ (c.at_least.ensures _ _ c.of_block.ensures)))
