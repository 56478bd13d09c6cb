use Rattle.std.proofs.Common.{rules, ◌≡◌, ◌∙◌, ap, sym, ◌++◌, ◌+◌, List, ℕ, drop, to_z, of_z, Some}
use Rattle.std.specs.Prelude.{slice_get}
use Rattle.std.specs.Int.{w128}
use Rattle.std.proofs.lemmas.Int.{to_z-of_z}
use Rattle.bl_crun_ports.specs.Layout.{kinds_of}
use Rattle.bl_save.specs.Bytes.{cells_bytes}
use Rattle.bl_save.proofs.Walks.{push-step, range-step}
use Rattle.bl_save.proofs.saving.push_cells.Goals as goal

pub loop-k-preserved : goal.loop-k-preserved
loop-k-preserved c =
    let kinds = kinds_of c.args.runner.now.parts in
    let cells = c.args.runner.now.cells in
    let k : ℕ = c.loop-k.k in
    let same : to_z w128 (of_z w128 c.cell.result) ≡ c.cell.result = to_z-of_z w128 _ (search rules) in
    let number : slice_get cells k ≡ Some (to_z w128 (of_z w128 c.cell.result)) = c.cell.ensures.number ∙ ap Some (sym same) in
    record {
      written = ap (λ (front : List ℕ). front ++ cells_bytes (drop (k + 1) kinds) (drop (k + 1) cells)) c.in_ok-push.ensures
          ∙ push-step c.loop-k.bytes.items kinds cells k c.kind.result _ c.kind.ensures number ∙ c.loop-k.invariant.written;
      range = range-step kinds cells k c.kind.result c.cell.result c.kind.ensures c.cell.ensures.number (c.cell.ensures.range c.kind.result c.kind.ensures)
          ∙ c.loop-k.invariant.range;
    }
