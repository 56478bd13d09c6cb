use Rattle.std.proofs.Common.{◌∙◌, ◌≡◌, ◌<◌, ap, arith, length, rules, slice_set, Some, sym, ◌+◌}
use Rattle.std.specs.Int.{w128}
use Rattle.std.specs.Prelude.{slice_get}
use Rattle.std.proofs.lemmas.Int.{to_z-of_z}
use Rattle.bl_ctree.specs.Instances.{unit_at}
use Rattle.bl_ctree.specs.Store.{outputs_row}
use Rattle.bl_ctree_store.specs.Own.{now_there}
use Rattle.bl_ctree_store.specs.Seen.{setting_in, store_of}
use Rattle.bl_ctree_store.proofs.FillLemmas.{fill_long}
use Rattle.bl_ctree_store.proofs.OutputLemmas.{output_is, row_next, shown}
use Rattle.bl_ctree_store.proofs.ticks.outputs.Goals as goal

pub loop-k-preserved : goal.loop-k-preserved
loop-k-preserved c =
    let w = setting_in c.args.w.now in
    let store = store_of c.args.frames.now in
    let within : c.loop-k.k < length c.args.into.now = omega (arith, c.len-k-end.ensures, c.loop-k-test.true) in
    let below : c.loop-k.k < length (outputs_row w store) = omega (arith, c.requires) in
    let here : slice_get (outputs_row w store) c.loop-k.k ≡ Some c.output_at.result =
    output_is (unit_at w 0) (slice_get store 0) c.loop-k.k below
    ∙ ap (λ inputs. Some (shown (now_there store 0 (inputs + c.loop-k.k)))) (sym c.entry_inputs-inputs.ensures)
    ∙ ap Some (sym c.output_at.ensures) in
    let set = c.set.ensures ∙ ap (slice_set c.loop-k.into c.loop-k.k) (to_z-of_z w128 c.output_at.result (search rules)) in
    record {
      row = row_next (outputs_row w store) c.args.into.now c.loop-k.into c.set.new.self c.loop-k.k c.output_at.result
          c.loop-k.invariant.row c.requires within here set;
      long = fill_long c.loop-k.into c.set.new.self c.loop-k.k (length (outputs_row w store)) c.output_at.result c.loop-k.invariant.long set;
    }
