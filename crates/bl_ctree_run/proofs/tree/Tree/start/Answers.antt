use Rattle.std.proofs.Common.{◌≡◌, true, [], refl, ap, sym, ◌∙◌, subst}
use Rattle.bl_tree.specs.Program.{units_stand_after}
use Rattle.bl_ctree.specs.Instances.{Setting}
use Rattle.bl_ctree.specs.Store.{Store}
use Rattle.bl_ctree_store.specs.Seen.{setting_in, store_of}
use Rattle.bl_ctree_run.specs.Outputs.{HasOutputs}
use Rattle.bl_ctree_run.proofs.OutputLemmas.{outputs_start}
use Rattle.bl_ctree_run.proofs.tree.Tree.start.Goals as goal

pub invariant_of-result : goal.invariant_of-result
invariant_of-result c =
    let w = setting_in c.in_ok-setting.setting in
    let stands : units_stand_after w.structs [] w.units ≡ true =
    subst (λ (w : Setting). units_stand_after w.structs [] w.units ≡ true) (sym c.in_ok-setting.ensures) c.args.program.now.well_typed.units_stand
    in
    record {
      lists = refl;
      outputs = subst (λ (store : Store). HasOutputs w store)
          (sym (ap store_of c.into_vec-frames.ensures ∙ c.in_ok-first_frames.ensures)) (outputs_start w stands);
    }
