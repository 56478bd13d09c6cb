use Rattle.std.proofs.Common.{◌≡◌, ◌++◌, drop, map}
use Rattle.std.specs.Prelude.{option_map}
use Rattle.bl_tree.specs.Apart.{roots_in}
use Rattle.bl_tree.specs.Reduce.{joined}
use Rattle.bl_ctree.specs.Actions.{values_there}
use Rattle.bl_ctree_store.specs.Glimpse.{Glimpses}
use Rattle.bl_ctree_store.specs.Seen.{seen_by, setting_in, store_of}
use Rattle.bl_ctree_store.proofs.perform.values_there.Given as goal

abbrev pub invariant-loop-e : goal.invariant-loop-e
invariant-loop-e l = record {
  seen : Glimpses (joined (map roots_in l.inputs)) (setting_in l.w) (store_of l.frames) l.i (option_map seen_by l.seen);
  values :
      option_map (λ rest. l.values ++ rest) (values_there (setting_in l.w) (store_of l.frames) l.i (drop l.e-index l.inputs))
      ≡ values_there (setting_in l.w) (store_of l.frames) l.i l.inputs;
}
