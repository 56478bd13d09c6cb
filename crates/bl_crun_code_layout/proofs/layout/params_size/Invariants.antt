use Rattle.std.proofs.Common.{◌≡◌, ◌≤◌, ◌+◌, drop, map}
use Rattle.bl_tree.specs.Reduce.{total}
use Rattle.bl_ctext_semantics.specs.Sizes.{size_of_param}
use Rattle.bl_ctext_semantics_laws.specs.Layout.{capped}
use Rattle.bl_crun_code_layout.specs.Views.{sizes_in}
use Rattle.bl_crun_code_layout.proofs.layout.params_size.Given as goal

abbrev pub invariant-loop-param : goal.invariant-loop-param
invariant-loop-param l =
    (l.size ≤ 4294967295)
    × (capped (l.size + total (map (size_of_param (sizes_in l.sizes)) (drop l.param-index l.params)))
    ≡ capped (total (map (size_of_param (sizes_in l.sizes)) l.params)))
