use Rattle.std.proofs.Common.{◌≡◌, ℕ, List, drop, map}
use Rattle.std.specs.Option.{option_or}
use Rattle.bl_ctext_semantics.specs.Tables.{found}
use Rattle.bl_ctext_semantics_laws.specs.Layout.{layout_of}
use Rattle.bl_crun_code_layout.specs.Views.{sizes_in, structs_in}
use Rattle.bl_crun_code_layout.proofs.layout.struct_layouts.Given as goal

abbrev pub invariant-loop-of : goal.invariant-loop-of
invariant-loop-of l = (asked : List ℕ) →
    option_or (structs_in l.structs asked) (found asked (map (layout_of (sizes_in l.sizes)) (drop l.of-index l.list)))
    ≡ found asked (map (layout_of (sizes_in l.sizes)) l.list)
