use Rattle.std.proofs.Common.{◌≡◌, ◌≤◌, ◌+◌, drop, map}
use Rattle.bl_tree.specs.Reduce.{total}
use Rattle.bl_ctext_semantics.specs.Sizes.{size_of_type}
use Rattle.bl_ctext_semantics_laws.specs.Layout.{capped}
use Rattle.bl_crun_code_layout.specs.Views.{sizes_in}
use Rattle.bl_crun_code_layout.proofs.layout.locals_size.Given as goal

abbrev pub invariant-loop-local : goal.invariant-loop-local
invariant-loop-local l =
    (l.size ≤ 4294967295)
    × (capped (l.size + total (map (λ x. size_of_type (sizes_in l.sizes) x.ty) (drop l.local-index l.locals)))
    ≡ capped (total (map (λ x. size_of_type (sizes_in l.sizes) x.ty) l.locals)))
