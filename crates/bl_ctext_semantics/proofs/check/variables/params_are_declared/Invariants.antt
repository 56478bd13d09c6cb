use Rattle.std.proofs.Common.{◌≡◌, ◌&&◌, drop}
use Rattle.std.specs.List.{list_all}
use Rattle.bl_ctext_semantics.specs.inner.Checked.{checked_structs}
use Rattle.bl_ctext_semantics.specs.Faults.{is_declared}
use Rattle.bl_ctext_semantics.proofs.check.variables.params_are_declared.Given as goal

abbrev pub invariant-loop-param : goal.invariant-loop-param
invariant-loop-param l =
    (l.declared && list_all (λ p. is_declared (checked_structs l.structs) p.ty) (drop l.param-index l.params))
    ≡ list_all (λ p. is_declared (checked_structs l.structs) p.ty) l.params
