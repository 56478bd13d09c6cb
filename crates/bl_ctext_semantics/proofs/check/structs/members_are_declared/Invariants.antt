use Rattle.std.proofs.Common.{◌≡◌, ◌&&◌, drop}
use Rattle.std.specs.List.{list_all}
use Rattle.bl_ctext_semantics.specs.inner.Checked.{checked_structs}
use Rattle.bl_ctext_semantics.specs.Faults.{is_declared}
use Rattle.bl_ctext_semantics.proofs.check.structs.members_are_declared.Given as goal

abbrev pub invariant-loop-member : goal.invariant-loop-member
invariant-loop-member l =
    (l.declared && list_all (λ m. is_declared (checked_structs l.structs) m.ty) (drop l.member-index l.members))
    ≡ list_all (λ m. is_declared (checked_structs l.structs) m.ty) l.members
