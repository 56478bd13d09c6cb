use Rattle.std.proofs.Common.{◌≡◌, drop, map}
use Rattle.bl_tree.specs.Reduce.{joined}
use Rattle.bl_emit_structs.specs.Structs.{arrays_of}
use Rattle.bl_emit_structs.specs.inner.Added.{all_added}
use Rattle.bl_emit_structs.proofs.program.add_variables.Given as goal

abbrev pub invariant-loop-var : goal.invariant-loop-var
invariant-loop-var l =
    all_added l.collected (joined (map (λ var. arrays_of l.structs var.ty) (drop l.var-index l.vars)))
    ≡ all_added l.initial.collected (joined (map (λ var. arrays_of l.structs var.ty) l.vars))
