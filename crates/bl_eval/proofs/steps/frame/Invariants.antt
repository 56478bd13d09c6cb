use Rattle.std.proofs.Common.{◌≡◌, ◌++◌, map, drop}
use Rattle.bl_eval.specs.Values.{zero_of}
use Rattle.bl_eval.proofs.steps.frame.Given as goal

abbrev pub invariant-loop-var : goal.invariant-loop-var
invariant-loop-var l =
    l.frame ++ map (λ var. zero_of l.structs var.ty) (drop l.var-index l.var-items) ≡ l.fn.arguments ++ map (λ var. zero_of l.structs var.ty) l.var-items
