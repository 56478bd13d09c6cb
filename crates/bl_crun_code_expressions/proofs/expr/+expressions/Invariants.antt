use Rattle.std.proofs.Common.{◌≡◌, ◌+◌, ◌++◌, drop, map}
use Rattle.bl_tree.specs.declared.c.CPlace.{out-CPlace}
use Rattle.bl_crun_code.specs.Code.{along_code, args_code}
use Rattle.bl_crun_code_layout.specs.Places.{term_of}
use Rattle.bl_crun_code_layout.specs.Views.{ground_of}
use Rattle.bl_crun_code_expressions.specs.Parts.{args_of, base_at}
use Rattle.bl_crun_code_expressions.proofs.expr.+expressions.Given as goal

abbrev pub invariant-place-loop-k : goal.invariant-place-loop-k
invariant-place-loop-k l =
    l.code ≡ along_code l.mode.late l.mode.depth (base_at l.k l.mode.late l.mode.depth l.walk.start)
    (map (term_of (ground_of l.here) (out-CPlace l.at).steps) (drop l.k l.walk.terms.items)) ++ l.fn.code

abbrev pub invariant-args_written-loop-k : goal.invariant-args_written-loop-k
invariant-args_written-loop-k l =
    l.code ≡ args_code l.mode.late (l.k + l.mode.depth) (args_of (ground_of l.here) (drop l.k l.args)) ++ l.fn.code
