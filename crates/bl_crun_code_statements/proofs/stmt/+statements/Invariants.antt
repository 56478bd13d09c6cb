use Rattle.std.proofs.Common.{◌≡◌, ◌≤◌, ◌-◌, ◌++◌, drop, length}
use Rattle.bl_crun_code.specs.Code.{code_of_block}
use Rattle.bl_crun_code_layout.specs.Views.{ground_of}
use Rattle.bl_crun_code_statements.proofs.stmt.+statements.Given as goal

abbrev pub invariant-statements-loop-k : goal.invariant-statements-loop-k
invariant-statements-loop-k l =
    (l.end ≤ length l.fn.code)
    × (l.code ≡ code_of_block (drop l.k l.block) (ground_of l.here) l.depth (length l.fn.code - l.end) ++ l.fn.code)
