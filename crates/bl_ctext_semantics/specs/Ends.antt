-- How the body of a function of a well-formed file can end.
use Rattle.std.specs.Prelude.{Option, Some, None, All}
use Rattle.bl_tree.specs.declared.scalar.Scalar.{Scalar}
use Rattle.bl_tree.specs.declared.c.CFunc.{CFunc}
use Rattle.bl_ctext_semantics.specs.Parts.{Parts}
use Rattle.bl_ctext_semantics.specs.Memory.{Memory}
use Rattle.bl_ctext_semantics.specs.Course.{End, breaks, goes_on, returns, traps}
use Rattle.bl_ctext_semantics.specs.Meaning.{Scope, block_c}
use Rattle.bl_ctext_semantics.specs.Faults.{WellFormed}

-- an end that a body with this result may have: a trap, a `return` or, without a result, the last statement; never `break`
abbrev pub EndsAs : Option Scalar → End → Type 0
EndsAs result traps = Unit {0}
EndsAs result (returns n) = Unit {0}
EndsAs None goes_on = Unit {0}
EndsAs (Some t) goes_on = ⊥
EndsAs result breaks = ⊥

-- the body of the function ends as its result says, wherever it runs
abbrev pub EndsInside : CFunc → Type 0
EndsInside f = (scope : Scope) (memory : Memory) → EndsAs f.result (block_c f.body scope memory).end

-- every function of a well-formed file ends as its result says, wherever it runs
abbrev pub AlwaysEnds : Parts → Type 0
AlwaysEnds file = WellFormed file → All EndsInside file.funcs
