-- 64 bits count what stands in small units.
use Rattle.std.proofs.Common.{ℕ, ◌≤◌, ◌^◌, List, length, arith}
use Rattle.bl_tree.specs.declared.tree.Unit.{Unit as UnitDef}
use Rattle.bl_emit_spec_laws_simulation.specs.Compiled.{AreCountable}
use Rattle.bl_rules_laws_sizes.specs.Small.{AreSmall}

variables_few : (n : ℕ) → n ≤ 2 ^ 62 → n ≤ 2 ^ 64
variables_few n few = omega (arith, few)

pub all_countable : (units : List UnitDef) → AreSmall units → AreCountable units
all_countable units small k unit there =
    let one = small k unit there in record { variables = variables_few (length unit.vars) one.variables; statements = one.statements }
