use Rattle.std.proofs.Common.{◌≡◌, ℕ, List, drop, map}
use Rattle.std.specs.Option.{option_or}
use Rattle.bl_ctext_semantics.specs.inner.Checked.{variables_in_map}
use Rattle.bl_ctext_semantics.specs.Faults.{local_variable}
use Rattle.bl_ctext_semantics.specs.Tables.{found}
use Rattle.bl_ctext_semantics.proofs.check.variables.add_locals.Given as goal

abbrev pub invariant-loop-local : goal.invariant-loop-local
invariant-loop-local l =
    (asked : List ℕ) → option_or (variables_in_map l.variables asked) (found asked (map local_variable (drop l.local-index l.locals)))
    ≡ option_or (variables_in_map l.initial.variables asked) (found asked (map local_variable l.locals))
