use Rattle.std.proofs.Common.{◌≡◌, ℕ, List, drop, map}
use Rattle.std.specs.Option.{option_or}
use Rattle.bl_ctext_semantics.specs.inner.Checked.{variables_in_map}
use Rattle.bl_ctext_semantics.specs.Faults.{param_variable}
use Rattle.bl_ctext_semantics.specs.Tables.{found}
use Rattle.bl_ctext_semantics.proofs.check.variables.add_params.Given as goal

abbrev pub invariant-loop-param : goal.invariant-loop-param
invariant-loop-param l =
    (asked : List ℕ) → option_or (variables_in_map l.variables asked) (found asked (map param_variable (drop l.param-index l.params)))
    ≡ option_or (variables_in_map l.initial.variables asked) (found asked (map param_variable l.params))
