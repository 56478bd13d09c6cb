-- How many counters, flags and marks the C of an activity has, by its statements.
use Rattle.std.specs.Prelude.{◌≡◌, ℕ, suc, ◌+◌, ◌*◌, ◌≤◌, List, [], ◌∷◌, length, Some, slice_get, if◌then◌else◌}
use Rattle.bl_tree.specs.declared.tree.StructDef.{StructDef}
use Rattle.bl_tree.specs.declared.tree.Unit.{Unit as UnitDef}
use Rattle.bl_tree.specs.Program.{IsWellTyped}
use Rattle.bl_limits_measures.specs.Runs.{activities_run}
use Rattle.bl_limits_measures.specs.Statements.{cell_statements_of}
use Rattle.bl_graph_nodes.specs.Plain.{plain_body}
use Rattle.bl_machine.specs.Layout.{width_in}
use Rattle.bl_machine.specs.Uses.{Slots}
use Rattle.bl_machine_pass.specs.Transitions.{Change, SetsMark, Transition, rules}
use Rattle.bl_emit_spec.specs.Activities.{is_flagged}

-- how many marks changes set
abbrev pub marks_in : List Change → ℕ
marks_in [] = 0
marks_in (SetsMark n ∷ rest) = suc (marks_in rest)
marks_in (change ∷ rest) = marks_in rest

-- the flag that a rule asks for, and the marks that it sets
abbrev pub rule_extras : Transition → ℕ
rule_extras rule = (if is_flagged rule.condition then 1 else 0) + marks_in rule.on_true

-- the flags that rules ask for, and the marks that they set, counted
abbrev pub extras : List Transition → ℕ
extras [] = 0
extras (rule ∷ rest) = rule_extras rule + extras rest

-- the counters of a body with their copies, its flags, marks and locals for `run`s are at most four for each of its statements
abbrev pub BodiesCost : List StructDef → List UnitDef → ℕ → Type 0
BodiesCost structs units entry =
    (k : ℕ) (unit : UnitDef) (slots : Slots) → IsWellTyped structs units entry → slice_get units k ≡ Some unit →
    2 * width_in (plain_body unit.body) + extras (rules slots (plain_body unit.body)) + length (activities_run unit) ≤ 4 * cell_statements_of unit
