-- Rows that fit columns fit before the variables that the body of the entry declares.
use Rattle.std.proofs.Common.{◌≡◌, ℤ, ◌+◌, ◌≤◌, true, ◌&&◌, List, [], ◌∷◌, length, arith}
use Rattle.std.proofs.lemmas.Bool.{leb-true}
use Rattle.std.specs.List.{list_all}
use Rattle.std.specs.Prelude.{nat_le}
use Rattle.bl_tree.proofs.Basics.{and_first, and_second}
use Rattle.bl_tree.specs.declared.tree.Unit.{Unit as UnitDef}
use Rattle.bl_tree.specs.Ports.{input_columns, row_fits}
use Rattle.bl_tree.specs.Program.{names_of, parameters_of, roles_stand}
use Rattle.bl_tree.specs.Typing.{inputs_of}
use Rattle.bl_tree.specs.Words.{are_distinct, is_name}
use Rattle.bl_machine_pass_laws_execution.specs.Fresh.Asks.{InputsFit}
use Rattle.bl_machine_pass_laws_execution.specs.Runs as runs
use Rattle.bl_emit_spec_laws_files.specs.Files.{RowsSuffice}
use Rattle.bl_emit_spec_laws_files.proofs.OnFiles.Lists.{row_many, taken_length}
use Rattle.bl_eval.proofs.UnitFits.{unit_at}

module _ (unit : UnitDef) (standing : roles_stand unit ≡ true) where
  within : unit.inputs + unit.outputs ≤ length unit.vars
  within = leb-true (unit.inputs + unit.outputs) (length unit.vars) (and_first (nat_le (unit.inputs + unit.outputs) (length unit.vars)) _ standing)

  one_fits : (row : List ℤ) → row_fits (input_columns unit) row ≡ true → InputsFit (length row) unit
  one_fits row fit =
      let many = row_many (inputs_of unit) row fit in
      let all = within in
      let taken = taken_length unit.inputs unit.vars (omega (arith, all)) in
      (omega (arith, many, taken), all)

  all_fit : (rows : List (List ℤ)) → list_all (row_fits (input_columns unit)) rows ≡ true → runs.RowsFit unit rows
  all_fit [] fit = tt
  all_fit (row ∷ rows) fit = (
    one_fits row (and_first (row_fits (input_columns unit) row) (list_all (row_fits (input_columns unit)) rows) fit),
    all_fit rows (and_second (row_fits (input_columns unit) row) (list_all (row_fits (input_columns unit)) rows) fit),
  )

pub rows_suffice : RowsSuffice
rows_suffice structs units entry unit rows keeps there fit =
    all_fit unit
    (and_first (roles_stand unit) (list_all is_name (names_of unit.vars) && are_distinct (names_of (parameters_of unit)))
    (and_first _ _ (unit_at structs [] units entry unit keeps.units_stand there))) rows fit
