-- What is written of a program is what the lists of rules tell.
use Rattle.std.proofs.Common.{◌≡◌, Bool, List, [], ◌∷◌, ◌++◌, refl, ap, ◌∙◌, slice_get, drop}
use Rattle.std.specs.Prelude.{Option, Some, None, if◌then◌else◌}
use Rattle.bl_tree.specs.declared.program.Program.{Program}
use Rattle.bl_tree.specs.declared.tree.StructDef.{StructDef}
use Rattle.bl_tree.specs.declared.tree.Unit.{Unit as UnitDef}
use Rattle.bl_tree.specs.Typing.{is_activity}
use Rattle.bl_machine.specs.declared.machine.Activity.{Activity as InMachine}
use Rattle.bl_emit_spec.specs.Lent.{shown_units}
use Rattle.bl_emit_spec.specs.Programs.{ProgramParts, file_of, needed_units, parts_from, parts_of_function, parts_of_next, parts_then, where_needed}
use Rattle.bl_emit_spec.specs.Programs.{written_at}
use Rattle.bl_emit.specs.Programs.{next_told, unit_told, units_told, written_told_at}
use Rattle.bl_emit_laws.specs.Told.{ActivitiesAreComputed, WrittenIsComputed}

module _ (law : ActivitiesAreComputed) (structs : List StructDef) where
  next_is : (earlier : List UnitDef) (remember : List Bool) (unit : UnitDef) (machine : List InMachine) →
      next_told structs earlier remember unit machine ≡ parts_of_next structs earlier remember unit machine
  next_is earlier remember unit [] = refl
  next_is earlier remember unit (one ∷ machine) = law structs earlier remember unit one

  abbrev parts_for : List UnitDef → List Bool → UnitDef → List InMachine → ProgramParts
  parts_for earlier remember unit machine =
      if is_activity unit.kind then parts_of_next structs earlier remember unit machine else parts_of_function structs earlier unit

  unit_is : (earlier : List UnitDef) (remember : List Bool) (unit : UnitDef) (machine : List InMachine) →
      unit_told structs earlier remember unit machine ≡ parts_for earlier remember unit machine
  unit_is earlier remember unit machine =
      ap (λ (parts : ProgramParts). if is_activity unit.kind then parts else parts_of_function structs earlier unit) (next_is earlier remember unit machine)

  units_are : (earlier : List UnitDef) (remember : List Bool) (units : List UnitDef) (needed : List Bool) (machine : List InMachine) →
      units_told structs earlier remember units needed machine ≡ parts_from structs earlier remember units needed machine
  units_are earlier remember [] needed machine = refl
  units_are earlier remember (unit ∷ units) [] machine = refl
  units_are earlier remember (unit ∷ units) (test ∷ needed) machine =
      let here = parts_for earlier remember unit machine in
      let left = if is_activity unit.kind then drop 1 machine else machine in
      ap (λ (here : ProgramParts). parts_then (where_needed test here)
      (units_told structs (earlier ++ unit ∷ []) (remember ++ here.remember) units needed left)) (unit_is earlier remember unit machine)
      ∙ ap (parts_then (where_needed test here)) (units_are (earlier ++ unit ∷ []) (remember ++ here.remember) units needed left)

told_at : ActivitiesAreComputed → (program : Program) (machine : List InMachine) (o : Option UnitDef) →
    written_told_at program machine o ≡ written_at program machine o
told_at law program machine None = refl
told_at law program machine (Some unit) =
    let units : List UnitDef = shown_units program.units program.entry in
    ap (λ (parts : ProgramParts). file_of program.structs units program.entry parts unit)
    (units_are law program.structs [] [] units (needed_units units program.entry) machine)

pub written_is_told : ActivitiesAreComputed → WrittenIsComputed
written_is_told law = λ program machine. told_at law program machine (slice_get program.units program.entry)
