-- The C file of a whole program has a spelling.
use Rattle.std.proofs.Common.{◌≡◌, ℕ, zero, suc, Bool, true, false}
use Rattle.std.proofs.Common.{◌&&◌, List, [], ◌∷◌, ◌++◌, map, take, drop}
use Rattle.std.proofs.Common.{length, Some, refl, sym, ap, ◌∙◌, subst}
use Rattle.std.proofs.lemmas.List.{append_assoc}
use Rattle.std.proofs.lemmas.List.Folds.{list_all-append}
use Rattle.std.specs.List.{list_all}
use Rattle.std.specs.Prelude.{slice_get, unwrap_or, if◌then◌else◌}
use Rattle.std.proofs.lemmas.Bool.{and_from}
use Rattle.bl_tree.proofs.Basics.{all_append, and_first, and_second, get_seam, take_front}
use Rattle.bl_tree.specs.declared.c.CFunc.{CFunc}
use Rattle.bl_tree.specs.declared.c.CStruct.{CStruct}
use Rattle.bl_tree.specs.declared.program.Program.{Program}
use Rattle.bl_tree.specs.declared.tree.StructDef.{StructDef}
use Rattle.bl_tree.specs.declared.tree.Unit.{Unit as UnitDef}
use Rattle.bl_tree.specs.declared.tree.Var.{Var}
use Rattle.bl_tree.specs.Program.{IsWellTyped, names_of}
use Rattle.bl_tree.specs.Types.{type_stands}
use Rattle.bl_tree.specs.Typing.{is_activity}
use Rattle.bl_tree.specs.Words as words
use Rattle.bl_ctext.specs.Spellable.{has_any, is_spellable, spells_struct, spells_type}
use Rattle.bl_ctext.specs.inner.Fits.{func_fits}
use Rattle.bl_ctext.proofs.Fitting.{file-spells}
use Rattle.bl_machine.specs.declared.machine.Activity.{Activity as InMachine}
use Rattle.bl_emit_acts.specs.Types.{c_type}
use Rattle.bl_emit_acts_laws_wellformed.proofs.OnFormed.Units.{unit_at}
use Rattle.bl_emit_functions.specs.Functions.{function_code, memory_struct}
use Rattle.bl_emit_functions_laws_wellformed.specs.Formed.{IsNumbered}
use Rattle.bl_emit_functions_laws_wellformed.specs.Spelled.{FunctionsFit, MemoriesSpelled, StructsSpelled, TypesSpelled}
use Rattle.bl_emit_functions_laws_wellformed.proofs.OnSpelled.Functions.{named_at}
use Rattle.bl_emit_structs.specs.Structs.{structs_of}
use Rattle.bl_emit_spec.specs.Activities.{activity_function, frame_struct, remembered_struct}
use Rattle.bl_emit_spec.proofs.LentLemmas.{lent_all, lent_names}
use Rattle.bl_emit_spec.specs.Lent.{lent_unit}
use Rattle.bl_emit_spec.specs.Programs.{ProgramParts, activity_of, file_of, init_function, interface_structs, needed_units}
use Rattle.bl_emit_spec.specs.Programs.{parts_from, parts_of_function, parts_of_next, tick_function, where_needed}
use Rattle.bl_emit_spec_laws_wellformed.specs.Spelled.{ActivitiesFit, FramesSpelled, RememberedSpelled}
use Rattle.bl_emit_spec_laws_wellformed.specs.Texts.{AllWrite, FilesSpelled, NextWrites, UnitWrites, Where}
use Rattle.bl_emit_spec_laws_wellformed.proofs.OnTexts.Interface.{init-fits, interface-spelled, tick-fits}

-- ---- lists

any_behind : {A : Type 0} (xs ys : List A) → has_any ys ≡ true → has_any (xs ++ ys) ≡ true
any_behind [] ys h = h
any_behind (x ∷ xs) ys h = refl

pub taken_all : {A : Type 0} (test : A → Bool) (n : ℕ) (xs : List A) → list_all test xs ≡ true → list_all test (take n xs) ≡ true
taken_all test zero xs all = refl
taken_all test (suc n) [] all = refl
taken_all test (suc n) (x ∷ xs) all =
    and_from (test x) (list_all test (take n xs)) (and_first (test x) (list_all test xs) all)
    (taken_all test n xs (and_second (test x) (list_all test xs) all))

pub dropped_all : {A : Type 0} (test : A → Bool) (n : ℕ) (xs : List A) → list_all test xs ≡ true → list_all test (drop n xs) ≡ true
dropped_all test zero xs all = all
dropped_all test (suc n) [] all = refl
dropped_all test (suc n) (x ∷ xs) all = dropped_all test n xs (and_second (test x) (list_all test xs) all)

-- ---- parts

-- what is written can be spelled
record Spelled (parts : ProgramParts) : Type 0 where
  structs : list_all spells_struct parts.structs ≡ true
  funcs : list_all (func_fits 2000) parts.funcs ≡ true

nothing_spelled : (remember : List Bool) → Spelled (record { structs = []; funcs = []; remember = remember })
nothing_spelled remember = record { structs = refl; funcs = refl }

module _ (structs : List StructDef) (units : List UnitDef) (entry : ℕ) (keeps : IsWellTyped structs units entry)
    (functions : FunctionsFit structs units entry) (memories : MemoriesSpelled structs units entry) (activities : ActivitiesFit structs units entry)
    (frames : FramesSpelled structs units entry) (remembered : RememberedSpelled structs units entry) where
  module _ (earlier : List UnitDef) (unit : UnitDef) (rest : List UnitDef) (whole : earlier ++ unit ∷ rest ≡ units) where
    there : slice_get units (length earlier) ≡ Some unit
    there = ap (λ units. slice_get units (length earlier)) (sym whole) ∙ get_seam earlier unit rest

    before : take (length earlier) units ≡ earlier
    before = ap (take (length earlier)) (sym whole) ∙ take_front earlier (unit ∷ rest)

    function_spelled : IsNumbered structs earlier unit → Spelled (parts_of_function structs earlier unit)
    function_spelled numbered =
        let numbers : IsNumbered structs (take (length earlier) units) unit =
        subst (λ earlier. IsNumbered structs earlier unit) (sym before) numbered in
        record {
          structs = subst (λ earlier. list_all spells_struct (memory_struct structs earlier unit) ≡ true) before
              (memories (length earlier) unit keeps there numbers.variables);
          funcs = and_from (func_fits 2000 (function_code structs earlier unit)) true
              (subst (λ earlier. func_fits 2000 (function_code structs earlier unit) ≡ true) before
              (functions (length earlier) unit keeps there numbers)) refl;
        }

    next_spelled : (remember : List Bool) (machine : List InMachine) → NextWrites structs units earlier remember unit machine →
        Spelled (parts_of_next structs earlier remember unit machine)
    next_spelled remember [] writes = record { structs = refl; funcs = refl }
    next_spelled remember (one ∷ machine) writes =
        let a = activity_of structs earlier remember unit one in record {
          structs = and_from (spells_struct (frame_struct a)) (list_all spells_struct (remembered_struct a))
              (frames (length earlier) a keeps writes.can writes.rests) (remembered (length earlier) a keeps writes.can);
          funcs = and_from (func_fits 2000 (activity_function a)) true (activities (length earlier) a keeps writes.can) refl;
        }

    unit_spelled : (activity : Bool) (remember : List Bool) (machine : List InMachine) →
        UnitWrites activity structs units earlier remember unit machine →
        Spelled (if activity then parts_of_next structs earlier remember unit machine else parts_of_function structs earlier unit)
    unit_spelled true remember machine writes = next_spelled remember machine writes
    unit_spelled false remember machine writes = function_spelled writes

    needed_spelled : (test activity : Bool) (remember : List Bool) (machine : List InMachine) →
        Where test (UnitWrites activity structs units earlier remember unit machine) →
        Spelled (where_needed test (if activity then parts_of_next structs earlier remember unit machine else parts_of_function structs earlier unit))
    needed_spelled true activity remember machine writes = unit_spelled activity remember machine writes
    needed_spelled false activity remember machine writes = nothing_spelled _

  parts_spelled : (earlier : List UnitDef) (remember : List Bool) (rest : List UnitDef) (needed : List Bool) (machine : List InMachine) →
      earlier ++ rest ≡ units → AllWrite structs units earlier remember rest needed machine →
      Spelled (parts_from structs earlier remember rest needed machine)
  parts_spelled earlier remember [] needed machine whole all = record { structs = refl; funcs = refl }
  parts_spelled earlier remember (unit ∷ rest) [] machine whole all = record { structs = refl; funcs = refl }
  parts_spelled earlier remember (unit ∷ rest) (test ∷ needed) machine whole all =
      let activity : Bool = is_activity unit.kind in
      let here : ProgramParts = if activity then parts_of_next structs earlier remember unit machine else parts_of_function structs earlier unit in
      let own = needed_spelled earlier unit rest whole test activity remember machine all.0 in
      let later = parts_spelled (earlier ++ unit ∷ []) (remember ++ here.remember) rest needed (if activity then drop 1 machine else machine)
      (append_assoc earlier (unit ∷ []) rest ∙ whole) all.1 in
      record {
        structs = all_append spells_struct (where_needed test here).structs
            (parts_from structs (earlier ++ unit ∷ []) (remember ++ here.remember) rest needed
            (if activity then drop 1 machine else machine)).structs
            own.structs later.structs;
        funcs = all_append (func_fits 2000) (where_needed test here).funcs
            (parts_from structs (earlier ++ unit ∷ []) (remember ++ here.remember) rest needed (if activity then drop 1 machine else machine)).funcs
            own.funcs later.funcs;
      }

-- ---- the whole

-- types that stand, and names, of variables
both_all : (structs : List StructDef) (vars : List Var) → list_all (λ (var : Var). type_stands (length structs) var.ty) vars ≡ true →
    list_all words.is_name (names_of vars) ≡ true →
    list_all (λ (var : Var). type_stands (length structs) var.ty && words.is_name var.name) vars ≡ true
both_all structs [] types names = refl
both_all structs (var ∷ vars) types names =
    and_from (type_stands (length structs) var.ty && words.is_name var.name) _
    (and_from (type_stands (length structs) var.ty) (words.is_name var.name)
    (and_first (type_stands (length structs) var.ty) (list_all (λ (var : Var). type_stands (length structs) var.ty) vars) types)
    (and_first (words.is_name var.name) (list_all words.is_name (names_of vars)) names))
    (both_all structs vars
    (and_second (type_stands (length structs) var.ty) (list_all (λ (var : Var). type_stands (length structs) var.ty) vars) types)
    (and_second (words.is_name var.name) (list_all words.is_name (names_of vars)) names))

module _ (program : Program) (keeps : IsWellTyped program.structs program.units program.entry)
    (functions : FunctionsFit program.structs program.units program.entry) (memories : MemoriesSpelled program.structs program.units program.entry)
    (structs_spelled : StructsSpelled program.structs program.units program.entry) (types : TypesSpelled program.structs program.units program.entry)
    (activities : ActivitiesFit program.structs program.units program.entry) (frames : FramesSpelled program.structs program.units program.entry)
    (remembered : RememberedSpelled program.structs program.units program.entry) where
  unit_names : list_all words.is_name (map (λ (unit : UnitDef). unit.name) program.units) ≡ true
  unit_names =
      and_second (list_all words.is_name (map (λ (def : StructDef). def.name) program.structs))
      (list_all words.is_name (map (λ (unit : UnitDef). unit.name) program.units))
      (sym (list_all-append words.is_name (map (λ (def : StructDef). def.name) program.structs) (map (λ (unit : UnitDef). unit.name) program.units))
      ∙ keeps.named)

  file_spelled : (parts : ProgramParts) → Spelled parts → (unit : UnitDef) → slice_get program.units program.entry ≡ Some (lent_unit unit) →
      let file = file_of program.structs program.units program.entry parts unit in is_spellable file.structs file.funcs ≡ true
  file_spelled parts spelled unit is =
      let remembers : Bool = unwrap_or (slice_get parts.remember program.entry) false in
      let stand = unit_at program.structs program.units program.entry keeps program.entry (lent_unit unit) is in
      let types_stand : list_all (λ (var : Var). type_stands (length program.structs) var.ty) unit.vars ≡ true =
      sym (lent_all (λ (var : Var). type_stands (length program.structs) var.ty) (λ var. refl) unit.vars) ∙ and_first _ _ (and_second _ _ stand) in
      let names : list_all words.is_name (names_of unit.vars) ≡ true =
      ap (list_all words.is_name) (sym (lent_names unit.vars)) ∙ and_first _ _ (and_second _ _ (and_first _ _ stand)) in
      let all = both_all program.structs unit.vars types_stand names in
      let test : Var → Bool = λ var. type_stands (length program.structs) var.ty && words.is_name var.name in
      let ins = taken_all test unit.inputs unit.vars all in
      let outs = taken_all test unit.outputs (drop unit.inputs unit.vars) (dropped_all test unit.inputs unit.vars all) in
      let named : words.is_name unit.name ≡ true = named_at program.units program.entry (lent_unit unit) unit_names is in
      let typed : (var : Var) → type_stands (length program.structs) var.ty ≡ true → spells_type (c_type program.structs var.ty) ≡ true =
      λ var h. types var.ty keeps h in
      let interface : List CStruct = interface_structs program.structs unit remembers in
      let last : List CFunc = init_function ∷ tick_function unit remembers ∷ [] in
      file-spells (structs_of program.structs program.units ++ (parts.structs ++ interface)) (parts.funcs ++ last)
      (any_behind (structs_of program.structs program.units) (parts.structs ++ interface) (any_behind parts.structs interface refl)) (any_behind parts.funcs last refl)
      (all_append spells_struct (structs_of program.structs program.units) (parts.structs ++ interface) (structs_spelled keeps)
      (all_append spells_struct parts.structs interface spelled.structs (interface-spelled program.structs typed unit remembers named ins outs)))
      (all_append (func_fits 2000) parts.funcs last spelled.funcs
      (and_from (func_fits 2000 init_function) (func_fits 2000 (tick_function unit remembers) && true)
      (init-fits program.structs typed unit remembers named ins outs)
      (and_from (func_fits 2000 (tick_function unit remembers)) true (tick-fits program.structs typed unit remembers named ins outs) refl)))

pub files : (program : Program) → FunctionsFit program.structs program.units program.entry →
    MemoriesSpelled program.structs program.units program.entry →
    StructsSpelled program.structs program.units program.entry → TypesSpelled program.structs program.units program.entry →
    ActivitiesFit program.structs program.units program.entry → FramesSpelled program.structs program.units program.entry →
    RememberedSpelled program.structs program.units program.entry → FilesSpelled program
files program functions memories structs_spelled types activities frames remembered machine unit keeps there all =
    file_spelled program keeps functions memories structs_spelled types activities frames remembered
    (parts_from program.structs [] [] program.units (needed_units program.units program.entry) machine)
    (parts_spelled program.structs program.units program.entry keeps functions memories activities frames remembered [] [] program.units
    (needed_units program.units program.entry) machine refl all)
    unit there
