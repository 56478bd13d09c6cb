-- No two of the structs of needed units have one name.
use Rattle.std.proofs.Common.{◌≡◌, Bool, true, false, not, ◌&&◌, ◌||◌, List, [], ◌∷◌, ◌++◌, map, drop}
use Rattle.std.proofs.Common.{refl, sym, ap, subst}
use Rattle.std.proofs.lemmas.List.{map-append}
use Rattle.std.specs.Prelude.{bytes_eq, if◌then◌else◌}
use Rattle.std.proofs.lemmas.Bool.{and_from, or_from}
use Rattle.bl_tree.proofs.Basics.{and_first, and_second}
use Rattle.bl_tree.specs.declared.c.CMember.{CMember}
use Rattle.bl_tree.specs.declared.c.CStruct.{CStruct}
use Rattle.bl_tree.specs.declared.text.Text.{Text}
use Rattle.bl_tree.specs.declared.tree.StructDef.{StructDef}
use Rattle.bl_tree.specs.declared.tree.Unit.{Unit as UnitDef}
use Rattle.bl_tree.specs.Typing.{is_activity}
use Rattle.bl_tree.specs.Words.{are_distinct, is_among}
use Rattle.bl_machine.specs.declared.machine.Activity.{Activity as InMachine}
use Rattle.bl_emit_structs_laws_wellformed.specs.Names.{names_of}
use Rattle.bl_emit_functions.specs.Functions.{members_of, memory_name, struct_of}
use Rattle.bl_emit_spec.specs.Activities.{Activity, frame_struct, remembered}
use Rattle.bl_emit_spec.specs.Names.{frame_name}
use Rattle.bl_emit_spec.specs.Programs.{ProgramParts, activity_of, parts_from, parts_of_function, parts_of_next, where_needed}
use Rattle.bl_emit_functions_laws_wellformed.proofs.OnFiles.Memories.{neither}

-- the names of the structs of a unit: some of those for where it rests and for what it remembers
pub record OwnNames (name : Text) (own : List Text) : Type 0 where
  pub memory : Bool
  pub frame : Bool
  pub is : own ≡ (if frame then frame_name name ∷ [] else []) ++ (if memory then memory_name name ∷ [] else [])

memory_named : (name : Text) (members : List CMember) → OwnNames name (names_of (struct_of name members))
memory_named name [] = record { memory = false; frame = false; is = refl }
memory_named name (m ∷ rest) = record { memory = true; frame = false; is = refl }

framed : (a : Activity) (members : List CMember) → OwnNames a.unit.name (names_of (frame_struct a ∷ struct_of a.unit.name members))
framed a [] = record { memory = false; frame = true; is = refl }
framed a (m ∷ rest) = record { memory = true; frame = true; is = refl }

-- ---- other names

-- a name is none of these, for neither purpose
pub record Other (name : Text) (names : List Text) : Type 0 where
  pub memory : is_among (memory_name name) names ≡ false
  pub frame : is_among (frame_name name) names ≡ false

other_by : (name own : Text) (frame memory : Bool) (later : List Text) → bytes_eq name own ≡ false → Other name later →
    Other name (((if frame then frame_name own ∷ [] else []) ++ (if memory then memory_name own ∷ [] else [])) ++ later)
other_by name own false false later apart other = other
other_by name own false true later apart other = record {
  memory = or_from (bytes_eq name own) (is_among (memory_name name) later) apart other.memory;
  frame = other.frame;
}
other_by name own true false later apart other = record {
  memory = other.memory;
  frame = or_from (bytes_eq name own) (is_among (frame_name name) later) apart other.frame;
}
other_by name own true true later apart other = record {
  memory = or_from (bytes_eq name own) (is_among (memory_name name) later) apart other.memory;
  frame = or_from (bytes_eq name own) (is_among (frame_name name) later) apart other.frame;
}

differ_by : (own : Text) (frame memory : Bool) (later : List Text) → Other own later → are_distinct later ≡ true →
    are_distinct (((if frame then frame_name own ∷ [] else []) ++ (if memory then memory_name own ∷ [] else [])) ++ later) ≡ true
differ_by own false false later other differ = differ
differ_by own false true later other differ =
    and_from (not (is_among (memory_name own) later)) (are_distinct later) (ap not other.memory) differ
differ_by own true false later other differ =
    and_from (not (is_among (frame_name own) later)) (are_distinct later) (ap not other.frame) differ
differ_by own true true later other differ =
    and_from (not (is_among (frame_name own) (memory_name own ∷ later))) (not (is_among (memory_name own) later) && are_distinct later)
    (ap not other.frame)
    (and_from (not (is_among (memory_name own) later)) (are_distinct later) (ap not other.memory) differ)

-- ---- parts

module _ (structs : List StructDef) where
  abbrev here : Bool → List UnitDef → List Bool → UnitDef → List InMachine → ProgramParts
  here active earlier remember unit machine =
      if active then parts_of_next structs earlier remember unit machine else parts_of_function structs earlier unit

  own_names : (test active : Bool) (earlier : List UnitDef) (remember : List Bool) (unit : UnitDef) (machine : List InMachine) →
      OwnNames unit.name (names_of (where_needed test (here active earlier remember unit machine)).structs)
  own_names false active earlier remember unit machine = record { memory = false; frame = false; is = refl }
  own_names true false earlier remember unit machine = memory_named unit.name (members_of structs earlier unit)
  own_names true true earlier remember unit [] = record { memory = false; frame = false; is = refl }
  own_names true true earlier remember unit (one ∷ machine) =
      framed (activity_of structs earlier remember unit one) (remembered (activity_of structs earlier remember unit one))

  abbrev unit_names : List UnitDef → List Text
  unit_names units = map (λ (unit : UnitDef). unit.name) units

  pub none_among : (name : Text) (earlier : List UnitDef) (remember : List Bool) (units : List UnitDef) (needed : List Bool)
      (machine : List InMachine) → not (is_among name (unit_names units)) ≡ true →
      Other name (names_of (parts_from structs earlier remember units needed machine).structs)
  none_among name earlier remember [] needed machine none = record { memory = refl; frame = refl }
  none_among name earlier remember (unit ∷ units) [] machine none = record { memory = refl; frame = refl }
  none_among name earlier remember (unit ∷ units) (test ∷ needed) machine none =
      let active : Bool = is_activity unit.kind in
      let own = own_names test active earlier remember unit machine in
      let apart = neither (bytes_eq name unit.name) (is_among name (unit_names units)) none in
      let behind : ProgramParts = parts_from structs (earlier ++ unit ∷ []) (remember ++ (here active earlier remember unit machine).remember) units needed
      (if active then drop 1 machine else machine) in
      let later = none_among name (earlier ++ unit ∷ []) (remember ++ (here active earlier remember unit machine).remember) units needed
      (if active then drop 1 machine else machine) apart.1 in
      subst (Other name)
      (sym (map-append (λ (s : CStruct). s.name) (where_needed test (here active earlier remember unit machine)).structs behind.structs))
      (subst (λ names. Other name (names ++ names_of behind.structs)) (sym own.is)
      (other_by name unit.name own.frame own.memory (names_of behind.structs) apart.0 later))

  pub parts_differ : (earlier : List UnitDef) (remember : List Bool) (units : List UnitDef) (needed : List Bool) (machine : List InMachine) →
      are_distinct (unit_names units) ≡ true → are_distinct (names_of (parts_from structs earlier remember units needed machine).structs) ≡ true
  parts_differ earlier remember [] needed machine differ = refl
  parts_differ earlier remember (unit ∷ units) [] machine differ = refl
  parts_differ earlier remember (unit ∷ units) (test ∷ needed) machine differ =
      let active : Bool = is_activity unit.kind in
      let own = own_names test active earlier remember unit machine in
      let behind : ProgramParts = parts_from structs (earlier ++ unit ∷ []) (remember ++ (here active earlier remember unit machine).remember) units needed
      (if active then drop 1 machine else machine) in
      let later = parts_differ (earlier ++ unit ∷ []) (remember ++ (here active earlier remember unit machine).remember) units needed
      (if active then drop 1 machine else machine) (and_second (not (is_among unit.name (unit_names units))) (are_distinct (unit_names units)) differ) in
      subst (λ names. are_distinct names ≡ true)
      (sym (map-append (λ (s : CStruct). s.name) (where_needed test (here active earlier remember unit machine)).structs behind.structs))
      (subst (λ names. are_distinct (names ++ names_of behind.structs) ≡ true) (sym own.is)
      (differ_by unit.name own.frame own.memory (names_of behind.structs)
      (none_among unit.name (earlier ++ unit ∷ []) (remember ++ (here active earlier remember unit machine).remember) units needed
      (if active then drop 1 machine else machine) (and_first (not (is_among unit.name (unit_names units))) (are_distinct (unit_names units)) differ))
      later))
