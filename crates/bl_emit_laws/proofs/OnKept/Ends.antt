-- The written file ends with its interface.
use Rattle.std.proofs.Common.{◌≡◌, ◌⊎◌, inl, inr, ⊎_elim, ℕ, suc, Bool, true, false, List, [], ◌∷◌, ◌++◌, Contains, drop, take}
use Rattle.std.proofs.Common.{refl, sym, ap, ap₂, ◌∙◌, append_assoc, codes}
use Rattle.std.proofs.lemmas.List.Elements.{Contains-append_cases}
use Rattle.std.specs.Prelude.{bytes_eq, if◌then◌else◌}
use Rattle.bl_tree.proofs.Basics.{contains_none, first_or_further}
use Rattle.bl_tree.specs.declared.c.CFunc.{CFunc}
use Rattle.bl_tree.specs.declared.c.CMember.{CMember}
use Rattle.bl_tree.specs.declared.c.CStruct.{CStruct}
use Rattle.bl_tree.specs.declared.program.Program.{Program}
use Rattle.bl_tree.specs.declared.text.Text.{Text}
use Rattle.bl_tree.specs.declared.tree.StructDef.{StructDef}
use Rattle.bl_tree.specs.declared.tree.Unit.{Unit as UnitDef}
use Rattle.bl_tree.specs.Typing.{is_activity}
use Rattle.bl_ctext_semantics.specs.Parts.{parts_from as file_from}
use Rattle.bl_machine.specs.declared.machine.Activity.{Activity as InMachine}
use Rattle.bl_emit_acts.specs.Types.{unit_name}
use Rattle.bl_emit_functions.specs.Functions.{function_code, members_of, memory_name, struct_of}
use Rattle.bl_emit_spec.specs.Activities.{Activity, activity_function, frame_struct, remembered, remembered_struct, remembers_any}
use Rattle.bl_emit_spec.specs.Names.{frame_name}
use Rattle.bl_emit_spec.specs.Programs.{ProgramParts, activity_of, interface_structs, needed_units, parts_from, parts_of_function, parts_of_next, where_needed}
use Rattle.bl_emit_spec.specs.Lent.{lent_unit}
use Rattle.bl_emit_spec.specs.Programs.{written_of}
use Rattle.bl_emit_structs.specs.Structs.{structs_of}
use Rattle.bl_emit_spec_laws.specs.Calls.Built.{Activities}
use Rattle.bl_emit_spec_laws.specs.Tables.Laws.{WrittenAs, WrittenIsKept}
use Rattle.bl_emit_spec_laws.specs.Tables.Tables.{activities_of, each_from, functions_of_all, unit_function}
use Rattle.bl_emit_laws.specs.Kept.{FilesEnd, structs_before}
use Rattle.bl_emit_laws.proofs.OnKept.Declared.{entry_active, structs_are}
use Rattle.bl_emit_laws.proofs.OnKept.Types.{other_name}
use Rattle.bl_emit_laws.proofs.OnCounters.Lists.{kept_has}

-- ---- names of structs

-- a struct has one of the names that are made of a unit's
abbrev OfUnit : CStruct → Type 0
OfUnit s = (name : Text) × ((s.name ≡ memory_name name) ⊎ (s.name ≡ frame_name name))

of_memory : (name : Text) (members : List CMember) (s : CStruct) → Contains (struct_of name members) s → OfUnit s
of_memory name [] s at = absurd (contains_none s at)
of_memory name (m ∷ rest) s at =
    ⊎_elim (λ is. (name, inl (ap (λ (s : CStruct). s.name) (sym is)))) (λ none. absurd (contains_none s none)) (first_or_further _ [] s at)

module _ (structs : List StructDef) where
  abbrev own : Bool → List UnitDef → List Bool → UnitDef → List InMachine → ProgramParts
  own active earlier remember unit machine =
      if active then parts_of_next structs earlier remember unit machine else parts_of_function structs earlier unit

  own_named : (test active : Bool) (earlier : List UnitDef) (remember : List Bool) (unit : UnitDef) (machine : List InMachine) (s : CStruct) →
      Contains (where_needed test (own active earlier remember unit machine)).structs s → OfUnit s
  own_named false active earlier remember unit machine s at = absurd (contains_none s at)
  own_named true false earlier remember unit machine s at = of_memory unit.name (members_of structs earlier unit) s at
  own_named true true earlier remember unit [] s at = absurd (contains_none s at)
  own_named true true earlier remember unit (one ∷ machine) s at =
      let a : Activity = activity_of structs earlier remember unit one in
      ⊎_elim (λ is. (unit.name, inr (ap (λ (s : CStruct). s.name) (sym is)))) (λ rest. of_memory unit.name (remembered a) s rest)
      (first_or_further (frame_struct a) (remembered_struct a) s at)

  parts_named : (earlier : List UnitDef) (remember : List Bool) (units : List UnitDef) (needed : List Bool) (machine : List InMachine) (s : CStruct) →
      Contains (parts_from structs earlier remember units needed machine).structs s → OfUnit s
  parts_named earlier remember [] needed machine s at = absurd (contains_none s at)
  parts_named earlier remember (unit ∷ units) [] machine s at = absurd (contains_none s at)
  parts_named earlier remember (unit ∷ units) (test ∷ needed) machine s at =
      let active : Bool = is_activity unit.kind in
      let first : ProgramParts = own active earlier remember unit machine in
      let rest : ProgramParts =
      parts_from structs (earlier ++ unit ∷ []) (remember ++ first.remember) units needed (if active then drop 1 machine else machine) in
      ⊎_elim (λ here. own_named test active earlier remember unit machine s here)
      (λ later. parts_named (earlier ++ unit ∷ []) (remember ++ first.remember) units needed (if active then drop 1 machine else machine) s later)
      (Contains-append_cases (where_needed test first).structs rest.structs s at)

unit_other : (s : CStruct) (rest : Text) → OfUnit s → bytes_eq s.name (codes "bl_" ++ rest) ≡ false
unit_other s rest (name, inl is) = ap (λ name. bytes_eq name (codes "bl_" ++ rest)) is
unit_other s rest (name, inr is) = ap (λ name. bytes_eq name (codes "bl_" ++ rest)) is

-- ---- names of functions

each_has : {X : Type 0} (of : ℕ → UnitDef → X) (k : ℕ) (units : List UnitDef) (x : X) → Contains (each_from of k units) x →
    (n : ℕ) × (unit : UnitDef) × (of n unit ≡ x)
each_has of k [] x at = absurd (contains_none x at)
each_has of k (unit ∷ rest) x at =
    ⊎_elim (λ is. (k, unit, is)) (λ later. each_has of (suc k) rest x later) (first_or_further (of k unit) (each_from of (suc k) rest) x at)

either_named : (b : Bool) (f g : CFunc) (x y : Text) → f.name ≡ unit_name x → g.name ≡ unit_name y →
    (name : Text) × ((if b then f else g).name ≡ unit_name name)
either_named true f g x y one other = (x, one)
either_named false f g x y one other = (y, other)

function_named : (structs : List StructDef) (units : List UnitDef) (activities : Activities) (f : CFunc) →
    Contains (functions_of_all structs units activities) f → (name : Text) × (f.name ≡ unit_name name)
function_named structs units activities f at =
    let found = each_has (unit_function structs units activities) 0 units f at in
    let named = either_named (is_activity found.1.kind) (activity_function (activities found.0)) (function_code structs (take found.0 units) found.1)
    (activities found.0).unit.name found.1.name refl refl in
    (named.0, ap (λ (f : CFunc). f.name) (sym found.2) ∙ named.1)

-- ---- together

pub files_end : (program : Program) → WrittenIsKept → FilesEnd program
files_end program kept_as machine unit keeps agrees there = record {
  none = record {
    inputs = λ s at. other s (codes "in") at;
    outputs = λ s at. other s (codes "out") at;
    named = λ f at.
        function_named program.structs program.units (activities_of program.structs program.units machine) f
        (kept_has (needed_units program.units program.entry)
        (functions_of_all program.structs program.units (activities_of program.structs program.units machine)) f at);
  };
  is = ap₂ file_from structs_so as_kept.funcs;
}
  where
    as_kept : WrittenAs program machine unit
    as_kept = kept_as program machine unit agrees there (entry_active program.structs program.units program.entry (lent_unit unit) keeps there)

    other : (s : CStruct) (rest : Text) → Contains (structs_before program machine) s → bytes_eq s.name (codes "bl_" ++ rest) ≡ false
    other s rest at =
        ⊎_elim (λ own. other_name program.structs program.units program.entry keeps s rest own)
        (λ part. unit_other s rest
        (parts_named program.structs [] [] program.units (needed_units program.units program.entry) machine s part))
        (Contains-append_cases (structs_of program.structs program.units)
        (parts_from program.structs [] [] program.units (needed_units program.units program.entry) machine).structs s at)

    structs_so : (written_of program unit machine).structs
        ≡ structs_before program machine
        ++ interface_structs program.structs unit (remembers_any (activities_of program.structs program.units machine program.entry))
    structs_so =
        structs_are program machine unit there as_kept
        ∙ sym (append_assoc (structs_of program.structs program.units)
        (parts_from program.structs [] [] program.units (needed_units program.units program.entry) machine).structs
        (interface_structs program.structs unit (remembers_any (activities_of program.structs program.units machine program.entry))))
