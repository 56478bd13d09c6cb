-- The written file declares the structs in which its program is kept.
use Rattle.std.proofs.Common.{◌≡◌, ℕ, ◌+◌, true, false, List, [], ◌∷◌, ◌++◌, Contains, length}
use Rattle.std.proofs.Common.{Option, Some, None, refl, sym, ap, subst, ◌∙◌, arith, codes}
use Rattle.std.proofs.lemmas.List.Elements.{Contains-append_left, Contains-append_right}
use Rattle.std.specs.Prelude.{nat_lt, option_and_then, option_map, slice_get, unwrap_or}
use Rattle.bl_tree.proofs.Basics.{and_first, contains_first, contains_further}
use Rattle.bl_tree.specs.declared.c.CMember.{CMember}
use Rattle.bl_tree.specs.declared.c.CStruct.{CStruct}
use Rattle.bl_tree.specs.declared.program.Program.{Program}
use Rattle.bl_tree.specs.declared.text.Text.{Text}
use Rattle.bl_tree.specs.declared.tree.StructDef.{StructDef}
use Rattle.bl_tree.specs.declared.tree.Unit.{Unit as UnitDef}
use Rattle.bl_tree.specs.Program.{IsWellTyped, is_entry}
use Rattle.bl_tree.specs.Typing.{inputs_of, is_activity, outputs_of}
use Rattle.bl_effects.specs.Rules.{Passes}
use Rattle.bl_ctree.specs.declared.instance.Instance.{Instance}
use Rattle.bl_ctree.specs.Instances.{Setting, setting_of, unit_at, unit_of}
use Rattle.bl_ctree_laws_confluence.specs.Deeds.Orderly.{AcceptedIsOrderly}
use Rattle.bl_emit_acts.specs.Trees.{nowhere}
use Rattle.bl_emit_functions.specs.Functions.{memory_name, struct_of}
use Rattle.bl_emit_spec.specs.Activities.{frame_struct, remembered, remembered_struct, remembers_any}
use Rattle.bl_emit_spec.specs.Lent.{lent_unit}
use Rattle.bl_emit_spec.specs.Programs.{ProgramParts, interface_structs, needed_units, parts_from, port_struct, state_struct, written_of}
use Rattle.bl_emit_structs.specs.Structs.{structs_of}
use Rattle.bl_emit_structs_laws_wellformed.specs.Names.{TypesApart}
use Rattle.bl_machine.specs.declared.machine.Activity.{Activity as InMachine}
use Rattle.bl_machine.specs.Machines.{AreActivitiesOf}
use Rattle.bl_emit_spec_laws.specs.Calls.Built.{Activities, unit_number}
use Rattle.bl_emit_spec_laws_wellformed.specs.Closed.{InstancesNeeded}
use Rattle.bl_emit_spec_laws_files.specs.States.States.{FramesDeclared, memory_of_activity}
use Rattle.bl_emit_spec_laws.specs.Tables.Laws.{ActivitiesBuilt, WrittenAs, WrittenIsKept}
use Rattle.bl_emit_spec_laws.specs.Tables.Tables.{activities_of}
use Rattle.bl_emit_laws.specs.Kept.{FramesAreDeclared, shown_file}
use Rattle.bl_emit_laws.proofs.OnKept.Types.{stands_once, type_declared}
use Rattle.bl_emit_laws.proofs.OnKept.Walk.{own, walk}
use Rattle.bl_emit_spec_laws.proofs.OnActivities.Nested.{unit_there}

-- the entry of a typed program is an activity
pub entry_active : (structs : List StructDef) (units : List UnitDef) (entry : ℕ) (unit : UnitDef) → IsWellTyped structs units entry →
    slice_get units entry ≡ Some unit → is_activity unit.kind ≡ true
entry_active structs units entry unit keeps there =
    let entry_so : is_entry (Some unit) ≡ true = ap is_entry (sym there) ∙ keeps.entry_stands in and_first (is_activity unit.kind) _ entry_so

-- the struct of what is remembered is there where anything is
struct_there : (name : Text) (members : List CMember) → nat_lt 0 (length members) ≡ true →
    Contains (struct_of name members) (record { place = nowhere; name = memory_name name; members = members })
struct_there name [] any = absurd (let none : false ≡ true = any in cc)
struct_there name (m ∷ rest) any = contains_first (record { place = nowhere; name = memory_name name; members = m ∷ rest }) []

-- ---- the structs of the file

module _ (program : Program) (machine : List InMachine) (unit : UnitDef) (there : slice_get program.units program.entry ≡ Some (lent_unit unit))
    (kept : WrittenAs program machine unit)
  where
    abbrev activities : Activities
    activities = activities_of program.structs program.units machine

    abbrev parts : ProgramParts
    parts = parts_from program.structs [] [] program.units (needed_units program.units program.entry) machine

    abbrev last : List CStruct
    last = interface_structs program.structs unit (remembers_any (activities program.entry))

    -- its three structs
    abbrev state_at : CStruct
    state_at = state_struct unit.name (remembers_any (activities program.entry))

    abbrev inputs_at : CStruct
    inputs_at = port_struct program.structs (codes "bl_in") (codes "i_") (inputs_of unit)

    abbrev outputs_at : CStruct
    outputs_at = port_struct program.structs (codes "bl_out") (codes "o_") (outputs_of unit)

    pub structs_are : (written_of program unit machine).structs ≡ structs_of program.structs program.units ++ (parts.structs ++ last)
    structs_are =
        ap (λ remembers. structs_of program.structs program.units ++ (parts.structs ++ interface_structs program.structs unit remembers)) kept.remembers

    abbrev Declares : CStruct → Type 0
    Declares s = Contains (written_of program unit machine).structs s

    of_file : (s : CStruct) → Contains (structs_of program.structs program.units ++ (parts.structs ++ last)) s → Declares s
    of_file s at = subst (λ l. Contains l s) (sym structs_are) at

    of_types : (s : CStruct) → Contains (structs_of program.structs program.units) s → Declares s
    of_types s at = of_file s (Contains-append_left (structs_of program.structs program.units) (parts.structs ++ last) s at)

    of_parts : (s : CStruct) → Contains parts.structs s → Declares s
    of_parts s at =
        of_file s
        (Contains-append_right (structs_of program.structs program.units) (parts.structs ++ last) s (Contains-append_left parts.structs last s at))

    of_last : (s : CStruct) → Contains last s → Declares s
    of_last s at =
        of_file s
        (Contains-append_right (structs_of program.structs program.units) (parts.structs ++ last) s (Contains-append_right parts.structs last s at))

    abbrev w : Setting
    w = setting_of program.structs program.units program.entry

    module _ (orderly : AcceptedIsOrderly) (built : ActivitiesBuilt) (needs : InstancesNeeded program.structs program.units program.entry)
        (keeps : IsWellTyped program.structs program.units program.entry) (passes : Passes program.units) (agrees : AreActivitiesOf program.units machine)
      where
        -- the unit of an instance is needed
        needed : (i : ℕ) (other : UnitDef) → unit_at w i ≡ Some other →
            slice_get (needed_units program.units program.entry) (unit_number w i) ≡ Some true
        needed i other is = by (slice_get w.instances i) refl is
          where
            by : (o : Option Instance) → slice_get w.instances i ≡ o → option_and_then (unit_of w) o ≡ Some other →
                slice_get (needed_units program.units program.entry) (unit_number w i) ≡ Some true
            by None at e = absurd (cc)
            by (Some instance) at e =
                ap (λ found. slice_get (needed_units program.units program.entry)
                (unwrap_or (option_map (λ (one : Instance). one.unit) found) 0)) at
                ∙ needs i instance keeps at

        -- the structs of its activity are declared
        instance_own : (i : ℕ) (other : UnitDef) → unit_at w i ≡ Some other → (s : CStruct) →
            Contains (own program.structs program.units machine (built program.structs program.units machine agrees) (unit_number w i)) s → Declares s
        instance_own i other is s at =
            let same : unit_number w i ≡ 0 + unit_number w i = omega arith in
            let active = ((orderly program.structs program.units program.entry keeps passes).each i other is).activity in
            of_parts s
            (walk program.structs program.units machine (built program.structs program.units machine agrees) program.units 0
            (needed_units program.units program.entry) refl (unit_number w i) other (unit_there w i other is) (needed i other is) active s
            (subst (λ n. Contains (own program.structs program.units machine (built program.structs program.units machine agrees) n) s) same at))

        declared : TypesApart program.structs program.units program.entry →
            FramesDeclared program.structs program.units program.entry activities unit (shown_file program unit machine)
        declared apart = record {
          state = of_last state_at (contains_first state_at (inputs_at ∷ outputs_at ∷ []));
          outputs = of_last outputs_at
              (contains_further state_at (inputs_at ∷ outputs_at ∷ []) outputs_at
              (contains_further inputs_at (outputs_at ∷ []) outputs_at (contains_first outputs_at [])));
          frames = λ i other is.
              instance_own i other is (frame_struct (activities (unit_number w i)))
              (contains_first (frame_struct (activities (unit_number w i))) (remembered_struct (activities (unit_number w i))));
          memories = λ i other is any.
              instance_own i other is (memory_of_activity (activities (unit_number w i)))
              (contains_further (frame_struct (activities (unit_number w i))) (remembered_struct (activities (unit_number w i)))
              (memory_of_activity (activities (unit_number w i)))
              (struct_there (activities (unit_number w i)).unit.name (remembered (activities (unit_number w i))) any));
          types = type_declared program.structs program.units (written_of program unit machine).structs
              (λ s at. of_types s (stands_once program.structs program.units program.entry keeps apart s at));
        }

pub frames_are_declared : (program : Program) → AcceptedIsOrderly → ActivitiesBuilt → WrittenIsKept →
    TypesApart program.structs program.units program.entry → InstancesNeeded program.structs program.units program.entry → FramesAreDeclared program
frames_are_declared program orderly built kept apart needs machine unit keeps passes agrees there =
    declared program machine unit there
    (kept program machine unit agrees there (entry_active program.structs program.units program.entry (lent_unit unit) keeps there)) orderly built needs keeps
    passes agrees apart
