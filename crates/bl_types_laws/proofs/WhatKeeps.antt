-- All that a typed program keeps in which no rule fails.
use Rattle.std.proofs.Common.{◌≡◌, ℕ, true, false, List, [], ◌++◌, map, ap, ◌∙◌}
use Rattle.std.specs.Prelude.{slice_get}
use Rattle.std.specs.List.{list_all}
use Rattle.bl_tree.proofs.Basics.{first_empty, second_empty}
use Rattle.bl_tree.specs.declared.tree.StructDef.{StructDef}
use Rattle.bl_tree.specs.declared.tree.Unit.{Unit as UnitDef}
use Rattle.bl_tree.specs.Program.{IsWellTyped, all_names, is_entry, structs_stand_from, units_stand_after}
use Rattle.bl_tree.specs.Reduce.{joined}
use Rattle.bl_tree.specs.Words.{are_distinct, is_name}
use Rattle.bl_names_scopes.specs.Rules.{Passes as NamesPass}
use Rattle.bl_names_scopes.specs.Scopes.{file_scope}
use Rattle.bl_names_laws.specs.WellFormed.{NamedIsWellFormed, all_names as named_names}
use Rattle.bl_parse_tree.specs.declared.item.RawItem.{RawItem}
use Rattle.bl_parse_tree.specs.Starts.{ascends}
use Rattle.bl_parse_tree.specs.WellFormed.{RawIsWellFormed}
use Rattle.bl_names.specs.Named.{named_program}
use Rattle.bl_types.specs.declared.environment.Environment.{Environment}
use Rattle.bl_types.specs.Programs.{after_program, fresh, text_end, typed_program}
use Rattle.bl_types.specs.Rules.{Passes as TypesPass}
use Rattle.bl_types.specs.Units.{entries, entry_among}
use Rattle.bl_types_laws.specs.Standing.{are_shallow}
use Rattle.bl_types_laws.proofs.Entry.{entry_is_driven}
use Rattle.bl_types_laws.proofs.Occurrences.{places_decide, runs_decide, unit_starts}
use Rattle.bl_types_laws.proofs.Premises.{ApartStays, ConstantsSuit, ShallowStays, Shapes, Suits, UnitsSuit}
use Rattle.bl_types_laws.proofs.Reached.{Made}
use Rattle.bl_types_laws.proofs.Starts.{picked_ascends}
use Rattle.bl_types_laws.proofs.ItemTurns.{at_start, no_failure, turns}

program_made : (items : List RawItem) (bytes : ℕ) → Suits (named_program items bytes) → Shapes →
    NamedIsWellFormed (named_program items bytes) → NamesPass items →
    TypesPass (named_program items bytes) →
    Made file_scope items fresh (after_program (named_program items bytes)).env
program_made items bytes suits shapes keeps passes types =
    let named = named_program items bytes in
    turns named suits shapes items file_scope fresh (at_start items bytes passes) keeps.structs keeps.units
    (first_empty (after_program named).failures (entries false (text_end named) named.units) (no_failure named types))

same_names : (items : List RawItem) (bytes : ℕ) → Made file_scope items fresh (after_program (named_program items bytes)).env →
    all_names (typed_program (named_program items bytes)).structs (typed_program (named_program items bytes)).units ≡ named_names (named_program items bytes)
same_names items bytes made =
    let structs = ap (map (λ (def : StructDef). def.name)) made.structs ∙ made.struct_names in
    let units = ap (map (λ (unit : UnitDef). unit.name)) made.units ∙ made.unit_names in
    λ i. structs i ++ units i

pub what_keeps : (items : List RawItem) (bytes : ℕ) → Suits (named_program items bytes) → Shapes →
    NamedIsWellFormed (named_program items bytes) → NamesPass items →
    TypesPass (named_program items bytes) →
    IsWellTyped (typed_program (named_program items bytes)).structs (typed_program (named_program items bytes)).units
    (typed_program (named_program items bytes)).entry
what_keeps items bytes suits shapes keeps passes types =
    let named = named_program items bytes in
    let made = program_made items bytes suits shapes keeps passes types in
    let final : Environment = (after_program named).env in
    let in_order : ascends (joined (map unit_starts final.units)) ≡ true =
    ap (λ units. ascends (joined (map unit_starts units))) made.units ∙ picked_ascends made.starts keeps.in_order in
    let driven = entry_is_driven (text_end named) named.units (second_empty (after_program named).failures (entries false (text_end named) named.units)
    (no_failure named types)) in
    record {
      named = ap (list_all is_name) (same_names items bytes made) ∙ keeps.names;
      distinct = ap are_distinct (same_names items bytes made) ∙ keeps.distinct;
      structs_stand = ap (structs_stand_from 0) made.structs ∙ made.structs_stand;
      units_stand = ap (units_stand_after final.structs []) made.units ∙ made.units_stand;
      entry_stands = ap (λ units. is_entry (slice_get units (entry_among named.units 0))) made.units
          ∙ made.driven (entry_among named.units 0) driven.unit driven.is_there driven.is_driven;
      places_decide = places_decide final.units in_order;
      runs_decide = runs_decide final.units in_order;
    }

-- the same, of what the laws of the crates below say
pub laws_keep : ((items : List RawItem) (bytes : ℕ) → RawIsWellFormed items → NamesPass items → NamedIsWellFormed (named_program items bytes)) →
    ((items : List RawItem) (bytes : ℕ) → RawIsWellFormed items → NamesPass items → UnitsSuit (named_program items bytes)) →
    ((items : List RawItem) (bytes : ℕ) → RawIsWellFormed items → NamesPass items → ConstantsSuit (named_program items bytes)) →
    ShallowStays → ApartStays →
    (items : List RawItem) (bytes : ℕ) → RawIsWellFormed items → NamesPass items → TypesPass (named_program items bytes) →
    IsWellTyped (typed_program (named_program items bytes)).structs (typed_program (named_program items bytes)).units
    (typed_program (named_program items bytes)).entry
laws_keep keeps units constants shallow apart items bytes raw names types =
    what_keeps items bytes (record { units = units items bytes raw names; constants = constants items bytes raw names })
    (record { shallow = shallow; apart = apart }) (keeps items bytes raw names) names types

-- ---- depth

what_is_shallow : (items : List RawItem) (bytes : ℕ) → Suits (named_program items bytes) → Shapes →
    NamedIsWellFormed (named_program items bytes) → NamesPass items →
    TypesPass (named_program items bytes) →
    are_shallow (typed_program (named_program items bytes)).units ≡ true
what_is_shallow items bytes suits shapes keeps passes types =
    let made = program_made items bytes suits shapes keeps passes types in
    ap are_shallow made.units ∙ made.shallow

-- the same, of what the laws of the crates below say
pub laws_are_shallow : ((items : List RawItem) (bytes : ℕ) → RawIsWellFormed items → NamesPass items → NamedIsWellFormed (named_program items bytes)) →
    ((items : List RawItem) (bytes : ℕ) → RawIsWellFormed items → NamesPass items → UnitsSuit (named_program items bytes)) →
    ((items : List RawItem) (bytes : ℕ) → RawIsWellFormed items → NamesPass items → ConstantsSuit (named_program items bytes)) →
    ShallowStays → ApartStays →
    (items : List RawItem) (bytes : ℕ) → RawIsWellFormed items → NamesPass items → TypesPass (named_program items bytes) →
    are_shallow (typed_program (named_program items bytes)).units ≡ true
laws_are_shallow keeps units constants shallow apart items bytes raw names types =
    what_is_shallow items bytes (record { units = units items bytes raw names; constants = constants items bytes raw names })
    (record { shallow = shallow; apart = apart }) (keeps items bytes raw names) names types
