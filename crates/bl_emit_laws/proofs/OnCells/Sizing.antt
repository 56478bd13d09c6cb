-- A table of the scalars of the structs of needed units tells no more than types and variables have.
use Rattle.std.proofs.Common.{◌≡◌, ⊎_elim, ℕ, arith, Bool, true, false, List, [], ◌∷◌, ◌++◌, Contains, drop, take, length}
use Rattle.std.proofs.Common.{Some, refl, sym, ap, ◌∙◌, subst, append_assoc}
use Rattle.std.specs.Prelude.{slice_get, if◌then◌else◌}
use Rattle.bl_tree.proofs.Basics.{contains_none, first_or_further, get_seam, take_front, contains_further}
use Rattle.bl_tree.specs.declared.c.CMember.{CMember}
use Rattle.bl_tree.specs.declared.c.CStruct.{CStruct}
use Rattle.bl_tree.specs.declared.text.Text.{Text}
use Rattle.bl_tree.specs.declared.tree.StructDef.{StructDef}
use Rattle.bl_tree.specs.declared.tree.Unit.{Unit as UnitDef}
use Rattle.bl_tree.specs.Typing.{is_activity}
use Rattle.bl_tree.specs.Words.{are_distinct}
use Rattle.bl_machine.specs.declared.machine.Activity.{Activity as InMachine}
use Rattle.bl_ctext_semantics.specs.Sizes.{Sizes, size_of_struct, sizes_after}
use Rattle.bl_ctext_semantics.specs.Tables.{with_entry}
use Rattle.bl_emit_structs.specs.Structs.{structs_for}
use Rattle.bl_emit_functions.specs.Functions.{memory_name, memory_struct, struct_of}
use Rattle.bl_emit_functions_laws_wellformed.specs.Cells.{NamesNone, SizesGrow, SizesKnown}
use Rattle.bl_emit_functions_laws_wellformed.proofs.OnFiles.Growing.{names}
use Rattle.bl_emit_spec.specs.Activities.{Activity, frame_struct, remembered, remembered_struct}
use Rattle.bl_emit_spec.specs.Programs.{ProgramParts, activity_of, parts_from, parts_of_function, parts_of_next, where_needed}
use Rattle.bl_emit_laws.proofs.OnCells.Names.{frame_none, memory_none}
use Rattle.bl_emit_laws.proofs.OnCells.Tables.{sizes_append}

-- the struct of what a unit remembers has this name
pub struct_named : (name : Text) (members : List CMember) (s : CStruct) → Contains (struct_of name members) s → s.name ≡ memory_name name
struct_named name [] s has = absurd (contains_none s has)
struct_named name (m ∷ rest) s has =
    ⊎_elim (λ is. ap (λ (s : CStruct). s.name) (sym is)) (λ none. absurd (contains_none s none)) (first_or_further _ [] s has)

module _ (structs : List StructDef) (units : List UnitDef) (grow : SizesGrow structs units) (differ : are_distinct (names units) ≡ true) where
  abbrev Known : Sizes → Type 0
  Known known = SizesKnown structs units known

  pub types_join : (list : List CStruct) (known : Sizes) → Known known →
      ((s : CStruct) → Contains list s → Contains (structs_for structs units) s) → Known (sizes_after known list)
  types_join [] known so each = so
  types_join (s ∷ rest) known so each =
      types_join rest (with_entry known s.name (size_of_struct known s)) (grow.type known s so (each s (0, omega arith, refl)))
      (λ t at. each t (contains_further s rest t at))

  pub others_join : (list : List CStruct) (known : Sizes) → Known known →
      ((s : CStruct) → Contains list s → NamesNone structs units s.name) → Known (sizes_after known list)
  others_join [] known so each = so
  others_join (s ∷ rest) known so each =
      others_join rest (with_entry known s.name (size_of_struct known s))
      (grow.other known s.name (size_of_struct known s) so (each s (0, omega arith, refl))) (λ t at. each t (contains_further s rest t at))

  memory_joins : (k : ℕ) (unit : UnitDef) → slice_get units k ≡ Some unit → (list : List CStruct) (known : Sizes) → Known known →
      ((s : CStruct) → Contains list s → Contains (memory_struct structs (take k units) unit) s) → Known (sizes_after known list)
  memory_joins k unit there [] known so each = so
  memory_joins k unit there (s ∷ rest) known so each =
      memory_joins k unit there rest (with_entry known s.name (size_of_struct known s))
      (grow.memory known k unit s so there (each s (0, omega arith, refl))) (λ t at. each t (contains_further s rest t at))

  abbrev here : Bool → List UnitDef → List Bool → UnitDef → List InMachine → ProgramParts
  here active earlier remember unit machine =
      if active then parts_of_next structs earlier remember unit machine else parts_of_function structs earlier unit

  own_joins : (k : ℕ) (unit : UnitDef) (remember : List Bool) (machine : List InMachine) (known : Sizes) (active test : Bool) →
      slice_get units k ≡ Some unit → is_activity unit.kind ≡ active → Known known →
      Known (sizes_after known (where_needed test (here active (take k units) remember unit machine)).structs)
  own_joins k unit remember machine known active false there is so = so
  own_joins k unit remember machine known false true there is so =
      memory_joins k unit there (memory_struct structs (take k units) unit) known so (λ s has. has)
  own_joins k unit remember [] known true true there is so = so
  own_joins k unit remember (one ∷ machine) known true true there is so =
      let a : Activity = activity_of structs (take k units) remember unit one in
      others_join (frame_struct a ∷ remembered_struct a) known so
      (λ s has. ⊎_elim
      (λ first. subst (λ (s : CStruct). NamesNone structs units s.name) first (frame_none structs units unit.name))
      (λ later. subst (NamesNone structs units) (sym (struct_named unit.name (remembered a) s later)) (memory_none structs units k unit differ there is))
      (first_or_further (frame_struct a) (remembered_struct a) s has))

  pub walk : (earlier : List UnitDef) (remember : List Bool) (rest : List UnitDef) (needed : List Bool) (machine : List InMachine) (known : Sizes) →
      earlier ++ rest ≡ units → Known known → Known (sizes_after known (parts_from structs earlier remember rest needed machine).structs)
  walk earlier remember [] needed machine known whole so = so
  walk earlier remember (unit ∷ rest) [] machine known whole so = so
  walk earlier remember (unit ∷ rest) (test ∷ needed) machine known whole so =
      let there : slice_get units (length earlier) ≡ Some unit =
      ap (λ units. slice_get units (length earlier)) (sym whole) ∙ get_seam earlier unit rest in
      let before : take (length earlier) units ≡ earlier = ap (take (length earlier)) (sym whole) ∙ take_front earlier (unit ∷ rest) in
      let active : Bool = is_activity unit.kind in
      let own : List CStruct = (where_needed test (here active earlier remember unit machine)).structs in
      let behind : ProgramParts = parts_from structs (earlier ++ unit ∷ []) (remember ++ (here active earlier remember unit machine).remember) rest needed
      (if active then drop 1 machine else machine) in
      let joined : Known (sizes_after known own) =
      subst (λ before. Known (sizes_after known (where_needed test (here active before remember unit machine)).structs)) before
      (own_joins (length earlier) unit remember machine known active test there refl so) in
      subst Known (sym (sizes_append own behind.structs known))
      (walk (earlier ++ unit ∷ []) (remember ++ (here active earlier remember unit machine).remember) rest needed
      (if active then drop 1 machine else machine) (sizes_after known own) (append_assoc earlier (unit ∷ []) rest ∙ whole) joined)
