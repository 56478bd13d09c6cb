-- A table of the cells of chains still tells no more once a C function joins it.
use Rattle.std.proofs.Common.{◌≡◌, ℕ, ◌≤◌, true, List, []}
use Rattle.std.proofs.Common.{◌∷◌, map, Some, refl, sym, ◌∙◌, subst}
use Rattle.std.proofs.lemmas.List.Folds.{list_all-append}
use Rattle.std.proofs.lemmas.Slice.Eq.{bytes_eq-Decides}
use Rattle.std.specs.List.{list_all}
use Rattle.std.specs.Prelude.{bytes_eq, slice_get, if◌then◌else◌}
use Rattle.bl_tree.proofs.Basics.{and_second}
use Rattle.bl_tree.specs.declared.tree.StructDef.{StructDef}
use Rattle.bl_tree.specs.declared.tree.Unit.{Unit as UnitDef}
use Rattle.bl_tree.specs.Words.{is_name}
use Rattle.bl_limits_measures.specs.Units.{cells_at}
use Rattle.bl_emit_acts.specs.Expressions.{function_name}
use Rattle.bl_emit_acts.specs.Types.{unit_name}
use Rattle.bl_emit_functions_laws_wellformed.proofs.OnFiles.Growing.{distinct_behind, names, one_place}
use Rattle.bl_emit_functions_laws_wellformed.specs.Cells.{CellsGrow}
use Rattle.bl_emit_functions_laws_wellformed.proofs.OnFiles.Growing.{at_most, named_at, still_none, unnamed_other}

pub grow : (structs : List StructDef) (units : List UnitDef) (entry : ℕ) → CellsGrow structs units entry
grow structs units entry k unit n chains keeps there known few = record {
  prelude = λ word s. still_none (chains (function_name word s)) (bytes_eq (unit_name unit.name) (function_name word s)) n
      (known.prelude word s) refl;
  unnamed = still_none (chains (unit_name [])) (bytes_eq (unit_name unit.name) (unit_name [])) n known.unnamed (unnamed_other unit.name named);
  of_units = λ f other found.
      at_most (chains (unit_name other.name)) (bytes_eq (unit_name unit.name) (unit_name other.name)) n (cells_at structs units f)
      (known.of_units f other found) (same_unit f other found);
}
  where
    struct_names : List (List ℕ)
    struct_names = map (λ (def : StructDef). def.name) structs

    named : is_name unit.name ≡ true
    named =
        named_at units k unit
        (and_second (list_all is_name struct_names) (list_all is_name (names units))
        (sym (list_all-append is_name struct_names (names units)) ∙ keeps.named))
        there

    same_unit : (f : ℕ) (other : UnitDef) → slice_get units f ≡ Some other →
        bytes_eq (unit_name unit.name) (unit_name other.name) ≡ true →
        n ≤ cells_at structs units f
    same_unit f other found same =
        let text : unit.name ≡ other.name = (bytes_eq-Decides unit.name other.name).0 same in
        let place : k ≡ f = one_place units k f unit other (distinct_behind struct_names (names units) keeps.distinct) there found text in
        subst (λ f. n ≤ cells_at structs units f) place few
