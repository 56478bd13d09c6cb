-- Structs and arrays in C: their types, and that these are declared.
use Rattle.std.proofs.Common.{◌≡◌, ℕ, zero, suc, ◌<◌, Bool, true, List, [], ◌∷◌, map, length, Some, None, refl, sym, ap, ◌∙◌}
use Rattle.std.proofs.Common.{subst, arith}
use Rattle.std.proofs.lemmas.Bool.Decides.{nat_tests}
use Rattle.std.proofs.lemmas.List.Elements.{Contains-push}
use Rattle.std.specs.Prelude.{Contains, is_some, nat_lt, slice_get}
use Rattle.bl_tree.specs.declared.c.CType.TheVariants.{Struct as OfStruct}
use Rattle.bl_tree.specs.declared.tree.Field.{Field}
use Rattle.bl_tree.specs.declared.tree.StructDef.{StructDef}
use Rattle.bl_tree.specs.declared.tree.Ty.{Ty, fold_out-Ty, map-Ty, out-Ty}
use Rattle.bl_tree.specs.declared.tree.Ty.TheOpen.{Ty-F}
use Rattle.bl_tree.specs.Reduce.{joined}
use Rattle.bl_tree.specs.Types.{scalar_at, scalar_in, type_stands, type_stands_level}
use Rattle.bl_ctext_semantics.specs.Faults.{Context}
use Rattle.bl_emit_acts.specs.Structs.{c_array, c_definition}
use Rattle.bl_emit_acts.specs.Types.{c_type, definition_name, name_of_definition, struct_name, type_level, type_name}
use Rattle.bl_emit_structs.specs.Structs.{arrays_of, structs_for_definition}
use Rattle.bl_emit_structs.proofs.Steps.{array_is}
use Rattle.bl_emit_acts_laws_wellformed.specs.Formed.Declared.{AreDeclared}
use Rattle.bl_emit_acts_laws_wellformed.proofs.OnFormed.Parts.{joined_has, name_at}

-- the C type of a type with parts is a struct of its name
pub whole_type : (structs : List StructDef) (ty : Ty) → scalar_in ty ≡ None → c_type structs ty ≡ OfStruct (type_name structs ty)
whole_type structs ty is = by (out-Ty ty) is
  where
    by : (layer : Ty-F Ty) → scalar_at layer ≡ None → type_level (type_name structs ty) layer ≡ OfStruct (type_name structs ty)
    by (Ty-F.Scalar s) h = absurd (cc)
    by (Ty-F.Struct k) h = refl
    by (Ty-F.Array n element) h = refl

module _ (structs : List StructDef) (context : Context)
    (definitions : AreDeclared context.structs (joined (map (structs_for_definition structs) structs))) where
  below : (j k : ℕ) → nat_lt j k ≡ true → j < k
  below j k h = grind (arith, nat_tests)

  -- a definition at a position below their number
  there_at : (xs : List StructDef) (k : ℕ) → k < length xs → (def : StructDef) × (slice_get xs k ≡ Some def)
  there_at [] k less = absurd (omega arith)
  there_at (x ∷ xs) zero less = (x, refl)
  there_at (x ∷ xs) (suc k) less = let lt : k < length xs = omega (arith, less) in there_at xs k lt

  struct_declared : (k : ℕ) → k < length structs → is_some (context.structs (struct_name (definition_name structs k))) ≡ true
  struct_declared k less =
      let found = there_at structs k less in
      let own : Contains (structs_for_definition structs found.0) (c_definition structs found.0) =
      Contains-push (joined (map (λ (field : Field). arrays_of structs field.ty) found.0.fields)) (c_definition structs found.0) in
      ap (λ o. is_some (context.structs (struct_name (name_of_definition o)))) found.1
      ∙ ap is_some (definitions (c_definition structs found.0) (joined_has (structs_for_definition structs) structs k found.0
      (c_definition structs found.0) found.1 own))

  by_layer : (ty : Ty) (layer : Ty-F Ty) → out-Ty ty ≡ layer → type_stands (length structs) ty ≡ true → scalar_at layer ≡ None →
      AreDeclared context.structs (arrays_of structs ty) → is_some (context.structs (type_name structs ty)) ≡ true
  by_layer ty (Ty-F.Scalar s) is stands none known = absurd (cc)
  by_layer ty (Ty-F.Struct k) is stands none known =
      let less : nat_lt k (length structs) ≡ true =
      sym (fold_out-Ty Bool (type_stands_level (length structs)) ty
      ∙ ap (λ l. type_stands_level (length structs) (map-Ty Ty Bool (type_stands (length structs)) l)) is) ∙ stands in
      ap (λ n. is_some (context.structs n)) (name_at structs ty (Ty-F.Struct k) is) ∙ struct_declared k (below k (length structs) less)
  by_layer ty (Ty-F.Array n element) is stands none known =
      ap (λ n. is_some (context.structs n)) (name_at structs ty (Ty-F.Array n element) is)
      ∙ ap is_some (known (c_array structs n element)
      (subst (λ l. Contains l (c_array structs n element)) (sym (array_is structs ty n element is))
      (Contains-push (arrays_of structs element) (c_array structs n element))))

  -- the struct of a type with parts is declared
  pub type_declared : (ty : Ty) → type_stands (length structs) ty ≡ true → scalar_in ty ≡ None
      → AreDeclared context.structs (arrays_of structs ty) →
      is_some (context.structs (type_name structs ty)) ≡ true
  type_declared ty = by_layer ty (out-Ty ty) refl
