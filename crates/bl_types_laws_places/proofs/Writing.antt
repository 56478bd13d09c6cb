-- Types as they are written, where constants correspond.
use Rattle.std.proofs.Common.{◌≡◌, ℕ, List, ◌++◌, refl, ap, ap₂, subst, sym, ◌∙◌}
use Rattle.std.specs.Prelude.{Option, Some, None, option_and_then, slice_get}
use Rattle.bl_tree.specs.declared.place.Place.{Place}
use Rattle.bl_tree.specs.declared.scalar.Scalar.{Scalar as ScalarType}
use Rattle.bl_tree.specs.declared.tree.Ty.TheVariants as type
use Rattle.bl_names_tree.specs.declared.types.NamedLength.{NamedLength}
use Rattle.bl_names_tree.specs.declared.types.NamedLength.TheVariants as count
use Rattle.bl_names_tree.specs.declared.types.NamedType.{NamedType, fold-roll-NamedType, ind-NamedType, map-NamedType, roll-NamedType}
use Rattle.bl_names_tree.specs.declared.types.NamedType.TheOpen.{NamedType-F}
use Rattle.bl_names_tree.specs.declared.types.NamedType.TheVariants.{rolls-Scalar, rolls-Struct, rolls-Array}
use Rattle.bl_names_laws_places.specs.Renamed.{Renaming, renamed_length, renamed_type}
use Rattle.bl_types.specs.declared.environment.Constant.{Constant}
use Rattle.bl_types.specs.Written.{bad_length, bad_lengths, constant_length, or_zero, place_of_length, written_length, written_type}
use Rattle.bl_types_laws_places.specs.Agree.{placed_failures}
use Rattle.bl_types_laws_places.proofs.Trees.{both_placed}

module _ (by : Renaming) (near far : List Constant) (same : (k : ℕ) → slice_get far (by.constant k) ≡ slice_get near k) where
  length_agrees : (n : NamedLength) → written_length far (renamed_length by n) ≡ written_length near n
  length_agrees (count.Number n) = refl
  length_agrees (count.Constant place k) = ap (option_and_then constant_length) (same k)

  length_place : (n : NamedLength) → place_of_length (renamed_length by n) ≡ by.place (place_of_length n)
  length_place (count.Number n) = refl
  length_place (count.Constant place k) = refl

  bad_placed : (place : Place) (n : Option ℕ) → bad_length (by.place place) n ≡ placed_failures by.place (bad_length place n)
  bad_placed place (Some n) = refl
  bad_placed place None = refl

  bad_agrees : (n : NamedLength) →
      bad_length (place_of_length (renamed_length by n)) (written_length far (renamed_length by n))
      ≡ placed_failures by.place (bad_length (place_of_length n) (written_length near n))
  bad_agrees n = ap₂ bad_length (length_place n) (length_agrees n) ∙ bad_placed (place_of_length n) (written_length near n)

  -- what is shown of a type
  record Agrees (ty : NamedType) : Type 0 where
    pub written : written_type far (renamed_type by ty) ≡ written_type near ty
    pub lengths : bad_lengths far (renamed_type by ty) ≡ placed_failures by.place (bad_lengths near ty)

  scalar_is : (s : ScalarType) → renamed_type by (roll-NamedType (NamedType-F.Scalar s)) ≡ roll-NamedType (NamedType-F.Scalar s)
  scalar_is s = rw fold-roll-NamedType (sym (rolls-Scalar _))

  struct_is : (k : ℕ) → renamed_type by (roll-NamedType (NamedType-F.Struct k)) ≡ roll-NamedType (NamedType-F.Struct k)
  struct_is k = rw fold-roll-NamedType (sym (rolls-Struct _))

  array_is : (n : NamedLength) (element : NamedType) →
      renamed_type by (roll-NamedType (NamedType-F.Array n element))
      ≡ roll-NamedType (NamedType-F.Array (renamed_length by n) (renamed_type by element))
  array_is n element = rw fold-roll-NamedType (sym (rolls-Array _ _))

  array_agrees : (n : NamedLength) (element : NamedType) → Agrees element → Agrees (roll-NamedType (NamedType-F.Array n element))
  array_agrees n element h = record {
    written =
        ap (written_type far) (array_is n element)
        ∙ simp fold-roll-NamedType (ap₂ (λ k ty. type.Array (or_zero k) ty) (length_agrees n) h.written);
    lengths =
        ap (bad_lengths far) (array_is n element)
        ∙ simp fold-roll-NamedType
        (ap₂ (λ xs ys. xs ++ ys) (bad_agrees n) h.lengths
        ∙ both_placed by.place (bad_length (place_of_length n) (written_length near n)) (bad_lengths near element));
  }

  scalar_agrees : (s : ScalarType) → Agrees (roll-NamedType (NamedType-F.Scalar s))
  scalar_agrees s = record {
    written = ap (written_type far) (scalar_is s) ∙ simp fold-roll-NamedType refl;
    lengths = ap (bad_lengths far) (scalar_is s) ∙ simp fold-roll-NamedType refl;
  }

  struct_agrees : (k : ℕ) → Agrees (roll-NamedType (NamedType-F.Struct k))
  struct_agrees k = record {
    written = ap (written_type far) (struct_is k) ∙ simp fold-roll-NamedType refl;
    lengths = ap (bad_lengths far) (struct_is k) ∙ simp fold-roll-NamedType refl;
  }

  abbrev bare : NamedType-F ((ty : NamedType) × Agrees ty) → NamedType-F NamedType
  bare = map-NamedType ((ty : NamedType) × Agrees ty) NamedType (λ e. e.0)

  level_agrees : (shown : NamedType-F ((ty : NamedType) × Agrees ty)) → Agrees (roll-NamedType (bare shown))
  level_agrees (NamedType-F.Scalar s) = scalar_agrees s
  level_agrees (NamedType-F.Struct k) = struct_agrees k
  level_agrees (NamedType-F.Array n element) = array_agrees n element.0 element.1

  agrees : (ty : NamedType) → Agrees ty
  agrees = ind-NamedType Agrees (λ x y is. subst (λ layer. Agrees (roll-NamedType layer)) is (level_agrees y))

  pub written_agrees : (ty : NamedType) → written_type far (renamed_type by ty) ≡ written_type near ty
  written_agrees ty = (agrees ty).written

  pub lengths_agree : (ty : NamedType) → bad_lengths far (renamed_type by ty) ≡ placed_failures by.place (bad_lengths near ty)
  lengths_agree ty = (agrees ty).lengths
