-- Types that were named in scopes that correspond.
use Rattle.std.proofs.Common.{◌≡◌, ℕ, List, [], ◌∷◌, ◌++◌, refl, ap, ap₂, subst, sym, ◌∙◌}
use Rattle.std.specs.Prelude.{Option, Some, None, option_map}
use Rattle.bl_tree.specs.declared.scalar.Scalar.{Scalar}
use Rattle.bl_joined.specs.Trees.{placed_length, placed_name, placed_type}
use Rattle.bl_names.proofs.FitLemmas.{Fits, fits_behind, fits_first}
use Rattle.bl_names.proofs.StillLemmas.{still_length}
use Rattle.bl_names.specs.Naming.{named_length, named_type, position}
use Rattle.bl_names_scopes.specs.declared.kind.Wanted.TheVariants as wanted
use Rattle.bl_names_scopes.specs.declared.scopes.Counts.{Counts}
use Rattle.bl_names_scopes.specs.Marks.{Marks, length_marks, optional, type_marks, uses}
use Rattle.bl_names_scopes.specs.Scopes.{Scopes}
use Rattle.bl_names_scopes_laws_places.specs.Agree.{ScopesAgree}
use Rattle.bl_names_scopes_laws_places.proofs.MarksMoved.{array_is, scalar_is, struct_is}
use Rattle.bl_names_tree.specs.declared.types.NamedLength.{NamedLength}
use Rattle.bl_names_tree.specs.declared.types.NamedLength.TheVariants as count
use Rattle.bl_names_tree.specs.declared.types.NamedType.{NamedType, fold-roll-NamedType}
use Rattle.bl_names_tree.specs.declared.types.NamedType.TheVariants.{rolls-Scalar, rolls-Struct, rolls-Array}
use Rattle.bl_names_tree.specs.declared.types.NamedType.TheVariants as type
use Rattle.bl_parse_tree.specs.declared.name.Name.{Name}
use Rattle.bl_parse_tree.specs.declared.types.RawLength.{RawLength}
use Rattle.bl_parse_tree.specs.declared.types.RawLength.TheVariants.{Number, Constant as OfConstant}
use Rattle.bl_parse_tree.specs.declared.types.RawType.{RawType, fold-roll-RawType, ind-RawType, map-RawType, roll-RawType}
use Rattle.bl_parse_tree.specs.declared.types.RawType.TheOpen.{RawType-F}
use Rattle.bl_names_laws_places.specs.Renamed.{Renaming, renamed_length, renamed_type}
use Rattle.bl_names_laws_places.proofs.Positions.{fit_there, length_same, position_same}

module _ (by : Renaming) where
  -- ---- a named type, layer by layer

  scalar_renamed : (s : Scalar) → renamed_type by (type.Scalar s) ≡ type.Scalar s
  scalar_renamed s = ap (renamed_type by) (sym (rolls-Scalar s)) ∙ rw fold-roll-NamedType refl

  struct_renamed : (k : ℕ) → renamed_type by (type.Struct k) ≡ type.Struct k
  struct_renamed k = ap (renamed_type by) (sym (rolls-Struct k)) ∙ rw fold-roll-NamedType refl

  array_renamed : (n : NamedLength) (element : NamedType) →
      renamed_type by (type.Array n element) ≡ type.Array (renamed_length by n) (renamed_type by element)
  array_renamed n element = ap (renamed_type by) (sym (rolls-Array n element)) ∙ rw fold-roll-NamedType refl

  module _ (one other : Scopes) (agree : ScopesAgree by.constant one other) (counts : Counts) where
    -- the scopes of the one text, whatever is counted there
    abbrev there : Scopes
    there = record one { counts = counts }

    length_agrees : (n : RawLength) → Fits there (length_marks n) →
        named_length other (placed_length by.place n) ≡ renamed_length by (named_length one n)
    length_agrees (Number n) fits = refl
    length_agrees (OfConstant name) fits = ap (count.Constant (by.place name.place)) (length_same by one other agree name (fit_there one counts fits.0))

    abbrev TypeAgrees : RawType → Type 0
    TypeAgrees ty = Fits there (type_marks ty) → named_type other (placed_type by.place ty) ≡ renamed_type by (named_type one ty)

    abbrev bare : RawType-F ((ty : RawType) × TypeAgrees ty) → RawType-F RawType
    bare = map-RawType ((ty : RawType) × TypeAgrees ty) RawType (λ e. e.0)

    scalar_agrees : (s : Scalar) → TypeAgrees (roll-RawType (RawType-F.Scalar s))
    scalar_agrees s fits =
        ap (named_type other) (scalar_is by.place s) ∙ simp fold-roll-RawType (sym (scalar_renamed s))

    struct_agrees : (name : Name) → TypeAgrees (roll-RawType (RawType-F.Struct name))
    struct_agrees name fits =
        let at : Fits there (uses name wanted.Type ∷ []) = rw fold-roll-RawType at fits in
        ap (named_type other) (struct_is by.place name)
        ∙ simp fold-roll-RawType
        (ap type.Struct (position_same by one other agree name wanted.Type refl (fit_there one counts at.0)) ∙ sym (struct_renamed (position one name)))

    array_agrees : (n : RawLength) (element : RawType) → TypeAgrees element → TypeAgrees (roll-RawType (RawType-F.Array n element))
    array_agrees n element h fits =
        let at : Fits there (length_marks n ++ type_marks element) = rw fold-roll-RawType at fits in
        ap (named_type other) (array_is by.place n element)
        ∙ simp fold-roll-RawType
        (ap₂ type.Array (length_agrees n (fits_first there (length_marks n) (type_marks element) at))
        (h (fits_behind there (length_marks n) (type_marks element) (still_length n) at))
        ∙ sym (array_renamed (named_length one n) (named_type one element)))

    type_cases : (shown : RawType-F ((ty : RawType) × TypeAgrees ty)) → TypeAgrees (roll-RawType (bare shown))
    type_cases (RawType-F.Scalar s) = scalar_agrees s
    type_cases (RawType-F.Struct name) = struct_agrees name
    type_cases (RawType-F.Array n element) = array_agrees n element.0 element.1

    pub type_agrees : (ty : RawType) → Fits there (type_marks ty) → named_type other (placed_type by.place ty) ≡ renamed_type by (named_type one ty)
    type_agrees = ind-RawType TypeAgrees (λ x y is. subst (λ layer. TypeAgrees (roll-RawType layer)) is (type_cases y))

    pub optional_type_agrees : (ty : Option RawType) → Fits there (optional type_marks ty) →
        option_map (named_type other) (option_map (placed_type by.place) ty) ≡ option_map (renamed_type by) (option_map (named_type one) ty)
    optional_type_agrees None fits = refl
    optional_type_agrees (Some ty) fits = ap Some (type_agrees ty fits)
