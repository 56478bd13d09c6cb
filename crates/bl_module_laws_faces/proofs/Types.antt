-- A type by the names of structs is the type by their positions that it was made of.
use Rattle.std.proofs.Common.{◌≡◌, ℕ, ◌+◌, ◌<◌, suc, true, List, [], ◌∷◌, ◌++◌, length, refl, sym, ap, subst, ◌∙◌, Option, Some, None, arith}
use Rattle.std.specs.Prelude.{Bool, ◌&&◌, nat_le, slice_index}
use Rattle.std.specs.List.{list_all}
use Rattle.std.proofs.lemmas.Bool.{and_from}
use Rattle.bl_tree.proofs.Basics.{and_first, and_second}
use Rattle.bl_face.specs.declared.item.FaceBase.{FaceBase}
use Rattle.bl_face.specs.declared.item.FaceBase.TheVariants as base
use Rattle.bl_face.specs.declared.item.FaceType.{FaceType}
use Rattle.bl_limits_measures.proofs.TypeLemmas.{induct}
use Rattle.bl_limits_measures.specs.Types.{nesting_by}
use Rattle.bl_module.specs.Behind.{array_of, base_depth, base_stands, depth_of, is_length, is_struct, resolved_base, resolved_type, struct_position, type_depth}
use Rattle.bl_module.specs.declared.names.Referent.{Referent}
use Rattle.bl_module.specs.declared.names.Referent.TheVariants as referent
use Rattle.bl_module.specs.Names.{DeclaredNames, referent_of}
use Rattle.bl_module.specs.Own.{base_of, lengths_level, lengths_of}
use Rattle.bl_names.proofs.FitLemmas.{Fits, fits_behind}
use Rattle.bl_names.proofs.StillLemmas.{still_length}
use Rattle.bl_names.specs.Naming.{named_length, named_type, position, position_of}
use Rattle.bl_names_scopes.specs.declared.kind.Wanted.TheVariants as wanted
use Rattle.bl_names_scopes.specs.declared.scopes.Declaration.{Declaration}
use Rattle.bl_names_scopes.specs.Kinds.{suits}
use Rattle.bl_names_scopes.specs.Marks.{length_marks, type_marks}
use Rattle.bl_names_scopes.specs.Scopes.{Scopes, bound}
use Rattle.bl_names_tree.specs.declared.types.NamedType.{NamedType, fold_out-NamedType, out-NamedType}
use Rattle.bl_names_tree.specs.declared.types.NamedType.TheFolds.{map-NamedType}
use Rattle.bl_names_tree.specs.declared.types.NamedType.TheOpen.{NamedType-F}
use Rattle.bl_names_tree.specs.declared.types.NamedType.TheVariants as named
use Rattle.bl_parse_tree.specs.declared.types.RawType.{RawType, fold-roll-RawType, ind-RawType, roll-RawType}
use Rattle.bl_parse_tree.specs.declared.types.RawType.TheFolds.{map-RawType}
use Rattle.bl_parse_tree.specs.declared.types.RawType.TheOpen.{RawType-F}
use Rattle.bl_tree.specs.declared.tree.Ty.{Ty, fold_out-Ty, fold-roll-Ty, out-Ty, roll-Ty}
use Rattle.bl_tree.specs.declared.tree.Ty.TheFolds.{map-Ty}
use Rattle.bl_tree.specs.declared.tree.Ty.TheOpen.{Ty-F}
use Rattle.bl_tree.specs.declared.tree.Ty.TheVariants as type
use Rattle.bl_tree.specs.Types.{type_stands, type_stands_level}
use Rattle.bl_types.specs.declared.environment.Constant.{Constant}
use Rattle.bl_types.specs.Written.{or_zero, type_level, written_length, written_type}
use Rattle.bl_limits_measures.proofs.TypeLemmas.{nesting_array, nesting_scalar, nesting_struct}

-- a name for a struct at some position, nested so deep
pub record StandsForStruct (names : DeclaredNames) (text : List ℕ) (at : ℕ) : Type 0 where
  pub depth : ℕ
  pub is : referent_of names text ≡ Some (referent.Struct at depth)

-- each name that is bound to a struct in the open scopes stands for it among the names
abbrev pub Resolves : DeclaredNames → Scopes → Type 0
Resolves names scopes = (text : List ℕ) (d : Declaration) → bound scopes text ≡ Some d → suits wanted.Type d.kind ≡ true →
    StandsForStruct names text d.position

-- ---- lengths and elements

written_at : (constants : List Constant) (ty : NamedType) (layer : NamedType-F NamedType) → out-NamedType ty ≡ layer →
    written_type constants ty ≡ type_level constants (map-NamedType NamedType Ty (written_type constants) layer)
written_at constants ty layer is =
    fold_out-NamedType Ty (type_level constants) ty ∙ ap (λ layer. type_level constants (map-NamedType NamedType Ty (written_type constants) layer)) is

lengths_at : (ty : Ty) (layer : Ty-F Ty) → out-Ty ty ≡ layer → lengths_of ty ≡ lengths_level (map-Ty Ty (List ℕ) lengths_of layer)
lengths_at ty layer is = fold_out-Ty (List ℕ) lengths_level ty ∙ ap (λ layer. lengths_level (map-Ty Ty (List ℕ) lengths_of layer)) is

module _ (names : DeclaredNames) (scopes : Scopes) (constants : List Constant) (resolves : Resolves names scopes) where
  -- the type as it is known
  abbrev typed : RawType → Ty
  typed ty = written_type constants (named_type scopes ty)

  -- by names it is the same, and its struct is declared
  pub record SameType (ty : RawType) : Type 0 where
    pub same : array_of (lengths_of (typed ty)) (resolved_base names (base_of ty)) ≡ typed ty
    pub stands : base_stands names (base_of ty) ≡ true

  abbrev Same : RawType → Type 0
  Same ty = Fits scopes (type_marks ty) → SameType ty

  same_by : (ty : RawType) (made : Ty) (of : FaceBase) (lengths : List ℕ) → typed ty ≡ made → base_of ty ≡ of → lengths_of made ≡ lengths →
      array_of lengths (resolved_base names of) ≡ made → base_stands names of ≡ true → SameType ty
  same_by ty made of lengths typed_is base_is lengths_are same stands = record {
    same = (λ i. array_of (lengths_of (typed_is i)) (resolved_base names (base_is i))) ∙ ap (λ ls. array_of ls (resolved_base names of)) lengths_are
        ∙ same ∙ sym typed_is;
    stands = ap (base_stands names) base_is ∙ stands;
  }

  struct_same : (ty : RawType) (k : ℕ) (text : List ℕ) → typed ty ≡ type.Struct k → base_of ty ≡ base.Struct text → StandsForStruct names text k →
      SameType ty
  struct_same ty k text typed_is base_is stands =
      same_by ty (type.Struct k) (base.Struct text) [] typed_is base_is (lengths_at (type.Struct k) (Ty-F.Struct k) (type.outs-Struct k))
      (ap (λ found. roll-Ty (Ty-F.Struct (struct_position found))) stands.is ∙ type.rolls-Struct k)
      (ap is_struct stands.is)

  level_same : (level : RawType-F ((ty : RawType) × Same ty)) → Same (roll-RawType (map-RawType ((ty : RawType) × Same ty) RawType (λ e. e.0) level))
  level_same (RawType-F.Scalar s) fits =
      same_by (roll-RawType (RawType-F.Scalar s)) (type.Scalar s) (base.Scalar s) []
      (rw fold-roll-RawType (written_at constants (named.Scalar s) (NamedType-F.Scalar s) (named.outs-Scalar s)))
      (rw fold-roll-RawType refl) (lengths_at (type.Scalar s) (Ty-F.Scalar s) (type.outs-Scalar s)) (type.rolls-Scalar s) refl
  level_same (RawType-F.Struct name) fits =
      let fit : Fits scopes (type_marks (roll-RawType (RawType-F.Struct name))) = fits in
      let used = rw fold-roll-RawType at fit in
      let d : Declaration = used.0.declaration in
      let there : position scopes name ≡ d.position = ap position_of used.0.is_bound in
      struct_same (roll-RawType (RawType-F.Struct name)) d.position name.text
      ((rw fold-roll-RawType (written_at constants (named.Struct (position scopes name)) (NamedType-F.Struct (position scopes name))
      (named.outs-Struct (position scopes name)))) ∙ ap type.Struct there)
      (rw fold-roll-RawType refl) (resolves name.text d used.0.is_bound used.0.is_suited)
  level_same (RawType-F.Array n element) fits =
      let fit : Fits scopes (type_marks (roll-RawType (RawType-F.Array n element.0))) = fits in
      let used : Fits scopes (length_marks n ++ type_marks element.0) = rw fold-roll-RawType at fit in
      let inner = element.1 (fits_behind scopes (length_marks n) (type_marks element.0) (still_length n) used) in
      let count : ℕ = or_zero (written_length constants (named_length scopes n)) in
      let of : Ty = typed element.0 in
      same_by (roll-RawType (RawType-F.Array n element.0)) (type.Array count of) (base_of element.0) (count ∷ lengths_of of)
      (rw fold-roll-RawType (written_at constants (named.Array (named_length scopes n) (named_type scopes element.0))
      (NamedType-F.Array (named_length scopes n) (named_type scopes element.0))
      (named.outs-Array (named_length scopes n) (named_type scopes element.0))))
      (rw fold-roll-RawType refl) (lengths_at (type.Array count of) (Ty-F.Array count of) (type.outs-Array count of))
      (ap (λ e. roll-Ty (Ty-F.Array count e)) inner.same ∙ type.rolls-Array count of) inner.stands

  pub same_type : (ty : RawType) → Same ty
  same_type = ind-RawType Same (λ x y is. subst (λ level. Same (roll-RawType level)) is (level_same y))

-- ---- lengths and depth

-- the lengths of a type that stands are from 1 to 65,536
pub lengths_stand : (n : ℕ) (ty : Ty) → type_stands n ty ≡ true → list_all is_length (lengths_of ty) ≡ true
lengths_stand n =
    induct (λ ty. type_stands n ty ≡ true → list_all is_length (lengths_of ty) ≡ true)
    (λ s stands. ap (list_all is_length) (fold-roll-Ty (List ℕ) lengths_level (Ty-F.Scalar s)))
    (λ k stands. ap (list_all is_length) (fold-roll-Ty (List ℕ) lengths_level (Ty-F.Struct k)))
    (λ length element inner stands.
    let these = sym (fold-roll-Ty Bool (type_stands_level n) (Ty-F.Array length element)) ∙ stands in
    ap (list_all is_length) (fold-roll-Ty (List ℕ) lengths_level (Ty-F.Array length element))
    ∙ and_from (is_length length) (list_all is_length (lengths_of element))
    (and_first (nat_le 1 length && nat_le length 65536) (type_stands n element) these)
    (inner (and_second (nat_le 1 length && nat_le length 65536) (type_stands n element) these)))

none_added : (n : ℕ) → n ≡ 0 + n
none_added n = omega arith

one_deeper : (n m : ℕ) → 1 + (n + m) ≡ suc n + m
one_deeper n m = omega arith

arrays_nest : (known : List ℕ) (lengths : List ℕ) (ty : Ty) → nesting_by known (array_of lengths ty) ≡ length lengths + nesting_by known ty
arrays_nest known [] ty = none_added (nesting_by known ty)
arrays_nest known (n ∷ lengths) ty =
    nesting_array known n (array_of lengths ty) ∙ ap (λ m. 1 + m) (arrays_nest known lengths ty)
    ∙ one_deeper (length lengths) (nesting_by known ty)

-- each struct for which a name stands has a lesser position, and is nested as deep as is told
abbrev pub DepthsTold : List ℕ → ℕ → DeclaredNames → Type 0
DepthsTold known n names = (text : List ℕ) (at depth : ℕ) → referent_of names text ≡ Some (referent.Struct at depth) →
    (depth ≡ slice_index known at) × (at < n)

-- a name that stands for a struct
pub some_struct : (found : Option Referent) → is_struct found ≡ true → (at : ℕ) × (depth : ℕ) × (found ≡ Some (referent.Struct at depth))
some_struct None is = absurd (cc)
some_struct (Some (referent.Struct at depth)) is = (at, depth, refl)
some_struct (Some referent.Other) is = absurd (cc)

base_nests : (known : List ℕ) (n : ℕ) (names : DeclaredNames) → DepthsTold known n names → (of : FaceBase) → base_stands names of ≡ true →
    nesting_by known (resolved_base names of) ≡ base_depth names of
base_nests known n names told (base.Scalar s) stands = nesting_scalar known s
base_nests known n names told (base.Struct text) stands =
    let found = some_struct (referent_of names text) stands in
    nesting_struct known (struct_position (referent_of names text))
    ∙ ap (λ (found : Option Referent). slice_index known (struct_position found)) found.2
    ∙ sym (told text found.0 found.1 found.2).0
    ∙ sym (ap depth_of found.2)

-- a type is nested as deep as is told by the names
pub type_nests : (known : List ℕ) (n : ℕ) (names : DeclaredNames) → DepthsTold known n names → (ty : FaceType) → base_stands names ty.base ≡ true →
    nesting_by known (resolved_type names ty) ≡ type_depth names ty
type_nests known n names told ty stands =
    arrays_nest known ty.lengths (resolved_base names ty.base) ∙ ap (λ m. length ty.lengths + m) (base_nests known n names told ty.base stands)
