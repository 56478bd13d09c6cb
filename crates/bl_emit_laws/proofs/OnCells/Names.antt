-- Names of structs that are neither those of types nor those of variables of functions.
use Rattle.std.proofs.Common.{◌≡◌, ℕ, Bool, true, false, List, ◌++◌, drop, Some, refl, sym, ap, ◌∙◌, codes}
use Rattle.std.proofs.lemmas.Option.{same_Some}
use Rattle.std.proofs.lemmas.Slice.Eq.{bytes_eq-Decides}
use Rattle.std.specs.Prelude.{bytes_eq, slice_get}
use Rattle.bl_tree.specs.declared.scalar.Scalar.{Scalar as ScalarType}
use Rattle.bl_tree.specs.declared.scalar.Scalar.TheVariants.{Bits, Bool as OfBool, Int, Nat}
use Rattle.bl_tree.specs.declared.scalar.Width.TheVariants.{W16, W32, W64, W8}
use Rattle.bl_tree.specs.declared.text.Text.{Text}
use Rattle.bl_tree.specs.declared.tree.StructDef.{StructDef}
use Rattle.bl_tree.specs.declared.tree.Ty.{Ty, out-Ty}
use Rattle.bl_tree.specs.declared.tree.Ty.TheOpen.{Ty-F}
use Rattle.bl_tree.specs.declared.tree.Unit.{Unit as UnitDef}
use Rattle.bl_tree.specs.Typing.{is_activity}
use Rattle.bl_tree.specs.Words.{are_distinct}
use Rattle.bl_emit_acts.specs.Types.{type_name, type_word}
use Rattle.bl_emit_acts_laws_wellformed.proofs.OnFormed.Parts.{name_at}
use Rattle.bl_emit_functions.specs.Functions.{memory_name}
use Rattle.bl_emit_functions_laws_wellformed.proofs.OnFiles.Growing.{names, one_place}
use Rattle.bl_emit_functions_laws_wellformed.specs.Cells.{NamesNone}
use Rattle.bl_emit_spec.specs.Names.{frame_name}
use Rattle.bl_emit_spec_laws.proofs.OnCleared.Finding.{clash}

-- ---- texts

pub unlike : (x y : Text) → (x ≡ y → ⊥) → bytes_eq x y ≡ false
unlike x y other = by (bytes_eq x y) refl
  where
    by : (b : Bool) → bytes_eq x y ≡ b → bytes_eq x y ≡ false
    by false is = is
    by true is = absurd (other ((bytes_eq-Decides x y).0 is))

pub alike : (x y : Text) → bytes_eq x y ≡ false → x ≡ y → ⊥
alike x y other same = let no : false ≡ true = sym other ∙ (bytes_eq-Decides x y).1 same in absurd (cc)

-- ---- no name of a type

module _ (structs : List StructDef) where
  frame_type : (name : Text) (ty : Ty) (layer : Ty-F Ty) → out-Ty ty ≡ layer → bytes_eq (frame_name name) (type_name structs ty) ≡ false
  frame_type name ty (Ty-F.Scalar s) is = ap (bytes_eq (frame_name name)) (name_at structs ty (Ty-F.Scalar s) is) ∙ scalar s
    where
      scalar : (s : ScalarType) → bytes_eq (frame_name name) (type_word s) ≡ false
      scalar OfBool = refl
      scalar (Int w) = refl
      scalar (Nat w) = refl
      scalar (Bits w) = refl
  frame_type name ty (Ty-F.Struct k) is = ap (bytes_eq (frame_name name)) (name_at structs ty (Ty-F.Struct k) is)
  frame_type name ty (Ty-F.Array n e) is = ap (bytes_eq (frame_name name)) (name_at structs ty (Ty-F.Array n e) is)

  memory_type : (name : Text) (ty : Ty) (layer : Ty-F Ty) → out-Ty ty ≡ layer → bytes_eq (memory_name name) (type_name structs ty) ≡ false
  memory_type name ty (Ty-F.Scalar s) is = ap (bytes_eq (memory_name name)) (name_at structs ty (Ty-F.Scalar s) is) ∙ scalar s
    where
      scalar : (s : ScalarType) → bytes_eq (memory_name name) (type_word s) ≡ false
      scalar OfBool = refl
      scalar (Int w) = refl
      scalar (Nat w) = refl
      scalar (Bits w) = refl
  memory_type name ty (Ty-F.Struct k) is = ap (bytes_eq (memory_name name)) (name_at structs ty (Ty-F.Struct k) is)
  memory_type name ty (Ty-F.Array n e) is = ap (bytes_eq (memory_name name)) (name_at structs ty (Ty-F.Array n e) is)

  file_type : (rest : Text) (ty : Ty) (layer : Ty-F Ty) → out-Ty ty ≡ layer → bytes_eq (codes "bl_" ++ rest) (type_name structs ty) ≡ false
  file_type rest ty (Ty-F.Scalar s) is = ap (bytes_eq (codes "bl_" ++ rest)) (name_at structs ty (Ty-F.Scalar s) is) ∙ scalar s
    where
      scalar : (s : ScalarType) → bytes_eq (codes "bl_" ++ rest) (type_word s) ≡ false
      scalar OfBool = refl
      scalar (Int w) = refl
      scalar (Nat w) = refl
      scalar (Bits W8) = refl
      scalar (Bits W16) = refl
      scalar (Bits W32) = refl
      scalar (Bits W64) = refl
  file_type rest ty (Ty-F.Struct k) is = ap (bytes_eq (codes "bl_" ++ rest)) (name_at structs ty (Ty-F.Struct k) is)
  file_type rest ty (Ty-F.Array n e) is = ap (bytes_eq (codes "bl_" ++ rest)) (name_at structs ty (Ty-F.Array n e) is)

  pub no_frame : (name : Text) (ty : Ty) → bytes_eq (frame_name name) (type_name structs ty) ≡ false
  no_frame name ty = frame_type name ty (out-Ty ty) refl

  pub no_memory : (name : Text) (ty : Ty) → bytes_eq (memory_name name) (type_name structs ty) ≡ false
  no_memory name ty = memory_type name ty (out-Ty ty) refl

  pub no_file : (rest : Text) (ty : Ty) → bytes_eq (codes "bl_" ++ rest) (type_name structs ty) ≡ false
  no_file rest ty = file_type rest ty (out-Ty ty) refl

-- ---- none at all

pub frame_none : (structs : List StructDef) (units : List UnitDef) (name : Text) → NamesNone structs units (frame_name name)
frame_none structs units name = record { types = no_frame structs name; memories = λ k unit there function. refl }

pub file_none : (structs : List StructDef) (units : List UnitDef) (rest : Text) → NamesNone structs units (codes "bl_" ++ rest)
file_none structs units rest = record { types = no_file structs rest; memories = λ k unit there function. refl }

-- what an activity remembers
pub memory_none : (structs : List StructDef) (units : List UnitDef) (k : ℕ) (unit : UnitDef) → are_distinct (names units) ≡ true →
    slice_get units k ≡ Some unit → is_activity unit.kind ≡ true → NamesNone structs units (memory_name unit.name)
memory_none structs units k unit differ there active = record {
  types = no_memory structs unit.name;
  memories = λ j other found function.
      unlike (memory_name unit.name) (memory_name other.name)
      (λ same. let text : unit.name ≡ other.name = ap (drop 2) same in
      let place : k ≡ j = one_place units k j unit other differ there found text in
      let is : unit ≡ other = same_Some unit other (sym there ∙ ap (slice_get units) place ∙ found) in
      clash (is_activity other.kind) (ap (λ (u : UnitDef). is_activity u.kind) (sym is) ∙ active) function);
}
