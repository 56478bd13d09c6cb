-- The columns of a file are the inputs and outputs of its entry.
use Rattle.std.proofs.Common.{◌≡◌, true, List, [], ◌∷◌, ◌++◌, map, drop, Option, Some, refl, sym, ap}
use Rattle.std.proofs.Common.{ap₂, ◌∙◌}
use Rattle.std.proofs.lemmas.Option.{same_Some}
use Rattle.std.specs.List.{list_all}
use Rattle.std.specs.Prelude.{filter_map, unwrap_or}
use Rattle.bl_tree.proofs.Basics.{and_first, and_second}
use Rattle.bl_tree.specs.declared.c.CMember.{CMember}
use Rattle.bl_tree.specs.declared.c.CType.TheVariants.{Scalar as OfScalar}
use Rattle.bl_tree.specs.declared.row.Column.{Column}
use Rattle.bl_tree.specs.declared.scalar.Scalar.{Scalar as ScalarType}
use Rattle.bl_tree.specs.declared.scalar.Scalar.TheVariants.{Bool as OfBool, Bits, Int, Nat}
use Rattle.bl_tree.specs.declared.text.Text.{Text}
use Rattle.bl_tree.specs.declared.tree.StructDef.{StructDef}
use Rattle.bl_tree.specs.declared.tree.Ty.{Ty, out-Ty}
use Rattle.bl_tree.specs.declared.tree.Ty.TheOpen.{Ty-F}
use Rattle.bl_tree.specs.declared.tree.Var.{Var}
use Rattle.bl_tree.specs.Ports.{column_type, columns_of}
use Rattle.bl_tree.specs.Types.{scalar_at, scalar_in}
use Rattle.bl_ctext_semantics.specs.Cells.{column_of, column_typed}
use Rattle.bl_emit_acts.specs.Types.{c_scalar, type_level, type_name}
use Rattle.bl_emit_spec.specs.Programs.{port_member}
use Rattle.bl_machine_pass_laws_typing.proofs.OnStarts.{some_scalar, is_scalar}

same_types : (s : ScalarType) → c_scalar s ≡ column_type s
same_types OfBool = refl
same_types (Int w) = refl
same_types (Nat w) = refl
same_types (Bits w) = refl

-- the type in C of a scalar
pub scalar_level : (name : Text) (layer : Ty-F Ty) (s : ScalarType) → scalar_at layer ≡ Some s → type_level name layer ≡ OfScalar (c_scalar s)
scalar_level name (Ty-F.Scalar t) s is = ap (λ (t : ScalarType). OfScalar (c_scalar t)) (same_Some t s is)
scalar_level name (Ty-F.Struct k) s is = absurd (cc)
scalar_level name (Ty-F.Array n inner) s is = absurd (cc)

filtered : (f : CMember → Option Column) (m : CMember) (rest : List CMember) (c : Column) → f m ≡ Some c → filter_map f (m ∷ rest)
    ≡ c ∷ filter_map f rest
filtered f m rest c is = rw is refl

module _ (structs : List StructDef) (prefix : Text) (behind : (name : Text) → drop 2 (prefix ++ name) ≡ name) where
  one_column : (var : Var) → is_scalar var ≡ true → column_of (port_member structs prefix var)
      ≡ Some (record { name = var.name; ty = column_type (unwrap_or (scalar_in var.ty) OfBool) })
  one_column var scalar =
      let found = some_scalar (scalar_in var.ty) scalar in
      ap (column_typed (prefix ++ var.name)) (scalar_level (type_name structs var.ty) (out-Ty var.ty) found.0 found.1)
      ∙ ap₂ (λ (name : Text) (ty : ScalarType). Some (record { name = name; ty = ty })) (behind var.name) (same_types found.0)
      ∙ ap (λ (o : Option ScalarType). Some (record { name = var.name; ty = column_type (unwrap_or o OfBool) })) (sym found.1)

  pub columns : (vars : List Var) → list_all is_scalar vars ≡ true → filter_map column_of (map (port_member structs prefix) vars) ≡ columns_of vars
  columns [] scalars = refl
  columns (var ∷ vars) scalars =
      filtered column_of (port_member structs prefix var) (map (port_member structs prefix) vars)
      (record { name = var.name; ty = column_type (unwrap_or (scalar_in var.ty) OfBool) })
      (one_column var (and_first (is_scalar var) (list_all is_scalar vars) scalars))
      ∙ ap (λ rest. record { name = var.name; ty = column_type (unwrap_or (scalar_in var.ty) OfBool) } ∷ rest)
      (columns vars (and_second (is_scalar var) (list_all is_scalar vars) scalars))
