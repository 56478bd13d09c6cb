-- What holds of the C structs of every typed program.
use Rattle.std.specs.Prelude.{◌≡◌, ℕ, Bool, true, ◌&&◌, List, [], ◌∷◌, ◌++◌, map, length, bytes_eq}
use Rattle.std.specs.List.{list_all, list_any}
use Rattle.bl_tree.specs.declared.text.Text.{Text}
use Rattle.bl_tree.specs.declared.c.CStruct.{CStruct}
use Rattle.bl_tree.specs.declared.c.CType.{CType}
use Rattle.bl_tree.specs.declared.c.CType.TheVariants.{Scalar as OfScalar, Struct as OfStruct}
use Rattle.bl_tree.specs.declared.tree.StructDef.{StructDef}
use Rattle.bl_tree.specs.declared.tree.Ty.{Ty}
use Rattle.bl_tree.specs.declared.tree.Unit.{Unit as UnitDef}
use Rattle.bl_tree.specs.Program.{IsWellTyped}
use Rattle.bl_tree.specs.Types.{type_stands}
use Rattle.bl_tree.specs.Words.{are_distinct}
use Rattle.bl_emit_acts.specs.Types.{c_type, type_name}
use Rattle.bl_emit_structs.specs.Structs.{each_once, structs_for}

-- the names of structs, in order
abbrev pub names_of : List CStruct → List Text
names_of structs = map (λ s. s.name) structs

-- the names of a struct's members, in order
abbrev pub member_names : CStruct → List Text
member_names s = map (λ m. m.name) s.members

-- whether a type is a scalar, or a struct of one of these names
abbrev pub is_known : List Text → CType → Bool
is_known names (OfScalar s) = true
is_known names (OfStruct name) = list_any (bytes_eq name) names

-- whether the members of each struct are of types that are known before it, where these names stand before all
abbrev pub are_known : List Text → List CStruct → Bool
are_known names [] = true
are_known names (s ∷ rest) = list_all (λ m. is_known names m.ty) s.members && are_known (names ++ s.name ∷ []) rest

-- no two of a program's structs have one name
abbrev pub NamesDiffer : List StructDef → List UnitDef → Type 0
NamesDiffer structs units = are_distinct (names_of (each_once [] (structs_for structs units))) ≡ true

-- no two members of one of a typed program's structs have one name
abbrev pub MembersDiffer : List StructDef → List UnitDef → ℕ → Type 0
MembersDiffer structs units entry =
    IsWellTyped structs units entry → list_all (λ (s : CStruct). are_distinct (member_names s)) (each_once [] (structs_for structs units)) ≡ true

-- each of a typed program's structs uses earlier ones alone
abbrev pub UsesEarlier : List StructDef → List UnitDef → ℕ → Type 0
UsesEarlier structs units entry = IsWellTyped structs units entry → are_known [] (each_once [] (structs_for structs units)) ≡ true

-- the type of each variable of a typed program's units is a scalar or one of the program's structs
abbrev pub TypesDeclared : List StructDef → List UnitDef → ℕ → Type 0
TypesDeclared structs units entry =
    IsWellTyped structs units entry
    → list_all (λ (unit : UnitDef). list_all
    (λ var. is_known (names_of (each_once [] (structs_for structs units))) (c_type structs var.ty)) unit.vars) units
    ≡ true

-- types of a typed program that have one name are one type
abbrev pub TypesApart : List StructDef → List UnitDef → ℕ → Type 0
TypesApart structs units entry =
    (a b : Ty) → IsWellTyped structs units entry → type_stands (length structs) a ≡ true → type_stands (length structs) b ≡ true
    → type_name structs a ≡ type_name structs b → a ≡ b
