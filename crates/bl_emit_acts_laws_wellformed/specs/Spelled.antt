-- How what is made of expressions and paths is spelled.
use Rattle.std.specs.Prelude.{◌≡◌, ℕ, ◌+◌, ◌*◌, ◌^◌, ◌≤◌, true, List, length, take, Some, slice_get}
use Rattle.bl_tree.specs.declared.tree.Expr.{Expr}
use Rattle.bl_tree.specs.declared.tree.Path.{Path}
use Rattle.bl_tree.specs.declared.tree.StructDef.{StructDef}
use Rattle.bl_tree.specs.declared.tree.Ty.{Ty}
use Rattle.bl_tree.specs.declared.tree.Unit.{Unit as UnitDef}
use Rattle.bl_tree.specs.Depths.{expr_depth, path_depth}
use Rattle.bl_tree.specs.Program.{IsWellTyped}
use Rattle.bl_tree.specs.Typing.{site_of, type_of, type_of_path}
use Rattle.bl_ctext.specs.inner.Fits.{expr_fits, place_fits}
use Rattle.bl_emit_acts.specs.Acts.{code_made}
use Rattle.bl_emit_acts.specs.Expressions.{stands}

-- the C of an expression has a spelling, with at most two more open brackets than twice the expression's depth
abbrev pub ExpressionsFit : List StructDef → List UnitDef → ℕ → Type 0
ExpressionsFit structs units entry =
    (k : ℕ) (unit : UnitDef) (e : Expr) (ty : Ty) → IsWellTyped structs units entry → slice_get units k ≡ Some unit → length unit.vars ≤ 2 ^ 64 →
    type_of (site_of structs (take k units) unit) e ≡ Some ty →
    expr_fits (2 * expr_depth e + 2) (code_made (site_of structs (take k units) unit) e) ≡ true

-- the place of a path has a spelling, with at most two more open brackets than twice the path's depth
abbrev pub PlacesFit : List StructDef → List UnitDef → ℕ → Type 0
PlacesFit structs units entry =
    (k : ℕ) (unit : UnitDef) (path : Path) (ty : Ty) → IsWellTyped structs units entry → slice_get units k ≡ Some unit → length unit.vars ≤ 2 ^ 64 →
    type_of_path (site_of structs (take k units) unit) path ≡ Some ty →
    place_fits (2 * path_depth path + 2) (stands (site_of structs (take k units) unit) path).place ≡ true
