-- What holds of the C of every typed program's expressions, paths and acts, as a text.
use Rattle.std.specs.Prelude.{◌≡◌, ℕ, Bool, true, List, take, Some, slice_get}
use Rattle.bl_tree.specs.declared.tree.Expr.{Expr}
use Rattle.bl_tree.specs.declared.tree.Path.{Path, out-Path}
use Rattle.bl_tree.specs.declared.tree.Stmt.{Stmt, out-Stmt}
use Rattle.bl_tree.specs.declared.tree.StmtKind.{out-StmtKind}
use Rattle.bl_tree.specs.declared.tree.StructDef.{StructDef}
use Rattle.bl_tree.specs.declared.tree.Ty.{Ty}
use Rattle.bl_tree.specs.declared.tree.Unit.{Unit as UnitDef}
use Rattle.bl_tree.specs.Program.{IsWellTyped}
use Rattle.bl_tree.specs.Typing.{fits, site_of, type_of, type_of_path}
use Rattle.bl_ctext_semantics.specs.Faults.{Context}
use Rattle.bl_emit_acts.specs.Acts.{act_code, code_made, is_copied}
use Rattle.bl_emit_acts.specs.Expressions.{stands}
use Rattle.bl_emit_acts.specs.Types.{c_type}
use Rattle.bl_emit_acts_laws_simulation.specs.Acts.{copied_in_layer, is_act}
use Rattle.bl_emit_acts_laws_simulation.specs.Encodes.{copied_in, copied_in_path}
use Rattle.bl_emit_acts_laws_wellformed.specs.Formed.Declared.{ChangesNone, Declared, InActivity, leads_through}
use Rattle.bl_emit_acts_laws_wellformed.specs.Formed.Formed.{BlockIs, ExprIs, PlaceIs}

-- what is made of an expression has the C type of the expression's type, and nothing fails in it
abbrev pub ExpressionsTyped : List StructDef → List UnitDef → ℕ → Type 0
ExpressionsTyped structs units entry =
    (k : ℕ) (unit : UnitDef) (e : Expr) (ty : Ty) (copied : ℕ → Bool) (context : Context)
    → IsWellTyped structs units entry → slice_get units k ≡ Some unit →
    Declared (site_of structs (take k units) unit) copied context → type_of (site_of structs (take k units) unit) e ≡ Some ty →
    InActivity (site_of structs (take k units) unit) (copied_in copied e) → ExprIs context (c_type structs ty)
    (code_made (site_of structs (take k units) unit) e)

-- the place of a path has the C type of the path's type, and nothing fails in it
abbrev pub PlacesTyped : List StructDef → List UnitDef → ℕ → Type 0
PlacesTyped structs units entry =
    (k : ℕ) (unit : UnitDef) (path : Path) (ty : Ty) (copied : ℕ → Bool) (context : Context) → IsWellTyped structs units entry →
    slice_get units k ≡ Some unit → Declared (site_of structs (take k units) unit) copied context →
    type_of_path (site_of structs (take k units) unit) path ≡ Some ty → InActivity (site_of structs (take k units) unit) (copied_in_path copied path) →
    PlaceIs context (leads_through (site_of structs (take k units) unit) (out-Path path).root) (c_type structs ty)
    (stands (site_of structs (take k units) unit) path).place

-- nothing fails in the C of an assignment, a declaration or a call that fits
abbrev pub ActsWellFormed : List StructDef → List UnitDef → ℕ → Type 0
ActsWellFormed structs units entry =
    (k : ℕ) (unit : UnitDef) (s : Stmt) (copies : List Bool) (context : Context) → IsWellTyped structs units entry → slice_get units k ≡ Some unit →
    Declared (site_of structs (take k units) unit) (is_copied copies) context → ChangesNone (site_of structs (take k units) unit) context →
    is_act (out-StmtKind (out-Stmt s).what) ≡ true → fits (site_of structs (take k units) unit) s ≡ true →
    InActivity (site_of structs (take k units) unit) (copied_in_layer (is_copied copies) (out-StmtKind (out-Stmt s).what)) →
    BlockIs context (act_code (site_of structs (take k units) unit) copies s)
