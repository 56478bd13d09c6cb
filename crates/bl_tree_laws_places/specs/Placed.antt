-- Typed trees whose places are mapped.
use Rattle.std.specs.Prelude.{List, map, option_map}
use Rattle.bl_tree.specs.declared.place.Place.{Place}
use Rattle.bl_tree.specs.declared.tree.Arm.{Arm, roll-Arm}
use Rattle.bl_tree.specs.declared.tree.Branch.{Branch, roll-Branch}
use Rattle.bl_tree.specs.declared.tree.Expr.{Expr, fold-Expr, roll-Expr}
use Rattle.bl_tree.specs.declared.tree.ExprKind.{ExprKind, roll-ExprKind}
use Rattle.bl_tree.specs.declared.tree.ExprKind.TheOpen.{Expr-F, Path-F}
use Rattle.bl_tree.specs.declared.tree.Part.{Part, roll-Part}
use Rattle.bl_tree.specs.declared.tree.Path.{Path, fold-Path, roll-Path}
use Rattle.bl_tree.specs.declared.tree.Stmt.{Stmt, fold-Stmt, roll-Stmt}
use Rattle.bl_tree.specs.declared.tree.StmtKind.{StmtKind, roll-StmtKind}
use Rattle.bl_tree.specs.declared.tree.StmtKind.TheOpen.{StmtKind-F, Arm-F, Stmt-F}
use Rattle.bl_tree.specs.declared.tree.StructDef.{StructDef}
use Rattle.bl_tree.specs.declared.tree.Unit.{Unit as UnitDef}
use Rattle.bl_tree.specs.declared.tree.Var.{Var}

-- ---- expressions

-- an expression at the mapped place, from its mapped kind
abbrev pub placed_expr_layer : (Place → Place) → Expr-F ExprKind Part Expr Path → Expr
placed_expr_layer f e = roll-Expr (record { place = f e.place; what = e.what })

-- a path at the mapped place, from its mapped parts
abbrev pub placed_path_layer : (Place → Place) → Path-F ExprKind Part Expr Path → Path
placed_path_layer f path = roll-Path (record { place = f path.place; root = path.root; parts = path.parts; ty = path.ty })

-- an expression with all places mapped
abbrev pub placed_expr : (Place → Place) → Expr → Expr
placed_expr f = fold-Expr ExprKind Part Expr Path roll-ExprKind roll-Part (placed_expr_layer f) (placed_path_layer f)

-- a path with all places mapped
abbrev pub placed_path : (Place → Place) → Path → Path
placed_path f = fold-Path ExprKind Part Expr Path roll-ExprKind roll-Part (placed_expr_layer f) (placed_path_layer f)

-- ---- statements

-- a layer of a statement, in which the places of expressions and paths are mapped
abbrev pub placed_level : {K A B S : Type 0} → (Place → Place) → StmtKind-F K A B S → StmtKind-F K A B S
placed_level f (StmtKind-F.Declare k initial) = StmtKind-F.Declare k (option_map (placed_expr f) initial)
placed_level f (StmtKind-F.Assign path e) = StmtKind-F.Assign (placed_path f path) (placed_expr f e)
placed_level f (StmtKind-F.Call callee inputs outputs) = StmtKind-F.Call callee (map (placed_expr f) inputs) (map (placed_path f) outputs)
placed_level f (StmtKind-F.Await e) = StmtKind-F.Await (placed_expr f e)
placed_level f (StmtKind-F.Run target callee inputs outputs) =
    StmtKind-F.Run (option_map (placed_path f) target) callee (map (placed_expr f) inputs) (map (placed_path f) outputs)
placed_level f (StmtKind-F.If arms other) = StmtKind-F.If arms other
placed_level f (StmtKind-F.Cobegin branches) = StmtKind-F.Cobegin branches
placed_level f (StmtKind-F.When guard e body) = StmtKind-F.When guard (placed_expr f e) body
placed_level f (StmtKind-F.Repeat body) = StmtKind-F.Repeat body
placed_level f (StmtKind-F.Until body e) = StmtKind-F.Until body (placed_expr f e)
placed_level f (StmtKind-F.While e body) = StmtKind-F.While (placed_expr f e) body
placed_level f (StmtKind-F.Return e) = StmtKind-F.Return (option_map (placed_expr f) e)

-- what a statement does with its places mapped, from its mapped arms, branches and blocks
abbrev pub placed_kind : (Place → Place) → StmtKind-F StmtKind Arm Branch Stmt → StmtKind
placed_kind f layer = roll-StmtKind (placed_level f layer)

-- an arm with its places mapped, from its mapped block
abbrev pub placed_arm : (Place → Place) → Arm-F StmtKind Arm Branch Stmt → Arm
placed_arm f arm = roll-Arm (record { test = placed_expr f arm.test; body = arm.body })

-- a statement at the mapped place, from its mapped kind
abbrev pub placed_stmt_layer : (Place → Place) → Stmt-F StmtKind Arm Branch Stmt → Stmt
placed_stmt_layer f s = roll-Stmt (record { place = f s.place; what = s.what })

-- a statement with all places mapped
abbrev pub placed_stmt : (Place → Place) → Stmt → Stmt
placed_stmt f = fold-Stmt StmtKind Arm Branch Stmt (placed_kind f) (placed_arm f) roll-Branch (placed_stmt_layer f)

-- ---- units and structs

-- a variable at the mapped place
abbrev pub placed_var : (Place → Place) → Var → Var
placed_var f var = record { name = var.name; place = f var.place; ty = var.ty; role = var.role }

-- a unit with all places mapped
abbrev pub placed_unit : (Place → Place) → UnitDef → UnitDef
placed_unit f unit = record {
  name = unit.name;
  place = f unit.place;
  kind = unit.kind;
  vars = map (placed_var f) unit.vars;
  inputs = unit.inputs;
  outputs = unit.outputs;
  result = unit.result;
  body = map (placed_stmt f) unit.body;
}

-- units with all places mapped
abbrev pub placed_units : (Place → Place) → List UnitDef → List UnitDef
placed_units f units = map (placed_unit f) units

-- a struct at the mapped place
abbrev pub placed_struct : (Place → Place) → StructDef → StructDef
placed_struct f def = record { name = def.name; place = f def.place; fields = def.fields }

-- structs at mapped places
abbrev pub placed_structs : (Place → Place) → List StructDef → List StructDef
placed_structs f structs = map (placed_struct f) structs
