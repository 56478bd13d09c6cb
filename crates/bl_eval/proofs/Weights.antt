-- Measures for what goes down from a struct or a unit to those before it, and from a statement to what stands in it.
use Rattle.std.proofs.Common.{◌≡◌, ℕ, suc, zero, ◌+◌, ◌<◌, ◌≤◌, max, List, [], ◌∷◌, length, get_or, map, take, arith, Option, Some, None, ◌∙◌}
use Rattle.std.specs.Prelude.{slice_get}
use Rattle.bl_tree.specs.declared.tree.Arm.{Arm, fold-Arm, fold_out-Arm, out-Arm}
use Rattle.bl_tree.specs.declared.tree.Expr.{Expr, size-Expr}
use Rattle.bl_tree.specs.declared.tree.Field.{Field}
use Rattle.bl_tree.specs.declared.tree.Part.{Part, size-Part}
use Rattle.bl_tree.specs.declared.tree.Path.{Path, out-Path}
use Rattle.bl_tree.specs.declared.tree.Stmt.{Stmt, fold-Stmt}
use Rattle.bl_tree.specs.declared.tree.StmtKind.{StmtKind, fold-StmtKind}
use Rattle.bl_tree.specs.declared.tree.StmtKind.TheOpen.{StmtKind-F, Arm-F, Branch-F, Stmt-F}
use Rattle.bl_tree.specs.declared.tree.StmtKind.TheVariants.{Declare, Assign, Call, If, Repeat, Until, While, Return}
use Rattle.bl_tree.specs.declared.tree.StructDef.{StructDef}
use Rattle.bl_tree.specs.declared.tree.Ty.{size-Ty}
use Rattle.bl_tree.specs.declared.tree.Unit.{Unit as UnitDef}
use Rattle.bl_tree.specs.Reduce.{greatest}

-- how deep the deepest of the fields' types is
abbrev pub fields_depth : List Field → ℕ
fields_depth fields = greatest (map (λ field. size-Ty field.ty) fields)

abbrev pub structs_weight : List StructDef → ℕ
structs_weight [] = 0
structs_weight (def ∷ rest) = 1 + fields_depth def.fields + structs_weight rest

-- a struct weighs what those before it do and its own fields, and more
pub weight_before : (structs : List StructDef) (k : ℕ) (def : StructDef) → slice_get structs k ≡ Some def
    → structs_weight (take k structs) + fields_depth def.fields < structs_weight structs
weight_before [] k def there = absurd (cc)
weight_before (first ∷ rest) zero def there = let is : first ≡ def = cc in rw (← is) (omega arith)
weight_before (first ∷ rest) (suc k) def there = omega (arith, weight_before rest k def there)

pub field_depth : (fields : List Field) (k : ℕ) (d : Field) → k < length fields → size-Ty (get_or fields k d).ty ≤ fields_depth fields
field_depth [] k d within = absurd (omega arith)
field_depth (field ∷ rest) zero d within = omega arith
field_depth (field ∷ rest) (suc k) d within = let lt : k < length rest = omega arith in omega (arith, field_depth rest k d lt)

-- ---- statements, with the expressions in them

abbrev pub exprs_depth : List Expr → ℕ
exprs_depth es = greatest (map size-Expr es)

abbrev pub parts_depth : List Part → ℕ
parts_depth parts = greatest (map size-Part parts)

abbrev pub path_depth : Path → ℕ
path_depth path = parts_depth (out-Path path).parts

abbrev pub paths_depth : List Path → ℕ
paths_depth paths = greatest (map path_depth paths)

abbrev pub optional_depth : Option Expr → ℕ
optional_depth None = 0
optional_depth (Some e) = size-Expr e

abbrev kind_weight : StmtKind-F ℕ ℕ ℕ ℕ → ℕ
kind_weight (StmtKind-F.Declare k initial) = 1 + optional_depth initial
kind_weight (StmtKind-F.Assign path e) = 1 + max (path_depth path) (size-Expr e)
kind_weight (StmtKind-F.Call f inputs outputs) = 1 + max (exprs_depth inputs) (paths_depth outputs)
kind_weight (StmtKind-F.Await e) = 1
kind_weight (StmtKind-F.Run target a inputs outputs) = 1
kind_weight (StmtKind-F.If arms other) = 1 + max (greatest arms) (greatest other)
kind_weight (StmtKind-F.Cobegin branches) = 1
kind_weight (StmtKind-F.When guard e body) = 1
kind_weight (StmtKind-F.Repeat body) = 1 + greatest body
kind_weight (StmtKind-F.Until body e) = 1 + max (greatest body) (size-Expr e)
kind_weight (StmtKind-F.While e body) = 1 + max (greatest body) (size-Expr e)
kind_weight (StmtKind-F.Return e) = 1 + optional_depth e

abbrev arm_layer : Arm-F ℕ ℕ ℕ ℕ → ℕ
arm_layer arm = max (size-Expr arm.test) (greatest arm.body)

abbrev branch_layer : Branch-F ℕ ℕ ℕ ℕ → ℕ
branch_layer branch = 0

abbrev stmt_layer : Stmt-F ℕ ℕ ℕ ℕ → ℕ
stmt_layer s = 1 + s.what

abbrev pub what_weight : StmtKind → ℕ
what_weight = fold-StmtKind ℕ ℕ ℕ ℕ kind_weight arm_layer branch_layer stmt_layer

abbrev pub arm_weight : Arm → ℕ
arm_weight = fold-Arm ℕ ℕ ℕ ℕ kind_weight arm_layer branch_layer stmt_layer

abbrev pub stmt_weight : Stmt → ℕ
stmt_weight = fold-Stmt ℕ ℕ ℕ ℕ kind_weight arm_layer branch_layer stmt_layer

abbrev pub block_weight : List Stmt → ℕ
block_weight body = greatest (map stmt_weight body)

abbrev pub arms_weight : List Arm → ℕ
arms_weight arms = greatest (map arm_weight arms)

pub arm_out : (arm : Arm) → arm_weight arm ≡ max (size-Expr (out-Arm arm).test) (block_weight (out-Arm arm).body)
arm_out = fold_out-Arm ℕ ℕ ℕ ℕ kind_weight arm_layer branch_layer stmt_layer

abbrev pub units_weight : List UnitDef → ℕ
units_weight [] = 0
units_weight (unit ∷ rest) = 1 + block_weight unit.body + units_weight rest

-- a unit weighs what those before it do and its own body, and more
pub unit_before : (units : List UnitDef) (k : ℕ) (unit : UnitDef) → Some unit ≡ slice_get units k
    → units_weight (take k units) + block_weight unit.body < units_weight units
unit_before [] k unit there = absurd (cc)
unit_before (first ∷ rest) zero unit there = let is : first ≡ unit = cc in rw (← is) (omega arith)
unit_before (first ∷ rest) (suc k) unit there = omega (arith, unit_before rest k unit there)

pub stmt_depth : (body : List Stmt) (k : ℕ) (d : Stmt) → k < length body → stmt_weight (get_or body k d) ≤ block_weight body
stmt_depth [] k d within = absurd (omega arith)
stmt_depth (s ∷ rest) zero d within = omega arith
stmt_depth (s ∷ rest) (suc k) d within = let lt : k < length rest = omega arith in omega (arith, stmt_depth rest k d lt)

pub arm_depth : (arms : List Arm) (k : ℕ) (d : Arm) → k < length arms → arm_weight (get_or arms k d) ≤ arms_weight arms
arm_depth [] k d within = absurd (omega arith)
arm_depth (arm ∷ rest) zero d within = omega arith
arm_depth (arm ∷ rest) (suc k) d within = let lt : k < length rest = omega arith in omega (arith, arm_depth rest k d lt)

pub path_at : (paths : List Path) (k : ℕ) (d : Path) → k < length paths → path_depth (get_or paths k d) ≤ paths_depth paths
path_at [] k d within = absurd (omega arith)
path_at (path ∷ rest) zero d within = omega arith
path_at (path ∷ rest) (suc k) d within = let lt : k < length rest = omega arith in omega (arith, path_at rest k d lt)
