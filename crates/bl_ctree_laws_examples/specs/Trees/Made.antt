-- Parts of typed programs, made by hand. Places tell nothing but the statements apart, and names are empty where nothing asks for them.
use Rattle.std.specs.Prelude.{ℕ, pos, false, List, []}
use Rattle.bl_tree.specs.declared.place.Place.{Place}
use Rattle.bl_tree.specs.declared.scalar.Op.{Op}
use Rattle.bl_tree.specs.declared.scalar.Scalar.TheVariants.{Bool as OfBool, Int}
use Rattle.bl_tree.specs.declared.scalar.Width.TheVariants.{W32}
use Rattle.bl_tree.specs.declared.tree.Arm.{Arm}
use Rattle.bl_tree.specs.declared.tree.Branch.{Branch, roll-Branch}
use Rattle.bl_tree.specs.declared.tree.Expr.{Expr, roll-Expr}
use Rattle.bl_tree.specs.declared.tree.ExprKind.{ExprKind, roll-ExprKind}
use Rattle.bl_tree.specs.declared.tree.ExprKind.TheOpen.{ExprKind-F}
use Rattle.bl_tree.specs.declared.tree.Part.{Part}
use Rattle.bl_tree.specs.declared.tree.Path.{Path, roll-Path}
use Rattle.bl_tree.specs.declared.tree.Role.{Role}
use Rattle.bl_tree.specs.declared.tree.Stmt.{Stmt, roll-Stmt}
use Rattle.bl_tree.specs.declared.tree.StmtKind.{StmtKind, roll-StmtKind}
use Rattle.bl_tree.specs.declared.tree.StmtKind.TheOpen.{StmtKind-F}
use Rattle.bl_tree.specs.declared.tree.Ty.{Ty, roll-Ty}
use Rattle.bl_tree.specs.declared.tree.Ty.TheOpen.{Ty-F}
use Rattle.bl_tree.specs.declared.tree.Var.{Var}

-- a place in the source, by where it begins
abbrev pub at : ℕ → Place
at k = record { start = k; end = k }

-- the type `int32`
abbrev pub int32 : Ty
int32 = roll-Ty (Ty-F.Scalar (Int W32))

-- an expression of this kind
abbrev pub expr : ExprKind-F ExprKind Part Expr Path → Expr
expr what = roll-Expr (record { place = at 0; what = roll-ExprKind what })

-- a number
abbrev pub number : ℕ → Expr
number n = expr (ExprKind-F.Literal (pos n) (Int W32))

-- `true`
abbrev pub always : Expr
always = expr (ExprKind-F.Literal (pos 1) OfBool)

-- a whole variable as a place
abbrev pub variable : ℕ → Path
variable k = roll-Path (record { place = at 0; root = k; parts = []; ty = int32 })

-- the value of a whole variable
abbrev pub value : ℕ → Expr
value k = expr (ExprKind-F.Read (variable k))

-- a whole variable of type `bool` as a place
abbrev pub flag_path : ℕ → Path
flag_path k = roll-Path (record { place = at 0; root = k; parts = []; ty = roll-Ty (Ty-F.Scalar OfBool) })

-- the value of a whole variable of type `bool`
abbrev pub flag : ℕ → Expr
flag k = expr (ExprKind-F.Read (flag_path k))

-- two operands with an operator
abbrev pub two : Op → Expr → Expr → Expr
two op a b = expr (ExprKind-F.Two op a b)

-- a statement of this kind at the place
abbrev pub stmt : ℕ → StmtKind-F StmtKind Arm Branch Stmt → Stmt
stmt k what = roll-Stmt (record { place = at k; what = roll-StmtKind what })

-- a variable is set to the value of the expression
abbrev pub set : ℕ → ℕ → Expr → Stmt
set place k e = stmt place (StmtKind-F.Assign (variable k) e)

-- an `await` of what is true
abbrev pub await_true : ℕ → Stmt
await_true place = stmt place (StmtKind-F.Await always)

-- a strong branch
abbrev pub strong : List Stmt → Branch
strong body = roll-Branch (record { weak = false; body = body })

-- a variable of type `int32` with a name
abbrev pub named_variable : List ℕ → Role → Var
named_variable name role = record { name = name; place = at 0; ty = int32; role = role }

-- a variable of type `int32` without a name
abbrev pub var : Role → Var
var role = named_variable [] role
