-- What assignments that are made by hand read and write.
use Rattle.std.proofs.Common.{◌≡◌, ℕ, List, [], ◌∷◌, ◌++◌, refl, ap, ◌∙◌}
use Rattle.bl_tree.specs.declared.scalar.Op.{Op}
use Rattle.bl_tree.specs.declared.scalar.Op.TheVariants.{Add, Mul}
use Rattle.bl_tree.specs.declared.static_path.Static.{Static}
use Rattle.bl_tree.specs.declared.tree.Expr.{Expr, fold-roll-Expr}
use Rattle.bl_tree.specs.declared.tree.ExprKind.{ExprKind, fold-ExprKind, fold-roll-ExprKind, map-ExprKind}
use Rattle.bl_tree.specs.declared.tree.ExprKind.TheOpen.{ExprKind-F}
use Rattle.bl_tree.specs.declared.tree.Part.{Part}
use Rattle.bl_tree.specs.declared.tree.Path.{Path, fold-roll-Path}
use Rattle.bl_tree.specs.declared.tree.Stmt.{fold-roll-Stmt}
use Rattle.bl_tree.specs.declared.tree.StmtKind.{fold-roll-StmtKind}
use Rattle.bl_tree.specs.Effects.{reads, writes}
use Rattle.bl_tree.specs.Static.{Reach, StaticStep, expr_mentions, kind_mentions, mentions, part_step, path_reach, reach_of, set_of, step_of, whole}
use Rattle.bl_ctree_laws_examples.specs.Trees.Made.{always, expr, flag, flag_path, number, set, two, value, variable}
use Rattle.bl_ctree_laws_examples.specs.Trees.TwoWay.{i, o, sets_o, sets_x, sets_y, x, y}

-- a whole variable as a place
abbrev reached : ℕ → Reach
reached k = record { static = whole k; indices = [] }

pub path_is : (k : ℕ) → reach_of (variable k) ≡ reached k
path_is k = rw fold-roll-Path refl

flag_path_is : (k : ℕ) → reach_of (flag_path k) ≡ reached k
flag_path_is k = rw fold-roll-Path refl

-- what an expression of a kind reads
abbrev parts_mentioned : ExprKind-F ExprKind Part Expr Path → ExprKind-F (List Static) StaticStep (List Static) Reach
parts_mentioned = map-ExprKind ExprKind Part Expr Path (List Static) StaticStep (List Static) Reach
    (fold-ExprKind (List Static) StaticStep (List Static) Reach kind_mentions part_step expr_mentions path_reach) step_of mentions reach_of

mentions_at : (layer : ExprKind-F ExprKind Part Expr Path) → mentions (expr layer) ≡ kind_mentions (parts_mentioned layer)
mentions_at layer = rw (fold-roll-Expr, fold-roll-ExprKind) refl

value_reads : (k : ℕ) → mentions (value k) ≡ whole k ∷ []
value_reads k = (rw (fold-roll-Expr, fold-roll-ExprKind) refl) ∙ ap (λ (r : Reach). r.static ∷ r.indices) (path_is k)

pub flag_reads : (k : ℕ) → mentions (flag k) ≡ whole k ∷ []
flag_reads k = (rw (fold-roll-Expr, fold-roll-ExprKind) refl) ∙ ap (λ (r : Reach). r.static ∷ r.indices) (flag_path_is k)

pub always_reads : mentions always ≡ []
always_reads = rw (fold-roll-Expr, fold-roll-ExprKind) refl

number_reads : (n : ℕ) → mentions (number n) ≡ []
number_reads n = rw (fold-roll-Expr, fold-roll-ExprKind) refl

two_reads : (op : Op) (a b : Expr) → mentions (two op a b) ≡ mentions a ++ (mentions b ++ [])
two_reads op a b = mentions_at (ExprKind-F.Two op a b)

set_reads : (place k : ℕ) (e : Expr) → reads (set place k e) ≡ set_of ((reach_of (variable k)).indices ++ mentions e)
set_reads place k e = rw (fold-roll-Stmt, fold-roll-StmtKind) refl

set_writes : (place k : ℕ) (e : Expr) → writes (set place k e) ≡ set_of ((reach_of (variable k)).static ∷ [])
set_writes place k e = rw (fold-roll-Stmt, fold-roll-StmtKind) refl

-- an assignment reads what its expression reads
reads_of : (place k : ℕ) (e : Expr) (all : List Static) → mentions e ≡ all → reads (set place k e) ≡ set_of all
reads_of place k e all is = set_reads place k e ∙ (λ j. set_of ((path_is k j).indices ++ is j))

-- and writes its target
pub writes_of : (place k : ℕ) (e : Expr) → writes (set place k e) ≡ whole k ∷ []
writes_of place k e = set_writes place k e ∙ (λ j. set_of ((path_is k j).static ∷ []))

with_number : (op : Op) (k n : ℕ) → mentions (two op (value k) (number n)) ≡ whole k ∷ []
with_number op k n = two_reads op (value k) (number n) ∙ (λ j. value_reads k j ++ (number_reads n j ++ []))

pub x_reads : reads sets_x ≡ whole i ∷ []
x_reads = reads_of 1 x (two Add (value i) (number 1)) (whole i ∷ []) (with_number Add i 1)

pub o_reads : reads sets_o ≡ whole y ∷ []
o_reads = reads_of 2 o (value y) (whole y ∷ []) (value_reads y)

pub y_reads : reads sets_y ≡ whole x ∷ []
y_reads = reads_of 4 y (two Mul (value x) (number 2)) (whole x ∷ []) (with_number Mul x 2)

pub x_writes : writes sets_x ≡ whole x ∷ []
x_writes = writes_of 1 x (two Add (value i) (number 1))

pub o_writes : writes sets_o ≡ whole o ∷ []
o_writes = writes_of 2 o (value y)

pub y_writes : writes sets_y ≡ whole y ∷ []
y_writes = writes_of 4 y (two Mul (value x) (number 2))
