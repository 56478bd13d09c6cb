-- The plain statements of statements that are made by hand.
use Rattle.std.proofs.Common.{◌≡◌, ℕ, false, List, [], ◌∷◌, ◌++◌, map, refl, ap, ◌∙◌}
use Rattle.bl_tree.specs.declared.scalar.Op.TheVariants.{Add, Mul}
use Rattle.bl_tree.specs.declared.tree.Branch.{Branch as TypedBranch, fold-Branch, fold-roll-Branch}
use Rattle.bl_tree.specs.declared.tree.Expr.{Expr}
use Rattle.bl_tree.specs.declared.tree.Stmt.{Stmt, fold-roll-Stmt}
use Rattle.bl_tree.specs.declared.tree.StmtKind.{fold-roll-StmtKind}
use Rattle.bl_tree.specs.declared.tree.StmtKind.TheOpen.{StmtKind-F}
use Rattle.bl_graph_nodes.specs.Plain.{Act, Arm, Await, Branch, Cobegin, Plain, Position, Repeat, arm_plain, block_at, bodies_from, branch_plain, kind_plain}
use Rattle.bl_graph_nodes.specs.Plain.{label_at, plain_body, plain_stmt, stmt_plain}
use Rattle.bl_tree.specs.declared.place.Place.{Place}
use Rattle.bl_ctree_laws_examples.specs.Trees.Made.{always, at, await_true, number, set, stmt, strong, two, value}
use Rattle.bl_ctree_laws_examples.specs.Trees.TwoWay as two_way

-- the branch, whose block is still to be put at a position
abbrev branch_of : TypedBranch → Branch
branch_of = fold-Branch (Place → Position → Plain) Arm Branch (Position → Plain) kind_plain arm_plain branch_plain stmt_plain

pub set_is : (place k : ℕ) (e : Expr) → plain_stmt (set place k e) ≡ λ p. Act (label_at p) (set place k e)
set_is place k e = rw (fold-roll-Stmt, fold-roll-StmtKind) refl

declares_is : (place k : ℕ) → plain_stmt (two_way.declares place k) ≡ λ p. Act (label_at p) (two_way.declares place k)
declares_is place k = rw (fold-roll-Stmt, fold-roll-StmtKind) refl

pub pause_is : (place : ℕ) → plain_stmt (await_true place) ≡ λ p. Await (label_at p) (at place) always
pause_is place = rw (fold-roll-Stmt, fold-roll-StmtKind) refl

loop_is : (place : ℕ) (body : List Stmt) → plain_stmt (stmt place (StmtKind-F.Repeat body))
    ≡ λ p. Repeat (label_at p) (at place) (block_at (map plain_stmt body) (p ++ 0 ∷ []))
loop_is place body = rw (fold-roll-Stmt, fold-roll-StmtKind) refl

fork_is : (place : ℕ) (branches : List TypedBranch) → plain_stmt (stmt place (StmtKind-F.Cobegin branches))
    ≡ λ p. Cobegin (label_at p) (at place) (bodies_from (map branch_of branches) 0 (label_at p))
fork_is place branches = rw (fold-roll-Stmt, fold-roll-StmtKind) refl

strong_is : (body : List Stmt) → branch_of (strong body) ≡ record { weak = false; body = block_at (map plain_stmt body) }
strong_is body = rw fold-roll-Branch refl

-- the plain loops
abbrev left_turn : List (Position → Plain)
left_turn = (λ p. Act (label_at p) two_way.sets_x) ∷ (λ p. Act (label_at p) two_way.sets_o) ∷ (λ p. Await (label_at p) (at 3) always) ∷ []

abbrev right_turn : List (Position → Plain)
right_turn = (λ p. Act (label_at p) two_way.sets_y) ∷ (λ p. Await (label_at p) (at 5) always) ∷ []

left_is : map plain_stmt (two_way.sets_x ∷ two_way.sets_o ∷ await_true 3 ∷ []) ≡ left_turn
left_is i = set_is 1 two_way.x (two Add (value two_way.i) (number 1)) i ∷ set_is 2 two_way.o (value two_way.y) i ∷ pause_is 3 i ∷ []

right_is : map plain_stmt (two_way.sets_y ∷ await_true 5 ∷ []) ≡ right_turn
right_is i = set_is 4 two_way.y (two Mul (value two_way.x) (number 2)) i ∷ pause_is 5 i ∷ []

-- a strong branch that is one loop
abbrev looping : ℕ → List (Position → Plain) → Branch
looping place turn = record { weak = false; body = block_at ((λ p. Repeat (label_at p) (at place) (block_at turn (p ++ 0 ∷ []))) ∷ []) }

looping_is : (place : ℕ) (turn : List Stmt) → branch_of (strong (stmt place (StmtKind-F.Repeat turn) ∷ [])) ≡ looping place (map plain_stmt turn)
looping_is place turn =
    strong_is (stmt place (StmtKind-F.Repeat turn) ∷ []) ∙ ap (λ s. record { weak = false; body = block_at (s ∷ []) }) (loop_is place turn)

branches_are : map branch_of (strong (two_way.left_repeat ∷ []) ∷ strong (two_way.right_repeat ∷ []) ∷ [])
    ≡ looping 6 left_turn ∷ looping 7 right_turn ∷ []
branches_are i =
    (looping_is 6 (two_way.sets_x ∷ two_way.sets_o ∷ await_true 3 ∷ []) ∙ ap (looping 6) left_is) i
    ∷ (looping_is 7 (two_way.sets_y ∷ await_true 5 ∷ []) ∙ ap (looping 7) right_is) i ∷ []

forked : plain_stmt (stmt 9 (StmtKind-F.Cobegin (strong (two_way.left_repeat ∷ []) ∷ strong (two_way.right_repeat ∷ []) ∷ [])))
    ≡ λ p. Cobegin (label_at p) (at 9) (bodies_from (looping 6 left_turn ∷ looping 7 right_turn ∷ []) 0 (label_at p))
forked = fork_is 9 (strong (two_way.left_repeat ∷ []) ∷ strong (two_way.right_repeat ∷ []) ∷ [])
    ∙ (λ i p. Cobegin (label_at p) (at 9) (bodies_from (branches_are i) 0 (label_at p)))

pub two_way_plain : plain_body two_way.body ≡ two_way.plain_statements
two_way_plain i = block_at (declares_is 8 two_way.x i ∷ declares_is 10 two_way.y i ∷ forked i ∷ []) []
