-- Statements at their positions, and blocks, as plain ones.
use Rattle.std.proofs.Common.{◌≡◌, ℕ, suc, true, List, [], ◌∷◌, ◌++◌, map, refl, ap, subst}
use Rattle.bl_tree.specs.declared.place.Place.{Place}
use Rattle.bl_tree.specs.declared.tree.Arm.{Arm}
use Rattle.bl_tree.specs.declared.tree.Branch.{Branch}
use Rattle.bl_tree.specs.declared.tree.Stmt.{Stmt, fold-roll-Stmt, out-Stmt}
use Rattle.bl_tree.specs.declared.tree.StmtKind.{StmtKind, fold-roll-StmtKind}
use Rattle.bl_tree.specs.declared.tree.StmtKind.TheOpen.{StmtKind-F}
use Rattle.bl_graph_nodes.specs.Laws.{stmt}
use Rattle.bl_graph_nodes.specs.Plain.{Label, Position, Act, Then, block_from, inside, label_at, plain_stmt, plain_block}
use Rattle.bl_graph_nodes.proofs.Equations.{made_of_parts, plain_statements}
use Rattle.bl_ctree.specs.Positions.{Item, Located, block_items, is_act, items_from, kind_of, place_of, stmt_kind}
use Rattle.bl_ctree_laws.specs.Bridge.{label_of, plain_at, plain_item, plain_items, plain_kind}
use Rattle.bl_ctree_laws.specs.Laws.{StatementsArePlain}
use Rattle.bl_ctree_laws.specs.Trees.{before}

-- ---- statements

pub by_kind : (place : Place) (layer : StmtKind-F StmtKind Arm Branch Stmt) (at : Position) →
    plain_stmt (stmt place layer) at ≡ plain_kind (stmt place layer) (label_at at) place layer
by_kind place (StmtKind-F.Declare k initial) at = plain_statements.declaration place at k initial
by_kind place (StmtKind-F.Assign path e) at = plain_statements.assignment place at path e
by_kind place (StmtKind-F.Call f inputs outputs) at = plain_statements.call place at f inputs outputs
by_kind place (StmtKind-F.Return e) at = plain_statements.returns place at e
by_kind place (StmtKind-F.Await e) at = plain_statements.pause place at e
by_kind place (StmtKind-F.Run target a inputs outputs) at = plain_statements.run place at target a inputs outputs
by_kind place (StmtKind-F.If [] other) at = rw (fold-roll-Stmt, fold-roll-StmtKind) refl
by_kind place (StmtKind-F.If (arm ∷ arms) other) at = plain_statements.branching place at arm arms other
by_kind place (StmtKind-F.Cobegin branches) at = plain_statements.parallel place at branches
by_kind place (StmtKind-F.When guard e body) at = plain_statements.guarded place at guard e body
by_kind place (StmtKind-F.Repeat body) at = plain_statements.endless place at body
by_kind place (StmtKind-F.Until body e) at = plain_statements.until place at body e
by_kind place (StmtKind-F.While e body) at = plain_statements.while place at e body

pub statement_is : (s : Stmt) (at : Position) → plain_stmt s at ≡ plain_at (record { position = at; passed = 0; stmt = s })
statement_is s at =
    subst (λ made. plain_stmt made at ≡ plain_kind made (label_at at) (out-Stmt s).place (stmt_kind s)) (made_of_parts s)
    (by_kind (out-Stmt s).place (stmt_kind s) at)

-- ---- blocks

pub block_is : (body : List Stmt) (k : ℕ) (block : Position) → block_from (map plain_stmt body) k block ≡ plain_items (items_from block k body)
block_is [] k block = refl
block_is (s ∷ rest) k block = λ i. Then (statement_is s (block ++ k ∷ []) i) (block_is rest (suc k) block i)

pub statements_are_plain : StatementsArePlain
statements_are_plain = record { statements = statement_is; blocks = λ body at. block_is body 0 at }

pub inner_is : (s : Located) (k : ℕ) (body : List Stmt) → plain_block body (inside (label_of s) k) ≡ plain_items (block_items s k body)
inner_is s k body = block_is body 0 (s.position ++ k ∷ [])

pub before_is : (xs ys : List Item) → plain_items (xs ++ ys) ≡ before (plain_items xs) (plain_items ys)
before_is [] ys = refl
before_is (x ∷ xs) ys = ap (Then (plain_item x)) (before_is xs ys)

-- ---- kinds

-- a located statement of this kind
pub of_kind : (s : Located) (layer : StmtKind-F StmtKind Arm Branch Stmt) → kind_of s ≡ layer →
    plain_at s ≡ plain_kind s.stmt (label_of s) (place_of s) layer
of_kind s layer e = ap (plain_kind s.stmt (label_of s) (place_of s)) e

act_of_kind : (s : Stmt) (l : Label) (at : Place) (layer : StmtKind-F StmtKind Arm Branch Stmt) → is_act layer ≡ true →
    plain_kind s l at layer ≡ Act l s
act_of_kind s l at (StmtKind-F.Declare k initial) e = refl
act_of_kind s l at (StmtKind-F.Assign path value) e = refl
act_of_kind s l at (StmtKind-F.Call f inputs outputs) e = refl
act_of_kind s l at (StmtKind-F.Return value) e = refl
act_of_kind s l at (StmtKind-F.Await test) e = absurd cc
act_of_kind s l at (StmtKind-F.Run target a inputs outputs) e = absurd cc
act_of_kind s l at (StmtKind-F.If arms other) e = absurd cc
act_of_kind s l at (StmtKind-F.Cobegin branches) e = absurd cc
act_of_kind s l at (StmtKind-F.When guard test body) e = absurd cc
act_of_kind s l at (StmtKind-F.Repeat body) e = absurd cc
act_of_kind s l at (StmtKind-F.Until body test) e = absurd cc
act_of_kind s l at (StmtKind-F.While test body) e = absurd cc

pub act_is : (s : Located) → is_act (kind_of s) ≡ true → plain_at s ≡ Act (label_of s) s.stmt
act_is s e = act_of_kind s.stmt (label_of s) (place_of s) (kind_of s) e
