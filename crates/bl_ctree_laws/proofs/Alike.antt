-- Whether a located statement may end at once is told by its statement, whatever its label.
use Rattle.std.proofs.Common.{◌≡◌, ℕ, suc, true, not, ◌&&◌, ◌||◌, List, [], ◌∷◌, map, refl, ap, sym, ◌∙◌, cond}
use Rattle.bl_tree.specs.declared.place.Place.{Place}
use Rattle.bl_tree.specs.declared.tree.Arm.{Arm, out-Arm}
use Rattle.bl_tree.specs.declared.tree.Branch.{Branch, out-Branch}
use Rattle.bl_tree.specs.declared.tree.Stmt.{Stmt}
use Rattle.bl_tree.specs.declared.tree.StmtKind.{StmtKind}
use Rattle.bl_tree.specs.declared.tree.StmtKind.TheOpen.{StmtKind-F}
use Rattle.bl_tree.specs.Instant.{instant}
use Rattle.bl_graph_nodes.specs.Laws.{plain_arm, plain_branch}
use Rattle.bl_graph_nodes.specs.Nodes.{are_instant, is_instant, some_instant, some_strong, strong_instant}
use Rattle.bl_graph_nodes.specs.Plain.{Label, Position, bodies_from, else_at, inside, label_at, passed_one, plain_block}
use Rattle.bl_graph_nodes.proofs.Instants.{blocks_are_instant, instant_is}
use Rattle.bl_ctree.specs.Residual.{TestsFit, no_item, a_begin, an_again}
use Rattle.bl_ctree.specs.Pending.{items_may_end}
use Rattle.bl_ctree.specs.Positions.{Item, Located, kind_of, place_of}
use Rattle.bl_ctree_laws.specs.Bridge.{again, label_of, plain_at, plain_items, plain_kind}
use Rattle.bl_ctree_laws.proofs.PlainKinds.{of_kind, statement_is}

block_alike : (body : List Stmt) (one other : Position) → are_instant (plain_block body one) ≡ are_instant (plain_block body other)
block_alike body one other = blocks_are_instant body one ∙ sym (blocks_are_instant body other)

else_alike : (arms : List Arm) (other : List Stmt) (l m : Label) →
    are_instant (else_at l (map plain_arm arms) (plain_block other)) ≡ are_instant (else_at m (map plain_arm arms) (plain_block other))
else_alike [] other l m = block_alike other (inside l l.passed) (inside m m.passed)
else_alike (arm ∷ rest) other l m = λ i.
    (block_alike (out-Arm arm).body (inside l l.passed) (inside m m.passed) i || else_alike rest other (passed_one l) (passed_one m) i) && true

strong_there : (branches : List Branch) (k : ℕ) (l m : Label) →
    some_strong (bodies_from (map plain_branch branches) k l) ≡ some_strong (bodies_from (map plain_branch branches) k m)
strong_there [] k l m = refl
strong_there (b ∷ rest) k l m = ap (λ others. not (out-Branch b).weak || others) (strong_there rest (suc k) l m)

strong_alike : (branches : List Branch) (k : ℕ) (l m : Label) →
    strong_instant (bodies_from (map plain_branch branches) k l) ≡ strong_instant (bodies_from (map plain_branch branches) k m)
strong_alike [] k l m = refl
strong_alike (b ∷ rest) k l m = λ i.
    ((out-Branch b).weak || block_alike (out-Branch b).body (inside l k) (inside m k) i) && strong_alike rest (suc k) l m i

some_alike : (branches : List Branch) (k : ℕ) (l m : Label) →
    some_instant (bodies_from (map plain_branch branches) k l) ≡ some_instant (bodies_from (map plain_branch branches) k m)
some_alike [] k l m = refl
some_alike (b ∷ rest) k l m = λ i. block_alike (out-Branch b).body (inside l k) (inside m k) i || some_alike rest (suc k) l m i

kind_alike : (s : Stmt) (l m : Label) (at : Place) (layer : StmtKind-F StmtKind Arm Branch Stmt) →
    is_instant (plain_kind s l at layer) ≡ is_instant (plain_kind s m at layer)
kind_alike s l m at (StmtKind-F.Declare k initial) = refl
kind_alike s l m at (StmtKind-F.Assign path e) = refl
kind_alike s l m at (StmtKind-F.Call f inputs outputs) = refl
kind_alike s l m at (StmtKind-F.Return e) = refl
kind_alike s l m at (StmtKind-F.Await e) = refl
kind_alike s l m at (StmtKind-F.Run target a inputs outputs) = refl
kind_alike s l m at (StmtKind-F.If [] other) = λ i.
    block_alike other (inside l 0) (inside m 0) i || block_alike other (inside l 1) (inside m 1) i
kind_alike s l m at (StmtKind-F.If (arm ∷ arms) other) = λ i.
    block_alike (out-Arm arm).body (inside l l.passed) (inside m m.passed) i || else_alike arms other (passed_one l) (passed_one m) i
kind_alike s l m at (StmtKind-F.Cobegin branches) = λ i.
    cond (strong_there branches 0 l m i) (strong_alike branches 0 l m i) (some_alike branches 0 l m i)
kind_alike s l m at (StmtKind-F.When guard e body) = block_alike body (inside l 0) (inside m 0)
kind_alike s l m at (StmtKind-F.Repeat body) = refl
kind_alike s l m at (StmtKind-F.Until body e) = block_alike body (inside l 0) (inside m 0)
kind_alike s l m at (StmtKind-F.While e body) = refl

pub statement_ends : (s : Located) → is_instant (plain_at s) ≡ instant s.stmt
statement_ends s =
    kind_alike s.stmt (label_of s) (label_at s.position) (place_of s) (kind_of s)
    ∙ ap is_instant (sym (statement_is s.stmt s.position)) ∙ instant_is s.stmt s.position

pub items_end : {items : List Item} → TestsFit items → are_instant (plain_items items) ≡ items_may_end items
items_end no_item = refl
items_end (a_begin {s} {rest} p) = λ i. statement_ends s i && items_end p i
items_end (an_again {s} {body} {e} {rest} is p) = λ i. test_ends i && items_end p i
  where
    test_ends : is_instant (again (plain_at s)) ≡ true
    test_ends = ap (λ made. is_instant (again made)) (of_kind s _ is)
