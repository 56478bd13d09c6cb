-- A tree is made again of its plain tree.
use Rattle.std.proofs.Common.{◌≡◌, ◌∙◌, ℕ, Bool, List, [], ◌∷◌, Option, Some, None, refl, sym, ap}
use Rattle.std.specs.Prelude.{option_map}
use Rattle.bl_tree.specs.declared.place.Place.{Place}
use Rattle.bl_tree.specs.declared.tree.Stmt.{Stmt}
use Rattle.bl_tree.specs.declared.tree.StmtKind.TheOpen.{StmtKind-F}
use Rattle.bl_graph_nodes.specs.Nodes.{entry}
use Rattle.bl_graph_nodes.specs.Nodes as nodes
use Rattle.bl_graph_nodes.specs.Plain.{Block, Done, Label, Plain, Then}
use Rattle.bl_graph_nodes.specs.Plain as plain
use Rattle.bl_ctree.specs.Control as control
use Rattle.bl_ctree.specs.Control.{Branches, Control}
use Rattle.bl_ctree.specs.Instances.{Setting}
use Rattle.bl_ctree.specs.Positions.{Again, Begin, Item, Located, kind_of, place_of}
use Rattle.bl_ctree_laws.specs.Bridge.{again, guarded, label_of, parallel, plain_at, plain_item, plain_items, plain_kind, plain_tree, plain_trees, running}
use Rattle.bl_ctree_laws.specs.Bridge.{testing, waiting}
use Rattle.bl_ctree_laws.specs.Trees.{Tree, Trees, Nil, Wait, Test, Idle, Do, Seq, Par, Guard, Run, beside, no_tree}
use Rattle.bl_ctree_laws_plain.proofs.Finding.{Layer, Stands, is_located, located_at}
use Rattle.bl_ctree_laws_plain.proofs.Standing.{AllStand, BranchesStand, IsUntil, ItemStands, TreeStands, body_of, tree_stands}
use Rattle.bl_ctree_laws_plain.specs.Plain.{PlainTreesTell}

-- ---- what is made of plain statements

-- the item of a plain statement, by its label
abbrev item_at : List Stmt → Plain → Option Item
item_at body (plain.Again l at turn e) = option_map Again (located_at body l)
item_at body s = option_map Begin (located_at body (nodes.label_of (entry s)))

abbrev cons : Option Item → List Item → List Item
cons None items = items
cons (Some item) items = item ∷ items

abbrev items_at : List Stmt → Block → List Item
items_at body Done = []
items_at body (Then s rest) = cons (item_at body s) (items_at body rest)

abbrev item_tree : Option Item → Control
item_tree None = control.Nil
item_tree (Some (Begin s)) = control.Do s
item_tree (Some (Again s)) = control.Turn s

abbrev made : (Located → Control) → Option Located → Control
made tree None = control.Nil
made tree (Some s) = tree s

abbrev mutual
  -- the tree that has this plain tree
  tree_at : Setting → ℕ → Tree → Control
  tree_at w i Nil = control.Nil
  tree_at w i (Wait s) = made control.Wait (located_at (body_of w i) s.label)
  tree_at w i (Test s) = made control.Test (located_at (body_of w i) s.label)
  tree_at w i (Idle body) = control.Idle (items_at (body_of w i) body)
  tree_at w i (Do s) = item_tree (item_at (body_of w i) s)
  tree_at w i (Seq c rest) = control.Seq (tree_at w i c) (items_at (body_of w i) rest)
  tree_at w i (Par s stood branches) = made (λ t. control.Par t stood (branches_at w i branches)) (located_at (body_of w i) s.label)
  tree_at w i (Guard s phase stood c) = made (λ t. control.Guard t phase stood (tree_at w i c)) (located_at (body_of w i) s.label)
  tree_at w i (Run s callee phase stood c) = made (λ t. control.Run t callee phase stood (tree_at w callee c)) (located_at (body_of w i) s.label)

  -- its branches
  branches_at : Setting → ℕ → Trees → Branches
  branches_at w i no_tree = control.no_branch
  branches_at w i (beside weak c rest) = control.branch weak (tree_at w i c) (branches_at w i rest)

-- ---- items

kind_item : (body : List Stmt) (s : Stmt) (l : Label) (at : Place) (k : Layer) → item_at body (plain_kind s l at k) ≡ option_map Begin (located_at body l)
kind_item body s l at (StmtKind-F.Declare k initial) = refl
kind_item body s l at (StmtKind-F.Assign path e) = refl
kind_item body s l at (StmtKind-F.Call f inputs outputs) = refl
kind_item body s l at (StmtKind-F.Return e) = refl
kind_item body s l at (StmtKind-F.Await e) = refl
kind_item body s l at (StmtKind-F.Run target a inputs outputs) = refl
kind_item body s l at (StmtKind-F.If [] other) = refl
kind_item body s l at (StmtKind-F.If (arm ∷ arms) other) = refl
kind_item body s l at (StmtKind-F.Cobegin branches) = refl
kind_item body s l at (StmtKind-F.When guard e turn) = refl
kind_item body s l at (StmtKind-F.Repeat turn) = refl
kind_item body s l at (StmtKind-F.Until turn e) = refl
kind_item body s l at (StmtKind-F.While e turn) = refl

begin_is : (body : List Stmt) (s : Located) → Stands body s → item_at body (plain_at s) ≡ Some (Begin s)
begin_is body s stands = kind_item body s.stmt (label_of s) (place_of s) (kind_of s) ∙ ap (option_map Begin) (is_located body s stands)

again_is : (body : List Stmt) (s : Located) → Stands body s → IsUntil s → item_at body (again (plain_at s)) ≡ Some (Again s)
again_is body s stands until =
    ap (λ (k : Layer). item_at body (again (plain_kind s.stmt (label_of s) (place_of s) k))) until.is
    ∙ ap (option_map Again) (is_located body s stands)

item_is : (body : List Stmt) (item : Item) → ItemStands body item → item_at body (plain_item item) ≡ Some item
item_is body (Begin s) stands = begin_is body s stands
item_is body (Again s) stands = again_is body s stands.0 stands.1

items_are : (body : List Stmt) (items : List Item) → AllStand body items → items_at body (plain_items items) ≡ items
items_are body [] all = refl
items_are body (item ∷ items) all =
    ap (λ (one : Option Item). cons one (items_at body (plain_items items))) (item_is body item all.0)
    ∙ ap (λ (rest : List Item). item ∷ rest) (items_are body items all.1)

-- ---- trees

mutual
  tree_is : (w : Setting) (i : ℕ) (c : Control) → TreeStands w i c → tree_at w i (plain_tree c) ≡ c
  tree_is w i control.Nil stands = refl
  tree_is w i (control.Wait s) stands =
      ap (λ (k : Layer). tree_at w i (waiting (plain_kind s.stmt (label_of s) (place_of s) k))) stands.1.is
      ∙ ap (made control.Wait) (is_located (body_of w i) s stands.0)
  tree_is w i (control.Test s) stands =
      ap (λ (k : Layer). tree_at w i (testing (plain_kind s.stmt (label_of s) (place_of s) k))) stands.1.is
      ∙ ap (made control.Test) (is_located (body_of w i) s stands.0)
  tree_is w i (control.Idle items) stands = ap control.Idle (items_are (body_of w i) items stands)
  tree_is w i (control.Do s) stands = ap item_tree (begin_is (body_of w i) s stands)
  tree_is w i (control.Turn s) stands = ap item_tree (again_is (body_of w i) s stands.0 stands.1)
  tree_is w i (control.Seq c rest) stands =
      ap (λ (t : Control). control.Seq t (items_at (body_of w i) (plain_items rest))) (tree_is w i c stands.0)
      ∙ ap (λ (items : List Item). control.Seq c items) (items_are (body_of w i) rest stands.1)
  tree_is w i (control.Par s stood branches) stands =
      ap (λ (k : Layer). tree_at w i (parallel stood (plain_trees branches) (plain_kind s.stmt (label_of s) (place_of s) k))) stands.1.is
      ∙ ap (made (λ t. control.Par t stood (branches_at w i (plain_trees branches)))) (is_located (body_of w i) s stands.0)
      ∙ ap (λ (parts : Branches). control.Par s stood parts) (branches_are w i branches stands.2)
  tree_is w i (control.Guard s phase stood c) stands =
      ap (λ (k : Layer). tree_at w i (guarded phase stood (plain_tree c) (plain_kind s.stmt (label_of s) (place_of s) k))) stands.1.is
      ∙ ap (made (λ t. control.Guard t phase stood (tree_at w i (plain_tree c)))) (is_located (body_of w i) s stands.0)
      ∙ ap (λ (part : Control). control.Guard s phase stood part) (tree_is w i c stands.2)
  tree_is w i (control.Run s callee phase stood c) stands =
      ap (λ (k : Layer). tree_at w i (running callee phase stood (plain_tree c) (plain_kind s.stmt (label_of s) (place_of s) k))) stands.1.is
      ∙ ap (made (λ t. control.Run t callee phase stood (tree_at w callee (plain_tree c)))) (is_located (body_of w i) s stands.0)
      ∙ ap (λ (part : Control). control.Run s callee phase stood part) (tree_is w callee c stands.2)

  branches_are : (w : Setting) (i : ℕ) (branches : Branches) → BranchesStand w i branches → branches_at w i (plain_trees branches) ≡ branches
  branches_are w i control.no_branch stands = refl
  branches_are w i (control.branch weak c rest) stands =
      ap (λ (t : Control). control.branch weak t (branches_at w i (plain_trees rest))) (tree_is w i c stands.0)
      ∙ ap (λ (others : Branches). control.branch weak c others) (branches_are w i rest stands.1)

pub plain_trees_tell : PlainTreesTell
plain_trees_tell w c d one two same =
    sym (tree_is w 0 c (tree_stands w c one)) ∙ ap (tree_at w 0) same ∙ tree_is w 0 d (tree_stands w d two)
