-- The nodes of a statement have labels below its position.
use Rattle.std.proofs.Common.{◌≡◌, ℕ, suc, Bool, true, false, List, [], ◌∷◌, ◌++◌, map, refl, ap, sym, ◌∙◌, subst}
use Rattle.std.proofs.lemmas.List.Elements.{All-head, All-tail}
use Rattle.bl_tree.specs.declared.place.Place.{Place}
use Rattle.bl_tree.specs.declared.tree.Arm.{Arm, out-Arm}
use Rattle.bl_tree.specs.declared.tree.Branch.{Branch, out-Branch}
use Rattle.bl_tree.specs.declared.tree.Expr.{Expr}
use Rattle.bl_tree.specs.declared.tree.Guard.{Guard}
use Rattle.bl_tree.specs.declared.tree.Stmt.{Stmt, fold-roll-Stmt}
use Rattle.bl_tree.specs.declared.tree.StmtKind.{fold-roll-StmtKind}
use Rattle.bl_tree.specs.declared.tree.StmtKind.TheOpen.{StmtKind-F}
use Rattle.bl_tree.proofs.StmtInduction.{Cases, Each, EachArm, EachBranch, induct, stmt}
use Rattle.bl_graph_nodes.specs.Nodes.{Node, CheckAt, DepthEndAt, DepthJoinAt, SurfaceEndAt, SurfaceJoinAt, are_instant, is_instant, label_of, nodes_in}
use Rattle.bl_graph_nodes.specs.Nodes.{nodes_in_each, nodes_of, where_so}
use Rattle.bl_graph_nodes.specs.Plain.{Block, Bodies, Cobegin, Label, Plain, Position, block_from, bodies_from, else_at, inside, label_at, passed_one}
use Rattle.bl_graph_nodes.specs.Plain.{plain_block, plain_stmt}
use Rattle.bl_graph_nodes.specs.Laws.{Begins, Below, LabelsAreBelow, PositionsPart, plain_arm, plain_branch}
use Rattle.bl_graph_nodes.proofs.Equations.{plain_statements}

-- ---- positions

append_nil : (xs : List ℕ) → xs ≡ xs ++ []
append_nil [] = refl
append_nil (x ∷ xs) = ap (λ l. x ∷ l) (append_nil xs)

append_apart : (xs ys zs : List ℕ) → (xs ++ ys) ++ zs ≡ xs ++ (ys ++ zs)
append_apart [] ys zs = refl
append_apart (x ∷ xs) ys zs = ap (λ l. x ∷ l) (append_apart xs ys zs)

pub itself : (at : Position) → Begins at at
itself at = record { rest = []; is = append_nil at }

pub one_on : (at : Position) (k : ℕ) → Begins at (at ++ k ∷ [])
one_on at k = record { rest = k ∷ []; is = refl }

pub through : (a b c : Position) → Begins a b → Begins b c → Begins a c
through a b c one two = record { rest = one.rest ++ two.rest; is = two.is ∙ ap (λ l. l ++ two.rest) one.is ∙ append_apart a one.rest two.rest }

pub tail_same : (x y : ℕ) (xs ys : List ℕ) → (x ∷ xs) ≡ (y ∷ ys) → xs ≡ ys
tail_same x y xs ys is = cc

head_same : (x y : ℕ) (xs ys : List ℕ) → (x ∷ xs) ≡ (y ∷ ys) → x ≡ y
head_same x y xs ys is = cc

parts : (at : Position) (j k : ℕ) (u v : List ℕ) → (at ++ j ∷ []) ++ u ≡ (at ++ k ∷ []) ++ v → j ≡ k
parts [] j k u v is = head_same j k u v is
parts (x ∷ at) j k u v is = parts at j k u v (tail_same x x ((at ++ j ∷ []) ++ u) ((at ++ k ∷ []) ++ v) is)

pub positions_part : PositionsPart
positions_part at position j k one two = parts at j k one.rest two.rest (sym one.is ∙ two.is)

-- ---- lists of nodes

both : (at : Position) (xs ys : List Node) → Below at xs → Below at ys → Below at (xs ++ ys)
both at [] ys one two = two
both at (x ∷ xs) ys one two = (one.0, both at xs ys one.1 two)

further : (a b : Position) (xs : List Node) → Begins a b → Below b xs → Below a xs
further a b [] begins below = tt
further a b (x ∷ xs) begins below = (through a b _ begins below.0, further a b xs begins below.1)

perhaps : (at : Position) (test : Bool) (n : Node) (rest : List Node) → Begins at (label_of n).position → Below at rest →
    Below at (where_so test n ++ rest)
perhaps at true n rest begins below = (begins, below)
perhaps at false n rest begins below = below

-- ---- blocks

abbrev Low : Stmt → Type 0
Low s = (at : Position) → Below at (nodes_of (plain_stmt s at))

pub block_low : (body : List Stmt) (k : ℕ) (block : Position) → Each Low body → Below block (nodes_in (block_from (map plain_stmt body) k block))
block_low [] k block each = tt
block_low (s ∷ rest) k block each =
    both block _ _ (further block (block ++ k ∷ []) _ (one_on block k) (All-head Low s rest each (block ++ k ∷ [])))
    (block_low rest (suc k) block (All-tail Low s rest each))

inner_low : (body : List Stmt) (at : Label) (k : ℕ) → Each Low body → Below at.position (nodes_in (plain_block body (inside at k)))
inner_low body at k each = further at.position (inside at k) _ (one_on at.position k) (block_low body 0 (inside at k) each)

arms_low : (at : Label) (arms : List Arm) (other : List Stmt) → EachArm Low arms → Each Low other →
    Below at.position (nodes_in (else_at at (map plain_arm arms) (plain_block other)))
arms_low at [] other each others = inner_low other at at.passed others
arms_low at (arm ∷ rest) other each others =
    let body = inner_low (out-Arm arm).body at at.passed (All-head (λ arm. Each Low (out-Arm arm).body) arm rest each) in
    let last = arms_low (passed_one at) rest other (All-tail (λ arm. Each Low (out-Arm arm).body) arm rest each) others in
    (itself at.position, both at.position _ [] (both at.position _ _ body last) tt)

bodies_low : (branches : List Branch) (k : ℕ) (at : Label) → EachBranch Low branches →
    Below at.position (nodes_in_each (bodies_from (map plain_branch branches) k at))
bodies_low [] k at each = tt
bodies_low (b ∷ rest) k at each =
    both at.position _ _ (inner_low (out-Branch b).body at k (All-head (λ b. Each Low (out-Branch b).body) b rest each))
    (bodies_low rest (suc k) at (All-tail (λ b. Each Low (out-Branch b).body) b rest each))

-- ---- statements

pub of_plain : (at : Position) (one other : Plain) → one ≡ other → Below at (nodes_of other) → Below at (nodes_of one)
of_plain at one other is below = subst (λ s. Below at (nodes_of s)) (sym is) below

branching_low : (place : Place) (arms : List Arm) (other : List Stmt) → EachArm Low arms → Each Low other → Low (stmt place (StmtKind-F.If arms other))
branching_low place [] other each others at = rw (fold-roll-Stmt, fold-roll-StmtKind)
    (itself at, both at _ _ (inner_low other (label_at at) 0 others) (inner_low other (label_at at) 1 others))
branching_low place (arm ∷ rest) other each others at = of_plain at _ _ (plain_statements.branching place at arm rest other) (
  itself at,
  both at _ _ (inner_low (out-Arm arm).body (label_at at) 0 (All-head (λ arm. Each Low (out-Arm arm).body) arm rest each))
      (arms_low (passed_one (label_at at)) rest other (All-tail (λ arm. Each Low (out-Arm arm).body) arm rest each) others),
)

cobegin_low : (place : Place) (branches : List Branch) → EachBranch Low branches → Low (stmt place (StmtKind-F.Cobegin branches))
cobegin_low place branches each at =
    let bodies : Bodies = bodies_from (map plain_branch branches) 0 (label_at at) in
    of_plain at _ _ (plain_statements.parallel place at branches) (
      itself at,
      perhaps at (is_instant (Cobegin (label_at at) place bodies)) (SurfaceJoinAt (label_at at) place)
          (DepthJoinAt (label_at at) place ∷ nodes_in_each bodies) (itself at) (itself at, bodies_low branches 0 (label_at at) each),
    )

guarded_low : (place : Place) (guard : Guard) (e : Expr) (body : List Stmt) → Each Low body → Low (stmt place (StmtKind-F.When guard e body))
guarded_low place guard e body each at =
    let inner : Block = plain_block body (inside (label_at at) 0) in
    of_plain at _ _ (plain_statements.guarded place at guard e body) (
      itself at,
      perhaps at (are_instant inner) (SurfaceEndAt (label_at at) place)
          (CheckAt (label_at at) place e ∷ DepthEndAt (label_at at) place ∷ nodes_in inner) (itself at)
          (itself at, (itself at, inner_low body (label_at at) 0 each)),
    )

cases : Cases Low
cases = record {
  declare = λ place k initial at. of_plain at _ _ (plain_statements.declaration place at k initial) (itself at, tt);
  assign = λ place path e at. of_plain at _ _ (plain_statements.assignment place at path e) (itself at, tt);
  call = λ place f inputs outputs at. of_plain at _ _ (plain_statements.call place at f inputs outputs) (itself at, tt);
  await = λ place e at. of_plain at _ _ (plain_statements.pause place at e) (itself at, (itself at, tt));
  run = λ place target a inputs outputs at. of_plain at _ _ (plain_statements.run place at target a inputs outputs) (itself at, (itself at, tt));
  branching = branching_low;
  cobegin = cobegin_low;
  guarded = guarded_low;
  repeat = λ place body each at. of_plain at _ _ (plain_statements.endless place at body) (itself at, inner_low body (label_at at) 0 each);
  until = λ place body e each at. of_plain at _ _ (plain_statements.until place at body e) (itself at, (itself at, inner_low body (label_at at) 0 each));
  while = λ place e body each at. of_plain at _ _ (plain_statements.while place at e body) (itself at, inner_low body (label_at at) 0 each);
  returns = λ place e at. of_plain at _ _ (plain_statements.returns place at e) (itself at, tt);
}

pub low : (s : Stmt) → Low s
low = induct Low cases

pub each_low : (body : List Stmt) → Each Low body
each_low body k s lt = low _

pub labels_are_below : LabelsAreBelow
labels_are_below = record { statements = low; blocks = λ body at. block_low body 0 at (each_low body) }
