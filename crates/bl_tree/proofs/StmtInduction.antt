-- Induction over statements: one case for each kind, with what is known of the blocks inside.
use Rattle.std.proofs.Common.{ℕ, List, [], ◌∷◌, map, subst, ap, sym, ◌∙◌}
use Rattle.std.specs.Prelude.{All, Option}
use Rattle.std.proofs.lemmas.List.Elements.{All-nil, All-cons}
use Rattle.bl_tree.specs.declared.place.Place.{Place}
use Rattle.bl_tree.specs.declared.tree.Arm.{Arm, out-Arm, out-roll-Arm}
use Rattle.bl_tree.specs.declared.tree.Branch.{Branch, out-Branch, out-roll-Branch}
use Rattle.bl_tree.specs.declared.tree.Expr.{Expr}
use Rattle.bl_tree.specs.declared.tree.Guard.{Guard}
use Rattle.bl_tree.specs.declared.tree.Path.{Path}
use Rattle.bl_tree.specs.declared.tree.Stmt.{Stmt, ind-Stmt, roll-Stmt}
use Rattle.bl_tree.specs.declared.tree.StmtKind.{StmtKind, roll-StmtKind}
use Rattle.bl_tree.specs.declared.tree.StmtKind.TheFolds.{map-StmtKind}
use Rattle.bl_tree.specs.declared.tree.StmtKind.TheOpen.{StmtKind-F}

-- a statement by its place and its kind's parts
abbrev pub stmt : Place → StmtKind-F StmtKind Arm Branch Stmt → Stmt
stmt place layer = roll-Stmt (record { place = place; what = roll-StmtKind layer })

-- P of every statement of a block
abbrev pub Each : (Stmt → Type 0) → List Stmt → Type 0
Each P body = All P body

-- P of every statement of every arm
abbrev pub EachArm : (Stmt → Type 0) → List Arm → Type 0
EachArm P arms = All (λ arm. Each P (out-Arm arm).body) arms

-- P of every statement of every branch
abbrev pub EachBranch : (Stmt → Type 0) → List Branch → Type 0
EachBranch P branches = All (λ branch. Each P (out-Branch branch).body) branches

-- what shows P of every statement
pub record Cases (P : Stmt → Type 0) : Type 0 where
  pub declare : (place : Place) (k : ℕ) (initial : Option Expr) → P (stmt place (StmtKind-F.Declare k initial))
  pub assign : (place : Place) (path : Path) (e : Expr) → P (stmt place (StmtKind-F.Assign path e))
  pub call : (place : Place) (f : ℕ) (inputs : List Expr) (outputs : List Path) → P (stmt place (StmtKind-F.Call f inputs outputs))
  pub await : (place : Place) (e : Expr) → P (stmt place (StmtKind-F.Await e))
  pub run : (place : Place) (target : Option Path) (a : ℕ) (inputs : List Expr) (outputs : List Path) →
      P (stmt place (StmtKind-F.Run target a inputs outputs))
  pub branching : (place : Place) (arms : List Arm) (other : List Stmt) → EachArm P arms → Each P other → P (stmt place (StmtKind-F.If arms other))
  pub cobegin : (place : Place) (branches : List Branch) → EachBranch P branches → P (stmt place (StmtKind-F.Cobegin branches))
  pub guarded : (place : Place) (guard : Guard) (e : Expr) (body : List Stmt) → Each P body → P (stmt place (StmtKind-F.When guard e body))
  pub repeat : (place : Place) (body : List Stmt) → Each P body → P (stmt place (StmtKind-F.Repeat body))
  pub until : (place : Place) (body : List Stmt) (e : Expr) → Each P body → P (stmt place (StmtKind-F.Until body e))
  pub while : (place : Place) (e : Expr) (body : List Stmt) → Each P body → P (stmt place (StmtKind-F.While e body))
  pub returns : (place : Place) (e : Option Expr) → P (stmt place (StmtKind-F.Return e))

-- P of the first parts of pairs whose second parts show it
pub each_such : {A : Type 0} (P : A → Type 0) (xs : List ((x : A) × P x)) → All P (map (λ e. e.0) xs)
each_such P [] = All-nil P
each_such P (e ∷ xs) = All-cons P e.0 (map (λ e. e.0) xs) e.1 (each_such P xs)

module _ (P : Stmt → Type 0) (cases : Cases P) where
  abbrev OfKind : StmtKind → Type 0
  OfKind kind = (place : Place) → P (roll-Stmt (record { place = place; what = kind }))

  abbrev OfArm : Arm → Type 0
  OfArm arm = Each P (out-Arm arm).body

  abbrev OfBranch : Branch → Type 0
  OfBranch branch = Each P (out-Branch branch).body

  abbrev Shown : Type 0
  Shown = StmtKind-F ((kind : StmtKind) × OfKind kind) ((arm : Arm) × OfArm arm) ((branch : Branch) × OfBranch branch) ((s : Stmt) × P s)

  abbrev plain : Shown → StmtKind-F StmtKind Arm Branch Stmt
  plain = map-StmtKind ((kind : StmtKind) × OfKind kind) ((arm : Arm) × OfArm arm) ((branch : Branch) × OfBranch branch) ((s : Stmt) × P s)
      StmtKind Arm Branch Stmt (λ e. e.0) (λ e. e.0) (λ e. e.0) (λ e. e.0)

  by_kind : (place : Place) (shown : Shown) → P (stmt place (plain shown))
  by_kind place (StmtKind-F.Declare k initial) = cases.declare place k initial
  by_kind place (StmtKind-F.Assign path e) = cases.assign place path e
  by_kind place (StmtKind-F.Call f inputs outputs) = cases.call place f inputs outputs
  by_kind place (StmtKind-F.Await e) = cases.await place e
  by_kind place (StmtKind-F.Run target a inputs outputs) = cases.run place target a inputs outputs
  by_kind place (StmtKind-F.If arms other) = cases.branching place _ _ (each_such OfArm arms) (each_such P other)
  by_kind place (StmtKind-F.Cobegin branches) = cases.cobegin place _ (each_such OfBranch branches)
  by_kind place (StmtKind-F.When guard e body) = cases.guarded place guard e _ (each_such P body)
  by_kind place (StmtKind-F.Repeat body) = cases.repeat place _ (each_such P body)
  by_kind place (StmtKind-F.Until body e) = cases.until place _ e (each_such P body)
  by_kind place (StmtKind-F.While e body) = cases.while place e _ (each_such P body)
  by_kind place (StmtKind-F.Return e) = cases.returns place e

  -- every statement has P where the cases show it
  pub induct : (s : Stmt) → P s
  induct =
      ind-Stmt OfKind OfArm OfBranch P
      (λ x y is place. subst (λ layer. P (stmt place layer)) is (by_kind place y))
      (λ x y is. subst (Each P) (ap (λ arm. arm.body) (is ∙ sym (out-roll-Arm x))) (each_such P y.body))
      (λ x y is. subst (Each P) (ap (λ branch. branch.body) (is ∙ sym (out-roll-Branch x))) (each_such P y.body))
      (λ x y is. subst (λ layer. P (roll-Stmt layer)) is (y.what.1 y.place))
