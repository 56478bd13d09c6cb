-- How many parts a named tree has: as many as the raw tree that it is made of.
use Rattle.std.proofs.Common.{◌≡◌, ℕ, ◌+◌, ◌≤◌, Bool, List, map, length, refl, ap, ◌∙◌}
use Rattle.std.specs.Prelude.{Some, slice_get}
use Rattle.bl_tree.specs.declared.place.Place.{Place}
use Rattle.bl_tree.specs.Reduce.{total}
use Rattle.bl_names_tree.specs.declared.expr.NamedExpr.{NamedExpr}
use Rattle.bl_names_tree.specs.declared.item.NamedUnit.{NamedUnit}
use Rattle.bl_names_tree.specs.declared.stmt.NamedArm.{NamedArm, fold-NamedArm, fold-roll-NamedArm, roll-NamedArm}
use Rattle.bl_names_tree.specs.declared.stmt.NamedBranch.{NamedBranch, fold-NamedBranch, fold-roll-NamedBranch, roll-NamedBranch}
use Rattle.bl_names_tree.specs.declared.stmt.NamedStmt.{NamedStmt, fold-NamedStmt, fold-roll-NamedStmt, roll-NamedStmt}
use Rattle.bl_names_tree.specs.declared.stmt.NamedStmtKind.{NamedStmtKind, fold-NamedStmtKind, fold-roll-NamedStmtKind, fold_out-NamedStmtKind}
use Rattle.bl_names_tree.specs.declared.stmt.NamedStmtKind.{map-NamedStmtKind, out-NamedStmtKind}
use Rattle.bl_names_tree.specs.declared.stmt.NamedStmtKind.TheOpen.{NamedStmtKind-F, NamedArm-F, NamedBranch-F, NamedStmt-F}
use Rattle.bl_types_laws.proofs.NamedStmtInduction.{stmt}
use Rattle.bl_types_laws.proofs.StmtLayers.{Layer}

abbrev pub named_kind_parts : NamedStmtKind-F ℕ ℕ ℕ ℕ → ℕ
named_kind_parts (NamedStmtKind-F.Declare k value) = 1
named_kind_parts (NamedStmtKind-F.Const k) = 1
named_kind_parts (NamedStmtKind-F.Assign target e) = 1
named_kind_parts (NamedStmtKind-F.Call name f inputs outputs) = 1
named_kind_parts (NamedStmtKind-F.Await e) = 1
named_kind_parts (NamedStmtKind-F.Run target name a inputs outputs) = 1
named_kind_parts (NamedStmtKind-F.If arms other) = 1 + (total arms + total other)
named_kind_parts (NamedStmtKind-F.Cobegin branches) = 1 + total branches
named_kind_parts (NamedStmtKind-F.When guard e body) = 1 + total body
named_kind_parts (NamedStmtKind-F.Repeat body) = 1 + total body
named_kind_parts (NamedStmtKind-F.Until body e) = 1 + total body
named_kind_parts (NamedStmtKind-F.While e body) = 1 + total body
named_kind_parts (NamedStmtKind-F.Return e) = 1

abbrev pub named_arm_parts : NamedArm-F ℕ ℕ ℕ ℕ → ℕ
named_arm_parts arm = 1 + total arm.body

abbrev pub named_branch_parts : NamedBranch-F ℕ ℕ ℕ ℕ → ℕ
named_branch_parts branch = 1 + total branch.body

abbrev pub named_layer_parts : NamedStmt-F ℕ ℕ ℕ ℕ → ℕ
named_layer_parts s = s.what

abbrev pub named_parts : NamedStmt → ℕ
named_parts = fold-NamedStmt ℕ ℕ ℕ ℕ named_kind_parts named_arm_parts named_branch_parts named_layer_parts

abbrev pub parts_of_named_arm : NamedArm → ℕ
parts_of_named_arm = fold-NamedArm ℕ ℕ ℕ ℕ named_kind_parts named_arm_parts named_branch_parts named_layer_parts

abbrev pub parts_of_named_branch : NamedBranch → ℕ
parts_of_named_branch = fold-NamedBranch ℕ ℕ ℕ ℕ named_kind_parts named_arm_parts named_branch_parts named_layer_parts

abbrev parts_of_named_kind : NamedStmtKind → ℕ
parts_of_named_kind = fold-NamedStmtKind ℕ ℕ ℕ ℕ named_kind_parts named_arm_parts named_branch_parts named_layer_parts

abbrev pub named_below : Layer → NamedStmtKind-F ℕ ℕ ℕ ℕ
named_below =
    map-NamedStmtKind NamedStmtKind NamedArm NamedBranch NamedStmt ℕ ℕ ℕ ℕ parts_of_named_kind parts_of_named_arm parts_of_named_branch named_parts

pub named_at : (place : Place) (layer : Layer) → named_parts (stmt place layer) ≡ named_kind_parts (named_below layer)
named_at place layer = rw (fold-roll-NamedStmt, fold-roll-NamedStmtKind) refl

pub named_by : (place : Place) (kind : NamedStmtKind) (layer : Layer) → out-NamedStmtKind kind ≡ layer →
    named_parts (roll-NamedStmt (record { place = place; what = kind })) ≡ named_kind_parts (named_below layer)
named_by place kind layer is =
    rw fold-roll-NamedStmt
    (fold_out-NamedStmtKind ℕ ℕ ℕ ℕ named_kind_parts named_arm_parts named_branch_parts named_layer_parts kind
    ∙ ap (λ layer. named_kind_parts (named_below layer)) is)

pub named_arm_at : (test : NamedExpr) (body : List NamedStmt) →
    parts_of_named_arm (roll-NamedArm (record { test = test; body = body })) ≡ 1 + total (map named_parts body)
named_arm_at test body = rw fold-roll-NamedArm refl

pub named_branch_at : (weak : Bool) (body : List NamedStmt) →
    parts_of_named_branch (roll-NamedBranch (record { weak = weak; body = body })) ≡ 1 + total (map named_parts body)
named_branch_at weak body = rw fold-roll-NamedBranch refl

-- a unit has at most so many variables, and its body at most so many parts
pub record NamedWithin (n : ℕ) (unit : NamedUnit) : Type 0 where
  pub vars : length unit.vars ≤ n
  pub body : total (map named_parts unit.body) ≤ n

-- and so each unit of a list
abbrev pub AllNamedWithin : ℕ → List NamedUnit → Type 0
AllNamedWithin n units = (k : ℕ) (unit : NamedUnit) → slice_get units k ≡ Some unit → NamedWithin n unit
