-- What a definition that goes down statements, arms and branches comes to.
use Rattle.std.proofs.Common.{◌≡◌, Bool, List, map, refl, ap, ◌∙◌}
use Rattle.bl_tree.specs.declared.place.Place.{Place}
use Rattle.bl_names_tree.specs.declared.expr.NamedExpr.{NamedExpr}
use Rattle.bl_names_tree.specs.declared.stmt.NamedArm.{NamedArm, fold-NamedArm, fold-roll-NamedArm, roll-NamedArm}
use Rattle.bl_names_tree.specs.declared.stmt.NamedBranch.{NamedBranch, fold-NamedBranch, fold-roll-NamedBranch, roll-NamedBranch}
use Rattle.bl_names_tree.specs.declared.stmt.NamedStmt.{NamedStmt, fold-NamedStmt, fold-roll-NamedStmt, roll-NamedStmt}
use Rattle.bl_names_tree.specs.declared.stmt.NamedStmtKind.{NamedStmtKind, fold-NamedStmtKind, fold_out-NamedStmtKind, map-NamedStmtKind, out-NamedStmtKind}
use Rattle.bl_names_tree.specs.declared.stmt.NamedStmtKind.TheOpen.{NamedStmtKind-F, NamedArm-F, NamedBranch-F, NamedStmt-F}
use Rattle.bl_parse_tree.specs.declared.expr.RawExpr.{RawExpr}
use Rattle.bl_parse_tree.specs.declared.stmt.RawArm.{RawArm, fold-RawArm, fold-roll-RawArm, roll-RawArm}
use Rattle.bl_parse_tree.specs.declared.stmt.RawBranch.{RawBranch, fold-RawBranch, fold-roll-RawBranch, roll-RawBranch}
use Rattle.bl_parse_tree.specs.declared.stmt.RawStmt.{RawStmt, fold-RawStmt, fold-roll-RawStmt}
use Rattle.bl_parse_tree.specs.declared.stmt.RawStmtKind.{RawStmtKind, fold-RawStmtKind, fold-roll-RawStmtKind, map-RawStmtKind}
use Rattle.bl_parse_tree.specs.declared.stmt.RawStmtKind.TheOpen.{RawStmtKind-F, RawArm-F, RawBranch-F, RawStmt-F}
use Rattle.bl_names.proofs.RawStmtInduction.{stmt}

abbrev pub RawLayer : Type 0
RawLayer = RawStmtKind-F RawStmtKind RawArm RawBranch RawStmt

abbrev pub NamedLayer : Type 0
NamedLayer = NamedStmtKind-F NamedStmtKind NamedArm NamedBranch NamedStmt

-- ---- definitions that go down a raw tree

module _ (X : Type 0) (of_kind : RawStmtKind-F X X X X → X) (of_arm : RawArm-F X X X X → X) (of_branch : RawBranch-F X X X X → X)
    (of_layer : RawStmt-F X X X X → X) where
  abbrev raw_stmt : RawStmt → X
  raw_stmt = fold-RawStmt X X X X of_kind of_arm of_branch of_layer

  abbrev raw_arm : RawArm → X
  raw_arm = fold-RawArm X X X X of_kind of_arm of_branch of_layer

  abbrev raw_branch : RawBranch → X
  raw_branch = fold-RawBranch X X X X of_kind of_arm of_branch of_layer

  abbrev raw_kind : RawStmtKind → X
  raw_kind = fold-RawStmtKind X X X X of_kind of_arm of_branch of_layer

  abbrev pub raw_parts : RawLayer → RawStmtKind-F X X X X
  raw_parts = map-RawStmtKind RawStmtKind RawArm RawBranch RawStmt X X X X raw_kind raw_arm raw_branch raw_stmt

  pub raw_at : (place : Place) (layer : RawLayer) → raw_stmt (stmt place layer) ≡ of_layer (record { place = place; what = of_kind (raw_parts layer) })
  raw_at place layer = rw (fold-roll-RawStmt, fold-roll-RawStmtKind) refl

  pub raw_arm_at : (test : RawExpr) (body : List RawStmt) → raw_arm (roll-RawArm (record { test = test; body = body }))
      ≡ of_arm (record { test = test; body = map raw_stmt body })
  raw_arm_at test body = rw fold-roll-RawArm refl

  pub raw_branch_at : (weak : Bool) (body : List RawStmt) → raw_branch (roll-RawBranch (record { weak = weak; body = body }))
      ≡ of_branch (record { weak = weak; body = map raw_stmt body })
  raw_branch_at weak body = rw fold-roll-RawBranch refl

-- ---- definitions that go down a named tree

module _ (X : Type 0) (of_kind : NamedStmtKind-F X X X X → X) (of_arm : NamedArm-F X X X X → X) (of_branch : NamedBranch-F X X X X → X)
    (of_layer : NamedStmt-F X X X X → X) where
  abbrev named_stmt : NamedStmt → X
  named_stmt = fold-NamedStmt X X X X of_kind of_arm of_branch of_layer

  abbrev named_arm : NamedArm → X
  named_arm = fold-NamedArm X X X X of_kind of_arm of_branch of_layer

  abbrev named_branch : NamedBranch → X
  named_branch = fold-NamedBranch X X X X of_kind of_arm of_branch of_layer

  abbrev named_kind : NamedStmtKind → X
  named_kind = fold-NamedStmtKind X X X X of_kind of_arm of_branch of_layer

  abbrev pub named_parts : NamedLayer → NamedStmtKind-F X X X X
  named_parts = map-NamedStmtKind NamedStmtKind NamedArm NamedBranch NamedStmt X X X X named_kind named_arm named_branch named_stmt

  pub named_at : (place : Place) (kind : NamedStmtKind) (layer : NamedLayer) → out-NamedStmtKind kind ≡ layer
      → named_stmt (roll-NamedStmt (record { place = place; what = kind })) ≡ of_layer (record { place = place; what = of_kind (named_parts layer) })
  named_at place kind layer is =
      rw fold-roll-NamedStmt
      (ap (λ x. of_layer (record { place = place; what = x }))
      (fold_out-NamedStmtKind X X X X of_kind of_arm of_branch of_layer kind ∙ ap (λ layer. of_kind (named_parts layer)) is))

  pub named_arm_at : (test : NamedExpr) (body : List NamedStmt) → named_arm (roll-NamedArm (record { test = test; body = body }))
      ≡ of_arm (record { test = test; body = map named_stmt body })
  named_arm_at test body = rw fold-roll-NamedArm refl

  pub named_branch_at : (weak : Bool) (body : List NamedStmt) → named_branch (roll-NamedBranch (record { weak = weak; body = body }))
      ≡ of_branch (record { weak = weak; body = map named_stmt body })
  named_branch_at weak body = rw fold-roll-NamedBranch refl
