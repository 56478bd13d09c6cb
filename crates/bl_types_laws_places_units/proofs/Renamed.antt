-- Named statements with other places and positions of constants, by their layers.
use Rattle.std.proofs.Common.{◌≡◌, Bool, List, map, refl, ap, sym}
use Rattle.std.specs.Prelude.{option_map}
use Rattle.bl_tree.specs.declared.place.Place.{Place}
use Rattle.bl_names_tree.specs.declared.expr.NamedExpr.{NamedExpr}
use Rattle.bl_names_tree.specs.declared.stmt.NamedArm.{NamedArm, fold-roll-NamedArm, roll-NamedArm}
use Rattle.bl_names_tree.specs.declared.stmt.NamedBranch.{NamedBranch, fold-roll-NamedBranch, roll-NamedBranch}
use Rattle.bl_names_tree.specs.declared.stmt.NamedStmt.{NamedStmt, fold-roll-NamedStmt, roll-NamedStmt}
use Rattle.bl_names_tree.specs.declared.stmt.NamedStmtKind.{NamedStmtKind, fold-NamedStmtKind, fold-roll-NamedStmtKind, roll-NamedStmtKind}
use Rattle.bl_names_tree.specs.declared.stmt.NamedStmtKind.TheOpen.{NamedStmtKind-F}
use Rattle.bl_names_tree.specs.declared.stmt.NamedStmtKind.TheVariants.{rolls-Declare, rolls-Const, rolls-Assign, rolls-Call, rolls-Await, rolls-Run, rolls-If}
use Rattle.bl_names_tree.specs.declared.stmt.NamedStmtKind.TheVariants.{rolls-Cobegin, rolls-When, rolls-Repeat, rolls-Until, rolls-While, rolls-Return}
use Rattle.bl_names_laws_places.specs.Renamed.{Renaming, renamed_action, renamed_arm, renamed_branch, renamed_expr, renamed_path, renamed_stmt}
use Rattle.bl_names_laws_places.specs.Renamed.{renamed_stmt_layer, renamed_target}
use Rattle.bl_names_laws_places.proofs.Stmts.{arming, branching}
use Rattle.bl_types_laws.proofs.NamedStmtInduction.{stmt}
use Rattle.bl_types_laws.proofs.StmtLayers.{Layer}

module _ (by : Renaming) where
  -- a layer with all places and constants changed
  abbrev pub relayered : Layer → Layer
  relayered (NamedStmtKind-F.Declare k value) = NamedStmtKind-F.Declare k (option_map (renamed_expr by) value)
  relayered (NamedStmtKind-F.Const k) = NamedStmtKind-F.Const (by.constant k)
  relayered (NamedStmtKind-F.Assign target e) = NamedStmtKind-F.Assign (renamed_target by target) (renamed_expr by e)
  relayered (NamedStmtKind-F.Call place k inputs outputs) =
      NamedStmtKind-F.Call (by.place place) k (map (renamed_expr by) inputs) (map (renamed_path by) outputs)
  relayered (NamedStmtKind-F.Await e) = NamedStmtKind-F.Await (renamed_expr by e)
  relayered (NamedStmtKind-F.Run target place k inputs outputs) =
      NamedStmtKind-F.Run (option_map (renamed_path by) target) (by.place place) k (map (renamed_expr by) inputs) (map (renamed_path by) outputs)
  relayered (NamedStmtKind-F.If arms other) = NamedStmtKind-F.If (map (arming by) arms) (map (renamed_stmt by) other)
  relayered (NamedStmtKind-F.Cobegin branches) = NamedStmtKind-F.Cobegin (map (branching by) branches)
  relayered (NamedStmtKind-F.When guard e body) = NamedStmtKind-F.When guard (renamed_expr by e) (map (renamed_stmt by) body)
  relayered (NamedStmtKind-F.Repeat body) = NamedStmtKind-F.Repeat (map (renamed_stmt by) body)
  relayered (NamedStmtKind-F.Until body e) = NamedStmtKind-F.Until (map (renamed_stmt by) body) (renamed_expr by e)
  relayered (NamedStmtKind-F.While e body) = NamedStmtKind-F.While (renamed_expr by e) (map (renamed_stmt by) body)
  relayered (NamedStmtKind-F.Return e) = NamedStmtKind-F.Return (option_map (renamed_expr by) e)

  -- what a changed statement does
  abbrev acting : NamedStmtKind → NamedStmtKind
  acting =
      fold-NamedStmtKind NamedStmtKind NamedArm NamedBranch NamedStmt (renamed_action by) (renamed_arm by) renamed_branch (renamed_stmt_layer by)

  kind_is : (layer : Layer) → acting (roll-NamedStmtKind layer) ≡ roll-NamedStmtKind (relayered layer)
  kind_is (NamedStmtKind-F.Declare k value) = rw fold-roll-NamedStmtKind (sym (rolls-Declare k (option_map (renamed_expr by) value)))
  kind_is (NamedStmtKind-F.Const k) = rw fold-roll-NamedStmtKind (sym (rolls-Const (by.constant k)))
  kind_is (NamedStmtKind-F.Assign target e) = rw fold-roll-NamedStmtKind (sym (rolls-Assign (renamed_target by target) (renamed_expr by e)))
  kind_is (NamedStmtKind-F.Call name k inputs outputs) =
      rw fold-roll-NamedStmtKind (sym (rolls-Call (by.place name) k (map (renamed_expr by) inputs) (map (renamed_path by) outputs)))
  kind_is (NamedStmtKind-F.Await e) = rw fold-roll-NamedStmtKind (sym (rolls-Await (renamed_expr by e)))
  kind_is (NamedStmtKind-F.Run target name k inputs outputs) =
      rw fold-roll-NamedStmtKind
      (sym (rolls-Run (option_map (renamed_path by) target) (by.place name) k (map (renamed_expr by) inputs) (map (renamed_path by) outputs)))
  kind_is (NamedStmtKind-F.If arms other) = rw fold-roll-NamedStmtKind (sym (rolls-If (map (arming by) arms) (map (renamed_stmt by) other)))
  kind_is (NamedStmtKind-F.Cobegin branches) = rw fold-roll-NamedStmtKind (sym (rolls-Cobegin (map (branching by) branches)))
  kind_is (NamedStmtKind-F.When guard e body) = rw fold-roll-NamedStmtKind (sym (rolls-When guard (renamed_expr by e) (map (renamed_stmt by) body)))
  kind_is (NamedStmtKind-F.Repeat body) = rw fold-roll-NamedStmtKind (sym (rolls-Repeat (map (renamed_stmt by) body)))
  kind_is (NamedStmtKind-F.Until body e) = rw fold-roll-NamedStmtKind (sym (rolls-Until (map (renamed_stmt by) body) (renamed_expr by e)))
  kind_is (NamedStmtKind-F.While e body) = rw fold-roll-NamedStmtKind (sym (rolls-While (renamed_expr by e) (map (renamed_stmt by) body)))
  kind_is (NamedStmtKind-F.Return e) = rw fold-roll-NamedStmtKind (sym (rolls-Return (option_map (renamed_expr by) e)))

  -- a changed statement, by its layer
  pub stmt_is : (place : Place) (layer : Layer) → renamed_stmt by (stmt place layer) ≡ stmt (by.place place) (relayered layer)
  stmt_is place layer = rw fold-roll-NamedStmt (ap (λ what. roll-NamedStmt (record { place = by.place place; what = what })) (kind_is layer))

  -- a changed arm
  pub arm_is : (test : NamedExpr) (body : List NamedStmt) → arming by (roll-NamedArm (record { test = test; body = body }))
      ≡ roll-NamedArm (record { test = renamed_expr by test; body = map (renamed_stmt by) body })
  arm_is test body = rw fold-roll-NamedArm refl

  -- a changed branch
  pub branch_is : (weak : Bool) (body : List NamedStmt) → branching by (roll-NamedBranch (record { weak = weak; body = body }))
      ≡ roll-NamedBranch (record { weak = weak; body = map (renamed_stmt by) body })
  branch_is weak body = rw fold-roll-NamedBranch refl
