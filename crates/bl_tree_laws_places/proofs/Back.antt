-- A tree whose places are mapped, and then brought back.
use Rattle.std.proofs.Common.{◌≡◌, List, map, refl, ap, ap₂, ◌∙◌}
use Rattle.std.specs.Prelude.{Option, Some, None, option_map}
use Rattle.bl_tree.specs.declared.place.Place.{Place}
use Rattle.bl_tree.specs.declared.tree.Arm.{Arm, fold-roll-Arm, fold_out-Arm, out-Arm, roll-Arm, roll-out-Arm}
use Rattle.bl_tree.specs.declared.tree.Branch.{Branch, fold-roll-Branch, fold_out-Branch, out-Branch, roll-Branch, roll-out-Branch}
use Rattle.bl_tree.specs.declared.tree.Expr.{Expr}
use Rattle.bl_tree.specs.declared.tree.Path.{Path}
use Rattle.bl_tree.specs.declared.tree.Stmt.{Stmt}
use Rattle.bl_tree.specs.declared.tree.StmtKind.{StmtKind}
use Rattle.bl_tree.specs.declared.tree.StmtKind.TheOpen.{StmtKind-F}
use Rattle.bl_tree.specs.declared.tree.Unit.{Unit as UnitDef}
use Rattle.bl_tree.specs.declared.tree.Var.{Var}
use Rattle.bl_tree.proofs.StmtInduction.{Cases, Each, EachArm, EachBranch, induct, stmt}
use Rattle.bl_tree_laws_places.specs.Laws.{BringsBack}
use Rattle.bl_tree_laws_places.specs.Placed.{placed_arm, placed_expr, placed_kind, placed_path, placed_stmt, placed_stmt_layer, placed_unit, placed_var}
use Rattle.bl_tree_laws_places.proofs.Exprs.{expr_back, path_back}
use Rattle.bl_tree_laws_places.proofs.Lists.{map-back}
use Rattle.bl_tree_laws_places.proofs.Stmts.{armed, branched, layered, stmt_is}

module _ (f g : Place → Place) (back : BringsBack g f) where
  pub exprs_back : (es : List Expr) → map (placed_expr g) (map (placed_expr f) es) ≡ es
  exprs_back es = map-back (placed_expr g) (placed_expr f) es (λ k d less. expr_back f g back _)

  pub paths_back : (paths : List Path) → map (placed_path g) (map (placed_path f) paths) ≡ paths
  paths_back paths = map-back (placed_path g) (placed_path f) paths (λ k d less. path_back f g back _)

  optional_back : (e : Option Expr) → option_map (placed_expr g) (option_map (placed_expr f) e) ≡ e
  optional_back None = refl
  optional_back (Some e) = ap Some (expr_back f g back e)

  pub target_back : (path : Option Path) → option_map (placed_path g) (option_map (placed_path f) path) ≡ path
  target_back None = refl
  target_back (Some path) = ap Some (path_back f g back path)

  abbrev Returns : Stmt → Type 0
  Returns s = placed_stmt g (placed_stmt f s) ≡ s

  block_back : (body : List Stmt) → Each Returns body → map (placed_stmt g) (map (placed_stmt f) body) ≡ body
  block_back body h = map-back (placed_stmt g) (placed_stmt f) body h

  arm_back : (a : Arm) → Each Returns (out-Arm a).body → armed g (armed f a) ≡ a
  arm_back a h =
      ap (armed g) (fold_out-Arm StmtKind Arm Branch Stmt (placed_kind f) (placed_arm f) roll-Branch (placed_stmt_layer f) a)
      ∙ fold-roll-Arm StmtKind Arm Branch Stmt (placed_kind g) (placed_arm g) roll-Branch (placed_stmt_layer g)
      (record { test = placed_expr f (out-Arm a).test; body = map (placed_stmt f) (out-Arm a).body })
      ∙ ap₂ (λ test body. roll-Arm (record { test = test; body = body })) (expr_back f g back (out-Arm a).test) (block_back (out-Arm a).body h)
      ∙ roll-out-Arm a

  branch_back : (b : Branch) → Each Returns (out-Branch b).body → branched g (branched f b) ≡ b
  branch_back b h =
      ap (branched g) (fold_out-Branch StmtKind Arm Branch Stmt (placed_kind f) (placed_arm f) roll-Branch (placed_stmt_layer f) b)
      ∙ fold-roll-Branch StmtKind Arm Branch Stmt (placed_kind g) (placed_arm g) roll-Branch (placed_stmt_layer g)
      (record { weak = (out-Branch b).weak; body = map (placed_stmt f) (out-Branch b).body })
      ∙ ap (λ body. roll-Branch (record { weak = (out-Branch b).weak; body = body })) (block_back (out-Branch b).body h)
      ∙ roll-out-Branch b

  arms_back : (arms : List Arm) → EachArm Returns arms → map (armed g) (map (armed f) arms) ≡ arms
  arms_back arms h = map-back (armed g) (armed f) arms (λ k d less. arm_back _ (h k d less))

  branches_back : (branches : List Branch) → EachBranch Returns branches → map (branched g) (map (branched f) branches) ≡ branches
  branches_back branches h = map-back (branched g) (branched f) branches (λ k d less. branch_back _ (h k d less))

  -- a statement comes back where its layer does
  by_layer : (at : Place) (layer : StmtKind-F StmtKind Arm Branch Stmt) → layered g (layered f layer) ≡ layer → Returns (stmt at layer)
  by_layer at layer h =
      ap (placed_stmt g) (stmt_is f at layer) ∙ stmt_is g (f at) (layered f layer) ∙ ap₂ stmt (back at) h

  cases : Cases Returns
  cases = record {
    declare = λ at k initial. by_layer at (StmtKind-F.Declare k initial) (ap (λ x. StmtKind-F.Declare k x) (optional_back initial));
    assign = λ at path e.
        by_layer at (StmtKind-F.Assign path e) (ap₂ (λ x y. StmtKind-F.Assign x y) (path_back f g back path) (expr_back f g back e));
    call = λ at callee inputs outputs.
        by_layer at (StmtKind-F.Call callee inputs outputs)
        (ap₂ (λ xs ys. StmtKind-F.Call callee xs ys) (exprs_back inputs) (paths_back outputs));
    await = λ at e. by_layer at (StmtKind-F.Await e) (ap StmtKind-F.Await (expr_back f g back e));
    run = λ at target callee inputs outputs.
        by_layer at (StmtKind-F.Run target callee inputs outputs)
        (ap (λ x. StmtKind-F.Run x callee (map (placed_expr g) (map (placed_expr f) inputs)) (map (placed_path g) (map (placed_path f) outputs)))
        (target_back target)
        ∙ ap₂ (λ xs ys. StmtKind-F.Run target callee xs ys) (exprs_back inputs) (paths_back outputs));
    branching = λ at arms other h k.
        by_layer at (StmtKind-F.If arms other) (ap₂ (λ xs ys. StmtKind-F.If xs ys) (arms_back arms h) (block_back other k));
    cobegin = λ at branches h. by_layer at (StmtKind-F.Cobegin branches) (ap StmtKind-F.Cobegin (branches_back branches h));
    guarded = λ at guard e body h.
        by_layer at (StmtKind-F.When guard e body) (ap₂ (λ x xs. StmtKind-F.When guard x xs) (expr_back f g back e) (block_back body h));
    repeat = λ at body h. by_layer at (StmtKind-F.Repeat body) (ap StmtKind-F.Repeat (block_back body h));
    until = λ at body e h.
        by_layer at (StmtKind-F.Until body e) (ap₂ (λ xs x. StmtKind-F.Until xs x) (block_back body h) (expr_back f g back e));
    while = λ at e body h.
        by_layer at (StmtKind-F.While e body) (ap₂ (λ x xs. StmtKind-F.While x xs) (expr_back f g back e) (block_back body h));
    returns = λ at e. by_layer at (StmtKind-F.Return e) (ap StmtKind-F.Return (optional_back e));
  }

  pub stmt_back : (s : Stmt) → placed_stmt g (placed_stmt f s) ≡ s
  stmt_back = induct Returns cases

  pub stmts_back : (body : List Stmt) → map (placed_stmt g) (map (placed_stmt f) body) ≡ body
  stmts_back body = block_back body (λ k d less. stmt_back _)

  vars_back : (vars : List Var) → map (placed_var g) (map (placed_var f) vars) ≡ vars
  vars_back vars =
      map-back (placed_var g) (placed_var f) vars
      (λ k d less. let var : Var = _ in ap (λ place. record { name = var.name; place = place; ty = var.ty; role = var.role }) (back var.place))

  pub unit_back : (unit : UnitDef) → placed_unit g (placed_unit f unit) ≡ unit
  unit_back unit = λ i. record {
    name = unit.name;
    place = back unit.place i;
    kind = unit.kind;
    vars = vars_back unit.vars i;
    inputs = unit.inputs;
    outputs = unit.outputs;
    result = unit.result;
    body = stmts_back unit.body i;
  }
