-- Statements and conditions of loops begin where they did: positions in place of names change no place.
use Rattle.std.proofs.Common.{◌≡◌, ℕ, List, [], ◌∷◌, ◌++◌, map, refl, sym, ap, subst, ◌∙◌}
use Rattle.std.specs.Prelude.{All, IsTrue, Some, option_map}
use Rattle.std.proofs.lemmas.List.Elements.{All-head, All-tail}
use Rattle.bl_tree.specs.declared.place.Place.{Place}
use Rattle.bl_tree.specs.Reduce.{joined}
use Rattle.bl_names_tree.specs.declared.expr.NamedExpr.{NamedExpr, out-roll-NamedExpr, roll-NamedExpr}
use Rattle.bl_names_tree.specs.declared.expr.NamedExprKind.{NamedExprKind}
use Rattle.bl_names_tree.specs.declared.expr.NamedPart.{NamedPart}
use Rattle.bl_names_tree.specs.declared.expr.NamedTarget.{NamedTarget}
use Rattle.bl_names_tree.specs.declared.stmt.NamedStmtKind.{out-NamedStmtKind}
use Rattle.bl_names_tree.specs.declared.stmt.NamedStmtKind.TheOpen.{NamedStmtKind-F}
use Rattle.bl_names_tree.specs.declared.stmt.NamedStmtKind.TheVariants as what
use Rattle.bl_names_tree.specs.Starts.{NamedStartOffsets, all_starts, arm_starts, branch_starts, start_of, starts_of, stmt_kind_starts, stmt_layer_starts, unit_starts}
use Rattle.bl_names_tree.specs.inner.Starts.{starts_of_arm, starts_of_branch}
use Rattle.bl_parse_tree.specs.declared.expr.RawExpr.{RawExpr, fold_out-RawExpr, out-RawExpr}
use Rattle.bl_parse_tree.specs.declared.expr.RawExprKind.{RawExprKind, fold-RawExprKind}
use Rattle.bl_parse_tree.specs.declared.item.RawItem.{RawItem}
use Rattle.bl_parse_tree.specs.declared.item.RawItem.TheVariants as item
use Rattle.bl_parse_tree.specs.declared.stmt.RawArm.{RawArm, fold-RawArm}
use Rattle.bl_parse_tree.specs.declared.stmt.RawBranch.{RawBranch, fold-RawBranch}
use Rattle.bl_parse_tree.specs.declared.stmt.RawStmt.{RawStmt}
use Rattle.bl_parse_tree.specs.declared.stmt.RawStmtKind.TheOpen.{RawStmtKind-F}
use Rattle.bl_parse_tree.specs.Starts as raw
use Rattle.bl_names_scopes.specs.Marks.{expr_marks, item_marks}
use Rattle.bl_names_scopes.specs.Scopes.{Scopes, after, file_scope}
use Rattle.bl_names.specs.Named.{Piece, along, kind_piece, made_of_all, marks_of_all, named_program, opened, params_piece, piece_of_arm, piece_of_branch}
use Rattle.bl_names.specs.Named.{stmt_piece, units_of}
use Rattle.bl_names.specs.Naming.{named_expr, named_expr_layer, named_kind, named_part, named_path, named_target, named_target_layer, position}
use Rattle.bl_names.proofs.PieceLemmas.{arm_is, branch_is, parts, stmt_is}
use Rattle.bl_names.proofs.RawStmtInduction.{Cases, induct, stmt}
use Rattle.bl_names_laws.proofs.Made.{NamedLayer, RawLayer, named_arm_at, named_at, named_branch_at, named_parts, raw_arm_at, raw_at, raw_branch_at, raw_parts}

start_at : (place : Place) (kind : NamedExprKind) → start_of (roll-NamedExpr (record { place = place; what = kind })) ≡ place.start
start_at place kind = ap (λ layer. layer.place.start) (out-roll-NamedExpr (record { place = place; what = kind }))

-- a condition begins where it did
start_same : (scopes : Scopes) (e : RawExpr) → start_of (named_expr scopes e) ≡ raw.start_of e
start_same scopes e =
    let of_kind : RawExprKind → NamedExprKind =
    fold-RawExprKind NamedExprKind NamedPart NamedExpr NamedTarget (named_kind scopes) named_part named_expr_layer (named_target_layer scopes) in
    ap start_of
    (fold_out-RawExpr NamedExprKind NamedPart NamedExpr NamedTarget (named_kind scopes) named_part named_expr_layer (named_target_layer scopes) e)
    ∙ start_at (out-RawExpr e).place (of_kind (out-RawExpr e).what)

abbrev arm_before : RawArm → NamedStartOffsets
arm_before = fold-RawArm NamedStartOffsets NamedStartOffsets NamedStartOffsets NamedStartOffsets raw.stmt_kind_starts raw.arm_starts raw.branch_starts raw.stmt_layer_starts

abbrev branch_before : RawBranch → NamedStartOffsets
branch_before = fold-RawBranch NamedStartOffsets NamedStartOffsets NamedStartOffsets NamedStartOffsets raw.stmt_kind_starts raw.arm_starts raw.branch_starts raw.stmt_layer_starts

-- what is made of a part begins where the part does
abbrev Same : {A : Type 0} → (A → NamedStartOffsets) → NamedStartOffsets → Piece A → Type 0
Same starts before piece = (scopes : Scopes) → starts (piece.made scopes) ≡ before

abbrev StmtSame : RawStmt → Type 0
StmtSame s = Same starts_of (raw.starts_of s) (stmt_piece s)

abbrev ArmSame : RawArm → Type 0
ArmSame arm = Same starts_of_arm (arm_before arm) (piece_of_arm arm)

abbrev BranchSame : RawBranch → Type 0
BranchSame branch = Same starts_of_branch (branch_before branch) (piece_of_branch branch)

same_all : {X A : Type 0} (starts : A → NamedStartOffsets) (before : X → NamedStartOffsets) (piece : X → Piece A) (xs : List X) →
    All (λ x. Same starts (before x) (piece x)) xs
    → (scopes : Scopes) → joined (map starts (made_of_all (map piece xs) scopes)) ≡ joined (map before xs)
same_all starts before piece [] each scopes = refl
same_all starts before piece (x ∷ xs) each scopes = λ i.
    All-head (λ x. Same starts (before x) (piece x)) x xs each scopes i
    ++ same_all starts before piece xs (All-tail (λ x. Same starts (before x) (piece x)) x xs each) (after scopes (piece x).marks) i

same_body : (body : List RawStmt) → All StmtSame body → (scopes : Scopes)
    → joined (map starts_of (made_of_all (map stmt_piece body) scopes)) ≡ joined (map raw.starts_of body)
same_body body each scopes = same_all starts_of raw.starts_of stmt_piece body each scopes

abbrev new_starts : NamedLayer → NamedStartOffsets
new_starts layer = stmt_kind_starts (named_parts NamedStartOffsets stmt_kind_starts arm_starts branch_starts stmt_layer_starts layer)

abbrev old_starts : RawLayer → NamedStartOffsets
old_starts layer = raw.stmt_kind_starts (raw_parts NamedStartOffsets raw.stmt_kind_starts raw.arm_starts raw.branch_starts raw.stmt_layer_starts layer)

-- a statement whose kind becomes this
stmt_same : (place : Place) (layer : RawLayer) (made : Scopes → NamedLayer)
    → ((scopes : Scopes) → out-NamedStmtKind ((kind_piece (parts layer)).made scopes) ≡ made scopes)
    → ((scopes : Scopes) → new_starts (made scopes) ≡ old_starts layer) → StmtSame (stmt place layer)
stmt_same place layer made is gives scopes =
    ap (λ piece. starts_of (piece.made scopes)) (stmt_is place layer)
    ∙ named_at NamedStartOffsets stmt_kind_starts arm_starts branch_starts stmt_layer_starts place ((kind_piece (parts layer)).made scopes) (made scopes) (is scopes)
    ∙ ap (λ starts. place.start ∷ starts) (gives scopes)
    ∙ sym (raw_at NamedStartOffsets raw.stmt_kind_starts raw.arm_starts raw.branch_starts raw.stmt_layer_starts place layer)

-- where a body begins behind a condition, and behind arms
abbrev behind : RawExpr → Scopes → Scopes
behind e scopes = opened (after scopes (expr_marks e))

abbrev behind_arms : List RawArm → Scopes → Scopes
behind_arms arms scopes = opened (after scopes (marks_of_all (map piece_of_arm arms)))

cases : Cases StmtSame ArmSame BranchSame
cases = record {
  var = λ place name ty value. stmt_same place (RawStmtKind-F.Var name ty value)
      (λ scopes. NamedStmtKind-F.Declare scopes.counts.variables (option_map (named_expr scopes) value))
      (λ scopes. what.outs-Declare scopes.counts.variables (option_map (named_expr scopes) value)) (λ scopes. refl);
  fixed = λ place name ty value. stmt_same place (RawStmtKind-F.Let name ty value)
      (λ scopes. NamedStmtKind-F.Declare scopes.counts.variables (Some (named_expr scopes value)))
      (λ scopes. what.outs-Declare scopes.counts.variables (Some (named_expr scopes value))) (λ scopes. refl);
  constant = λ place constant. stmt_same place (RawStmtKind-F.Const constant)
      (λ scopes. NamedStmtKind-F.Const scopes.counts.constants) (λ scopes. what.outs-Const scopes.counts.constants) (λ scopes. refl);
  assign = λ place target e. stmt_same place (RawStmtKind-F.Assign target e)
      (λ scopes. NamedStmtKind-F.Assign (named_target scopes target) (named_expr scopes e))
      (λ scopes. what.outs-Assign (named_target scopes target) (named_expr scopes e)) (λ scopes. refl);
  call = λ place f inputs outputs. stmt_same place (RawStmtKind-F.Call f inputs outputs)
      (λ scopes. NamedStmtKind-F.Call f.place (position scopes f) (map (named_expr scopes) inputs) (map (named_path scopes) outputs))
      (λ scopes. what.outs-Call f.place (position scopes f) (map (named_expr scopes) inputs) (map (named_path scopes) outputs)) (λ scopes. refl);
  await = λ place e. stmt_same place (RawStmtKind-F.Await e)
      (λ scopes. NamedStmtKind-F.Await (named_expr scopes e)) (λ scopes. what.outs-Await (named_expr scopes e)) (λ scopes. refl);
  run = λ place target a inputs outputs. stmt_same place (RawStmtKind-F.Run target a inputs outputs)
      (λ scopes. NamedStmtKind-F.Run (option_map (named_path scopes) target) a.place (position scopes a) (map (named_expr scopes) inputs)
      (map (named_path scopes) outputs))
      (λ scopes. what.outs-Run (option_map (named_path scopes) target) a.place (position scopes a) (map (named_expr scopes) inputs)
      (map (named_path scopes) outputs))
      (λ scopes. refl);
  branching = λ place arms other in_arms in_other. stmt_same place (RawStmtKind-F.If arms other)
      (λ scopes. NamedStmtKind-F.If (made_of_all (map piece_of_arm arms) scopes) (made_of_all (map stmt_piece other) (behind_arms arms scopes)))
      (λ scopes. what.outs-If (made_of_all (map piece_of_arm arms) scopes) (made_of_all (map stmt_piece other) (behind_arms arms scopes)))
      (λ scopes i. same_all starts_of_arm arm_before piece_of_arm arms in_arms scopes i ++ same_body other in_other (behind_arms arms scopes) i);
  cobegin = λ place branches in_branches. stmt_same place (RawStmtKind-F.Cobegin branches)
      (λ scopes. NamedStmtKind-F.Cobegin (made_of_all (map piece_of_branch branches) scopes))
      (λ scopes. what.outs-Cobegin (made_of_all (map piece_of_branch branches) scopes))
      (λ scopes. same_all starts_of_branch branch_before piece_of_branch branches in_branches scopes);
  guarded = λ place guard e body each. stmt_same place (RawStmtKind-F.When guard e body)
      (λ scopes. NamedStmtKind-F.When guard (named_expr scopes e) (made_of_all (map stmt_piece body) (behind e scopes)))
      (λ scopes. what.outs-When guard (named_expr scopes e) (made_of_all (map stmt_piece body) (behind e scopes)))
      (λ scopes. same_body body each (behind e scopes));
  repeat = λ place body each. stmt_same place (RawStmtKind-F.Repeat body)
      (λ scopes. NamedStmtKind-F.Repeat (made_of_all (map stmt_piece body) (opened scopes)))
      (λ scopes. what.outs-Repeat (made_of_all (map stmt_piece body) (opened scopes))) (λ scopes. same_body body each (opened scopes));
  until = λ place body e each. stmt_same place (RawStmtKind-F.Until body e)
      (λ scopes. NamedStmtKind-F.Until (made_of_all (map stmt_piece body) (opened scopes)) (named_expr scopes e))
      (λ scopes. what.outs-Until (made_of_all (map stmt_piece body) (opened scopes)) (named_expr scopes e))
      (λ scopes i. same_body body each (opened scopes) i ++ (start_same scopes e i ∷ []));
  while = λ place e body each. stmt_same place (RawStmtKind-F.While e body)
      (λ scopes. NamedStmtKind-F.While (named_expr scopes e) (made_of_all (map stmt_piece body) (behind e scopes)))
      (λ scopes. what.outs-While (named_expr scopes e) (made_of_all (map stmt_piece body) (behind e scopes)))
      (λ scopes i. start_same scopes e i ∷ same_body body each (behind e scopes) i);
  returns = λ place e. stmt_same place (RawStmtKind-F.Return e)
      (λ scopes. NamedStmtKind-F.Return (option_map (named_expr scopes) e)) (λ scopes. what.outs-Return (option_map (named_expr scopes) e)) (λ scopes. refl);
  arm = λ test body each scopes.
      ap (λ piece. starts_of_arm (piece.made scopes)) (arm_is test body)
      ∙ named_arm_at NamedStartOffsets stmt_kind_starts arm_starts branch_starts stmt_layer_starts (named_expr scopes test)
      (made_of_all (map stmt_piece body) (behind test scopes))
      ∙ same_body body each (behind test scopes)
      ∙ sym (raw_arm_at NamedStartOffsets raw.stmt_kind_starts raw.arm_starts raw.branch_starts raw.stmt_layer_starts test body);
  branch = λ weak body each scopes.
      ap (λ piece. starts_of_branch (piece.made scopes)) (branch_is weak body)
      ∙ named_branch_at NamedStartOffsets stmt_kind_starts arm_starts branch_starts stmt_layer_starts weak (made_of_all (map stmt_piece body) (opened scopes))
      ∙ same_body body each (opened scopes)
      ∙ sym (raw_branch_at NamedStartOffsets raw.stmt_kind_starts raw.arm_starts raw.branch_starts raw.stmt_layer_starts weak body);
}

every_of : (body : List RawStmt) → All StmtSame body
every_of body = λ k d within. induct StmtSame ArmSame BranchSame cases _

-- ---- items

units_same : (items : List RawItem) (scopes : Scopes) → joined (map unit_starts (along units_of scopes items)) ≡ raw.all_starts items
units_same [] scopes = refl
units_same (item.Struct def ∷ items) scopes = units_same items (after scopes (item_marks (item.Struct def)))
units_same (item.Constant def ∷ items) scopes = units_same items (after scopes (item_marks (item.Constant def)))
units_same (item.Unit def ∷ items) scopes = λ i.
    same_body def.body (every_of def.body) (after (opened scopes) (params_piece def).marks) i
    ++ units_same items (after scopes (item_marks (item.Unit def))) i

pub starts_are : (items : List RawItem) (bytes : ℕ) → all_starts (named_program items bytes) ≡ raw.all_starts items
starts_are items bytes = units_same items file_scope

-- so they begin one after another
pub in_order : (items : List RawItem) (bytes : ℕ) → IsTrue (raw.ascends (raw.all_starts items)) →
    IsTrue (raw.ascends (all_starts (named_program items bytes)))
in_order items bytes ordered = subst (λ starts. IsTrue (raw.ascends starts)) (sym (starts_are items bytes)) ordered
