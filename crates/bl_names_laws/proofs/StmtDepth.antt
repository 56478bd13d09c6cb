-- Statements with positions in place of names are nested no deeper than they were.
use Rattle.std.proofs.Common.{◌≡◌, ℕ, ◌+◌, ◌≤◌, true, List, [], ◌∷◌, map, refl, sym, ap, subst, ◌∙◌, arith}
use Rattle.std.specs.Prelude.{All, max, nat_le, Some, option_map}
use Rattle.std.specs.List.{list_all}
use Rattle.std.proofs.lemmas.Bool.{le-leb, leb-true}
use Rattle.std.proofs.lemmas.List.Elements.{All-head, All-tail}
use Rattle.std.proofs.lemmas.Bool.{and_from}
use Rattle.bl_tree.proofs.Basics.{and_first, and_second, none_at_most}
use Rattle.bl_tree.specs.declared.place.Place.{Place}
use Rattle.bl_tree.specs.Depths.{Depth, block, leaf, of_all}
use Rattle.bl_names_tree.specs.declared.stmt.NamedStmtKind.{out-NamedStmtKind}
use Rattle.bl_names_tree.specs.declared.stmt.NamedStmtKind.TheOpen.{NamedStmtKind-F}
use Rattle.bl_names_tree.specs.declared.stmt.NamedStmtKind.TheVariants as what
use Rattle.bl_parse_tree.specs.declared.item.RawItem.{RawItem}
use Rattle.bl_parse_tree.specs.declared.item.RawItem.TheVariants as item
use Rattle.bl_parse_tree.specs.declared.stmt.RawArm.{RawArm, fold-RawArm}
use Rattle.bl_parse_tree.specs.declared.stmt.RawBranch.{RawBranch, fold-RawBranch}
use Rattle.bl_parse_tree.specs.declared.stmt.RawStmt.{RawStmt}
use Rattle.bl_parse_tree.specs.declared.stmt.RawStmtKind.TheOpen.{RawStmtKind-F}
use Rattle.bl_parse_tree.specs.Depths as raw
use Rattle.bl_names_scopes.specs.Marks.{expr_marks}
use Rattle.bl_names_scopes.specs.Scopes.{Scopes, after, file_scope}
use Rattle.bl_names.specs.Named.{Piece, kind_piece, made_of_all, marks_of_all, named_program, named_unit, opened, params_piece, piece_of_arm, piece_of_branch}
use Rattle.bl_names.specs.Named.{stmt_piece, units_of}
use Rattle.bl_names.specs.Naming.{named_expr, named_path, named_target, position}
use Rattle.bl_names.proofs.PieceLemmas.{arm_is, branch_is, parts, stmt_is}
use Rattle.bl_names.proofs.RawStmtInduction.{Cases, induct, stmt}
use Rattle.bl_names_laws.specs.Depths.{arm_depth, branch_depth, depth_of, is_shallow, stmt_kind_depth, stmt_layer_depth}
use Rattle.bl_names_laws.specs.inner.Depths.{depth_of_arm, depth_of_branch}
use Rattle.bl_names_laws.specs.WellFormed.{body_shallow}
use Rattle.bl_names_laws.proofs.Along.{along_holds}
use Rattle.bl_names_laws.proofs.ExprDepth.{expr_same, inputs_same, optional_same, target_same}
use Rattle.bl_names_laws.proofs.Made.{NamedLayer, RawLayer, named_arm_at, named_at, named_branch_at, named_parts, raw_arm_at, raw_at, raw_branch_at, raw_parts}

abbrev arm_before : RawArm → Depth
arm_before = fold-RawArm Depth Depth Depth Depth raw.stmt_kind_depth raw.arm_depth raw.branch_depth raw.stmt_layer_depth

abbrev branch_before : RawBranch → Depth
branch_before = fold-RawBranch Depth Depth Depth Depth raw.stmt_kind_depth raw.arm_depth raw.branch_depth raw.stmt_layer_depth

-- neither the blocks nor the expressions are nested deeper
record AtMost (new old : Depth) : Type 0 where
  pub blocks : new.blocks ≤ old.blocks
  pub exprs : new.exprs ≤ old.exprs

at_most_is : (new other old before : Depth) → new ≡ other → old ≡ before → AtMost other before → AtMost new old
at_most_is new other old before one two at = subst (λ d. AtMost d old) (sym one) (subst (AtMost other) (sym two) at)

max_grows : (a b c d : ℕ) → a ≤ b → c ≤ d → max a c ≤ max b d
max_grows a b c d one two = grind arith

equal_most : (a b : ℕ) → a ≡ b → a ≤ b
equal_most a b is = omega arith

pub one_more : (a b : ℕ) → a ≤ b → 1 + a ≤ 1 + b
one_more a b is = omega arith

leaf_most : (a b : ℕ) → a ≡ b → AtMost (leaf a) (leaf b)
leaf_most a b is = record { blocks = none_at_most 0; exprs = equal_most a b is }

block_most : (head before : ℕ) (new old : List Depth) → head ≡ before → AtMost (of_all new) (of_all old) → AtMost (block head new) (block before old)
block_most head before new old is at = record {
  blocks = one_more (of_all new).blocks (of_all old).blocks at.blocks;
  exprs = max_grows head before (of_all new).exprs (of_all old).exprs (equal_most head before is) at.exprs;
}

both_most : (one other : Depth) (new old : List Depth) → AtMost one other → AtMost (of_all new) (of_all old)
    → AtMost (of_all (one ∷ new)) (of_all (other ∷ old))
both_most one other new old first rest = record {
  blocks = max_grows one.blocks other.blocks (of_all new).blocks (of_all old).blocks first.blocks rest.blocks;
  exprs = max_grows one.exprs other.exprs (of_all new).exprs (of_all old).exprs first.exprs rest.exprs;
}

-- a part becomes what is no deeper
abbrev Good : {A : Type 0} → (A → Depth) → Depth → Piece A → Type 0
Good depth before piece = (scopes : Scopes) → AtMost (depth (piece.made scopes)) before

abbrev StmtGood : RawStmt → Type 0
StmtGood s = Good depth_of (raw.depth_of s) (stmt_piece s)

abbrev ArmGood : RawArm → Type 0
ArmGood arm = Good depth_of_arm (arm_before arm) (piece_of_arm arm)

abbrev BranchGood : RawBranch → Type 0
BranchGood branch = Good depth_of_branch (branch_before branch) (piece_of_branch branch)

good_all : {X A : Type 0} (depth : A → Depth) (before : X → Depth) (piece : X → Piece A) (xs : List X) →
    All (λ x. Good depth (before x) (piece x)) xs →
    (scopes : Scopes) → AtMost (of_all (map depth (made_of_all (map piece xs) scopes))) (of_all (map before xs))
good_all depth before piece [] each scopes = record { blocks = none_at_most 0; exprs = none_at_most 0 }
good_all depth before piece (x ∷ xs) each scopes =
    both_most (depth ((piece x).made scopes)) (before x) (map depth (made_of_all (map piece xs) (after scopes (piece x).marks))) (map before xs)
    (All-head (λ x. Good depth (before x) (piece x)) x xs each scopes)
    (good_all depth before piece xs (All-tail (λ x. Good depth (before x) (piece x)) x xs each) (after scopes (piece x).marks))

body_most : (head before : ℕ) (body : List RawStmt) → All StmtGood body → head ≡ before → (scopes : Scopes) →
    AtMost (block head (map depth_of (made_of_all (map stmt_piece body) scopes))) (block before (map raw.depth_of body))
body_most head before body each is scopes =
    block_most head before (map depth_of (made_of_all (map stmt_piece body) scopes)) (map raw.depth_of body) is
    (good_all depth_of raw.depth_of stmt_piece body each scopes)

abbrev new_depth : NamedLayer → Depth
new_depth layer = stmt_kind_depth (named_parts Depth stmt_kind_depth arm_depth branch_depth stmt_layer_depth layer)

abbrev old_depth : RawLayer → Depth
old_depth layer = raw.stmt_kind_depth (raw_parts Depth raw.stmt_kind_depth raw.arm_depth raw.branch_depth raw.stmt_layer_depth layer)

-- a statement whose kind becomes this
stmt_good : (place : Place) (layer : RawLayer) (made : Scopes → NamedLayer)
    → ((scopes : Scopes) → out-NamedStmtKind ((kind_piece (parts layer)).made scopes) ≡ made scopes) →
    ((scopes : Scopes) → AtMost (new_depth (made scopes)) (old_depth layer)) → StmtGood (stmt place layer)
stmt_good place layer made is gives scopes =
    at_most_is (depth_of ((stmt_piece (stmt place layer)).made scopes)) (new_depth (made scopes)) (raw.depth_of (stmt place layer)) (old_depth layer)
    (ap (λ piece. depth_of (piece.made scopes)) (stmt_is place layer)
    ∙ named_at Depth stmt_kind_depth arm_depth branch_depth stmt_layer_depth place ((kind_piece (parts layer)).made scopes) (made scopes) (is scopes))
    (raw_at Depth raw.stmt_kind_depth raw.arm_depth raw.branch_depth raw.stmt_layer_depth place layer) (gives scopes)

cases : Cases StmtGood ArmGood BranchGood
cases = record {
  var = λ place name ty value. stmt_good place (RawStmtKind-F.Var name ty value)
      (λ scopes. NamedStmtKind-F.Declare scopes.counts.variables (option_map (named_expr scopes) value))
      (λ scopes. what.outs-Declare scopes.counts.variables (option_map (named_expr scopes) value))
      (λ scopes. leaf_most _ _ (optional_same scopes value));
  fixed = λ place name ty value. stmt_good place (RawStmtKind-F.Let name ty value)
      (λ scopes. NamedStmtKind-F.Declare scopes.counts.variables (Some (named_expr scopes value)))
      (λ scopes. what.outs-Declare scopes.counts.variables (Some (named_expr scopes value)))
      (λ scopes. leaf_most _ _ (expr_same scopes value));
  constant = λ place constant. stmt_good place (RawStmtKind-F.Const constant) (λ scopes. NamedStmtKind-F.Const scopes.counts.constants)
      (λ scopes. what.outs-Const scopes.counts.constants)
      (λ scopes. record { blocks = none_at_most 0; exprs = none_at_most (raw.expr_depth constant.value) });
  assign = λ place target e. stmt_good place (RawStmtKind-F.Assign target e)
      (λ scopes. NamedStmtKind-F.Assign (named_target scopes target) (named_expr scopes e))
      (λ scopes. what.outs-Assign (named_target scopes target) (named_expr scopes e))
      (λ scopes. leaf_most _ _ (λ i. max (target_same scopes target i) (expr_same scopes e i)));
  call = λ place f inputs outputs. stmt_good place (RawStmtKind-F.Call f inputs outputs)
      (λ scopes. NamedStmtKind-F.Call f.place (position scopes f) (map (named_expr scopes) inputs) (map (named_path scopes) outputs))
      (λ scopes. what.outs-Call f.place (position scopes f) (map (named_expr scopes) inputs) (map (named_path scopes) outputs))
      (λ scopes. leaf_most _ _ (inputs_same scopes inputs));
  await = λ place e. stmt_good place (RawStmtKind-F.Await e) (λ scopes. NamedStmtKind-F.Await (named_expr scopes e))
      (λ scopes. what.outs-Await (named_expr scopes e))
      (λ scopes. leaf_most _ _ (expr_same scopes e));
  run = λ place target a inputs outputs. stmt_good place (RawStmtKind-F.Run target a inputs outputs)
      (λ scopes. NamedStmtKind-F.Run (option_map (named_path scopes) target) a.place (position scopes a) (map (named_expr scopes) inputs)
      (map (named_path scopes) outputs)) (λ scopes. what.outs-Run (option_map (named_path scopes) target) a.place (position scopes a)
      (map (named_expr scopes) inputs) (map (named_path scopes) outputs))
      (λ scopes. leaf_most _ _ (inputs_same scopes inputs));
  branching = λ place arms other in_arms in_other. stmt_good place (RawStmtKind-F.If arms other)
      (λ scopes. NamedStmtKind-F.If (made_of_all (map piece_of_arm arms) scopes)
      (made_of_all (map stmt_piece other) (opened (after scopes (marks_of_all (map piece_of_arm arms))))))
      (λ scopes. what.outs-If (made_of_all (map piece_of_arm arms) scopes)
      (made_of_all (map stmt_piece other) (opened (after scopes (marks_of_all (map piece_of_arm arms))))))
      (λ scopes. both_most _ _ _ _
      (body_most 0 0 other in_other refl (opened (after scopes (marks_of_all (map piece_of_arm arms)))))
      (good_all depth_of_arm arm_before piece_of_arm arms in_arms scopes));
  cobegin = λ place branches in_branches. stmt_good place (RawStmtKind-F.Cobegin branches)
      (λ scopes. NamedStmtKind-F.Cobegin (made_of_all (map piece_of_branch branches) scopes))
      (λ scopes. what.outs-Cobegin (made_of_all (map piece_of_branch branches) scopes))
      (λ scopes. good_all depth_of_branch branch_before piece_of_branch branches in_branches scopes);
  guarded = λ place guard e body each. stmt_good place (RawStmtKind-F.When guard e body)
      (λ scopes. NamedStmtKind-F.When guard (named_expr scopes e) (made_of_all (map stmt_piece body) (opened (after scopes (expr_marks e)))))
      (λ scopes. what.outs-When guard (named_expr scopes e) (made_of_all (map stmt_piece body) (opened (after scopes (expr_marks e)))))
      (λ scopes. body_most _ _ body each (expr_same scopes e) (opened (after scopes (expr_marks e))));
  repeat = λ place body each. stmt_good place (RawStmtKind-F.Repeat body)
      (λ scopes. NamedStmtKind-F.Repeat (made_of_all (map stmt_piece body) (opened scopes)))
      (λ scopes. what.outs-Repeat (made_of_all (map stmt_piece body) (opened scopes)))
      (λ scopes. body_most 0 0 body each refl (opened scopes));
  until = λ place body e each. stmt_good place (RawStmtKind-F.Until body e)
      (λ scopes. NamedStmtKind-F.Until (made_of_all (map stmt_piece body) (opened scopes)) (named_expr scopes e))
      (λ scopes. what.outs-Until (made_of_all (map stmt_piece body) (opened scopes)) (named_expr scopes e))
      (λ scopes. body_most _ _ body each (expr_same scopes e) (opened scopes));
  while = λ place e body each. stmt_good place (RawStmtKind-F.While e body)
      (λ scopes. NamedStmtKind-F.While (named_expr scopes e) (made_of_all (map stmt_piece body) (opened (after scopes (expr_marks e)))))
      (λ scopes. what.outs-While (named_expr scopes e) (made_of_all (map stmt_piece body) (opened (after scopes (expr_marks e)))))
      (λ scopes. body_most _ _ body each (expr_same scopes e) (opened (after scopes (expr_marks e))));
  returns = λ place e. stmt_good place (RawStmtKind-F.Return e) (λ scopes. NamedStmtKind-F.Return (option_map (named_expr scopes) e))
      (λ scopes. what.outs-Return (option_map (named_expr scopes) e))
      (λ scopes. leaf_most _ _ (optional_same scopes e));
  arm = λ test body each scopes. at_most_is _ _ _ _
      (ap (λ piece. depth_of_arm (piece.made scopes)) (arm_is test body)
      ∙ named_arm_at Depth stmt_kind_depth arm_depth branch_depth stmt_layer_depth (named_expr scopes test)
      (made_of_all (map stmt_piece body) (opened (after scopes (expr_marks test)))))
      (raw_arm_at Depth raw.stmt_kind_depth raw.arm_depth raw.branch_depth raw.stmt_layer_depth test body)
      (body_most _ _ body each (expr_same scopes test) (opened (after scopes (expr_marks test))));
  branch = λ weak body each scopes. at_most_is _ _ _ _
      (ap (λ piece. depth_of_branch (piece.made scopes)) (branch_is weak body)
      ∙ named_branch_at Depth stmt_kind_depth arm_depth branch_depth stmt_layer_depth weak (made_of_all (map stmt_piece body) (opened scopes)))
      (raw_branch_at Depth raw.stmt_kind_depth raw.arm_depth raw.branch_depth raw.stmt_layer_depth weak body) (body_most 0 0 body each refl (opened scopes));
}

every_of : (body : List RawStmt) → All StmtGood body
every_of body = λ k d within. induct StmtGood ArmGood BranchGood cases _

pub below_limit : (a b limit : ℕ) → a ≤ b → nat_le b limit ≡ true → nat_le a limit ≡ true
below_limit a b limit most is = let less : b ≤ limit = leb-true b limit is in le-leb a limit (omega arith)

shallow_body : (body : List RawStmt) (scopes : Scopes) → raw.is_shallow body ≡ true → is_shallow (made_of_all (map stmt_piece body) scopes) ≡ true
shallow_body body scopes shallow =
    let at = good_all depth_of raw.depth_of stmt_piece body (every_of body) scopes in
    let new = of_all (map depth_of (made_of_all (map stmt_piece body) scopes)) in
    let old = of_all (map raw.depth_of body) in
    and_from (nat_le (1 + new.blocks) 100) (nat_le new.exprs 200)
    (below_limit (1 + new.blocks) (1 + old.blocks) 100 (one_more new.blocks old.blocks at.blocks)
    (and_first (nat_le (1 + old.blocks) 100) (nat_le old.exprs 200) shallow))
    (below_limit new.exprs old.exprs 200 at.exprs (and_second (nat_le (1 + old.blocks) 100) (nat_le old.exprs 200) shallow))

item_shallow : (scopes : Scopes) (one : RawItem) → raw.item_shallow one ≡ true → list_all body_shallow (units_of scopes one) ≡ true
item_shallow scopes (item.Struct def) shallow = refl
item_shallow scopes (item.Constant constant) shallow = refl
item_shallow scopes (item.Unit def) shallow =
    and_from (body_shallow (named_unit scopes def)) true (shallow_body def.body (after (opened scopes) (params_piece def).marks) shallow) refl

pub units_are_shallow : (items : List RawItem) (bytes : ℕ) → list_all raw.item_shallow items ≡ true →
    list_all body_shallow (named_program items bytes).units
    ≡ true
units_are_shallow items bytes = along_holds raw.item_shallow units_of body_shallow item_shallow file_scope items
