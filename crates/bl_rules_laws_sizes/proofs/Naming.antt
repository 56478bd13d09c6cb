-- Positions in place of names leave as many parts as there were, and no more variables are declared.
use Rattle.std.proofs.Common.{◌≡◌, ℕ, zero, suc, ◌+◌, ◌≤◌, List, [], ◌∷◌, ◌++◌, map, length, refl, sym, ap, subst, ◌∙◌, arith}
use Rattle.std.specs.Prelude.{All, Some, option_map}
use Rattle.std.proofs.lemmas.List.{length-append}
use Rattle.std.proofs.lemmas.List.Elements.{All-head, All-tail}
use Rattle.std.proofs.lemmas.Option.{same_Some}
use Rattle.bl_tree.specs.declared.place.Place.{Place}
use Rattle.bl_tree.specs.declared.tree.Role.{Role}
use Rattle.bl_tree.specs.declared.tree.Role.TheVariants as role
use Rattle.bl_tree.specs.Reduce.{total}
use Rattle.bl_names_tree.specs.declared.stmt.NamedStmtKind.{out-NamedStmtKind}
use Rattle.bl_names_tree.specs.declared.stmt.NamedStmtKind.TheOpen.{NamedStmtKind-F}
use Rattle.bl_names_tree.specs.declared.stmt.NamedStmtKind.TheVariants as what
use Rattle.bl_parse_tree.specs.declared.expr.RawExpr.{RawExpr}
use Rattle.bl_parse_tree.specs.declared.item.RawItem.{RawItem}
use Rattle.bl_parse_tree.specs.declared.item.RawItem.TheVariants as item
use Rattle.bl_parse_tree.specs.declared.item.RawParam.{RawParam}
use Rattle.bl_parse_tree.specs.declared.item.RawUnit.{RawUnit}
use Rattle.bl_parse_tree.specs.declared.stmt.RawArm.{RawArm, fold-RawArm, fold-roll-RawArm, roll-RawArm}
use Rattle.bl_parse_tree.specs.declared.stmt.RawBranch.{RawBranch, fold-RawBranch, fold-roll-RawBranch, roll-RawBranch}
use Rattle.bl_parse_tree.specs.declared.stmt.RawStmt.{RawStmt, fold-roll-RawStmt}
use Rattle.bl_parse_tree.specs.declared.stmt.RawStmtKind.{RawStmtKind, fold-RawStmtKind, fold-roll-RawStmtKind, map-RawStmtKind}
use Rattle.bl_parse_tree.specs.declared.stmt.RawStmtKind.TheOpen.{RawStmtKind-F}
use Rattle.bl_names_scopes.specs.Marks.{expr_marks, item_marks}
use Rattle.bl_names_scopes.specs.Scopes.{Scopes, after, file_scope}
use Rattle.bl_names.specs.Named.{Piece, along, kind_piece, made_of_all, marks_of_all, named_program, named_unit, opened, param_piece, params_piece}
use Rattle.bl_names.specs.Named.{piece_of_arm, piece_of_branch, role_piece, stmt_piece, units_of, vars_of_all}
use Rattle.bl_names.specs.Naming.{named_expr, named_path, named_target, position}
use Rattle.bl_names.proofs.PieceLemmas.{arm_is, branch_is, parts, stmt_is}
use Rattle.bl_names.proofs.RawStmtInduction.{Cases, induct, stmt}
use Rattle.bl_rules_laws_sizes.specs.Parts.{arm_parts, branch_parts, kind_parts, parts_of_stmt, parts_of_items, parts_of_unit, stmt_layer_parts}
use Rattle.bl_rules_laws_sizes.proofs.NamedParts.{AllNamedWithin, NamedWithin, named_arm_at, named_below, named_branch_at, named_by}
use Rattle.bl_rules_laws_sizes.proofs.NamedParts.{named_kind_parts, named_parts, parts_of_named_arm, parts_of_named_branch}
use Rattle.bl_types_laws.proofs.StmtLayers.{Layer}

-- ---- raw parts

abbrev RawLayer : Type 0
RawLayer = RawStmtKind-F RawStmtKind RawArm RawBranch RawStmt

abbrev pub parts_of_raw_kind : RawStmtKind → ℕ
parts_of_raw_kind = fold-RawStmtKind ℕ ℕ ℕ ℕ kind_parts arm_parts branch_parts stmt_layer_parts

abbrev pub parts_of_raw_arm : RawArm → ℕ
parts_of_raw_arm = fold-RawArm ℕ ℕ ℕ ℕ kind_parts arm_parts branch_parts stmt_layer_parts

abbrev pub parts_of_raw_branch : RawBranch → ℕ
parts_of_raw_branch = fold-RawBranch ℕ ℕ ℕ ℕ kind_parts arm_parts branch_parts stmt_layer_parts

abbrev raw_below : RawLayer → RawStmtKind-F ℕ ℕ ℕ ℕ
raw_below = map-RawStmtKind RawStmtKind RawArm RawBranch RawStmt ℕ ℕ ℕ ℕ parts_of_raw_kind parts_of_raw_arm parts_of_raw_branch parts_of_stmt

raw_at : (place : Place) (layer : RawLayer) → parts_of_stmt (stmt place layer) ≡ kind_parts (raw_below layer)
raw_at place layer = rw (fold-roll-RawStmt, fold-roll-RawStmtKind) refl

raw_arm_at : (test : RawExpr) (body : List RawStmt) → parts_of_raw_arm (roll-RawArm (record { test = test; body = body })) ≡ 1 + total (map parts_of_stmt body)
raw_arm_at test body = rw fold-roll-RawArm refl

raw_branch_at : (weak : _) (body : List RawStmt) →
    parts_of_raw_branch (roll-RawBranch (record { weak = weak; body = body })) ≡ 1 + total (map parts_of_stmt body)
raw_branch_at weak body = rw fold-roll-RawBranch refl

-- ---- what is made of a part

by_values : (a b c d : ℕ) → a ≡ c → b ≡ d → c ≤ d → a ≤ b
by_values a b c d one other most = omega (arith, one, other, most)

-- what is made of a part has as many parts, and declares at most as many variables
record Sized {A : Type 0} (size : A → ℕ) (before : ℕ) (piece : Piece A) : Type 0 where
  made : (scopes : Scopes) → size (piece.made scopes) ≡ before
  vars : (scopes : Scopes) → length (piece.vars scopes) ≤ before

abbrev StmtSized : RawStmt → Type 0
StmtSized s = Sized named_parts (parts_of_stmt s) (stmt_piece s)

abbrev ArmSized : RawArm → Type 0
ArmSized arm = Sized parts_of_named_arm (parts_of_raw_arm arm) (piece_of_arm arm)

abbrev BranchSized : RawBranch → Type 0
BranchSized branch = Sized parts_of_named_branch (parts_of_raw_branch branch) (piece_of_branch branch)

module _ {X A : Type 0} (size : A → ℕ) (before : X → ℕ) (piece : X → Piece A) where
  abbrev One : X → Type 0
  One x = Sized size (before x) (piece x)

  made_all : (xs : List X) → All One xs → (scopes : Scopes) → total (map size (made_of_all (map piece xs) scopes)) ≡ total (map before xs)
  made_all [] each scopes = refl
  made_all (x ∷ xs) each scopes = λ i.
      (All-head One x xs each).made scopes i + made_all xs (All-tail One x xs each) (after scopes (piece x).marks) i

  vars_all : (xs : List X) → All One xs → (scopes : Scopes) → length (vars_of_all (map piece xs) scopes) ≤ total (map before xs)
  vars_all [] each scopes = omega arith
  vars_all (x ∷ xs) each scopes =
      let rest : Scopes = after scopes (piece x).marks in
      let both = length-append ((piece x).vars scopes) (vars_of_all (map piece xs) rest) in
      let first = (All-head One x xs each).vars scopes in
      let others = vars_all xs (All-tail One x xs each) rest in
      omega (arith, both, first, others)

made_body : (body : List RawStmt) → All StmtSized body → (scopes : Scopes) →
    total (map named_parts (made_of_all (map stmt_piece body) scopes)) ≡ total (map parts_of_stmt body)
made_body = made_all named_parts parts_of_stmt stmt_piece

vars_body : (body : List RawStmt) → All StmtSized body → (scopes : Scopes) →
    length (vars_of_all (map stmt_piece body) scopes) ≤ total (map parts_of_stmt body)
vars_body = vars_all named_parts parts_of_stmt stmt_piece

-- a body's variables, of a statement that has one part more
vars_more : (body : List RawStmt) → All StmtSized body → (scopes : Scopes) →
    length (vars_of_all (map stmt_piece body) scopes) ≤ 1 + total (map parts_of_stmt body)
vars_more body each scopes = let inner = vars_body body each scopes in omega (arith, inner)

-- a statement whose kind becomes this
stmt_sized : (place : Place) (layer : RawLayer) (made : Scopes → Layer) →
    ((scopes : Scopes) → out-NamedStmtKind ((kind_piece (parts layer)).made scopes) ≡ made scopes) →
    ((scopes : Scopes) → named_kind_parts (named_below (made scopes)) ≡ kind_parts (raw_below layer)) →
    ((scopes : Scopes) → length ((kind_piece (parts layer)).vars scopes) ≤ kind_parts (raw_below layer)) → StmtSized (stmt place layer)
stmt_sized place layer made is gives few = record {
  made = λ scopes.
      ap (λ piece. named_parts (piece.made scopes)) (stmt_is place layer)
      ∙ named_by place ((kind_piece (parts layer)).made scopes) (made scopes) (is scopes) ∙ gives scopes ∙ sym (raw_at place layer);
  vars = λ scopes. by_values _ _ _ _ (ap (λ piece. length (piece.vars scopes)) (stmt_is place layer)) (raw_at place layer) (few scopes);
}

pub none_in_one : 0 ≤ 1
none_in_one = omega arith

one_in_one : 1 ≤ 1
one_in_one = omega arith

abbrev behind : RawExpr → Scopes → Scopes
behind e scopes = opened (after scopes (expr_marks e))

abbrev behind_arms : List RawArm → Scopes → Scopes
behind_arms arms scopes = opened (after scopes (marks_of_all (map piece_of_arm arms)))

branching_vars : (arms : List RawArm) (other : List RawStmt) → All ArmSized arms → All StmtSized other → (scopes : Scopes) →
    length (vars_of_all (map piece_of_arm arms) scopes ++ vars_of_all (map stmt_piece other) (behind_arms arms scopes))
    ≤ 1 + (total (map parts_of_raw_arm arms) + total (map parts_of_stmt other))
branching_vars arms other in_arms in_other scopes =
    let both = length-append (vars_of_all (map piece_of_arm arms) scopes) (vars_of_all (map stmt_piece other) (behind_arms arms scopes)) in
    let first = vars_all parts_of_named_arm parts_of_raw_arm piece_of_arm arms in_arms scopes in
    let last = vars_body other in_other (behind_arms arms scopes) in
    omega (arith, both, first, last)

cobegin_vars : (branches : List RawBranch) → All BranchSized branches → (scopes : Scopes) →
    length (vars_of_all (map piece_of_branch branches) scopes) ≤ 1 + total (map parts_of_raw_branch branches)
cobegin_vars branches each scopes =
    let inner = vars_all parts_of_named_branch parts_of_raw_branch piece_of_branch branches each scopes in omega (arith, inner)

cases : Cases StmtSized ArmSized BranchSized
cases = record {
  var = λ place name ty value. stmt_sized place (RawStmtKind-F.Var name ty value)
      (λ scopes. NamedStmtKind-F.Declare scopes.counts.variables (option_map (named_expr scopes) value))
      (λ scopes. what.outs-Declare scopes.counts.variables (option_map (named_expr scopes) value)) (λ scopes. refl) (λ scopes. one_in_one);
  fixed = λ place name ty value. stmt_sized place (RawStmtKind-F.Let name ty value)
      (λ scopes. NamedStmtKind-F.Declare scopes.counts.variables (Some (named_expr scopes value)))
      (λ scopes. what.outs-Declare scopes.counts.variables (Some (named_expr scopes value))) (λ scopes. refl) (λ scopes. one_in_one);
  constant = λ place constant. stmt_sized place (RawStmtKind-F.Const constant)
      (λ scopes. NamedStmtKind-F.Const scopes.counts.constants) (λ scopes. what.outs-Const scopes.counts.constants) (λ scopes. refl) (λ scopes. none_in_one);
  assign = λ place target e. stmt_sized place (RawStmtKind-F.Assign target e)
      (λ scopes. NamedStmtKind-F.Assign (named_target scopes target) (named_expr scopes e))
      (λ scopes. what.outs-Assign (named_target scopes target) (named_expr scopes e)) (λ scopes. refl) (λ scopes. none_in_one);
  call = λ place f inputs outputs. stmt_sized place (RawStmtKind-F.Call f inputs outputs)
      (λ scopes. NamedStmtKind-F.Call f.place (position scopes f) (map (named_expr scopes) inputs) (map (named_path scopes) outputs))
      (λ scopes. what.outs-Call f.place (position scopes f) (map (named_expr scopes) inputs) (map (named_path scopes) outputs))
      (λ scopes. refl) (λ scopes. none_in_one);
  await = λ place e. stmt_sized place (RawStmtKind-F.Await e)
      (λ scopes. NamedStmtKind-F.Await (named_expr scopes e)) (λ scopes. what.outs-Await (named_expr scopes e)) (λ scopes. refl) (λ scopes. none_in_one);
  run = λ place target a inputs outputs. stmt_sized place (RawStmtKind-F.Run target a inputs outputs)
      (λ scopes. NamedStmtKind-F.Run (option_map (named_path scopes) target) a.place (position scopes a) (map (named_expr scopes) inputs)
      (map (named_path scopes) outputs))
      (λ scopes. what.outs-Run (option_map (named_path scopes) target) a.place (position scopes a) (map (named_expr scopes) inputs)
      (map (named_path scopes) outputs))
      (λ scopes. refl) (λ scopes. none_in_one);
  branching = λ place arms other in_arms in_other. stmt_sized place (RawStmtKind-F.If arms other)
      (λ scopes. NamedStmtKind-F.If (made_of_all (map piece_of_arm arms) scopes) (made_of_all (map stmt_piece other) (behind_arms arms scopes)))
      (λ scopes. what.outs-If (made_of_all (map piece_of_arm arms) scopes) (made_of_all (map stmt_piece other) (behind_arms arms scopes)))
      (λ scopes i. 1 + (made_all parts_of_named_arm parts_of_raw_arm piece_of_arm arms in_arms scopes i + made_body other in_other (behind_arms arms scopes) i))
      (branching_vars arms other in_arms in_other);
  cobegin = λ place branches in_branches. stmt_sized place (RawStmtKind-F.Cobegin branches)
      (λ scopes. NamedStmtKind-F.Cobegin (made_of_all (map piece_of_branch branches) scopes))
      (λ scopes. what.outs-Cobegin (made_of_all (map piece_of_branch branches) scopes))
      (λ scopes i. 1 + made_all parts_of_named_branch parts_of_raw_branch piece_of_branch branches in_branches scopes i)
      (cobegin_vars branches in_branches);
  guarded = λ place guard e body each. stmt_sized place (RawStmtKind-F.When guard e body)
      (λ scopes. NamedStmtKind-F.When guard (named_expr scopes e) (made_of_all (map stmt_piece body) (behind e scopes)))
      (λ scopes. what.outs-When guard (named_expr scopes e) (made_of_all (map stmt_piece body) (behind e scopes)))
      (λ scopes i. 1 + made_body body each (behind e scopes) i) (λ scopes. vars_more body each (behind e scopes));
  repeat = λ place body each. stmt_sized place (RawStmtKind-F.Repeat body)
      (λ scopes. NamedStmtKind-F.Repeat (made_of_all (map stmt_piece body) (opened scopes)))
      (λ scopes. what.outs-Repeat (made_of_all (map stmt_piece body) (opened scopes)))
      (λ scopes i. 1 + made_body body each (opened scopes) i) (λ scopes. vars_more body each (opened scopes));
  until = λ place body e each. stmt_sized place (RawStmtKind-F.Until body e)
      (λ scopes. NamedStmtKind-F.Until (made_of_all (map stmt_piece body) (opened scopes)) (named_expr scopes e))
      (λ scopes. what.outs-Until (made_of_all (map stmt_piece body) (opened scopes)) (named_expr scopes e))
      (λ scopes i. 1 + made_body body each (opened scopes) i) (λ scopes. vars_more body each (opened scopes));
  while = λ place e body each. stmt_sized place (RawStmtKind-F.While e body)
      (λ scopes. NamedStmtKind-F.While (named_expr scopes e) (made_of_all (map stmt_piece body) (behind e scopes)))
      (λ scopes. what.outs-While (named_expr scopes e) (made_of_all (map stmt_piece body) (behind e scopes)))
      (λ scopes i. 1 + made_body body each (behind e scopes) i) (λ scopes. vars_more body each (behind e scopes));
  returns = λ place e. stmt_sized place (RawStmtKind-F.Return e)
      (λ scopes. NamedStmtKind-F.Return (option_map (named_expr scopes) e)) (λ scopes. what.outs-Return (option_map (named_expr scopes) e))
      (λ scopes. refl) (λ scopes. none_in_one);
  arm = λ test body each. record {
    made = λ scopes.
        ap (λ piece. parts_of_named_arm (piece.made scopes)) (arm_is test body)
        ∙ named_arm_at (named_expr scopes test) (made_of_all (map stmt_piece body) (behind test scopes))
        ∙ (λ i. 1 + made_body body each (behind test scopes) i) ∙ sym (raw_arm_at test body);
    vars = λ scopes. by_values _ _ _ _ (ap (λ piece. length (piece.vars scopes)) (arm_is test body)) (raw_arm_at test body)
        (vars_more body each (behind test scopes));
  };
  branch = λ weak body each. record {
    made = λ scopes.
        ap (λ piece. parts_of_named_branch (piece.made scopes)) (branch_is weak body)
        ∙ named_branch_at weak (made_of_all (map stmt_piece body) (opened scopes))
        ∙ (λ i. 1 + made_body body each (opened scopes) i) ∙ sym (raw_branch_at weak body);
    vars = λ scopes. by_values _ _ _ _ (ap (λ piece. length (piece.vars scopes)) (branch_is weak body)) (raw_branch_at weak body)
        (vars_more body each (opened scopes));
  };
}

every_of : (body : List RawStmt) → All StmtSized body
every_of body = λ k d within. induct StmtSized ArmSized BranchSized cases _

-- ---- units

params_vars : (role : Role) (params : List RawParam) (scopes : Scopes) → length (vars_of_all (map (param_piece role) params) scopes) ≡ length params
params_vars role [] scopes = refl
params_vars role (param ∷ params) scopes = ap suc (params_vars role params (after scopes (param_piece role param).marks))

unit_within : (n : ℕ) (def : RawUnit) (scopes : Scopes) → parts_of_unit def ≤ n → NamedWithin n (named_unit scopes def)
unit_within n def scopes few =
    let inner : Scopes = opened scopes in
    let outputs : Scopes = after inner (role_piece role.Input def.inputs).marks in
    let body : Scopes = after inner (params_piece def).marks in
    let whole = length-append ((params_piece def).vars inner) (vars_of_all (map stmt_piece def.body) body) in
    let params = length-append (vars_of_all (map (param_piece role.Input) def.inputs) inner)
    (vars_of_all (map (param_piece role.Output) def.outputs) outputs) in
    let first = params_vars role.Input def.inputs inner in
    let second = params_vars role.Output def.outputs outputs in
    let declared = vars_body def.body (every_of def.body) body in
    let made = made_body def.body (every_of def.body) body in
    record { vars = omega (arith, few, whole, params, first, second, declared); body = omega (arith, few, made) }

first_few : (a b n : ℕ) → a + b ≤ n → a ≤ n
first_few a b n few = omega (arith, few)

rest_few : (a b n : ℕ) → a + b ≤ n → b ≤ n
rest_few a b n few = omega (arith, few)

units_within : (n : ℕ) (items : List RawItem) (scopes : Scopes) → parts_of_items items ≤ n → AllNamedWithin n (along units_of scopes items)
units_within n [] scopes few k unit there = absurd (cc)
units_within n (item.Struct def ∷ items) scopes few k unit there =
    units_within n items (after scopes (item_marks (item.Struct def))) (rest_few 0 (parts_of_items items) n few) k unit there
units_within n (item.Constant def ∷ items) scopes few k unit there =
    units_within n items (after scopes (item_marks (item.Constant def))) (rest_few 0 (parts_of_items items) n few) k unit there
units_within n (item.Unit def ∷ items) scopes few zero unit there =
    subst (NamedWithin n) (same_Some (named_unit scopes def) unit there)
    (unit_within n def scopes (first_few (parts_of_unit def) (parts_of_items items) n few))
units_within n (item.Unit def ∷ items) scopes few (suc k) unit there =
    units_within n items (after scopes (item_marks (item.Unit def))) (rest_few (parts_of_unit def) (parts_of_items items) n few) k unit there

pub named_within : (n : ℕ) (items : List RawItem) (bytes : ℕ) → parts_of_items items ≤ n → AllNamedWithin n (named_program items bytes).units
named_within n items bytes few = units_within n items file_scope few
