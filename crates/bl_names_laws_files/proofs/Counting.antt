-- Parts of a program leave the scopes around them as they are, and each constant that they declare is counted.
use Rattle.std.proofs.Common.{◌≡◌, ℕ, ◌+◌, List, [], ◌∷◌, ◌++◌, cond, map, length, refl, sym, ap, subst, ◌∙◌, append-nil, arith}
use Rattle.std.specs.Prelude.{All, Some}
use Rattle.std.proofs.lemmas.List.Elements.{All-head, All-tail}
use Rattle.std.proofs.lemmas.List.Sums.{sum_by-append, sum_by-cons}
use Rattle.bl_tree.proofs.Basics.{plus_none}
use Rattle.bl_tree.specs.declared.place.Place.{Place}
use Rattle.bl_tree.specs.declared.tree.Role.{Role}
use Rattle.bl_tree.specs.declared.tree.Role.TheVariants as role
use Rattle.bl_tree.specs.declared.tree.UnitKind.{UnitKind}
use Rattle.bl_tree.specs.declared.tree.UnitKind.TheVariants as unit
use Rattle.bl_parse_tree.specs.declared.expr.RawExpr.{RawExpr}
use Rattle.bl_parse_tree.specs.declared.item.RawItem.{RawItem}
use Rattle.bl_parse_tree.specs.declared.item.RawItem.TheVariants as item
use Rattle.bl_parse_tree.specs.declared.item.RawParam.{RawParam}
use Rattle.bl_parse_tree.specs.declared.item.RawStruct.{RawStruct}
use Rattle.bl_parse_tree.specs.declared.item.RawUnit.{RawUnit}
use Rattle.bl_parse_tree.specs.declared.name.Name.{Name}
use Rattle.bl_parse_tree.specs.declared.stmt.RawArm.{RawArm}
use Rattle.bl_parse_tree.specs.declared.stmt.RawBranch.{RawBranch}
use Rattle.bl_parse_tree.specs.declared.stmt.RawConstant.{RawConstant}
use Rattle.bl_parse_tree.specs.declared.stmt.RawStmt.{RawStmt}
use Rattle.bl_parse_tree.specs.declared.stmt.RawStmtKind.{RawStmtKind}
use Rattle.bl_parse_tree.specs.declared.stmt.RawStmtKind.TheOpen.{RawStmtKind-F}
use Rattle.bl_names_tree.specs.declared.item.NamedConstant.{NamedConstant}
use Rattle.bl_names_tree.specs.declared.item.NamedStruct.{NamedStruct}
use Rattle.bl_names_tree.specs.declared.item.NamedUnit.{NamedUnit}
use Rattle.bl_names_scopes.specs.declared.kind.Kind.TheVariants as kind
use Rattle.bl_names_scopes.specs.declared.kind.Wanted.TheVariants as wanted
use Rattle.bl_names_scopes.specs.declared.scopes.Counts.{Counts}
use Rattle.bl_names_scopes.specs.Marks.{Mark, Marks, argument_marks, closes, constant_marks, declares, expr_marks, in_scope, item_marks, kind_of_unit, marks_of, opens, optional, path_marks, struct_marks, target_marks, type_marks, unit_marks, uses}
use Rattle.bl_names_scopes.specs.Scopes.{Declared, Scopes, after, enter, scopes_outside}
use Rattle.bl_names.specs.Named.{Piece, along, block_piece, constants_in_unit, constants_of, constants_of_all, inside_piece, kind_piece, marks_of_all}
use Rattle.bl_names.specs.Named.{named_constant, named_struct, named_unit, none, opened, param_piece, params_piece, piece_of_arm, piece_of_branch, role_piece}
use Rattle.bl_names.specs.Named.{stmt_piece, structs_of, units_of}
use Rattle.bl_names.proofs.ItemLemmas.{struct_scopes, unit_scopes}
use Rattle.bl_names.proofs.PastLemmas.{enter-behind, more, sums}
use Rattle.bl_names.proofs.PieceLemmas.{arm_is, branch_is, parts, stmt_is}
use Rattle.bl_names.proofs.RawStmtInduction.{Cases, induct, stmt}
use Rattle.bl_names.proofs.StillLemmas.{Still, after-append, still_append, still_arguments, still_expr, still_optional, still_target, still_type, still_use}
use Rattle.bl_names.proofs.StillLemmas.{still_value}
use Rattle.bl_names_laws_files.specs.Globals.{declared_constants, declares_constant}
use Rattle.bl_names_laws_files.specs.Laws.{ItemsAreCounted}

-- ---- constants among marks

-- a number for a mark that declares a constant
abbrev pub one_if : Mark → ℕ
one_if mark = cond (declares_constant mark) 1 0

pub declared_first : (mark : Mark) (rest : Marks) → declared_constants (mark ∷ rest) ≡ one_if mark + declared_constants rest
declared_first mark rest = sum_by-cons one_if mark rest

pub declared_both : (first second : Marks) → declared_constants (first ++ second) ≡ declared_constants first + declared_constants second
declared_both first second = sum_by-append one_if first second

counts_outside : (scopes : List Declared) (counts : Counts) → (scopes_outside scopes counts).counts ≡ counts
counts_outside [] counts = refl
counts_outside (scope ∷ outer) counts = refl

entered : (scopes : Scopes) (mark : Mark) → (enter scopes mark).counts.constants ≡ scopes.counts.constants + one_if mark
entered scopes opens = plus_none scopes.counts.constants
entered scopes closes = ap (λ (c : Counts). c.constants) (counts_outside scopes.outer scopes.counts) ∙ plus_none scopes.counts.constants
entered scopes (declares name kind.Struct) = plus_none scopes.counts.constants
entered scopes (declares name kind.Constant) = refl
entered scopes (declares name kind.Variable) = plus_none scopes.counts.constants
entered scopes (declares name kind.Function) = plus_none scopes.counts.constants
entered scopes (declares name kind.Activity) = plus_none scopes.counts.constants
entered scopes (declares name kind.Field) = plus_none scopes.counts.constants
entered scopes (uses name needed) = plus_none scopes.counts.constants

-- behind marks each constant that they declare is counted
pub constants_behind : (marks : Marks) (scopes : Scopes) →
    (after scopes marks).counts.constants ≡ scopes.counts.constants + declared_constants marks
constants_behind [] scopes = plus_none scopes.counts.constants
constants_behind (mark ∷ rest) scopes =
    sums scopes.counts.constants (enter scopes mark).counts.constants (after (enter scopes mark) rest).counts.constants (one_if mark)
    (declared_constants rest) (entered scopes mark) (constants_behind rest (enter scopes mark))
    ∙ ap (λ n. scopes.counts.constants + n) (sym (declared_first mark rest))

same_rest : (a b c n : ℕ) → c ≡ n + a → c ≡ n + b → a ≡ b
same_rest a b c n one two = omega arith

-- ---- parts of a unit

-- from the scopes before a part to those behind it, with the constants that it declares
pub record Moves (scopes new : Scopes) (constants : List NamedConstant) : Type 0 where
  pub outer : new.outer ≡ scopes.outer
  pub structs : new.counts.structs ≡ scopes.counts.structs
  pub units : new.counts.units ≡ scopes.counts.units
  pub more : new.counts.constants ≡ scopes.counts.constants + length constants

-- these marks move so, where these are the constants
abbrev pub Moving : Marks → (Scopes → List NamedConstant) → Type 0
Moving marks constants = (scopes : Scopes) → Moves scopes (after scopes marks) (constants scopes)

moves_then : (scopes middle new : Scopes) (constants others : List NamedConstant) → Moves scopes middle constants → Moves middle new others →
    Moves scopes new (constants ++ others)
moves_then scopes middle new constants others one two = record {
  outer = two.outer ∙ one.outer;
  structs = two.structs ∙ one.structs;
  units = two.units ∙ one.units;
  more = more constants others scopes.counts.constants middle.counts.constants new.counts.constants one.more two.more;
}

moving_still : (marks : Marks) → Still marks → Moving marks none
moving_still marks still scopes =
    subst (λ new. Moves scopes new []) (sym (still scopes))
    (record { outer = refl; structs = refl; units = refl; more = plus_none scopes.counts.constants })

moving_then : (first second : Marks) (constants others : Scopes → List NamedConstant) → Moving first constants → Moving second others →
    Moving (first ++ second) (λ scopes. constants scopes ++ others (after scopes first))
moving_then first second constants others one two scopes =
    subst (λ new. Moves scopes new (constants scopes ++ others (after scopes first))) (sym (after-append scopes first second))
    (moves_then scopes (after scopes first) (after (after scopes first) second) (constants scopes) (others (after scopes first)) (one scopes)
    (two (after scopes first)))

-- behind a scope of its own, what was open before is open again
own_is : (marks : Marks) (constants : Scopes → List NamedConstant) → Moving marks constants → (scopes : Scopes) →
    after scopes (in_scope marks) ≡ record scopes { counts = (after (opened scopes) marks).counts }
own_is marks constants moving scopes =
    after-append (opened scopes) marks (closes ∷ [])
    ∙ ap (λ outer. scopes_outside outer (after (opened scopes) marks).counts) (moving (opened scopes)).outer

moving_own : (marks : Marks) (constants : Scopes → List NamedConstant) → Moving marks constants →
    Moving (in_scope marks) (λ scopes. constants (opened scopes))
moving_own marks constants moving scopes =
    subst (λ new. Moves scopes new (constants (opened scopes))) (sym (own_is marks constants moving scopes))
    (record {
      outer = refl;
      structs = (moving (opened scopes)).structs;
      units = (moving (opened scopes)).units;
      more = (moving (opened scopes)).more;
    })

moving_variable : (marks : Marks) → Still marks → (name : Name) → Moving (marks ++ (declares name kind.Variable ∷ [])) none
moving_variable marks still name scopes =
    subst (λ new. Moves scopes new []) (enter-behind scopes marks name kind.Variable still)
    (record { outer = refl; structs = refl; units = refl; more = plus_none scopes.counts.constants })

moving_constant : (constant : RawConstant) → Moving (constant_marks constant) (λ scopes. named_constant scopes constant ∷ [])
moving_constant constant scopes =
    subst (λ new. Moves scopes new (named_constant scopes constant ∷ []))
    (enter-behind scopes (optional type_marks constant.ty ++ expr_marks constant.value) constant.name kind.Constant
    (still_value constant.ty (Some constant.value)))
    (record { outer = refl; structs = refl; units = refl; more = refl })

-- ---- statements

abbrev PieceMoves : {A : Type 0} → Piece A → Type 0
PieceMoves piece = Moving piece.marks piece.constants

moving_all : {X A : Type 0} (piece : X → Piece A) (xs : List X) → All (λ x. PieceMoves (piece x)) xs →
    Moving (marks_of_all (map piece xs)) (constants_of_all (map piece xs))
moving_all piece [] each = moving_still [] (λ scopes. refl)
moving_all piece (x ∷ xs) each =
    moving_then (piece x).marks (marks_of_all (map piece xs)) (piece x).constants (constants_of_all (map piece xs))
    (All-head (λ x. PieceMoves (piece x)) x xs each) (moving_all piece xs (All-tail (λ x. PieceMoves (piece x)) x xs each))

abbrev StmtMoves : RawStmt → Type 0
StmtMoves s = PieceMoves (stmt_piece s)

abbrev ArmMoves : RawArm → Type 0
ArmMoves arm = PieceMoves (piece_of_arm arm)

abbrev BranchMoves : RawBranch → Type 0
BranchMoves branch = PieceMoves (piece_of_branch branch)

abbrev body_marks : List RawStmt → Marks
body_marks body = marks_of_all (map stmt_piece body)

abbrev body_constants : List RawStmt → Scopes → List NamedConstant
body_constants body = constants_of_all (map stmt_piece body)

own_body : (body : List RawStmt) → All StmtMoves body → Moving (in_scope (body_marks body)) (λ scopes. body_constants body (opened scopes))
own_body body each = moving_own (body_marks body) (body_constants body) (moving_all stmt_piece body each)

-- a body behind a condition
tested_body : (e : RawExpr) (body : List RawStmt) → All StmtMoves body →
    Moving (expr_marks e ++ in_scope (body_marks body)) (λ scopes. body_constants body (opened (after scopes (expr_marks e))))
tested_body e body each =
    moving_then (expr_marks e) (in_scope (body_marks body)) none (λ scopes. body_constants body (opened scopes))
    (moving_still (expr_marks e) (still_expr e)) (own_body body each)

-- a body before one
until_body : (e : RawExpr) (body : List RawStmt) → All StmtMoves body →
    Moving (in_scope (body_marks body) ++ expr_marks e) (λ scopes. body_constants body (opened scopes))
until_body e body each scopes =
    subst (Moves scopes (after scopes (in_scope (body_marks body) ++ expr_marks e))) (append-nil (body_constants body (opened scopes)))
    (moving_then (in_scope (body_marks body)) (expr_marks e) (λ scopes. body_constants body (opened scopes)) none (own_body body each)
    (moving_still (expr_marks e) (still_expr e)) scopes)

-- the kind of a statement with its parts
abbrev RawLayer : Type 0
RawLayer = RawStmtKind-F RawStmtKind RawArm RawBranch RawStmt

stmt_moving : (place : Place) (layer : RawLayer) → PieceMoves (kind_piece (parts layer)) → StmtMoves (stmt place layer)
stmt_moving place layer moving = subst PieceMoves (sym (stmt_is place layer)) moving

cases : Cases StmtMoves ArmMoves BranchMoves
cases = record {
  var = λ place name ty value.
      stmt_moving place (RawStmtKind-F.Var name ty value)
      (moving_variable (optional type_marks ty ++ optional expr_marks value) (still_value ty value) name);
  fixed = λ place name ty value.
      stmt_moving place (RawStmtKind-F.Let name ty value)
      (moving_variable (optional type_marks ty ++ expr_marks value) (still_value ty (Some value)) name);
  constant = λ place constant. stmt_moving place (RawStmtKind-F.Const constant) (moving_constant constant);
  assign = λ place target e.
      stmt_moving place (RawStmtKind-F.Assign target e)
      (moving_still (target_marks target wanted.Variable ++ expr_marks e)
      (still_append (target_marks target wanted.Variable) (expr_marks e) (still_target target wanted.Variable) (still_expr e)));
  call = λ place f inputs outputs.
      stmt_moving place (RawStmtKind-F.Call f inputs outputs)
      (moving_still (uses f wanted.Function ∷ argument_marks inputs outputs)
      (still_append (uses f wanted.Function ∷ []) (argument_marks inputs outputs) (still_use f wanted.Function) (still_arguments inputs outputs)));
  await = λ place e. stmt_moving place (RawStmtKind-F.Await e) (moving_still (expr_marks e) (still_expr e));
  run = λ place target a inputs outputs.
      stmt_moving place (RawStmtKind-F.Run target a inputs outputs)
      (moving_still (optional path_marks target ++ (uses a wanted.Activity ∷ argument_marks inputs outputs))
      (still_append (optional path_marks target) (uses a wanted.Activity ∷ argument_marks inputs outputs)
      (still_optional path_marks target (λ path. still_use path.root wanted.Variable))
      (still_append (uses a wanted.Activity ∷ []) (argument_marks inputs outputs) (still_use a wanted.Activity) (still_arguments inputs outputs))));
  branching = λ place arms other in_arms in_other.
      stmt_moving place (RawStmtKind-F.If arms other)
      (moving_then (marks_of_all (map piece_of_arm arms)) (in_scope (body_marks other)) (constants_of_all (map piece_of_arm arms))
      (λ scopes. body_constants other (opened scopes)) (moving_all piece_of_arm arms in_arms) (own_body other in_other));
  cobegin = λ place branches in_branches.
      stmt_moving place (RawStmtKind-F.Cobegin branches) (moving_all piece_of_branch branches in_branches);
  guarded = λ place guard e body each. stmt_moving place (RawStmtKind-F.When guard e body) (tested_body e body each);
  repeat = λ place body each. stmt_moving place (RawStmtKind-F.Repeat body) (own_body body each);
  until = λ place body e each. stmt_moving place (RawStmtKind-F.Until body e) (until_body e body each);
  while = λ place e body each. stmt_moving place (RawStmtKind-F.While e body) (tested_body e body each);
  returns = λ place e.
      stmt_moving place (RawStmtKind-F.Return e) (moving_still (optional expr_marks e) (still_optional expr_marks e still_expr));
  arm = λ test body each. subst PieceMoves (sym (arm_is test body)) (tested_body test body each);
  branch = λ weak body each. subst PieceMoves (sym (branch_is weak body)) (own_body body each);
}

stmt_moves : (s : RawStmt) → StmtMoves s
stmt_moves = induct StmtMoves ArmMoves BranchMoves cases

body_moves : (body : List RawStmt) → PieceMoves (block_piece body)
body_moves body = moving_all stmt_piece body (λ k d within. stmt_moves _)

-- ---- units

param_moves : (of : Role) (param : RawParam) → PieceMoves (param_piece of param)
param_moves of param = moving_variable (type_marks param.ty) (still_type param.ty) param.name

role_moves : (of : Role) (params : List RawParam) → PieceMoves (role_piece of params)
role_moves of params = moving_all (param_piece of) params (λ k d within. param_moves of _)

pub inside_moves : (def : RawUnit) → PieceMoves (inside_piece def)
inside_moves def =
    moving_then (params_piece def).marks (block_piece def.body).marks (params_piece def).constants (block_piece def.body).constants
    (moving_then (role_piece role.Input def.inputs).marks (role_piece role.Output def.outputs).marks
    (role_piece role.Input def.inputs).constants (role_piece role.Output def.outputs).constants (role_moves role.Input def.inputs)
    (role_moves role.Output def.outputs)) (body_moves def.body)

-- what is open behind what stands in a unit
abbrev pub behind_inside : Scopes → RawUnit → Scopes
behind_inside scopes def = after (opened scopes) (inside_piece def).marks

-- behind a unit its name is declared, and what stands in it is counted
pub unit_behind : (scopes : Scopes) (def : RawUnit) →
    after scopes (unit_marks def)
    ≡ enter (record scopes { counts = (behind_inside scopes def).counts }) (declares def.name (kind_of_unit def.kind))
unit_behind scopes def =
    sym (unit_scopes scopes (behind_inside scopes def) def refl)
    ∙ ap (λ outer. enter (scopes_outside outer (behind_inside scopes def).counts) (declares def.name (kind_of_unit def.kind)))
    (inside_moves def (opened scopes)).outer

-- behind a constant its name is declared
pub constant_behind : (scopes : Scopes) (constant : RawConstant) →
    after scopes (constant_marks constant) ≡ enter scopes (declares constant.name kind.Constant)
constant_behind scopes constant =
    sym (enter-behind scopes (optional type_marks constant.ty ++ expr_marks constant.value) constant.name kind.Constant
    (still_value constant.ty (Some constant.value)))

-- behind a struct its name is declared
pub struct_behind : (scopes : Scopes) (def : RawStruct) → after scopes (struct_marks def) ≡ enter scopes (declares def.name kind.Struct)
struct_behind scopes def = sym (struct_scopes scopes def)

-- ---- items

-- from the scopes before items to those behind them, with what they give
pub record Gives (scopes new : Scopes) (structs : List NamedStruct) (constants : List NamedConstant) (units : List NamedUnit) : Type 0 where
  pub outer : new.outer ≡ scopes.outer
  pub more_structs : new.counts.structs ≡ scopes.counts.structs + length structs
  pub more_constants : new.counts.constants ≡ scopes.counts.constants + length constants
  pub more_units : new.counts.units ≡ scopes.counts.units + length units
  pub variables : scopes.counts.variables ≡ 0 → new.counts.variables ≡ 0

gives_unit : (scopes : Scopes) (counts : Counts) (name : Name) (of : UnitKind) (constants : List NamedConstant) (named : NamedUnit) →
    counts.structs ≡ scopes.counts.structs → counts.units ≡ scopes.counts.units →
    counts.constants ≡ scopes.counts.constants + length constants →
    Gives scopes (enter (record scopes { counts = counts }) (declares name (kind_of_unit of))) [] constants (named ∷ [])
gives_unit scopes counts name unit.Function constants named structs units constants_are = record {
  outer = refl;
  more_structs = structs ∙ plus_none scopes.counts.structs;
  more_constants = constants_are;
  more_units = ap (λ n. n + 1) units;
  variables = λ none. refl;
}
gives_unit scopes counts name unit.Activity constants named structs units constants_are = record {
  outer = refl;
  more_structs = structs ∙ plus_none scopes.counts.structs;
  more_constants = constants_are;
  more_units = ap (λ n. n + 1) units;
  variables = λ none. refl;
}

pub item_gives : (scopes : Scopes) (one : RawItem) →
    Gives scopes (after scopes (item_marks one)) (structs_of scopes one) (constants_of scopes one) (units_of scopes one)
item_gives scopes (item.Struct def) =
    subst (λ new. Gives scopes new (named_struct scopes def ∷ []) [] []) (struct_scopes scopes def)
    (record {
      outer = refl;
      more_structs = refl;
      more_constants = plus_none scopes.counts.constants;
      more_units = plus_none scopes.counts.units;
      variables = λ none. none;
    })
item_gives scopes (item.Constant constant) =
    subst (λ new. Gives scopes new [] (named_constant scopes constant ∷ []) []) (sym (constant_behind scopes constant))
    (record {
      outer = refl;
      more_structs = plus_none scopes.counts.structs;
      more_constants = refl;
      more_units = plus_none scopes.counts.units;
      variables = λ none. none;
    })
item_gives scopes (item.Unit def) =
    let moves = inside_moves def (opened scopes) in
    subst (λ new. Gives scopes new [] (constants_in_unit scopes def) (named_unit scopes def ∷ [])) (sym (unit_behind scopes def))
    (gives_unit scopes (behind_inside scopes def).counts def.name def.kind (constants_in_unit scopes def) (named_unit scopes def) moves.structs
    moves.units moves.more)

pub items_give : (items : List RawItem) (scopes : Scopes) →
    Gives scopes (after scopes (marks_of items)) (along structs_of scopes items) (along constants_of scopes items) (along units_of scopes items)
items_give [] scopes = record {
  outer = refl;
  more_structs = plus_none scopes.counts.structs;
  more_constants = plus_none scopes.counts.constants;
  more_units = plus_none scopes.counts.units;
  variables = λ none. none;
}
items_give (one ∷ items) scopes =
    let new = after scopes (item_marks one) in
    let last = after new (marks_of items) in
    let first = item_gives scopes one in
    let rest = items_give items new in
    subst (λ end. Gives scopes end (along structs_of scopes (one ∷ items)) (along constants_of scopes (one ∷ items))
    (along units_of scopes (one ∷ items))) (sym (after-append scopes (item_marks one) (marks_of items)))
    (record {
      outer = rest.outer ∙ first.outer;
      more_structs =
          more (structs_of scopes one) (along structs_of new items) scopes.counts.structs new.counts.structs last.counts.structs
          first.more_structs rest.more_structs;
      more_constants =
          more (constants_of scopes one) (along constants_of new items) scopes.counts.constants new.counts.constants last.counts.constants
          first.more_constants rest.more_constants;
      more_units =
          more (units_of scopes one) (along units_of new items) scopes.counts.units new.counts.units last.counts.units first.more_units
          rest.more_units;
      variables = λ none. rest.variables (first.variables none);
    })

pub items_are_counted : ItemsAreCounted
items_are_counted scopes items =
    let gives = items_give items scopes in
    record {
      structs = gives.more_structs;
      constants = gives.more_constants;
      units = gives.more_units;
      variables = gives.variables;
      declared =
          same_rest (length (along constants_of scopes items)) (declared_constants (marks_of items)) (after scopes (marks_of items)).counts.constants
          scopes.counts.constants gives.more_constants (constants_behind (marks_of items) scopes);
      outer = gives.outer;
    }
