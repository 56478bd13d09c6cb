-- The positions in statements are in place, where every use fits.
use Rattle.std.proofs.Common.{◌≡◌, ℕ, ◌+◌, Bool, true, ◌&&◌, ◌||◌, List, [], ◌∷◌, ◌++◌, map, length, Option, Some, None, refl, sym, ap, subst, ◌∙◌}
use Rattle.std.proofs.Common.{append_assoc}
use Rattle.std.specs.Prelude.{All, option_and_then, option_map, slice_get, if◌then◌else◌}
use Rattle.std.specs.List.{list_all}
use Rattle.std.proofs.lemmas.Bool.{eq-eqb}
use Rattle.std.proofs.lemmas.List.{length-append}
use Rattle.std.proofs.lemmas.List.Elements.{All-head, All-tail}
use Rattle.std.proofs.lemmas.List.Folds.{list_all-append}
use Rattle.std.proofs.lemmas.Bool.{and_from}
use Rattle.bl_tree.proofs.Basics.{plus_none}
use Rattle.bl_tree.specs.declared.place.Place.{Place}
use Rattle.bl_tree.specs.declared.tree.Role.{Role}
use Rattle.bl_tree.specs.declared.tree.Role.TheVariants as role
use Rattle.bl_tree.specs.Reduce.{joined}
use Rattle.bl_tree.specs.Typing.{is_fixed, is_variable}
use Rattle.bl_names_tree.specs.declared.expr.NamedExpr.{NamedExpr}
use Rattle.bl_names_tree.specs.declared.item.NamedConstant.{NamedConstant}
use Rattle.bl_names_tree.specs.declared.item.NamedVar.{NamedVar}
use Rattle.bl_names_tree.specs.declared.stmt.NamedArm.{NamedArm, fold-roll-NamedArm, roll-NamedArm}
use Rattle.bl_names_tree.specs.declared.stmt.NamedBranch.{NamedBranch, fold-roll-NamedBranch, roll-NamedBranch}
use Rattle.bl_names_tree.specs.declared.stmt.NamedStmt.{NamedStmt, fold-roll-NamedStmt, roll-NamedStmt}
use Rattle.bl_names_tree.specs.declared.stmt.NamedStmtKind.{NamedStmtKind, fold-NamedStmtKind, fold_out-NamedStmtKind, map-NamedStmtKind, out-NamedStmtKind}
use Rattle.bl_names_tree.specs.declared.stmt.NamedStmtKind.TheOpen.{NamedStmtKind-F}
use Rattle.bl_names_tree.specs.declared.stmt.NamedStmtKind.TheVariants as what
use Rattle.bl_names_tree.specs.Placed.{DeclaredBefore, PlacedStep, arm_step, branch_step, constant_placed, declares_none, expr_placed, holds_of, in_turn, path_placed}
use Rattle.bl_names_tree.specs.Placed.{stmt_kind_step, stmt_layer_step, stmt_step, tested, type_placed, var_placed, with_constant, with_variable}
use Rattle.bl_names_tree.specs.inner.Placed.{step_of_arm, step_of_branch}
use Rattle.bl_names_scopes.specs.declared.kind.Kind.TheVariants as kind
use Rattle.bl_names_scopes.specs.declared.kind.Wanted.TheVariants as wanted
use Rattle.bl_names_scopes.specs.Marks.{Marks, argument_marks, closes, declares, expr_marks, in_scope, optional, path_marks, target_marks, type_marks, uses}
use Rattle.bl_names_scopes.specs.Scopes.{Scopes, after, enter, scopes_outside}
use Rattle.bl_parse_tree.specs.declared.expr.RawExpr.{RawExpr}
use Rattle.bl_parse_tree.specs.declared.name.Name.{Name}
use Rattle.bl_parse_tree.specs.declared.stmt.RawArm.{RawArm, roll-RawArm}
use Rattle.bl_parse_tree.specs.declared.stmt.RawBranch.{RawBranch, roll-RawBranch}
use Rattle.bl_parse_tree.specs.declared.stmt.RawConstant.{RawConstant}
use Rattle.bl_parse_tree.specs.declared.stmt.RawPath.{RawPath}
use Rattle.bl_parse_tree.specs.declared.stmt.RawStmt.{RawStmt}
use Rattle.bl_parse_tree.specs.declared.stmt.RawStmtKind.{RawStmtKind}
use Rattle.bl_parse_tree.specs.declared.stmt.RawStmtKind.TheOpen.{RawStmtKind-F}
use Rattle.bl_parse_tree.specs.declared.types.RawType.{RawType}
use Rattle.bl_names.specs.Named.{Piece, all, constant_piece, constants_of_all, kind_piece, made_of_all, marks_of_all, named_constant, named_var, opened}
use Rattle.bl_names.specs.Named.{own_scope, piece_of_arm, piece_of_branch, stmt_piece, vars_of_all}
use Rattle.bl_names.specs.Naming.{named_expr, named_path, named_target, named_type, position}
use Rattle.bl_names.proofs.BelowLemmas.{Below, OuterBelow, constant_below, variable_below}
use Rattle.bl_names.proofs.FitLemmas.{Fits, fits_behind, fits_first, fits_second}
use Rattle.bl_names.proofs.PastLemmas.{enter-behind, more}
use Rattle.bl_names.proofs.PieceLemmas.{arm_is, branch_is, parts, stmt_is}
use Rattle.bl_names.proofs.PlacedExpr.{activity_placed, earlier, expr_is, exprs_are, function_placed, optional_is, path_is, paths_are, target_is, type_is}
use Rattle.bl_names.proofs.PlacedExpr.{variable_read}
use Rattle.bl_names.proofs.RawStmtInduction.{Cases, induct, stmt}
use Rattle.bl_names.proofs.StillLemmas.{Still, after-append, still_append, still_arguments, still_expr, still_exprs, still_optional, still_target, still_type}
use Rattle.bl_names.proofs.StillLemmas.{still_use, still_value}

-- ---- parts of lists

-- a list has another from a position on
pub record Within {A : Type 0} (xs : List A) (at : ℕ) (part : List A) : Type 0 where
  pub before : List A
  pub rest : List A
  pub there : xs ≡ before ++ (part ++ rest)
  pub is_at : length before ≡ at

pub within_first : {A : Type 0} (xs : List A) (at : ℕ) (a b : List A) → Within xs at (a ++ b) → Within xs at a
within_first xs at a b within = record {
  before = within.before;
  rest = b ++ within.rest;
  there = within.there ∙ ap (λ l. within.before ++ l) (append_assoc a b within.rest);
  is_at = within.is_at;
}

pub within_second : {A : Type 0} (xs : List A) (at : ℕ) (a b : List A) → Within xs at (a ++ b) → Within xs (at + length a) b
within_second xs at a b within = record {
  before = within.before ++ a;
  rest = within.rest;
  there = within.there ∙ ap (λ l. within.before ++ l) (append_assoc a b within.rest) ∙ sym (append_assoc within.before a (b ++ within.rest));
  is_at = length-append within.before a ∙ ap (λ n. n + length a) within.is_at;
}

seam : {A : Type 0} (before : List A) (x : A) (rest : List A) → slice_get (before ++ (x ∷ rest)) (length before) ≡ Some x
seam [] x rest = refl
seam (y ∷ before) x rest = seam before x rest

pub within_one : {A : Type 0} (xs : List A) (at : ℕ) (x : A) (rest : List A) → Within xs at (x ∷ rest) → slice_get xs at ≡ Some x
within_one xs at x rest within = (λ i. slice_get (within.there i) (sym within.is_at i)) ∙ seam within.before x (rest ++ within.rest)

-- ---- what holds behind a part

abbrev pub is_local : NamedVar → Bool
is_local var = is_variable var.role || is_fixed var.role

-- from the scopes before a part to those behind it, with the variables and constants that it declares
pub record Holds (reached : Option DeclaredBefore) (scopes new : Scopes) (vars : List NamedVar) (constants : List NamedConstant) : Type 0 where
  pub steps : reached ≡ Some (earlier new)
  pub below : Below new
  pub outer : new.outer ≡ scopes.outer
  pub more_vars : new.counts.variables ≡ scopes.counts.variables + length vars
  pub more_constants : new.counts.constants ≡ scopes.counts.constants + length constants
  pub same_structs : new.counts.structs ≡ scopes.counts.structs
  pub same_units : new.counts.units ≡ scopes.counts.units
  pub locals : list_all is_local vars ≡ true

-- one part and then another
pub holds_then : (reached : Option DeclaredBefore) (step : PlacedStep) (scopes middle new : Scopes) (vars more_vars : List NamedVar)
    (constants more_constants : List NamedConstant) →
    Holds reached scopes middle vars constants → Holds (step (earlier middle)) middle new more_vars more_constants →
    Holds (option_and_then step reached) scopes new (vars ++ more_vars) (constants ++ more_constants)
holds_then reached step scopes middle new vars more_vars constants more_constants one two = record {
  steps = ap (option_and_then step) one.steps ∙ two.steps;
  below = two.below;
  outer = two.outer ∙ one.outer;
  more_vars = more vars more_vars scopes.counts.variables middle.counts.variables new.counts.variables one.more_vars two.more_vars;
  more_constants = more constants more_constants scopes.counts.constants middle.counts.constants new.counts.constants one.more_constants two.more_constants;
  same_structs = two.same_structs ∙ one.same_structs;
  same_units = two.same_units ∙ one.same_units;
  locals = list_all-append is_local vars more_vars ∙ and_from (list_all is_local vars) (list_all is_local more_vars) one.locals two.locals;
}

holds_none : (scopes : Scopes) → Below scopes → Holds (Some (earlier scopes)) scopes scopes [] []
holds_none scopes below = record {
  steps = refl;
  below = below;
  outer = refl;
  more_vars = plus_none scopes.counts.variables;
  more_constants = plus_none scopes.counts.constants;
  same_structs = refl;
  same_units = refl;
  locals = refl;
}

-- a part that declares nothing
holds_plain : (placed : Bool) (scopes : Scopes) (marks : Marks) → Still marks → Below scopes → placed ≡ true
    → Holds (declares_none placed (earlier scopes)) scopes (after scopes marks) [] []
holds_plain placed scopes marks still below is =
    subst (λ new. Holds (declares_none placed (earlier scopes)) scopes new [] []) (sym (still scopes))
    (subst (λ test. Holds (declares_none test (earlier scopes)) scopes scopes [] []) (sym is) (holds_none scopes below))

-- behind a scope of its own
pub closed_is : (scopes inner : Scopes) → inner.outer ≡ scopes.inner ∷ scopes.outer → enter inner closes ≡ record scopes { counts = inner.counts }
closed_is scopes inner is = ap (λ outer. scopes_outside outer inner.counts) is

holds_closed : (reached : Option DeclaredBefore) (scopes inner : Scopes) (vars : List NamedVar) (constants : List NamedConstant) →
    Holds reached (opened scopes) inner vars constants → Holds reached scopes (record scopes { counts = inner.counts }) vars constants
holds_closed reached scopes inner vars constants holds = record {
  steps = holds.steps;
  below = subst (OuterBelow inner.counts) holds.outer holds.below.1;
  outer = refl;
  more_vars = holds.more_vars;
  more_constants = holds.more_constants;
  same_structs = holds.same_structs;
  same_units = holds.same_units;
  locals = holds.locals;
}

pub scope_is : (scopes : Scopes) (marks : Marks) → (after (opened scopes) marks).outer ≡ scopes.inner ∷ scopes.outer →
    after scopes (in_scope marks) ≡ record scopes { counts = (after (opened scopes) marks).counts }
scope_is scopes marks is = after-append (opened scopes) marks (closes ∷ []) ∙ closed_is scopes (after (opened scopes) marks) is

module _ (all_vars : List NamedVar) (all_constants : List NamedConstant) where
  -- a part that takes this step
  abbrev pub Good : {A : Type 0} → (A → PlacedStep) → Piece A → Type 0
  Good step piece =
      (scopes : Scopes) → Below scopes → Fits scopes piece.marks → Within all_vars scopes.counts.variables (piece.vars scopes)
      → Within all_constants scopes.counts.constants (piece.constants scopes) →
      Holds (step (piece.made scopes) (earlier scopes)) scopes (after scopes piece.marks) (piece.vars scopes) (piece.constants scopes)

  abbrev pub StmtGood : RawStmt → Type 0
  StmtGood s = Good (stmt_step all_vars all_constants) (stmt_piece s)

  abbrev pub ArmGood : RawArm → Type 0
  ArmGood arm = Good (step_of_arm all_vars all_constants) (piece_of_arm arm)

  abbrev pub BranchGood : RawBranch → Type 0
  BranchGood branch = Good (step_of_branch all_vars all_constants) (piece_of_branch branch)

  abbrev pub steps : {A : Type 0} → (A → PlacedStep) → List A → PlacedStep
  steps step made = in_turn (map step made)

  -- one part and then another
  good_then : {A B : Type 0} (first : Piece A) (second : Piece B) (step : A → PlacedStep) (next : B → PlacedStep) (scopes : Scopes) →
      Good step first → Good next second →
      Below scopes → Fits scopes (first.marks ++ second.marks) →
      Within all_vars scopes.counts.variables (first.vars scopes ++ second.vars (after scopes first.marks)) →
      Within all_constants scopes.counts.constants (first.constants scopes ++ second.constants (after scopes first.marks)) →
      Holds (option_and_then (next (second.made (after scopes first.marks))) (step (first.made scopes) (earlier scopes))) scopes
      (after scopes (first.marks ++ second.marks))
      (first.vars scopes ++ second.vars (after scopes first.marks)) (first.constants scopes ++ second.constants (after scopes first.marks))
  good_then first second step next scopes one two below fits vars constants =
      let middle = after scopes first.marks in
      let there = one scopes below (fits_first scopes first.marks second.marks fits)
      (within_first all_vars scopes.counts.variables (first.vars scopes) (second.vars middle) vars)
      (within_first all_constants scopes.counts.constants (first.constants scopes) (second.constants middle) constants) in
      let behind = two middle there.below (fits_second scopes first.marks second.marks fits)
      (subst (λ at. Within all_vars at (second.vars middle)) (sym there.more_vars)
      (within_second all_vars scopes.counts.variables (first.vars scopes) (second.vars middle) vars))
      (subst (λ at. Within all_constants at (second.constants middle)) (sym there.more_constants)
      (within_second all_constants scopes.counts.constants (first.constants scopes) (second.constants middle) constants)) in
      subst (λ new. Holds (option_and_then (next (second.made middle)) (step (first.made scopes) (earlier scopes))) scopes new
      (first.vars scopes ++ second.vars middle) (first.constants scopes ++ second.constants middle)) (sym (after-append scopes first.marks second.marks))
      (holds_then (step (first.made scopes) (earlier scopes)) (next (second.made middle)) scopes middle (after middle second.marks)
      (first.vars scopes) (second.vars middle) (first.constants scopes) (second.constants middle) there behind)

  pub good_all : {X A : Type 0} (piece : X → Piece A) (step : A → PlacedStep) (xs : List X) → All (λ x. Good step (piece x)) xs
      → Good (steps step) (all (map piece xs))
  good_all piece step [] each scopes below fits vars constants = holds_none scopes below
  good_all piece step (x ∷ xs) each scopes below fits vars constants =
      good_then (piece x) (all (map piece xs)) step (steps step) scopes (All-head (λ x. Good step (piece x)) x xs each)
      (good_all piece step xs (All-tail (λ x. Good step (piece x)) x xs each)) below fits vars constants

  -- in a scope of its own
  good_own : {A : Type 0} (piece : Piece A) (step : A → PlacedStep) (scopes : Scopes) → Good step piece → Below scopes →
      Fits scopes (in_scope piece.marks) →
      Within all_vars scopes.counts.variables (piece.vars (opened scopes)) →
      Within all_constants scopes.counts.constants (piece.constants (opened scopes)) →
      Holds (step (piece.made (opened scopes)) (earlier scopes)) scopes (after scopes (in_scope piece.marks)) (piece.vars (opened scopes))
      (piece.constants (opened scopes))
  good_own piece step scopes good below fits vars constants =
      let inside = good (opened scopes) (tt, below) (fits_first (opened scopes) piece.marks (closes ∷ []) fits.1) vars constants in
      subst (λ new. Holds (step (piece.made (opened scopes)) (earlier scopes)) scopes new (piece.vars (opened scopes)) (piece.constants (opened scopes)))
      (sym (scope_is scopes piece.marks inside.outer))
      (holds_closed (step (piece.made (opened scopes)) (earlier scopes)) scopes (after (opened scopes) piece.marks) (piece.vars (opened scopes))
      (piece.constants (opened scopes)) inside)

  abbrev body_of : List RawStmt → List (Piece NamedStmt)
  body_of body = map stmt_piece body

  abbrev body_steps : List NamedStmt → PlacedStep
  body_steps = steps (stmt_step all_vars all_constants)

  good_block : (body : List RawStmt) → All StmtGood body → Good body_steps (all (body_of body))
  good_block body each = good_all stmt_piece (stmt_step all_vars all_constants) body each

  -- a body behind a condition
  good_tested : (e : RawExpr) (body : List RawStmt) (scopes : Scopes) → All StmtGood body → Below scopes
      → Fits scopes (expr_marks e ++ in_scope (marks_of_all (body_of body))) →
      Within all_vars scopes.counts.variables (vars_of_all (body_of body) (opened (after scopes (expr_marks e)))) →
      Within all_constants scopes.counts.constants (constants_of_all (body_of body) (opened (after scopes (expr_marks e)))) →
      Holds (tested (named_expr scopes e) (map (stmt_step all_vars all_constants) (made_of_all (body_of body) (opened (after scopes (expr_marks e)))))
      (earlier scopes)) scopes
      (after scopes (expr_marks e ++ in_scope (marks_of_all (body_of body))))
      (vars_of_all (body_of body) (opened (after scopes (expr_marks e)))) (constants_of_all (body_of body) (opened (after scopes (expr_marks e))))
  good_tested e body scopes each below fits vars constants =
      let still = still_expr e scopes in
      let marks = in_scope (marks_of_all (body_of body)) in
      let inside = good_own (all (body_of body)) body_steps scopes (good_block body each) below (fits_behind scopes (expr_marks e) marks (still_expr e) fits)
      (subst (λ s. Within all_vars scopes.counts.variables (vars_of_all (body_of body) (opened s))) still vars)
      (subst (λ s. Within all_constants scopes.counts.constants (constants_of_all (body_of body) (opened s))) still constants) in
      subst (λ new. Holds (tested (named_expr scopes e) (map (stmt_step all_vars all_constants)
      (made_of_all (body_of body) (opened (after scopes (expr_marks e))))) (earlier scopes)) scopes new
      (vars_of_all (body_of body) (opened (after scopes (expr_marks e)))) (constants_of_all (body_of body) (opened (after scopes (expr_marks e)))))
      (sym (after-append scopes (expr_marks e) marks ∙ ap (λ s. after s marks) still))
      (subst (λ s. Holds (tested (named_expr scopes e) (map (stmt_step all_vars all_constants) (made_of_all (body_of body) (opened s))) (earlier scopes))
      scopes (after scopes marks)
      (vars_of_all (body_of body) (opened s)) (constants_of_all (body_of body) (opened s))) (sym still)
      (subst (λ test. Holds (if test then body_steps (made_of_all (body_of body) (opened scopes)) (earlier scopes) else None) scopes (after scopes marks)
      (vars_of_all (body_of body) (opened scopes)) (constants_of_all (body_of body) (opened scopes)))
      (sym (expr_is scopes scopes.counts below e (fits_first scopes (expr_marks e) marks fits))) inside))

  -- a body before a condition, which sees what is around it
  good_until : (body : List RawStmt) (e : RawExpr) (scopes : Scopes) → All StmtGood body → Below scopes
      → Fits scopes (in_scope (marks_of_all (body_of body)) ++ expr_marks e) →
      Within all_vars scopes.counts.variables (vars_of_all (body_of body) (opened scopes)) →
      Within all_constants scopes.counts.constants (constants_of_all (body_of body) (opened scopes)) →
      Holds (tested (named_expr scopes e) (map (stmt_step all_vars all_constants) (made_of_all (body_of body) (opened scopes))) (earlier scopes)) scopes
      (after scopes (in_scope (marks_of_all (body_of body)) ++ expr_marks e)) (vars_of_all (body_of body) (opened scopes))
      (constants_of_all (body_of body) (opened scopes))
  good_until body e scopes each below fits vars constants =
      let marks = marks_of_all (body_of body) in
      let inside = good_block body each (opened scopes) (tt, below)
      (fits_first (opened scopes) marks (closes ∷ []) (fits_first scopes (in_scope marks) (expr_marks e) fits).1) vars constants in
      let behind = after (opened scopes) marks in
      let closed : after scopes (in_scope marks) ≡ record scopes { counts = behind.counts } = scope_is scopes marks inside.outer in
      let fits_e : Fits (record scopes { counts = behind.counts }) (expr_marks e) = subst (λ s. Fits s (expr_marks e)) closed
      (fits_second scopes (in_scope marks) (expr_marks e) fits) in
      subst (λ new. Holds (tested (named_expr scopes e) (map (stmt_step all_vars all_constants) (made_of_all (body_of body) (opened scopes)))
      (earlier scopes)) scopes new
      (vars_of_all (body_of body) (opened scopes)) (constants_of_all (body_of body) (opened scopes)))
      (sym (after-append scopes (in_scope marks) (expr_marks e) ∙ still_expr e (after scopes (in_scope marks)) ∙ closed))
      (subst (λ test. Holds (if test then body_steps (made_of_all (body_of body) (opened scopes)) (earlier scopes) else None) scopes
      (record scopes { counts = behind.counts })
      (vars_of_all (body_of body) (opened scopes)) (constants_of_all (body_of body) (opened scopes)))
      (sym (expr_is scopes behind.counts below e fits_e))
      (holds_closed (body_steps (made_of_all (body_of body) (opened scopes)) (earlier scopes)) scopes behind
      (vars_of_all (body_of body) (opened scopes)) (constants_of_all (body_of body) (opened scopes)) inside))

  -- ---- each kind

  abbrev stmt_takes : NamedStmt → PlacedStep
  stmt_takes = stmt_step all_vars all_constants

  abbrev arm_takes : NamedArm → PlacedStep
  arm_takes = step_of_arm all_vars all_constants

  abbrev branch_takes : NamedBranch → PlacedStep
  branch_takes = step_of_branch all_vars all_constants

  abbrev kind_takes : NamedStmtKind → PlacedStep
  kind_takes = fold-NamedStmtKind PlacedStep PlacedStep PlacedStep PlacedStep (stmt_kind_step all_vars all_constants) arm_step branch_step stmt_layer_step

  abbrev Layer : Type 0
  Layer = NamedStmtKind-F NamedStmtKind NamedArm NamedBranch NamedStmt

  abbrev layer_takes : Layer → PlacedStep
  layer_takes layer =
      stmt_kind_step all_vars all_constants (map-NamedStmtKind NamedStmtKind NamedArm NamedBranch NamedStmt PlacedStep PlacedStep PlacedStep PlacedStep kind_takes arm_takes
      branch_takes stmt_takes layer)

  takes_at : (place : Place) (kind : NamedStmtKind) (layer : Layer) → out-NamedStmtKind kind ≡ layer
      → stmt_takes (roll-NamedStmt (record { place = place; what = kind })) ≡ layer_takes layer
  takes_at place kind layer is =
      rw fold-roll-NamedStmt (fold_out-NamedStmtKind PlacedStep PlacedStep PlacedStep PlacedStep (stmt_kind_step all_vars all_constants) arm_step branch_step stmt_layer_step kind
      ∙ ap layer_takes is)

  -- a statement whose kind becomes this
  stmt_good : (place : Place) (layer : RawStmtKind-F RawStmtKind RawArm RawBranch RawStmt) (made : Scopes → Layer)
      → ((scopes : Scopes) → out-NamedStmtKind ((kind_piece (parts layer)).made scopes) ≡ made scopes) →
      ((scopes : Scopes) → Below scopes → Fits scopes (kind_piece (parts layer)).marks
      → Within all_vars scopes.counts.variables ((kind_piece (parts layer)).vars scopes) →
      Within all_constants scopes.counts.constants ((kind_piece (parts layer)).constants scopes) →
      Holds (layer_takes (made scopes) (earlier scopes)) scopes (after scopes (kind_piece (parts layer)).marks) ((kind_piece (parts layer)).vars scopes)
      ((kind_piece (parts layer)).constants scopes)) →
      StmtGood (stmt place layer)
  stmt_good place layer made is gives =
      subst (Good stmt_takes) (sym (stmt_is place layer))
      (λ scopes below fits vars constants.
      subst (λ step. Holds (step (earlier scopes)) scopes (after scopes (kind_piece (parts layer)).marks) ((kind_piece (parts layer)).vars scopes)
      ((kind_piece (parts layer)).constants scopes))
      (sym (takes_at place ((kind_piece (parts layer)).made scopes) (made scopes) (is scopes)))
      (gives scopes below fits vars constants))

  var_is : (scopes : Scopes) (name : Name) (ty : Option RawType) (role : Role) → Below scopes → Fits scopes (optional type_marks ty) →
      Within all_vars scopes.counts.variables (named_var scopes name ty role ∷ [])
      → holds_of (var_placed (earlier scopes)) (slice_get all_vars scopes.counts.variables) ≡ true
  var_is scopes name ty role below fits vars =
      ap (holds_of (var_placed (earlier scopes))) (within_one all_vars scopes.counts.variables (named_var scopes name ty role) [] vars)
      ∙ optional_is scopes scopes.counts below type_marks (type_placed (earlier scopes)) (named_type scopes) ty (type_is scopes scopes.counts below) fits

  declared_holds : (scopes : Scopes) (name : Name) (ty : Option RawType) (role : Role) (value : Option RawExpr)
      → (list_all is_local (named_var scopes name ty role ∷ []) ≡ true) → Below scopes →
      Fits scopes ((optional type_marks ty ++ optional expr_marks value) ++ (declares name kind.Variable ∷ [])) →
      Within all_vars scopes.counts.variables (named_var scopes name ty role ∷ []) →
      Holds (layer_takes (NamedStmtKind-F.Declare scopes.counts.variables (option_map (named_expr scopes) value)) (earlier scopes)) scopes
      (after scopes ((optional type_marks ty ++ optional expr_marks value) ++ (declares name kind.Variable ∷ []))) (named_var scopes name ty role ∷ []) []
  declared_holds scopes name ty role value local below fits vars =
      let marks = optional type_marks ty ++ optional expr_marks value in
      let before = fits_first scopes marks (declares name kind.Variable ∷ []) fits in
      let k = scopes.counts.variables in
      let test = and_from _ _ (eq-eqb k k refl)
      (and_from _ _ (var_is scopes name ty role below (fits_first scopes (optional type_marks ty) (optional expr_marks value) before) vars)
      (optional_is scopes scopes.counts below expr_marks (expr_placed (earlier scopes)) (named_expr scopes) value (expr_is scopes scopes.counts below)
      (fits_behind scopes (optional type_marks ty) (optional expr_marks value) (still_optional type_marks ty still_type) before))) in
      subst (λ new. Holds (layer_takes (NamedStmtKind-F.Declare k (option_map (named_expr scopes) value)) (earlier scopes)) scopes new
      (named_var scopes name ty role ∷ []) [])
      (enter-behind scopes marks name kind.Variable (still_value ty value))
      (subst (λ test. Holds (if test then Some (with_variable (earlier scopes)) else None) scopes (enter scopes (declares name kind.Variable))
      (named_var scopes name ty role ∷ []) []) (sym test)
      (record {
        steps = refl;
        below = variable_below scopes name below;
        outer = refl;
        more_vars = refl;
        more_constants = plus_none scopes.counts.constants;
        same_structs = refl;
        same_units = refl;
        locals = local;
      }))

  pub constant_is : (scopes : Scopes) (constant : RawConstant) → Below scopes →
      Fits scopes (optional type_marks constant.ty ++ expr_marks constant.value) →
      Within all_constants scopes.counts.constants (named_constant scopes constant ∷ [])
      → holds_of (constant_placed (earlier scopes)) (slice_get all_constants scopes.counts.constants) ≡ true
  constant_is scopes constant below fits constants =
      ap (holds_of (constant_placed (earlier scopes))) (within_one all_constants scopes.counts.constants (named_constant scopes constant) [] constants)
      ∙ and_from _ _ (optional_is scopes scopes.counts below type_marks (type_placed (earlier scopes)) (named_type scopes) constant.ty
      (type_is scopes scopes.counts below)
      (fits_first scopes (optional type_marks constant.ty) (expr_marks constant.value) fits))
      (expr_is scopes scopes.counts below constant.value
      (fits_behind scopes (optional type_marks constant.ty) (expr_marks constant.value) (still_optional type_marks constant.ty still_type) fits))

  constant_holds : (scopes : Scopes) (constant : RawConstant) → Below scopes → Fits scopes (constant_piece constant).marks
      → Within all_constants scopes.counts.constants (named_constant scopes constant ∷ []) →
      Holds (layer_takes (NamedStmtKind-F.Const scopes.counts.constants) (earlier scopes)) scopes (after scopes (constant_piece constant).marks) []
      (named_constant scopes constant ∷ [])
  constant_holds scopes constant below fits constants =
      let marks = optional type_marks constant.ty ++ expr_marks constant.value in
      let k = scopes.counts.constants in
      let test = and_from _ _ (eq-eqb k k refl) (constant_is scopes constant below (fits_first scopes marks (declares constant.name kind.Constant ∷ []) fits)
      constants) in
      subst (λ new. Holds (layer_takes (NamedStmtKind-F.Const k) (earlier scopes)) scopes new [] (named_constant scopes constant ∷ []))
      (enter-behind scopes marks constant.name kind.Constant (still_value constant.ty (Some constant.value)))
      (subst (λ test. Holds (if test then Some (with_constant (earlier scopes)) else None) scopes (enter scopes (declares constant.name kind.Constant)) []
      (named_constant scopes constant ∷ [])) (sym test)
      (record {
        steps = refl;
        below = constant_below scopes constant.name below;
        outer = refl;
        more_vars = plus_none scopes.counts.variables;
        more_constants = refl;
        same_structs = refl;
        same_units = refl;
        locals = refl;
      }))

  arguments_are : (scopes : Scopes) → Below scopes → (inputs : List RawExpr) (outputs : List RawPath) → Fits scopes (argument_marks inputs outputs) →
      (list_all (expr_placed (earlier scopes)) (map (named_expr scopes) inputs) && list_all (path_placed (earlier scopes)) (map (named_path scopes) outputs))
      ≡ true
  arguments_are scopes below inputs outputs fits =
      and_from _ _ (exprs_are scopes scopes.counts below inputs (fits_first scopes (joined (map expr_marks inputs)) (joined (map path_marks outputs)) fits))
      (paths_are scopes scopes.counts below outputs (fits_behind scopes (joined (map expr_marks inputs)) (joined (map path_marks outputs))
      (still_exprs inputs) fits))

  target_marks_still : (target : Option RawPath) → Still (optional path_marks target)
  target_marks_still target = still_optional path_marks target (λ path. still_use path.root wanted.Variable)

  arm_takes_at : (test : NamedExpr) (body : List NamedStmt) → arm_takes (roll-NamedArm (record { test = test; body = body }))
      ≡ tested test (map stmt_takes body)
  arm_takes_at test body = rw fold-roll-NamedArm refl

  arm_good : (test : RawExpr) (body : List RawStmt) → All StmtGood body → ArmGood (roll-RawArm (record { test = test; body = body }))
  arm_good test body each =
      subst (Good arm_takes) (sym (arm_is test body))
      (λ scopes below fits vars constants.
      subst (λ step. Holds (step (earlier scopes)) scopes (after scopes (expr_marks test ++ in_scope (marks_of_all (body_of body))))
      (vars_of_all (body_of body) (opened (after scopes (expr_marks test)))) (constants_of_all (body_of body) (opened (after scopes (expr_marks test)))))
      (sym (arm_takes_at (named_expr scopes test) (made_of_all (body_of body) (opened (after scopes (expr_marks test))))))
      (good_tested test body scopes each below fits vars constants))

  branch_takes_at : (weak : Bool) (body : List NamedStmt) → branch_takes (roll-NamedBranch (record { weak = weak; body = body })) ≡ body_steps body
  branch_takes_at weak body = rw fold-roll-NamedBranch refl

  branch_good : (weak : Bool) (body : List RawStmt) → All StmtGood body → BranchGood (roll-RawBranch (record { weak = weak; body = body }))
  branch_good weak body each =
      subst (Good branch_takes) (sym (branch_is weak body))
      (λ scopes below fits vars constants.
      subst (λ step. Holds (step (earlier scopes)) scopes (after scopes (in_scope (marks_of_all (body_of body))))
      (vars_of_all (body_of body) (opened scopes)) (constants_of_all (body_of body) (opened scopes)))
      (sym (branch_takes_at weak (made_of_all (body_of body) (opened scopes))))
      (good_own (all (body_of body)) body_steps scopes (good_block body each) below fits vars constants))

  cases : Cases StmtGood ArmGood BranchGood
  cases = record {
    var = λ place name ty value. stmt_good place (RawStmtKind-F.Var name ty value)
        (λ scopes. NamedStmtKind-F.Declare scopes.counts.variables (option_map (named_expr scopes) value))
        (λ scopes. what.outs-Declare scopes.counts.variables (option_map (named_expr scopes) value))
        (λ scopes below fits vars constants. declared_holds scopes name ty role.Variable value refl below fits vars);
    fixed = λ place name ty value. stmt_good place (RawStmtKind-F.Let name ty value)
        (λ scopes. NamedStmtKind-F.Declare scopes.counts.variables (Some (named_expr scopes value)))
        (λ scopes. what.outs-Declare scopes.counts.variables (Some (named_expr scopes value)))
        (λ scopes below fits vars constants. declared_holds scopes name ty role.Fixed (Some value) refl below fits vars);
    constant = λ place constant. stmt_good place (RawStmtKind-F.Const constant) (λ scopes. NamedStmtKind-F.Const scopes.counts.constants)
        (λ scopes. what.outs-Const scopes.counts.constants)
        (λ scopes below fits vars constants. constant_holds scopes constant below fits constants);
    assign = λ place target e. stmt_good place (RawStmtKind-F.Assign target e)
        (λ scopes. NamedStmtKind-F.Assign (named_target scopes target) (named_expr scopes e))
        (λ scopes. what.outs-Assign (named_target scopes target) (named_expr scopes e))
        (λ scopes below fits vars constants. holds_plain _ scopes (target_marks target wanted.Variable ++ expr_marks e)
        (still_append (target_marks target wanted.Variable) (expr_marks e) (still_target target wanted.Variable) (still_expr e)) below
        (and_from _ _ (target_is scopes scopes.counts below target wanted.Variable variable_read
        (fits_first scopes (target_marks target wanted.Variable) (expr_marks e) fits))
        (expr_is scopes scopes.counts below e (fits_behind scopes (target_marks target wanted.Variable) (expr_marks e)
        (still_target target wanted.Variable) fits))));
    call = λ place f inputs outputs. stmt_good place (RawStmtKind-F.Call f inputs outputs)
        (λ scopes. NamedStmtKind-F.Call f.place (position scopes f) (map (named_expr scopes) inputs) (map (named_path scopes) outputs))
        (λ scopes. what.outs-Call f.place (position scopes f) (map (named_expr scopes) inputs) (map (named_path scopes) outputs))
        (λ scopes below fits vars constants. holds_plain _ scopes (uses f wanted.Function ∷ argument_marks inputs outputs)
        (still_append (uses f wanted.Function ∷ []) (argument_marks inputs outputs) (still_use f wanted.Function) (still_arguments inputs outputs)) below
        (and_from _ _ (function_placed scopes scopes.counts below f fits.0) (arguments_are scopes below inputs outputs fits.1)));
    await = λ place e. stmt_good place (RawStmtKind-F.Await e) (λ scopes. NamedStmtKind-F.Await (named_expr scopes e))
        (λ scopes. what.outs-Await (named_expr scopes e))
        (λ scopes below fits vars constants. holds_plain _ scopes (expr_marks e) (still_expr e) below (expr_is scopes scopes.counts below e fits));
    run = λ place target a inputs outputs. stmt_good place (RawStmtKind-F.Run target a inputs outputs)
        (λ scopes. NamedStmtKind-F.Run (option_map (named_path scopes) target) a.place (position scopes a) (map (named_expr scopes) inputs)
        (map (named_path scopes) outputs)) (λ scopes. what.outs-Run (option_map (named_path scopes) target) a.place (position scopes a)
        (map (named_expr scopes) inputs) (map (named_path scopes) outputs))
        (λ scopes below fits vars constants.
        let behind = fits_behind scopes (optional path_marks target) (uses a wanted.Activity ∷ argument_marks inputs outputs)
        (target_marks_still target) fits in
        holds_plain _ scopes (optional path_marks target ++ (uses a wanted.Activity ∷ argument_marks inputs outputs))
        (still_append (optional path_marks target) (uses a wanted.Activity ∷ argument_marks inputs outputs) (target_marks_still target)
        (still_append (uses a wanted.Activity ∷ []) (argument_marks inputs outputs) (still_use a wanted.Activity) (still_arguments inputs outputs))) below
        (and_from _ _ (optional_is scopes scopes.counts below path_marks (path_placed (earlier scopes)) (named_path scopes) target
        (path_is scopes scopes.counts below)
        (fits_first scopes (optional path_marks target) (uses a wanted.Activity ∷ argument_marks inputs outputs) fits))
        (and_from _ _ (activity_placed scopes scopes.counts below a behind.0) (arguments_are scopes below inputs outputs behind.1))));
    branching = λ place arms other in_arms in_other. stmt_good place (RawStmtKind-F.If arms other)
        (λ scopes. NamedStmtKind-F.If (made_of_all (map piece_of_arm arms) scopes)
        (made_of_all (body_of other) (opened (after scopes (marks_of_all (map piece_of_arm arms))))))
        (λ scopes. what.outs-If (made_of_all (map piece_of_arm arms) scopes)
        (made_of_all (body_of other) (opened (after scopes (marks_of_all (map piece_of_arm arms))))))
        (λ scopes below fits vars constants. good_then (all (map piece_of_arm arms)) (own_scope (all (body_of other))) (steps arm_takes) body_steps scopes
        (good_all piece_of_arm arm_takes arms in_arms)
        (λ scopes below fits vars constants. good_own (all (body_of other)) body_steps scopes (good_block other in_other) below fits vars constants) below
        fits vars constants);
    cobegin = λ place branches in_branches. stmt_good place (RawStmtKind-F.Cobegin branches)
        (λ scopes. NamedStmtKind-F.Cobegin (made_of_all (map piece_of_branch branches) scopes))
        (λ scopes. what.outs-Cobegin (made_of_all (map piece_of_branch branches) scopes))
        (good_all piece_of_branch branch_takes branches in_branches);
    guarded = λ place guard e body each. stmt_good place (RawStmtKind-F.When guard e body)
        (λ scopes. NamedStmtKind-F.When guard (named_expr scopes e) (made_of_all (body_of body) (opened (after scopes (expr_marks e)))))
        (λ scopes. what.outs-When guard (named_expr scopes e) (made_of_all (body_of body) (opened (after scopes (expr_marks e)))))
        (λ scopes below fits vars constants. good_tested e body scopes each below fits vars constants);
    repeat = λ place body each. stmt_good place (RawStmtKind-F.Repeat body) (λ scopes. NamedStmtKind-F.Repeat (made_of_all (body_of body) (opened scopes)))
        (λ scopes. what.outs-Repeat (made_of_all (body_of body) (opened scopes)))
        (λ scopes below fits vars constants. good_own (all (body_of body)) body_steps scopes (good_block body each) below fits vars constants);
    until = λ place body e each. stmt_good place (RawStmtKind-F.Until body e)
        (λ scopes. NamedStmtKind-F.Until (made_of_all (body_of body) (opened scopes)) (named_expr scopes e))
        (λ scopes. what.outs-Until (made_of_all (body_of body) (opened scopes)) (named_expr scopes e))
        (λ scopes below fits vars constants. good_until body e scopes each below fits vars constants);
    while = λ place e body each. stmt_good place (RawStmtKind-F.While e body)
        (λ scopes. NamedStmtKind-F.While (named_expr scopes e) (made_of_all (body_of body) (opened (after scopes (expr_marks e)))))
        (λ scopes. what.outs-While (named_expr scopes e) (made_of_all (body_of body) (opened (after scopes (expr_marks e)))))
        (λ scopes below fits vars constants. good_tested e body scopes each below fits vars constants);
    returns = λ place e. stmt_good place (RawStmtKind-F.Return e) (λ scopes. NamedStmtKind-F.Return (option_map (named_expr scopes) e))
        (λ scopes. what.outs-Return (option_map (named_expr scopes) e))
        (λ scopes below fits vars constants. holds_plain _ scopes (optional expr_marks e) (still_optional expr_marks e still_expr) below
        (optional_is scopes scopes.counts below expr_marks (expr_placed (earlier scopes)) (named_expr scopes) e (expr_is scopes scopes.counts below) fits));
    arm = arm_good;
    branch = branch_good;
  }

  pub every_stmt : (s : RawStmt) → StmtGood s
  every_stmt = induct StmtGood ArmGood BranchGood cases

  every_of : (body : List RawStmt) → All StmtGood body
  every_of body = λ k d within. every_stmt _

  pub every_block : (body : List RawStmt) → Good body_steps (all (body_of body))
  every_block body = good_block body (every_of body)
