-- Expressions and acts mean the same with the inputs of their unit lent.
use Rattle.std.proofs.Common.{◌≡◌, ℕ, [], map, Option, Some, None, refl, ap, ◌∙◌}
use Rattle.std.specs.Prelude.{option_and_then, option_map, slice_get}
use Rattle.bl_tree.specs.declared.tree.Expr.{Expr, fold-Expr}
use Rattle.bl_tree.specs.declared.tree.ExprKind.TheOpen.{ExprKind-F}
use Rattle.bl_tree.specs.declared.tree.Path.{fold-Path}
use Rattle.bl_tree.specs.declared.tree.StmtKind.TheOpen.{StmtKind-F}
use Rattle.bl_tree.specs.declared.tree.Var.{Var}
use Rattle.bl_tree.specs.declared.value.Value.{Value}
use Rattle.bl_eval.specs.Functions.{acted, assigned, initial_value, outcome_of_call}
use Rattle.bl_eval.specs.Meaning.{Meaning, PathMeaning, PathPosition, Scope, View, expr_means, kind_means, meaning_of, part_means, path_meaning_of, path_means, plain}
use Rattle.bl_eval.specs.Meaning.{scalar_of, value_in}
use Rattle.bl_eval.specs.Values.{put_at, zero_of}
use Rattle.bl_emit_spec.specs.Lent.{lent_var}
use Rattle.bl_emit_file.proofs.OnShown.Fitting.{lent_get}

scalar_same : (o : Option Var) → scalar_of (option_map lent_var o) ≡ scalar_of o
scalar_same None = refl
scalar_same (Some var) = refl

module _ (scope : Scope) where
  abbrev pub lent_scope : Scope
  lent_scope = record scope { vars = map lent_var scope.vars }

  kind_same : (kind : ExprKind-F Meaning PathPosition Meaning PathMeaning) (view : View) → kind_means lent_scope kind view ≡ kind_means scope kind view
  kind_same (ExprKind-F.Literal n s) view = refl
  kind_same (ExprKind-F.Read path) view = refl
  kind_same (ExprKind-F.Prev k) view =
      ap (λ s. option_map (Rattle.bl_eval.specs.Meaning.datum_of s) (slice_get view.before k))
      (ap scalar_of (lent_get scope.vars k) ∙ scalar_same (slice_get scope.vars k))
  kind_same (ExprKind-F.One op a) view = refl
  kind_same (ExprKind-F.Two op a b) view = refl
  kind_same (ExprKind-F.Cast target a) view = refl
  kind_same (ExprKind-F.Call f inputs) view = refl

  means_same : meaning_of lent_scope ≡ meaning_of scope
  means_same =
      λ i. fold-Expr Meaning PathPosition Meaning PathMeaning (λ kind view. kind_same kind view i) part_means expr_means path_means

  paths_same : path_meaning_of lent_scope ≡ path_meaning_of scope
  paths_same =
      λ i. fold-Path Meaning PathPosition Meaning PathMeaning (λ kind view. kind_same kind view i) part_means expr_means path_means

  pub value_same : (e : Expr) (view : View) → value_in lent_scope e view ≡ value_in scope e view
  value_same e view = ap (λ means. option_map plain (means e view)) means_same

  initial_same : (k : ℕ) (initial : Option Expr) (view : View) → initial_value lent_scope k initial view ≡ initial_value scope k initial view
  initial_same k (Some e) view = value_same e view
  initial_same k None view = ap (option_map (λ (var : Var). zero_of scope.structs var.ty)) (lent_get scope.vars k) ∙ by (slice_get scope.vars k)
    where
      by : (o : Option Var) → option_map (λ (var : Var). zero_of scope.structs var.ty) (option_map lent_var o)
          ≡ option_map (λ (var : Var). zero_of scope.structs var.ty) o
      by None = refl
      by (Some var) = refl

  pub acted_same : {A B C D : Type 0} (kind : StmtKind-F A B C D) (view : View) → acted lent_scope kind view ≡ acted scope kind view
  acted_same (StmtKind-F.Declare k initial) view =
      ap (option_and_then (λ (value : Value). put_at k [] value view.now)) (initial_same k initial view)
  acted_same (StmtKind-F.Assign path e) view =
      ap (λ means. assigned (means path) (value_in lent_scope e view) view) paths_same
      ∙ ap (λ value. assigned (path_meaning_of scope path) value view) (value_same e view)
  acted_same (StmtKind-F.Call f inputs outputs) view =
      ap (λ means. option_and_then (outcome_of_call (map means inputs) (map (path_meaning_of lent_scope) outputs) view) (slice_get scope.callees f)) means_same
      ∙ ap (λ means. option_and_then (outcome_of_call (map (meaning_of scope) inputs) (map means outputs) view) (slice_get scope.callees f)) paths_same
  acted_same (StmtKind-F.Await e) view = refl
  acted_same (StmtKind-F.Run target a inputs outputs) view = refl
  acted_same (StmtKind-F.If arms other) view = refl
  acted_same (StmtKind-F.Cobegin branches) view = refl
  acted_same (StmtKind-F.When guard e body) view = refl
  acted_same (StmtKind-F.Repeat body) view = refl
  acted_same (StmtKind-F.Until body e) view = refl
  acted_same (StmtKind-F.While e body) view = refl
  acted_same (StmtKind-F.Return e) view = refl
