-- The variables that an expression names are declared in the scopes around it.
use Rattle.std.proofs.Common.{◌≡◌, ℕ, Bool, true, List, [], ◌∷◌, map, refl, ap, subst, ◌∙◌}
use Rattle.std.specs.Prelude.{All, Option, Some, None, option_map}
use Rattle.std.specs.List.{list_all}
use Rattle.std.proofs.lemmas.List.Elements.{All-head, All-tail}
use Rattle.std.proofs.lemmas.Bool.{and_from}
use Rattle.bl_tree.proofs.Basics.{all_append}
use Rattle.bl_tree.specs.declared.place.Place.{Place}
use Rattle.bl_tree.specs.Apart.{Roots}
use Rattle.bl_tree.specs.Reduce.{joined}
use Rattle.bl_names_tree.specs.declared.expr.NamedExprKind.TheOpen.{NamedExprKind-F}
use Rattle.bl_names_tree.specs.declared.expr.NamedExprKind.TheVariants as what
use Rattle.bl_parse_tree.specs.declared.expr.RawExpr.{RawExpr, fold-roll-RawExpr}
use Rattle.bl_parse_tree.specs.declared.expr.RawExprKind.{RawExprKind, fold-RawExprKind, fold-roll-RawExprKind, map-RawExprKind}
use Rattle.bl_parse_tree.specs.declared.expr.RawExprKind.TheOpen.{RawExprKind-F, RawPart-F}
use Rattle.bl_parse_tree.specs.declared.expr.RawPart.{RawPart, fold_out-RawPart, out-RawPart}
use Rattle.bl_parse_tree.specs.declared.expr.RawTarget.{RawTarget, fold-roll-RawTarget, roll-RawTarget}
use Rattle.bl_parse_tree.specs.declared.name.Name.{Name}
use Rattle.bl_parse_tree.specs.declared.stmt.RawPath.{RawPath}
use Rattle.bl_names_scopes.specs.declared.kind.Kind.TheVariants as kinds
use Rattle.bl_names_scopes.specs.declared.kind.Wanted.{Wanted}
use Rattle.bl_names_scopes.specs.declared.kind.Wanted.TheVariants as wants
use Rattle.bl_names_scopes.specs.declared.scopes.Counts.{Counts}
use Rattle.bl_names_scopes.specs.Marks.{Marks, argument_marks, expr_layer_marks, expr_marks, kind_marks, marks_of_part, optional, part_marks, path_marks}
use Rattle.bl_names_scopes.specs.Marks.{target_layer_marks, target_marks}
use Rattle.bl_names_scopes.specs.Scopes.{Scopes}
use Rattle.bl_names.specs.Naming.{named_expr, named_path, named_root, named_step, named_target, position, position_of, root_of}
use Rattle.bl_names.proofs.FitLemmas.{Fits, IsFit, fits_behind, fits_first}
use Rattle.bl_names.proofs.PlacedExpr.{IsRead, value_read}
use Rattle.bl_names.proofs.RawExprInduction.{Cases, EachIndex, OfIndex, expr, induct, induct_target}
use Rattle.bl_names.proofs.StillLemmas.{Still, still_expr, still_exprs}
use Rattle.bl_names_laws.specs.Apart.{argument_roots, kind_roots, optional_roots, part_roots, roots_in, roots_in_path, roots_in_target, roots_of}
use Rattle.bl_names_laws.specs.Apart.{taker_roots, target_layer_roots}
use Rattle.bl_names_laws.specs.inner.Apart.{roots_in_step}
use Rattle.bl_machine_prevs_laws.proofs.OnNames.ExprMade.{RawLayer, expr_made, field_made, index_made, named_parts, target_made}
use Rattle.bl_machine_prevs_laws.proofs.OnNames.Only.{DeclarationOnly, Only, bound_only}
use Rattle.bl_names_laws.proofs.ExprRoots.{is_variable, root_only, still_part}
use Rattle.bl_types_laws.proofs.ExprCalls.{Layer}

-- ---- what a raw expression does to names, by its parts

abbrev marks_of_kind : RawExprKind → Marks
marks_of_kind = fold-RawExprKind Marks Marks Marks (Wanted → Marks) kind_marks part_marks expr_layer_marks target_layer_marks

abbrev mark_parts : RawLayer → RawExprKind-F Marks Marks Marks (Wanted → Marks)
mark_parts = map-RawExprKind RawExprKind RawPart RawExpr RawTarget Marks Marks Marks (Wanted →
    Marks) marks_of_kind marks_of_part expr_marks target_marks

marks_at : (place : Place) (layer : RawLayer) → expr_marks (expr place layer) ≡ kind_marks (mark_parts layer)
marks_at place layer = rw (fold-roll-RawExpr, fold-roll-RawExprKind) refl

-- ---- what a use is bound to

-- the names that are used are bound as in these scopes
module _ (test : ℕ → Bool) (scopes : Scopes) (counts : Counts) (only : Only test scopes) where
  abbrev there : Scopes
  there = record scopes { counts = counts }

  fit_only : (name : Name) (wanted : Wanted) (fit : IsFit there name wanted) → DeclarationOnly test fit.declaration
  fit_only name wanted fit = bound_only test scopes name.text fit.declaration only fit.is_bound

  variable_only : (name : Name) → IsFit there name wants.Variable → test (position scopes name) ≡ true
  variable_only name fit =
      ap (λ found. test (position_of found)) fit.is_bound ∙ fit_only name wants.Variable fit (is_variable fit.declaration.kind fit.is_suited)

  target_root_only : (name : Name) (wanted : Wanted) → IsRead wanted → IsFit there name wanted →
      list_all test (roots_of (named_root scopes name)) ≡ true
  target_root_only name wanted read fit =
      ap (λ found. list_all test (roots_of (root_of found))) fit.is_bound
      ∙ root_only test fit.declaration.kind fit.declaration.position (read fit.declaration.kind fit.is_suited) (fit_only name wanted fit)

  pub joined_only : {X Y : Type 0} (marks : X → Marks) (roots : Y → Roots) (made : X → Y) (xs : List X) → ((x : X) → Still (marks x))
      → All (λ x. Fits there (marks x) → list_all test (roots (made x)) ≡ true) xs →
      Fits there (joined (map marks xs)) → list_all test (joined (map roots (map made xs))) ≡ true
  joined_only marks roots made [] still each fits = refl
  joined_only marks roots made (x ∷ xs) still each fits =
      all_append test (roots (made x)) (joined (map roots (map made xs)))
      (All-head (λ x. Fits there (marks x) → list_all test (roots (made x)) ≡ true) x xs each (fits_first there (marks x)
      (joined (map marks xs)) fits))
      (joined_only marks roots made xs still (All-tail (λ x. Fits there (marks x) → list_all test (roots (made x)) ≡ true) x xs each)
      (fits_behind there (marks x) (joined (map marks xs)) (still x) fits))

  abbrev ExprOnly : RawExpr → Type 0
  ExprOnly e = Fits there (expr_marks e) → list_all test (roots_in (named_expr scopes e)) ≡ true

  abbrev TargetOnly : RawTarget → Type 0
  TargetOnly target =
      (wanted : Wanted) → IsRead wanted → Fits there (target_marks target wanted) →
      list_all test (roots_in_target (named_target scopes target)) ≡ true

  abbrev root_parts : Layer → NamedExprKind-F Roots Roots Roots Roots
  root_parts = named_parts Roots kind_roots part_roots target_layer_roots scopes

  -- an expression whose kind becomes this
  kind_only : (place : Place) (layer : RawLayer) (made : Layer) → roots_in (named_expr scopes (expr place layer)) ≡ kind_roots
      (root_parts made) →
      (Fits there (kind_marks (mark_parts layer)) → list_all test (kind_roots (root_parts made)) ≡ true) → ExprOnly (expr place layer)
  kind_only place layer made is gives fits = ap (list_all test) is ∙ gives (subst (Fits there) (marks_at place layer) fits)

  step_only : (part : RawPart) (layer : RawPart-F RawExprKind RawPart RawExpr RawTarget) → out-RawPart part ≡ layer → OfIndex ExprOnly layer →
      Fits there (marks_of_part part) → list_all test (roots_in_step (named_step scopes part)) ≡ true
  step_only part (RawPart-F.Field name) is of fits = ap (list_all test) (field_made Roots kind_roots part_roots target_layer_roots scopes part name
      is)
  step_only part (RawPart-F.Index e) is of fits =
      ap (list_all test) (index_made Roots kind_roots part_roots target_layer_roots scopes part e is)
      ∙ of (rw (fold_out-RawPart Marks Marks Marks (Wanted → Marks) kind_marks part_marks expr_layer_marks target_layer_marks part, is) at fits)

  target_case : (place : Place) (root : Name) (steps : List RawPart) → EachIndex ExprOnly steps
      → TargetOnly (roll-RawTarget (record { place = place; root = root; parts = steps }))
  target_case place root steps each wanted read fits =
      let at = rw fold-roll-RawTarget at fits in
      ap (list_all test) (target_made Roots kind_roots part_roots target_layer_roots scopes place root steps)
      ∙ all_append test (roots_of (named_root scopes root)) (joined (map roots_in_step (map (named_step scopes) steps)))
      (target_root_only root wanted read at.0)
      (joined_only marks_of_part roots_in_step (named_step scopes) steps (λ part. still_part part (out-RawPart part) refl)
      (λ k d within. step_only _ _ refl (each k d within)) at.1)

  cases : Cases ExprOnly TargetOnly
  cases = record {
    number = λ place minus n. kind_only place (RawExprKind-F.Number minus n) (NamedExprKind-F.Number minus n)
        (expr_made Roots kind_roots part_roots target_layer_roots scopes place (RawExprKind-F.Number minus n) (NamedExprKind-F.Number minus n)
        (what.outs-Number minus n)) (λ fits. refl);
    truth = λ place b. kind_only place (RawExprKind-F.Truth b) (NamedExprKind-F.Truth b)
        (expr_made Roots kind_roots part_roots target_layer_roots scopes place (RawExprKind-F.Truth b) (NamedExprKind-F.Truth b) (what.outs-Truth b))
        (λ fits. refl);
    read = λ place target is. kind_only place (RawExprKind-F.Read target) (NamedExprKind-F.Read (named_target scopes target))
        (expr_made Roots kind_roots part_roots target_layer_roots scopes place (RawExprKind-F.Read target)
        (NamedExprKind-F.Read (named_target scopes target)) (what.outs-Read (named_target scopes target))) (is wants.Value value_read);
    prev = λ place name. kind_only place (RawExprKind-F.Prev name) (NamedExprKind-F.Prev (position scopes name))
        (expr_made Roots kind_roots part_roots target_layer_roots scopes place (RawExprKind-F.Prev name) (NamedExprKind-F.Prev (position scopes name))
        (what.outs-Prev (position scopes name)))
        (λ fits. and_from (test (position scopes name)) true (variable_only name fits.0) refl);
    one = λ place op a is. kind_only place (RawExprKind-F.One op a) (NamedExprKind-F.One op (named_expr scopes a))
        (expr_made Roots kind_roots part_roots target_layer_roots scopes place (RawExprKind-F.One op a) (NamedExprKind-F.One op (named_expr scopes a))
        (what.outs-One op (named_expr scopes a))) is;
    two = λ place op a b is_a is_b. kind_only place (RawExprKind-F.Two op a b) (NamedExprKind-F.Two op (named_expr scopes a) (named_expr scopes b))
        (expr_made Roots kind_roots part_roots target_layer_roots scopes place (RawExprKind-F.Two op a b)
        (NamedExprKind-F.Two op (named_expr scopes a) (named_expr scopes b)) (what.outs-Two op (named_expr scopes a) (named_expr scopes b)))
        (λ fits. all_append test (roots_in (named_expr scopes a)) (roots_in (named_expr scopes b))
        (is_a (fits_first there (expr_marks a) (expr_marks b) fits)) (is_b (fits_behind there (expr_marks a) (expr_marks b) (still_expr a) fits)));
    cast = λ place s a is. kind_only place (RawExprKind-F.Cast s a) (NamedExprKind-F.Cast s (named_expr scopes a))
        (expr_made Roots kind_roots part_roots target_layer_roots scopes place (RawExprKind-F.Cast s a) (NamedExprKind-F.Cast s (named_expr scopes a))
        (what.outs-Cast s (named_expr scopes a))) is;
    call = λ place f inputs all. kind_only place (RawExprKind-F.Call f inputs)
        (NamedExprKind-F.Call f.place (position scopes f) (map (named_expr scopes) inputs))
        (expr_made Roots kind_roots part_roots target_layer_roots scopes place (RawExprKind-F.Call f inputs)
        (NamedExprKind-F.Call f.place (position scopes f) (map (named_expr scopes) inputs))
        (what.outs-Call f.place (position scopes f) (map (named_expr scopes) inputs)))
        (λ fits. joined_only expr_marks roots_in (named_expr scopes) inputs still_expr all fits.1);
    target = target_case;
  }

  pub expr_only : (e : RawExpr) → Fits there (expr_marks e) → list_all test (roots_in (named_expr scopes e)) ≡ true
  expr_only = induct ExprOnly TargetOnly cases

  pub target_only : (target : RawTarget) (wanted : Wanted) → IsRead wanted → Fits there (target_marks target wanted)
      → list_all test (roots_in_target (named_target scopes target)) ≡ true
  target_only = induct_target ExprOnly TargetOnly cases

  pub optional_only : (value : Option RawExpr) → Fits there (optional expr_marks value)
      → list_all test (optional_roots (option_map (named_expr scopes) value)) ≡ true
  optional_only (Some e) fits = expr_only e fits
  optional_only None fits = refl

  pub taker_only : (target : Option RawPath) → Fits there (optional path_marks target) →
      list_all test (taker_roots (option_map (named_path scopes) target))
      ≡ true
  taker_only (Some path) fits = and_from (test (position scopes path.root)) true (variable_only path.root fits.0) refl
  taker_only None fits = refl

  paths_only : (paths : List RawPath) → Fits there (joined (map path_marks paths))
      → list_all test (joined (map roots_in_path (map (named_path scopes) paths))) ≡ true
  paths_only [] fits = refl
  paths_only (path ∷ paths) fits =
      and_from (test (position scopes path.root)) (list_all test (joined (map roots_in_path (map (named_path scopes) paths))))
      (variable_only path.root fits.0)
      (paths_only paths fits.1)

  pub arguments_only : (inputs : List RawExpr) (outputs : List RawPath) → Fits there (argument_marks inputs outputs) →
      list_all test (argument_roots (map (named_expr scopes) inputs) (map (named_path scopes) outputs)) ≡ true
  arguments_only inputs outputs fits =
      all_append test (joined (map roots_in (map (named_expr scopes) inputs))) (joined (map roots_in_path (map (named_path scopes) outputs)))
      (joined_only expr_marks roots_in (named_expr scopes) inputs still_expr (λ k d within. expr_only _)
      (fits_first there (joined (map expr_marks inputs)) (joined (map path_marks outputs)) fits))
      (paths_only outputs (fits_behind there (joined (map expr_marks inputs)) (joined (map path_marks outputs)) (still_exprs inputs) fits))
