-- Uses leave the open scopes as they are, and scopes of their own the scopes around them.
use Rattle.std.proofs.Common.{◌≡◌, List, [], ◌∷◌, ◌++◌, map, refl, ap, subst, ◌∙◌}
use Rattle.std.specs.Prelude.{All, Option, Some, None}
use Rattle.std.proofs.lemmas.List.Elements.{All-head, All-tail}
use Rattle.bl_tree.specs.Reduce.{joined}
use Rattle.bl_parse_tree.specs.declared.expr.RawExpr.{RawExpr, fold-roll-RawExpr}
use Rattle.bl_parse_tree.specs.declared.expr.RawExprKind.{RawExprKind, fold-roll-RawExprKind}
use Rattle.bl_parse_tree.specs.declared.expr.RawExprKind.TheOpen.{RawPart-F}
use Rattle.bl_parse_tree.specs.declared.expr.RawPart.{RawPart, fold_out-RawPart, out-RawPart}
use Rattle.bl_parse_tree.specs.declared.expr.RawTarget.{RawTarget, fold-roll-RawTarget}
use Rattle.bl_parse_tree.specs.declared.name.Name.{Name}
use Rattle.bl_parse_tree.specs.declared.stmt.RawPath.{RawPath}
use Rattle.bl_parse_tree.specs.declared.types.RawLength.{RawLength}
use Rattle.bl_parse_tree.specs.declared.types.RawLength.TheVariants as raw_length
use Rattle.bl_parse_tree.specs.declared.types.RawType.{RawType, fold-roll-RawType, ind-RawType, map-RawType, roll-RawType}
use Rattle.bl_parse_tree.specs.declared.types.RawType.TheOpen.{RawType-F}
use Rattle.bl_names_scopes.specs.declared.kind.Wanted.{Wanted}
use Rattle.bl_names_scopes.specs.declared.kind.Wanted.TheVariants as wanted
use Rattle.bl_names_scopes.specs.Marks.{Marks, argument_marks, expr_layer_marks, expr_marks, kind_marks, length_marks, marks_of_part, optional, part_marks}
use Rattle.bl_names_scopes.specs.Marks.{path_marks, target_layer_marks, target_marks, type_marks, uses}
use Rattle.bl_names_scopes.specs.Scopes.{Scopes, after, enter}
use Rattle.bl_names.proofs.RawExprInduction.{Cases, OfIndex, induct, induct_target}

pub after-append : (scopes : Scopes) (first second : Marks) → after scopes (first ++ second) ≡ after (after scopes first) second
after-append scopes [] second = refl
after-append scopes (mark ∷ first) second = after-append (enter scopes mark) first second

-- marks that leave the open scopes as they are
abbrev pub Still : Marks → Type 0
Still marks = (scopes : Scopes) → after scopes marks ≡ scopes

pub still_nil : Still []
still_nil scopes = refl

pub still_use : (name : Name) (wanted : Wanted) → Still (uses name wanted ∷ [])
still_use name wanted scopes = refl

pub still_append : (first second : Marks) → Still first → Still second → Still (first ++ second)
still_append first second one two scopes = after-append scopes first second ∙ ap (λ s. after s second) (one scopes) ∙ two scopes

pub still_all : {X : Type 0} (marks : X → Marks) (xs : List X) → All (λ x. Still (marks x)) xs → Still (joined (map marks xs))
still_all marks [] all = still_nil
still_all marks (x ∷ xs) all =
    still_append (marks x) (joined (map marks xs)) (All-head (λ x. Still (marks x)) x xs all) (still_all marks xs (All-tail (λ x. Still (marks x)) x xs all))

pub still_optional : {X : Type 0} (marks : X → Marks) (x : Option X) → ((x : X) → Still (marks x)) → Still (optional marks x)
still_optional marks (Some x) each = each x
still_optional marks None each = still_nil

-- ---- types

pub still_length : (n : RawLength) → Still (length_marks n)
still_length (raw_length.Number n) = still_nil
still_length (raw_length.Constant name) = still_use name wanted.Length

abbrev StillType : RawType → Type 0
StillType ty = Still (type_marks ty)

still_level : (level : RawType-F ((ty : RawType) × StillType ty))
    → StillType (roll-RawType (map-RawType ((ty : RawType) × StillType ty) RawType (λ e. e.0) level))
still_level (RawType-F.Scalar s) = rw fold-roll-RawType still_nil
still_level (RawType-F.Struct name) = rw fold-roll-RawType (still_use name wanted.Type)
still_level (RawType-F.Array n element) = rw fold-roll-RawType (still_append (length_marks n) (type_marks element.0) (still_length n) element.1)

pub still_type : (ty : RawType) → Still (type_marks ty)
still_type = ind-RawType StillType (λ x y is. subst (λ level. StillType (roll-RawType level)) is (still_level y))

-- ---- expressions

abbrev StillExpr : RawExpr → Type 0
StillExpr e = Still (expr_marks e)

abbrev StillTarget : RawTarget → Type 0
StillTarget target = (wanted : Wanted) → Still (target_marks target wanted)

still_part : (part : RawPart) (layer : RawPart-F RawExprKind RawPart RawExpr RawTarget) → out-RawPart part ≡ layer → OfIndex StillExpr layer
    → Still (marks_of_part part)
still_part part (RawPart-F.Field name) is of =
    rw (fold_out-RawPart Marks Marks Marks (Wanted → Marks) kind_marks part_marks expr_layer_marks target_layer_marks part, is) still_nil
still_part part (RawPart-F.Index e) is of =
    rw (fold_out-RawPart Marks Marks Marks (Wanted → Marks) kind_marks part_marks expr_layer_marks target_layer_marks part, is) of

still_cases : Cases StillExpr StillTarget
still_cases = record {
  number = λ place minus n. rw (fold-roll-RawExpr, fold-roll-RawExprKind) still_nil;
  truth = λ place b. rw (fold-roll-RawExpr, fold-roll-RawExprKind) still_nil;
  read = λ place target still. rw (fold-roll-RawExpr, fold-roll-RawExprKind) (still wanted.Value);
  prev = λ place name. rw (fold-roll-RawExpr, fold-roll-RawExprKind) (still_use name wanted.Variable);
  one = λ place op a still. rw (fold-roll-RawExpr, fold-roll-RawExprKind) still;
  two = λ place op a b one two. rw (fold-roll-RawExpr, fold-roll-RawExprKind) (still_append (expr_marks a) (expr_marks b) one two);
  cast = λ place s a still. rw (fold-roll-RawExpr, fold-roll-RawExprKind) still;
  call = λ place f inputs all. rw (fold-roll-RawExpr, fold-roll-RawExprKind) (still_all expr_marks inputs all);
  target = λ place root parts all wanted. rw fold-roll-RawTarget (still_all marks_of_part parts (λ k d within. still_part _ _ refl (all k d within)));
}

pub still_expr : (e : RawExpr) → Still (expr_marks e)
still_expr = induct StillExpr StillTarget still_cases

pub still_target : (target : RawTarget) (wanted : Wanted) → Still (target_marks target wanted)
still_target = induct_target StillExpr StillTarget still_cases

pub still_exprs : (es : List RawExpr) → Still (joined (map expr_marks es))
still_exprs [] = still_nil
still_exprs (e ∷ es) = still_append (expr_marks e) (joined (map expr_marks es)) (still_expr e) (still_exprs es)

pub still_paths : (paths : List RawPath) → Still (joined (map path_marks paths))
still_paths [] = still_nil
still_paths (path ∷ paths) = still_append (path_marks path) (joined (map path_marks paths)) (still_use path.root wanted.Variable) (still_paths paths)

pub still_arguments : (inputs : List RawExpr) (outputs : List RawPath) → Still (argument_marks inputs outputs)
still_arguments inputs outputs = still_append (joined (map expr_marks inputs)) (joined (map path_marks outputs)) (still_exprs inputs) (still_paths outputs)

pub still_value : (ty : Option RawType) (value : Option RawExpr) → Still (optional type_marks ty ++ optional expr_marks value)
still_value ty value =
    still_append (optional type_marks ty) (optional expr_marks value) (still_optional type_marks ty still_type) (still_optional expr_marks value still_expr)
