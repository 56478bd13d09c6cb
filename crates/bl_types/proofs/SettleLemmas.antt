-- Open expressions by their parts.
use Rattle.std.proofs.Common.{◌≡◌, ◌++◌, Option, sym, ap, ◌∙◌, append_assoc}
use Rattle.bl_tree.specs.declared.place.Place.{Place}
use Rattle.bl_tree.specs.declared.scalar.Op.{Op}
use Rattle.bl_tree.specs.declared.scalar.Scalar.{Scalar as ScalarType}
use Rattle.bl_tree.specs.declared.tree.Expr.{Expr, fold_out-Expr, out-Expr}
use Rattle.bl_tree.specs.declared.tree.ExprKind.{ExprKind, fold-ExprKind, fold_out-ExprKind, map-ExprKind, out-ExprKind}
use Rattle.bl_tree.specs.declared.tree.ExprKind.TheOpen.{ExprKind-F}
use Rattle.bl_tree.specs.declared.tree.ExprKind.TheVariants.{One, Two, outs-One, outs-Two}
use Rattle.bl_tree.specs.declared.tree.Part.{Part, fold-Part}
use Rattle.bl_tree.specs.declared.tree.Path.{Path, fold-Path}
use Rattle.bl_types.specs.Settled.{Settled, one_made, settled, settled_kind, settled_layer, settled_part, settled_path, two_made}

abbrev settled_of_kind : ScalarType → ExprKind → Place → Settled
settled_of_kind s = fold-ExprKind (Place → Settled) (Unit {0}) Settled (Unit {0}) (settled_kind s) settled_part settled_layer settled_path

abbrev settled_of_part : ScalarType → Part → Unit {0}
settled_of_part s = fold-Part (Place → Settled) (Unit {0}) Settled (Unit {0}) (settled_kind s) settled_part settled_layer settled_path

abbrev settled_of_path : ScalarType → Path → Unit {0}
settled_of_path s = fold-Path (Place → Settled) (Unit {0}) Settled (Unit {0}) (settled_kind s) settled_part settled_layer settled_path

abbrev parts : ScalarType → ExprKind-F ExprKind Part Expr Path → ExprKind-F (Place → Settled) (Unit {0}) Settled (Unit {0})
parts s = map-ExprKind ExprKind Part Expr Path (Place → Settled) (Unit {0}) Settled (Unit {0}) (settled_of_kind s)
    (settled_of_part s) (settled s) (settled_of_path s)

settled_at : (s : ScalarType) (e : Expr) (layer : ExprKind-F ExprKind Part Expr Path) → out-ExprKind (out-Expr e).what ≡ layer →
    settled s e ≡ settled_kind s (parts s layer) (out-Expr e).place
settled_at s e layer is =
    fold_out-Expr (Place → Settled) (Unit {0}) Settled (Unit {0}) (settled_kind s) settled_part settled_layer settled_path e
    ∙ ap (λ f. f (out-Expr e).place) (fold_out-ExprKind (Place → Settled) (Unit {0}) Settled (Unit {0})
    (settled_kind s) settled_part settled_layer settled_path (out-Expr e).what)
    ∙ ap (λ layer. settled_kind s (parts s layer) (out-Expr e).place) is

-- what fails in a form with one operand
pub one_settled : (s : ScalarType) (e : Expr) (op : Op) (a given : Expr) (made : Option Expr) → (out-Expr e).what ≡ One op a →
    given ≡ a → made ≡ (settled s given).made
    → (settled s e).failures ≡ (settled s given).failures ++ (one_made s (out-Expr e).place op made).failures
one_settled s e op a given made is same is_made =
    ap (λ r. r.failures) (settled_at s e (ExprKind-F.One op a) (ap out-ExprKind is ∙ outs-One op a))
    ∙ ap (λ x. (settled s x).failures ++ (one_made s (out-Expr e).place op (settled s x).made).failures) (sym same)
    ∙ ap (λ m. (settled s given).failures ++ (one_made s (out-Expr e).place op m).failures) (sym is_made)

-- what fails in a form with two operands
pub two_settled : (s : ScalarType) (e : Expr) (op : Op) (a b given other : Expr) (made made_other : Option Expr) →
    (out-Expr e).what ≡ Two op a b → given ≡ a → other ≡ b
    → made ≡ (settled s given).made → made_other ≡ (settled s other).made
    → (settled s e).failures ≡ ((settled s given).failures ++ (settled s other).failures) ++ (two_made s (out-Expr e).place op made made_other).failures
two_settled s e op a b given other made made_other is same same_other is_made is_other =
    ap (λ r. r.failures) (settled_at s e (ExprKind-F.Two op a b) (ap out-ExprKind is ∙ outs-Two op a b))
    ∙ (λ i. (settled s (sym same i)).failures ++ ((settled s (sym same_other i)).failures
    ++ (two_made s (out-Expr e).place op (settled s (sym same i)).made (settled s (sym same_other i)).made).failures))
    ∙ (λ i. (settled s given).failures ++ ((settled s other).failures ++ (two_made s (out-Expr e).place op (sym is_made i) (sym is_other i)).failures))
    ∙ sym (append_assoc (settled s given).failures (settled s other).failures (two_made s (out-Expr e).place op made made_other).failures)
