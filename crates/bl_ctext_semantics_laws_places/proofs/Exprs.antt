-- What is folded over the parts of an expression with no look at places is the same without the places.
use Rattle.std.proofs.Common.{◌≡◌, Option, Some, None, refl, ap, ap₂, ◌∙◌}
use Rattle.bl_tree.specs.declared.text.Text.{Text}
use Rattle.bl_tree.specs.declared.place.Place.{Place}
use Rattle.bl_tree.specs.declared.c.CArg.{CArg, fold-CArg, fold-roll-CArg}
use Rattle.bl_tree.specs.declared.c.CArg.TheOpen.{CArg-F, CExprKind-F, CCall-F, CExpr-F, CIndex-F, CPlace-F, CStep-F}
use Rattle.bl_tree.specs.declared.c.CCall.{CCall, fold-CCall, fold-roll-CCall}
use Rattle.bl_tree.specs.declared.c.CExpr.{CExpr, fold-CExpr, fold-roll-CExpr}
use Rattle.bl_tree.specs.declared.c.CExprKind.{CExprKind, fold-CExprKind, fold-roll-CExprKind}
use Rattle.bl_tree.specs.declared.c.CIndex.{CIndex, fold-CIndex, fold-roll-CIndex}
use Rattle.bl_tree.specs.declared.c.CPlace.{CPlace, fold-CPlace, fold-roll-CPlace}
use Rattle.bl_tree.specs.declared.c.CStep.{CStep, fold-CStep, fold-roll-CStep, roll-CStep}
use Rattle.bl_ctext_semantics.proofs.Induction.{Optional, ExprCases, induct_expr, induct_place, induct_call}
use Rattle.bl_cparse_syntax_laws.specs.Placeless.{any_place, placeless_call, placeless_expr, placeless_place}
use Rattle.bl_cparse_syntax_laws.specs.inner.Placeless.{placeless_arg, placeless_index, placeless_kind, placeless_step}
use Rattle.bl_ctext_semantics_laws_places.proofs.Lists.{map-after}

module _ (A K C E I P S : Type 0)
    (arg : CArg-F A K C E I P S → A) (kind : CExprKind-F A K C E I P S → K) (call : CCall-F A K C E I P S → C) (expr : CExpr-F A K C E I P S → E)
    (index : CIndex-F A K C E I P S → I) (place : CPlace-F A K C E I P S → P) (step : CStep-F A K C E I P S → S)
    (blind : (p q : Place) (what : K) → expr (record { place = p; what = what }) ≡ expr (record { place = q; what = what })) where
  abbrev of_arg : CArg → A
  of_arg = fold-CArg A K C E I P S arg kind call expr index place step

  abbrev of_kind : CExprKind → K
  of_kind = fold-CExprKind A K C E I P S arg kind call expr index place step

  abbrev of_call : CCall → C
  of_call = fold-CCall A K C E I P S arg kind call expr index place step

  abbrev of_expr : CExpr → E
  of_expr = fold-CExpr A K C E I P S arg kind call expr index place step

  abbrev of_index : CIndex → I
  of_index = fold-CIndex A K C E I P S arg kind call expr index place step

  abbrev of_place : CPlace → P
  of_place = fold-CPlace A K C E I P S arg kind call expr index place step

  abbrev of_step : CStep → S
  of_step = fold-CStep A K C E I P S arg kind call expr index place step

  abbrev ArgSame : CArg → Type 0
  ArgSame x = of_arg (placeless_arg x) ≡ of_arg x

  abbrev KindSame : CExprKind → Type 0
  KindSame x = of_kind (placeless_kind x) ≡ of_kind x

  abbrev CallSame : CCall → Type 0
  CallSame x = of_call (placeless_call x) ≡ of_call x

  abbrev ExprSame : CExpr → Type 0
  ExprSame x = of_expr (placeless_expr x) ≡ of_expr x

  abbrev IndexSame : CIndex → Type 0
  IndexSame x = of_index (placeless_index x) ≡ of_index x

  abbrev PlaceSame : CPlace → Type 0
  PlaceSame x = of_place (placeless_place x) ≡ of_place x

  abbrev StepSame : CStep → Type 0
  StepSame x = of_step (placeless_step x) ≡ of_step x

  step_same : (member : Text) (i : Option CIndex) → Optional IndexSame i → StepSame (roll-CStep (record { member = member; index = i }))
  step_same member None h = simp fold-roll-CStep refl
  step_same member (Some i) h = simp fold-roll-CStep (ap (λ j. step (record { member = member; index = Some j })) h)

  cases : ExprCases ArgSame KindSame CallSame ExprSame IndexSame PlaceSame StepSame
  cases = record {
    value = λ e h. simp fold-roll-CArg (ap (λ x. arg (CArg-F.Value x)) h);
    address = λ p h. simp fold-roll-CArg (ap (λ x. arg (CArg-F.Address x)) h);
    literal = λ t n. simp fold-roll-CExprKind refl;
    read = λ p h. simp fold-roll-CExprKind (ap (λ x. kind (CExprKind-F.Read x)) h);
    call = λ c h. simp fold-roll-CExprKind (ap (λ x. kind (CExprKind-F.Call x)) h);
    negation = λ e h. simp fold-roll-CExprKind (ap (λ x. kind (CExprKind-F.Not x)) h);
    two = λ op a b h k. simp fold-roll-CExprKind (ap₂ (λ x y. kind (CExprKind-F.Two op x y)) h k);
    calling = λ name args h.
        simp fold-roll-CCall (ap (λ xs. call (record { name = name; args = xs })) (map-after of_arg placeless_arg args h));
    expr = λ at what h.
        simp fold-roll-CExpr (ap (λ x. expr (record { place = any_place; what = x })) h ∙ blind any_place at (of_kind what));
    index = λ signed at length h. simp fold-roll-CIndex (ap (λ x. index (record { signed = signed; at = x; length = length })) h);
    place = λ through name steps h.
        simp fold-roll-CPlace
        (ap (λ xs. place (record { through = through; name = name; steps = xs })) (map-after of_step placeless_step steps h));
    step = step_same;
  }

  pub expr_same : (x : CExpr) → of_expr (placeless_expr x) ≡ of_expr x
  expr_same = induct_expr ArgSame KindSame CallSame ExprSame IndexSame PlaceSame StepSame cases

  pub place_same : (x : CPlace) → of_place (placeless_place x) ≡ of_place x
  place_same = induct_place ArgSame KindSame CallSame ExprSame IndexSame PlaceSame StepSame cases

  pub call_same : (x : CCall) → of_call (placeless_call x) ≡ of_call x
  call_same = induct_call ArgSame KindSame CallSame ExprSame IndexSame PlaceSame StepSame cases
