-- Forms with places mapped: where a type is wanted of them, and as operands.
use Rattle.std.proofs.Common.{◌≡◌, List, [], refl, ap, ap₂, sym, ◌∙◌}
use Rattle.std.specs.Prelude.{Option, Some, None, if◌then◌else◌, option_and_then, option_map}
use Rattle.bl_tree.specs.declared.place.Place.{Place}
use Rattle.bl_tree.specs.declared.rule.Failure.{Failure}
use Rattle.bl_tree.specs.declared.scalar.Op.{Op}
use Rattle.bl_tree.specs.declared.scalar.Scalar.{Scalar as ScalarType}
use Rattle.bl_tree.specs.declared.tree.Expr.{Expr, out-Expr}
use Rattle.bl_tree.specs.declared.tree.Ty.{Ty}
use Rattle.bl_tree.specs.Scalar.{is_whole}
use Rattle.bl_tree.specs.Types.{same_type, scalar, scalar_in}
use Rattle.bl_tree.specs.Typing.{cast_type, one_type}
use Rattle.bl_tree_laws_places.specs.Placed.{placed_expr}
use Rattle.bl_types.specs.declared.form.Form.{Form}
use Rattle.bl_types.specs.declared.form.Form.TheVariants.{Failing, Open, Of}
use Rattle.bl_types.specs.Expressions.{Formed, Judged, after_failures, beside, beside_none, cast, cast_formed, cast_made, cast_settled, closed_form, fails_type}
use Rattle.bl_types.specs.Expressions.{fitting, formed_as, has_type, in_context, of_settled, one_formed, open_two, operands_made, same_or_unfit, settled_two}
use Rattle.bl_types.specs.Expressions.{two_formed, two_of, type_of_two, unwanted, wanted_as}
use Rattle.bl_types.specs.Settled.{Settled, behind, given, int32, is_logical, keeps_one_open, keeps_two_open, kept, one, settled, settled_if, two, unfit}
use Rattle.bl_types_laws_places.specs.Agree.{placed_failures}
use Rattle.bl_types_laws_places.specs.Judgements.{placed_form, placed_formed, placed_judged, placed_settled}
use Rattle.bl_types_laws_places.proofs.Settling.{behind_placed, choice_placed, given_placed, settled_if_placed, settled_placed}
use Rattle.bl_types_laws_places.proofs.Trees.{both_placed, cast_placed, chosen, one_placed, place_placed, two_placed}

-- what is formed and what fails, put together
abbrev pub formed_of : Form → List Failure → Formed
formed_of form failures = record { form = form; failures = failures }

module _ (f : Place → Place) where
  -- ---- where a type is wanted

  same_or_unfit_placed : (wanted : Ty) (at : Place) (ty : Ty) (e : Expr) →
      same_or_unfit wanted (f at) ty (placed_expr f e) ≡ placed_settled f (same_or_unfit wanted at ty e)
  same_or_unfit_placed wanted at ty e =
      choice_placed f (same_type wanted ty) (kept e) (unfit at) (kept (placed_expr f e)) (unfit (f at)) refl refl

  wanted_placed : (wanted : Ty) (at : Place) (form : Form) →
      wanted_as wanted (f at) (placed_form f form) ≡ placed_settled f (wanted_as wanted at form)
  wanted_placed wanted at Failing = refl
  wanted_placed wanted at (Open e) = given_placed f wanted e
  wanted_placed wanted at (Of ty e) = same_or_unfit_placed wanted at ty e

  unwanted_placed : (form : Form) → unwanted (placed_form f form) ≡ placed_settled f (unwanted form)
  unwanted_placed Failing = refl
  unwanted_placed (Open e) = settled_placed f int32 e
  unwanted_placed (Of ty e) = refl

  fitting_placed : (wanted : Option Ty) (at : Place) (form : Form) →
      fitting wanted (f at) (placed_form f form) ≡ placed_settled f (fitting wanted at form)
  fitting_placed (Some wanted) at form = wanted_placed wanted at form
  fitting_placed None at form = unwanted_placed form

  pub context_placed : (wanted : Option Ty) (judged : Judged) →
      in_context wanted (placed_judged f judged) ≡ placed_settled f (in_context wanted judged)
  context_placed wanted judged =
      ap (behind (placed_failures f judged.failures)) (fitting_placed wanted judged.place judged.form)
      ∙ behind_placed f judged.failures (fitting wanted judged.place judged.form)

  of_settled_placed : (s : ScalarType) (e : Option Expr) → of_settled s (option_map (placed_expr f) e) ≡ placed_form f (of_settled s e)
  of_settled_placed s (Some e) = refl
  of_settled_placed s None = refl

  pub closed_placed : (form : Form) → closed_form (placed_form f form) ≡ placed_formed f (closed_form form)
  closed_placed Failing = refl
  closed_placed (Open e) =
      ap (λ (s : Settled). formed_of (of_settled int32 s.made) s.failures) (settled_placed f int32 e)
      ∙ ap (λ form. formed_of form (placed_failures f (settled int32 e).failures)) (of_settled_placed int32 (settled int32 e).made)
  closed_placed (Of ty e) = refl

  -- ---- what is formed

  pub after_placed : (earlier : List Failure) (formed : Formed) →
      after_failures (placed_failures f earlier) (placed_formed f formed) ≡ placed_formed f (after_failures earlier formed)
  after_placed earlier formed = ap (formed_of (placed_form f formed.form)) (both_placed f earlier formed.failures)

  formed_as_placed : (ty : Option Ty) (at : Place) (e e' : Expr) → e' ≡ placed_expr f e → formed_as ty (f at) e' ≡ placed_formed f (formed_as ty at e)
  formed_as_placed (Some ty) at e e' is = ap (has_type ty) is
  formed_as_placed None at e e' is = refl

  pub one_formed_placed : (at : Place) (op : Op) (a : Form) → one_formed (f at) op (placed_form f a) ≡ placed_formed f (one_formed at op a)
  one_formed_placed at op Failing = refl
  one_formed_placed at op (Open a) =
      ap₂ (λ (x : Expr) (y : Place). if keeps_one_open op then formed_of (Open x) [] else fails_type y) (sym (one_placed f at op a)) (place_placed f a)
      ∙ chosen (placed_formed f) (keeps_one_open op) (formed_of (Open (one at op a)) []) (fails_type (out-Expr a).place)
  one_formed_placed at op (Of ty a) =
      formed_as_placed (option_and_then (one_type op) (scalar_in ty)) at (one at op a) (one (f at) op (placed_expr f a)) (sym (one_placed f at op a))

  operands_placed : (at : Place) (op : Op) (ty : Option Ty) (a b : Option Expr) →
      operands_made (f at) op ty (option_map (placed_expr f) a) (option_map (placed_expr f) b) ≡ placed_formed f (operands_made at op ty a b)
  operands_placed at op ty (Some a) (Some b) =
      formed_as_placed ty at (two at op a b) (two (f at) op (placed_expr f a) (placed_expr f b)) (sym (two_placed f at op a b))
  operands_placed at op ty (Some a) None = refl
  operands_placed at op ty None b = refl

  two_of_placed : (at : Place) (op : Op) (ty : Option Ty) (a b a' b' : Settled) → a' ≡ placed_settled f a → b' ≡ placed_settled f b →
      two_of (f at) op ty a' b' ≡ placed_formed f (two_of at op ty a b)
  two_of_placed at op ty a b a' b' h k =
      ap₂ (two_of (f at) op ty) h k
      ∙ ap (λ x. after_failures (placed_failures f a.failures) (after_failures (placed_failures f b.failures) x))
      (operands_placed at op ty a.made b.made)
      ∙ ap (after_failures (placed_failures f a.failures)) (after_placed b.failures (operands_made at op ty a.made b.made))
      ∙ after_placed a.failures (after_failures b.failures (operands_made at op ty a.made b.made))

  beside_placed : (op : Op) (ty : Ty) (e : Expr) → beside op ty (placed_expr f e) ≡ placed_settled f (beside op ty e)
  beside_placed op ty e =
      choice_placed f (is_logical op) (unfit (out-Expr e).place) (given ty e) (unfit (out-Expr (placed_expr f e)).place) (given ty (placed_expr f e))
      (ap unfit (place_placed f e)) (given_placed f ty e)

  settled_two_placed : (at : Place) (op : Op) (a b : Expr) →
      settled_two (f at) op (placed_expr f a) (placed_expr f b) ≡ placed_formed f (settled_two at op a b)
  settled_two_placed at op a b =
      two_of_placed at op (type_of_two op (scalar int32) (scalar int32)) (beside op (scalar int32) a) (beside op (scalar int32) b)
      (beside op (scalar int32) (placed_expr f a)) (beside op (scalar int32) (placed_expr f b)) (beside_placed op (scalar int32) a)
      (beside_placed op (scalar int32) b)

  open_two_placed : (at : Place) (op : Op) (a b : Expr) →
      open_two (f at) op (placed_expr f a) (placed_expr f b) ≡ placed_formed f (open_two at op a b)
  open_two_placed at op a b =
      ap₂ (λ (x : Expr) (y : Formed). if keeps_two_open op then formed_of (Open x) [] else y) (sym (two_placed f at op a b)) (settled_two_placed at op a b)
      ∙ chosen (placed_formed f) (keeps_two_open op) (formed_of (Open (two at op a b)) []) (settled_two at op a b)

  beside_none_placed : (op : Op) (form : Form) → beside_none op (placed_form f form) ≡ placed_formed f (beside_none op form)
  beside_none_placed op Failing = refl
  beside_none_placed op (Open e) = ap (λ (s : Settled). formed_of Failing s.failures) (beside_placed op (scalar int32) e)
  beside_none_placed op (Of ty e) = refl

  pub two_formed_placed : (at : Place) (op : Op) (a b : Form) →
      two_formed (f at) op (placed_form f a) (placed_form f b) ≡ placed_formed f (two_formed at op a b)
  two_formed_placed at op Failing b = beside_none_placed op b
  two_formed_placed at op (Open a) Failing = beside_none_placed op (Open a)
  two_formed_placed at op (Open a) (Open b) = open_two_placed at op a b
  two_formed_placed at op (Open a) (Of ty b) =
      two_of_placed at op (type_of_two op ty ty) (beside op ty a) (kept b) (beside op ty (placed_expr f a)) (kept (placed_expr f b))
      (beside_placed op ty a) refl
  two_formed_placed at op (Of ty a) Failing = refl
  two_formed_placed at op (Of ty a) (Open b) =
      two_of_placed at op (type_of_two op ty ty) (kept a) (beside op ty b) (kept (placed_expr f a)) (beside op ty (placed_expr f b)) refl
      (beside_placed op ty b)
  two_formed_placed at op (Of ty a) (Of other b) =
      two_of_placed at op (type_of_two op ty other) (kept a) (kept b) (kept (placed_expr f a)) (kept (placed_expr f b)) refl refl

  cast_made_placed : (at : Place) (target : ScalarType) (a : Option Expr) →
      cast_made (f at) target (option_map (placed_expr f) a) ≡ placed_form f (cast_made at target a)
  cast_made_placed at target (Some a) = ap (Of (scalar target)) (sym (cast_placed f at target a))
  cast_made_placed at target None = refl

  pub cast_formed_placed : (at : Place) (target : ScalarType) (a : Form) →
      cast_formed (f at) target (placed_form f a) ≡ placed_formed f (cast_formed at target a)
  cast_formed_placed at target Failing = refl
  cast_formed_placed at target (Open a) =
      ap (cast_settled (f at) target) (settled_if_placed f (is_whole target) target a)
      ∙ ap (λ form. formed_of form (placed_failures f (settled_if (is_whole target) target a).failures))
      (cast_made_placed at target (settled_if (is_whole target) target a).made)
  cast_formed_placed at target (Of ty a) =
      formed_as_placed (option_and_then (cast_type target) (scalar_in ty)) at (cast at target a) (cast (f at) target (placed_expr f a))
      (sym (cast_placed f at target a))

  -- ---- forms behind what fails in their operands

  pub one_judged : (at : Place) (op : Op) (a a' : Judged) → a' ≡ placed_judged f a →
      after_failures a'.failures (one_formed (f at) op a'.form) ≡ placed_formed f (after_failures a.failures (one_formed at op a.form))
  one_judged at op a a' h =
      ap (λ (j : Judged). after_failures j.failures (one_formed (f at) op j.form)) h
      ∙ ap (after_failures (placed_failures f a.failures)) (one_formed_placed at op a.form)
      ∙ after_placed a.failures (one_formed at op a.form)

  pub two_judged : (at : Place) (op : Op) (a b a' b' : Judged) → a' ≡ placed_judged f a → b' ≡ placed_judged f b →
      after_failures a'.failures (after_failures b'.failures (two_formed (f at) op a'.form b'.form))
      ≡ placed_formed f (after_failures a.failures (after_failures b.failures (two_formed at op a.form b.form)))
  two_judged at op a b a' b' h k =
      ap₂ (λ (i j : Judged). after_failures i.failures (after_failures j.failures (two_formed (f at) op i.form j.form))) h k
      ∙ ap (λ x. after_failures (placed_failures f a.failures) (after_failures (placed_failures f b.failures) x))
      (two_formed_placed at op a.form b.form)
      ∙ ap (after_failures (placed_failures f a.failures)) (after_placed b.failures (two_formed at op a.form b.form))
      ∙ after_placed a.failures (after_failures b.failures (two_formed at op a.form b.form))

  pub cast_judged : (at : Place) (target : ScalarType) (a a' : Judged) → a' ≡ placed_judged f a →
      after_failures a'.failures (cast_formed (f at) target a'.form) ≡ placed_formed f (after_failures a.failures (cast_formed at target a.form))
  cast_judged at target a a' h =
      ap (λ (j : Judged). after_failures j.failures (cast_formed (f at) target j.form)) h
      ∙ ap (after_failures (placed_failures f a.failures)) (cast_formed_placed at target a.form)
      ∙ after_placed a.failures (cast_formed at target a.form)
