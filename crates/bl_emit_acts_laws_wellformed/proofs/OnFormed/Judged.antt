-- What is judged of the parts of made C texts.
use Rattle.std.proofs.Common.{◌≡◌, ℕ, ℤ, Bool, true, false, not, ◌&&◌, List, [], ◌++◌, map, Option, Some, None, refl, ap, ◌∙◌, subst}
use Rattle.std.specs.Prelude.{is_some}
use Rattle.bl_tree.specs.declared.place.Place.{Place}
use Rattle.bl_tree.specs.declared.text.Text.{Text}
use Rattle.bl_tree.specs.declared.scalar.Op.{Op}
use Rattle.bl_tree.specs.declared.scalar.Scalar.{Scalar}
use Rattle.bl_tree.specs.declared.c.CArg.{CArg, CArg-F, fold-roll-CArg, roll-CArg}
use Rattle.bl_tree.specs.declared.c.CArg.TheVariants as argument
use Rattle.bl_tree.specs.declared.c.CCall.{CCall, fold-roll-CCall}
use Rattle.bl_tree.specs.declared.c.CStep.{CStep, fold-roll-CStep}
use Rattle.bl_tree.specs.declared.c.CPlace.{CPlace, fold-roll-CPlace}
use Rattle.bl_tree.specs.declared.c.CIndex.{fold-roll-CIndex}
use Rattle.bl_tree.specs.declared.c.CExpr.{CExpr, fold-roll-CExpr, roll-CExpr}
use Rattle.bl_tree.specs.declared.c.CExprKind.{CExprKind, CExprKind-F, fold-roll-CExprKind}
use Rattle.bl_tree.specs.declared.c.CExprKind.TheVariants as expression
use Rattle.bl_tree.specs.declared.c.CType.{CType}
use Rattle.bl_tree.specs.declared.c.CType.TheVariants.{Scalar as OfScalar}
use Rattle.bl_tree.specs.Reduce.{joined}
use Rattle.bl_ctext_semantics.specs.Faults.{Clause, Context, Fault, Judged, JudgedArg, JudgedCall, JudgedPlace, Signature, agree, arguments, bool_type}
use Rattle.bl_ctext_semantics.specs.Faults.{changes_nothing, declared_before, fit_args, fit_each, hands_on, if_typed, indexes, indices, is_void, judge_into}
use Rattle.bl_ctext_semantics.specs.Faults.{judge_root, judge_steps, judged_arg, judged_call, judged_expr, judged_place, judged_step, known_result}
use Rattle.bl_ctext_semantics.specs.Faults.{operand_type, result_type, same_type, signature_of, takes, unless, void_as_statement}
use Rattle.bl_emit_acts.specs.Trees.{nowhere, c_call, c_called, c_element, c_index, c_literal, c_not, c_place, c_read, c_step, c_two}
use Rattle.bl_emit_acts_laws_wellformed.specs.Formed.Formed.{ExprIs, PlaceIs, sound, sound_place}
use Rattle.bl_emit_acts_laws_simulation.proofs.Evaluated.{kind}

-- a clause that holds doesn't fail
pub kept : (holds : Bool) (clause : Clause) (place : Place) → holds ≡ true → unless holds clause place ≡ []
kept true clause place h = refl
kept false clause place h = absurd (cc)

-- an argument by value
abbrev pub of_value : Judged → JudgedArg
of_value v = record { address = false; through = false; ty = v.ty; faults = v.faults }

-- an argument by address
abbrev pub of_address : JudgedPlace → JudgedArg
of_address p = record { address = true; through = p.through; ty = p.ty; faults = p.faults }

-- the faults of arguments
abbrev pub faults_of_args : List JudgedArg → List Fault
faults_of_args args = joined (map (λ a. a.faults) args)

module _ (context : Context) where
  -- ---- expressions

  literal-open : (t : Scalar) (n : ℤ) → judged_expr (kind (CExprKind-F.Literal t n)) context ≡ sound (OfScalar t)
  literal-open t n = rw (fold-roll-CExpr, fold-roll-CExprKind) refl

  pub literal-is : (t : Scalar) (n : ℤ) → ExprIs context (OfScalar t) (c_literal t n)
  literal-is t n =
      subst (λ (k : CExprKind). judged_expr (roll-CExpr (record { place = nowhere; what = k })) context ≡ sound (OfScalar t))
      (expression.rolls-Literal t n) (literal-open t n)

  -- what stands at a place, as an expression
  abbrev of_place : JudgedPlace → Judged
  of_place p = record { ty = p.ty; faults = p.faults }

  read-open : (place : CPlace) → judged_expr (kind (CExprKind-F.Read place)) context ≡ of_place (judged_place place context nowhere)
  read-open place = rw (fold-roll-CExpr, fold-roll-CExprKind) refl

  pub read-judged : (place : CPlace) → judged_expr (c_read place) context ≡ of_place (judged_place place context nowhere)
  read-judged place =
      subst (λ (k : CExprKind). judged_expr (roll-CExpr (record { place = nowhere; what = k })) context ≡ of_place (judged_place place context nowhere))
      (expression.rolls-Read place) (read-open place)

  pub read-is : (through : Bool) (ty : CType) (place : CPlace) → PlaceIs context through ty place → ExprIs context ty (c_read place)
  read-is through ty place h = read-judged place ∙ ap of_place (h nowhere)

  -- `!` of what is judged so
  abbrev negated : Judged → Judged
  negated a = record { ty = Some bool_type; faults = a.faults ++ unless (agree a.ty (Some bool_type)) operand_type nowhere }

  not-open : (operand : CExpr) → judged_expr (kind (CExprKind-F.Not operand)) context ≡ negated (judged_expr operand context)
  not-open operand = rw (fold-roll-CExpr, fold-roll-CExprKind) refl

  not-judged : (operand : CExpr) → judged_expr (c_not operand) context ≡ negated (judged_expr operand context)
  not-judged operand =
      subst (λ (k : CExprKind). judged_expr (roll-CExpr (record { place = nowhere; what = k })) context ≡ negated (judged_expr operand context))
      (expression.rolls-Not operand) (not-open operand)

  pub not-is : (operand : CExpr) → ExprIs context bool_type operand → ExprIs context bool_type (c_not operand)
  not-is operand h = not-judged operand ∙ ap negated h

  -- an operator between two that are judged so
  abbrev between : Op → Judged → Judged → Judged
  between op a b = record {
    ty = Some bool_type;
    faults = a.faults ++ (b.faults ++ unless (if_typed a.ty (takes op) && if_typed b.ty (takes op) && agree a.ty b.ty) operand_type nowhere);
  }

  two-open : (op : Op) (left right : CExpr) → judged_expr (kind (CExprKind-F.Two op left right)) context
      ≡ between op (judged_expr left context) (judged_expr right context)
  two-open op left right = rw (fold-roll-CExpr, fold-roll-CExprKind) refl

  two-judged : (op : Op) (left right : CExpr) → judged_expr (c_two op left right) context
      ≡ between op (judged_expr left context) (judged_expr right context)
  two-judged op left right =
      subst (λ (k : CExprKind). judged_expr (roll-CExpr (record { place = nowhere; what = k })) context
      ≡ between op (judged_expr left context) (judged_expr right context))
      (expression.rolls-Two op left right) (two-open op left right)

  between_kept : (t s : Bool) → t ≡ true → s ≡ true → (t && t && s) ≡ true
  between_kept true true h k = refl
  between_kept true false h k = absurd (cc)
  between_kept false s h k = absurd (cc)

  pub two-is : (op : Op) (ty : CType) (left right : CExpr) → takes op ty ≡ true → same_type ty ty ≡ true → ExprIs context ty left →
      ExprIs context ty right → ExprIs context bool_type (c_two op left right)
  two-is op ty left right taken same one other =
      two-judged op left right ∙ (λ i. between op (one i) (other i))
      ∙ ap (λ (faults : List Fault). record { ty = Some bool_type; faults = faults })
      (kept (takes op ty && takes op ty && same_type ty ty) operand_type nowhere (between_kept (takes op ty) (same_type ty ty) taken same))

  -- ---- arguments

  value_arg-open : (e : CExpr) (at : Place) → judged_arg (roll-CArg (CArg-F.Value e)) context at ≡ of_value (judged_expr e context)
  value_arg-open e at = rw fold-roll-CArg refl

  value_arg-judged : (e : CExpr) (at : Place) → judged_arg (argument.Value e) context at ≡ of_value (judged_expr e context)
  value_arg-judged e at = subst (λ (a : CArg). judged_arg a context at ≡ of_value (judged_expr e context)) (argument.rolls-Value e) (value_arg-open e at)

  pub value_arg-is : (ty : CType) (e : CExpr) (at : Place) → ExprIs context ty e → judged_arg (argument.Value e) context at ≡ of_value (sound ty)
  value_arg-is ty e at h = value_arg-judged e at ∙ ap of_value h

  address_arg-open : (place : CPlace) (at : Place) → judged_arg (roll-CArg (CArg-F.Address place)) context at ≡ of_address (judged_place place context at)
  address_arg-open place at = rw fold-roll-CArg refl

  address_arg-judged : (place : CPlace) (at : Place) → judged_arg (argument.Address place) context at ≡ of_address (judged_place place context at)
  address_arg-judged place at =
      subst (λ (a : CArg). judged_arg a context at ≡ of_address (judged_place place context at)) (argument.rolls-Address place) (address_arg-open place at)

  pub address_arg-is : (through : Bool) (ty : CType) (place : CPlace) (at : Place) → PlaceIs context through ty place →
      judged_arg (argument.Address place) context at ≡ of_address (sound_place through ty)
  address_arg-is through ty place at h = address_arg-judged place at ∙ ap of_address (h at)

  -- ---- calls

  -- the arguments of a call at a place
  abbrev pub judged_args : List CArg → Place → List JudgedArg
  judged_args args at = map (λ judge. judge context at) (map judged_arg args)

  -- a call of what has this signature
  abbrev pub call_of : Option Signature → List JudgedArg → Place → JudgedCall
  call_of signature args at = record {
    signature = signature;
    faults = unless (is_some signature) declared_before at
        ++ (faults_of_args args
        ++ (unless (fit_args signature args) arguments at
        ++ unless (not (context.is_read_only && hands_on signature args)) changes_nothing at));
  }

  pub call-judged : (name : Text) (args : List CArg) (at : Place) → judged_call (c_call name args) context at
      ≡ call_of (signature_of context name) (judged_args args at) at
  call-judged name args at = rw fold-roll-CCall refl

  -- the value of a call that is judged so
  abbrev of_call : JudgedCall → Judged
  of_call c = record {
    ty = result_type (known_result c.signature);
    faults = c.faults ++ unless (not (is_void (known_result c.signature))) void_as_statement nowhere;
  }

  called-open : (call : CCall) → judged_expr (kind (CExprKind-F.Call call)) context ≡ of_call (judged_call call context nowhere)
  called-open call = rw (fold-roll-CExpr, fold-roll-CExprKind) refl

  called-judged : (call : CCall) → judged_expr (roll-CExpr (record { place = nowhere; what = expression.Call call })) context
      ≡ of_call (judged_call call context nowhere)
  called-judged call =
      subst (λ (k : CExprKind). judged_expr (roll-CExpr (record { place = nowhere; what = k })) context ≡ of_call (judged_call call context nowhere))
      (expression.rolls-Call call) (called-open call)

  never : (is_read_only : Bool) → not (is_read_only && false) ≡ true
  never true = refl
  never false = refl

  -- what fails where a function with a result is called
  value_faults : (params fits : List Fault) (is_read_only : Bool) (at : Place) → params ≡ [] → fits ≡ [] →
      ([] ++ (params ++ (fits ++ unless (not (is_read_only && false)) changes_nothing at))) ++ [] ≡ []
  value_faults params fits is_read_only at none suit =
      (λ i. ([] ++ (none i ++ (suit i ++ unless (never is_read_only i) changes_nothing at))) ++ [])

  call_sound : (widens : Bool) (s : Signature) (t : Scalar) (args : List JudgedArg) → s.result ≡ Some t → fit_each s.widens s.params args ≡ true →
      faults_of_args args ≡ [] → of_call (call_of (Some s) args nowhere) ≡ sound (OfScalar t)
  call_sound widens s t args gives fit none =
      ap (λ (r : Option Scalar). of_call (call_of (Some (record { widens = s.widens; params = s.params; result = r })) args nowhere)) gives
      ∙ ap (λ (faults : List Fault). record { ty = Some (OfScalar t); faults = faults })
      (value_faults (faults_of_args args) (unless (fit_each s.widens s.params args) arguments nowhere) context.is_read_only nowhere none
      (kept (fit_each s.widens s.params args) arguments nowhere fit))

  -- a call of a function with a result, whose arguments suit its parameters
  pub called-is : (name : Text) (args : List CArg) (s : Signature) (t : Scalar) (judged : List JudgedArg) → signature_of context name ≡ Some s →
      s.result ≡ Some t → judged_args args nowhere ≡ judged → fit_each s.widens s.params judged ≡ true → faults_of_args judged ≡ [] →
      ExprIs context (OfScalar t) (c_called name args)
  called-is name args s t judged known gives are fit none =
      called-judged (c_call name args) ∙ ap of_call (call-judged name args nowhere) ∙ (λ i. of_call (call_of (known i) (are i) nowhere))
      ∙ call_sound s.widens s t judged gives fit none

  -- ---- places

  pub step-judged : (name : Text) (at : Place) (ty : Option CType) → judged_step (c_step name) context at ty ≡ judge_into context name None at ty
  step-judged name at ty = rw fold-roll-CStep refl

  -- an element behind an index that is judged so
  abbrev behind : Text → Bool → ℕ → Judged → Place → Option CType → Judged
  behind name signed n i at ty =
      let m : Judged = judge_into context name (Some n) at ty in
      record { ty = m.ty; faults = (i.faults ++ unless (if_typed i.ty (indexes signed)) indices at) ++ m.faults }

  element-judged : (name : Text) (signed : Bool) (index : CExpr) (n : ℕ) (at : Place) (ty : Option CType) →
      judged_step (c_element name (c_index signed index n)) context at ty ≡ behind name signed n (judged_expr index context) at ty
  element-judged name signed index n at ty = rw (fold-roll-CStep, fold-roll-CIndex) refl

  pub element-is : (name : Text) (signed : Bool) (index : CExpr) (n : ℕ) (at : Place) (ty indexed : CType) (into : Option CType) →
      ExprIs context indexed index → indexes signed indexed ≡ true → judge_into context name (Some n) at into ≡ sound ty →
      judged_step (c_element name (c_index signed index n)) context at into ≡ sound ty
  element-is name signed index n at ty indexed into typed suits led =
      element-judged name signed index n at into
      ∙ ap (λ (i : Judged). behind name signed n i at into) typed
      ∙ (λ j. record { ty = (led j).ty; faults = kept (indexes signed indexed) indices at suits j ++ (led j).faults })

  -- the steps of a place, each into what those before it lead to
  abbrev pub steps_judged : List CStep → Place → Option CType → Judged
  steps_judged steps at ty = judge_steps (map judged_step steps) context at ty

  -- a place that begins so
  abbrev from_root : Bool → Judged → List CStep → Place → JudgedPlace
  from_root through root steps at =
      let last : Judged = steps_judged steps at root.ty in
      record { ty = last.ty; through = through; faults = root.faults ++ last.faults }

  place-judged : (through : Bool) (name : Text) (steps : List CStep) (at : Place) → judged_place (c_place through name steps) context at
      ≡ from_root through (judge_root (context.variables name) through at) steps at
  place-judged through name steps at = rw fold-roll-CPlace refl

  pub place-is : (through : Bool) (name : Text) (steps : List CStep) (first last : CType) →
      ((at : Place) → judge_root (context.variables name) through at ≡ sound first) →
      ((at : Place) → steps_judged steps at (Some first) ≡ sound last) → PlaceIs context through last (c_place through name steps)
  place-is through name steps first last begins ends at =
      place-judged through name steps at ∙ ap (λ (root : Judged). from_root through root steps at) (begins at)
      ∙ ap (λ (last : Judged). record { ty = last.ty; through = through; faults = last.faults }) (ends at)
