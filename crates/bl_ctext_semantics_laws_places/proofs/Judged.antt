-- How an expression is judged without its places: it fails in the same clauses.
use Rattle.std.proofs.Common.{◌≡◌, ℕ, Bool, true, false, not, ◌&&◌, List, [], ◌∷◌, ◌++◌, map, Option, Some, None, refl, ap}
use Rattle.std.proofs.Common.{ap₂, sym, ◌∙◌}
use Rattle.std.specs.Prelude.{◌==◌, All, is_some, if◌then◌else◌}
use Rattle.std.proofs.lemmas.List.{map-append}
use Rattle.std.proofs.lemmas.List.Elements.{All-head, All-tail}
use Rattle.bl_tree.specs.Reduce.{any_of, joined}
use Rattle.bl_tree.specs.declared.text.Text.{Text}
use Rattle.bl_tree.specs.declared.place.Place.{Place}
use Rattle.bl_tree.specs.declared.scalar.Op.{Op}
use Rattle.bl_tree.specs.declared.c.CArg.{CArg, CArg-F, fold-roll-CArg, roll-CArg}
use Rattle.bl_tree.specs.declared.c.CCall.{CCall, fold-roll-CCall, roll-CCall}
use Rattle.bl_tree.specs.declared.c.CExpr.{CExpr, fold-roll-CExpr}
use Rattle.bl_tree.specs.declared.c.CExprKind.{CExprKind, CExprKind-F, fold-roll-CExprKind, roll-CExprKind}
use Rattle.bl_tree.specs.declared.c.CIndex.{CIndex, fold-roll-CIndex}
use Rattle.bl_tree.specs.declared.c.CMember.{CMember}
use Rattle.bl_tree.specs.declared.c.CPlace.{CPlace, fold-roll-CPlace, roll-CPlace}
use Rattle.bl_tree.specs.declared.c.CStep.{CStep, fold-roll-CStep, roll-CStep}
use Rattle.bl_tree.specs.declared.c.CType.{CType}
use Rattle.bl_ctext_semantics.specs.Faults.{Clause, Context, Fault, Judged, JudgedArg, JudgedCall, JudgedIndex, JudgedPlace, Judges, Signature, StepJudgement}
use Rattle.bl_ctext_semantics.specs.Faults.{Variable, agree, arguments, bool_type, changes_nothing, declared_before, fit_args, fit_each, fits_arg, hands_on}
use Rattle.bl_ctext_semantics.specs.Faults.{if_typed, indexes, indices, is_void, judge_into, judge_length, judge_member, judge_root, judge_steps, judged_arg}
use Rattle.bl_ctext_semantics.specs.Faults.{judged_call, judged_expr, judged_index, judged_place, judged_step, known_result, member_of, operand_type}
use Rattle.bl_ctext_semantics.specs.Faults.{pointer_use, result_type, signature_of, takes, unless, void_as_statement}
use Rattle.bl_ctext_semantics.proofs.Folds.{judged_kind}
use Rattle.bl_ctext_semantics.proofs.Induction.{ExprCases, Optional, induct_call, induct_expr, induct_place}
use Rattle.bl_cparse_syntax_laws.specs.Placeless.{any_place, placeless_call, placeless_expr, placeless_place}
use Rattle.bl_cparse_syntax_laws.specs.inner.Placeless.{placeless_arg, placeless_index, placeless_kind, placeless_step}
use Rattle.bl_cparse_syntax_laws.proofs.Layers.{Args, Kinds, arg_bare, arg_levels, call_levels, expr_levels, index_levels, kind_bare, kind_levels, place_levels}
use Rattle.bl_cparse_syntax_laws.proofs.Layers.{step_levels}
use Rattle.bl_ctext_semantics_laws_places.proofs.Lists.{joined-map, map-twice}

-- ---- faults without their places

abbrev pub bare : Fault → Fault
bare f = record { clause = f.clause; at = any_place }

abbrev pub bared : List Fault → List Fault
bared faults = map bare faults

pub unless_bare : (holds : Bool) (clause : Clause) (at : Place) → unless holds clause any_place ≡ bared (unless holds clause at)
unless_bare true clause at = refl
unless_bare false clause at = refl

-- one list after another
pub both_bare : (xs ys bare_xs bare_ys : List Fault) → bare_xs ≡ bared xs → bare_ys ≡ bared ys → bare_xs ++ bare_ys ≡ bared (xs ++ ys)
both_bare xs ys bare_xs bare_ys h k = ap₂ (λ first rest. first ++ rest) h k ∙ sym (map-append bare xs ys)

pub more_bare : (xs ys bare_ys : List Fault) → bare_ys ≡ bared ys → bared xs ++ bare_ys ≡ bared (xs ++ ys)
more_bare xs ys bare_ys h = both_bare xs ys (bared xs) bare_ys refl h

-- ---- what is judged, without the places of its faults

abbrev pub bare_judged : Judged → Judged
bare_judged j = record { ty = j.ty; faults = bared j.faults }

abbrev pub bare_place : JudgedPlace → JudgedPlace
bare_place p = record { ty = p.ty; through = p.through; faults = bared p.faults }

abbrev pub bare_arg : JudgedArg → JudgedArg
bare_arg a = record { address = a.address; through = a.through; ty = a.ty; faults = bared a.faults }

abbrev pub bare_call : JudgedCall → JudgedCall
bare_call c = record { signature = c.signature; faults = bared c.faults }

abbrev pub bare_index : JudgedIndex → JudgedIndex
bare_index i = record { length = i.length; faults = bared i.faults }

-- ---- one level, where what stands in it is judged

abbrev arg_value : Judged → JudgedArg
arg_value v = record { address = false; through = false; ty = v.ty; faults = v.faults }

abbrev arg_address : JudgedPlace → JudgedArg
arg_address p = record { address = true; through = p.through; ty = p.ty; faults = p.faults }

abbrev read_of : JudgedPlace → Judged
read_of p = record { ty = p.ty; faults = p.faults }

abbrev value_of_call : Place → JudgedCall → Judged
value_of_call at c =
    record { ty = result_type (known_result c.signature); faults = c.faults ++ unless (not (is_void (known_result c.signature))) void_as_statement at }

value_of_call-bare : (at : Place) (c : JudgedCall) → value_of_call any_place (bare_call c) ≡ bare_judged (value_of_call at c)
value_of_call-bare at c =
    ap (λ faults. record { ty = result_type (known_result c.signature); faults = faults })
    (more_bare c.faults _ _ (unless_bare (not (is_void (known_result c.signature))) void_as_statement at))

abbrev negation_of : Place → Judged → Judged
negation_of at a = record { ty = Some bool_type; faults = a.faults ++ unless (agree a.ty (Some bool_type)) operand_type at }

negation_of-bare : (at : Place) (a : Judged) → negation_of any_place (bare_judged a) ≡ bare_judged (negation_of at a)
negation_of-bare at a =
    ap (λ faults. record { ty = Some bool_type; faults = faults }) (more_bare a.faults _ _ (unless_bare (agree a.ty (Some bool_type)) operand_type at))

abbrev takes_both : Op → Judged → Judged → Bool
takes_both op a b = if_typed a.ty (takes op) && if_typed b.ty (takes op) && agree a.ty b.ty

abbrev two_of : Place → Op → Judged → Judged → Judged
two_of at op a b = record { ty = Some bool_type; faults = a.faults ++ (b.faults ++ unless (takes_both op a b) operand_type at) }

two_of-bare : (at : Place) (op : Op) (a b : Judged) → two_of any_place op (bare_judged a) (bare_judged b) ≡ bare_judged (two_of at op a b)
two_of-bare at op a b =
    ap (λ faults. record { ty = Some bool_type; faults = faults })
    (more_bare a.faults _ _ (more_bare b.faults _ _ (unless_bare (takes_both op a b) operand_type at)))

abbrev index_of : Place → Bool → ℕ → Judged → JudgedIndex
index_of at signed length i = record { length = length; faults = i.faults ++ unless (if_typed i.ty (indexes signed)) indices at }

index_of-bare : (at : Place) (signed : Bool) (length : ℕ) (i : Judged) →
    index_of any_place signed length (bare_judged i) ≡ bare_index (index_of at signed length i)
index_of-bare at signed length i =
    ap (λ faults. record { length = length; faults = faults }) (more_bare i.faults _ _ (unless_bare (if_typed i.ty (indexes signed)) indices at))

-- ---- arguments

fit_each-bare : (widens : Bool) (params : List Variable) (args : List JudgedArg) → fit_each widens params (map bare_arg args) ≡ fit_each widens params args
fit_each-bare widens [] [] = refl
fit_each-bare widens [] (a ∷ args) = refl
fit_each-bare widens (p ∷ params) [] = refl
fit_each-bare widens (p ∷ params) (a ∷ args) = ap (λ fit. fits_arg widens p a && fit) (fit_each-bare widens params args)

fit_args-bare : (signature : Option Signature) (args : List JudgedArg) → fit_args signature (map bare_arg args) ≡ fit_args signature args
fit_args-bare None args = refl
fit_args-bare (Some s) args = fit_each-bare s.widens s.params args

hands_on-bare : (signature : Option Signature) (args : List JudgedArg) → hands_on signature (map bare_arg args) ≡ hands_on signature args
hands_on-bare signature args =
    ap (λ handed. is_void (known_result signature) && any_of handed) (map-twice (λ (a : JudgedArg). a.address && a.through) bare_arg args)

faults_of_args : (args : List JudgedArg) →
    joined (map (λ (a : JudgedArg). a.faults) (map bare_arg args)) ≡ bared (joined (map (λ (a : JudgedArg). a.faults) args))
faults_of_args args =
    ap joined (map-twice (λ (a : JudgedArg). a.faults) bare_arg args ∙ sym (map-twice bared (λ (a : JudgedArg). a.faults) args))
    ∙ joined-map bare (map (λ (a : JudgedArg). a.faults) args)

abbrev call_of : Bool → Option Signature → Place → List JudgedArg → JudgedCall
call_of is_read_only signature at args = record {
  signature = signature;
  faults = unless (is_some signature) declared_before at
      ++ (joined (map (λ (a : JudgedArg). a.faults) args)
      ++ (unless (fit_args signature args) arguments at ++ unless (not (is_read_only && hands_on signature args)) changes_nothing at));
}

call_of-bare : (is_read_only : Bool) (signature : Option Signature) (at : Place) (args : List JudgedArg) →
    call_of is_read_only signature any_place (map bare_arg args) ≡ bare_call (call_of is_read_only signature at args)
call_of-bare is_read_only signature at args =
    ap (λ faults. record { signature = signature; faults = faults })
    (both_bare _ _ _ _ (unless_bare (is_some signature) declared_before at)
    (both_bare _ _ _ _ (faults_of_args args)
    (both_bare _ _ _ _ (ap (λ b. unless b arguments any_place) (fit_args-bare signature args) ∙ unless_bare (fit_args signature args) arguments at)
    (ap (λ b. unless (not (is_read_only && b)) changes_nothing any_place) (hands_on-bare signature args)
    ∙ unless_bare (not (is_read_only && hands_on signature args)) changes_nothing at))))

-- ---- steps

judge_length-bare : (ty : CType) (declared used : Option ℕ) (at : Place) →
    judge_length ty declared used any_place ≡ bare_judged (judge_length ty declared used at)
judge_length-bare ty None None at = refl
judge_length-bare ty None (Some k) at = refl
judge_length-bare ty (Some n) None at = refl
judge_length-bare ty (Some n) (Some k) at = ap (λ faults. record { ty = Some ty; faults = faults }) (unless_bare (n == k) indices at)

judge_member-bare : (m : Option CMember) (length : Option ℕ) (at : Place) → judge_member m length any_place ≡ bare_judged (judge_member m length at)
judge_member-bare None length at = refl
judge_member-bare (Some m) length at = judge_length-bare m.ty m.length length at

judge_into-bare : (context : Context) (name : Text) (length : Option ℕ) (ty : Option CType) (at : Place) →
    judge_into context name length any_place ty ≡ bare_judged (judge_into context name length at ty)
judge_into-bare context name length None at = refl
judge_into-bare context name length (Some ty) at = judge_member-bare (member_of context ty name) length at

abbrev step_behind : JudgedIndex → Judged → Judged
step_behind i m = record { ty = m.ty; faults = i.faults ++ m.faults }

step_behind-bare : (i : JudgedIndex) (m : Judged) → step_behind (bare_index i) (bare_judged m) ≡ bare_judged (step_behind i m)
step_behind-bare i m = ap (λ faults. record { ty = m.ty; faults = faults }) (more_bare i.faults m.faults _ refl)

judge_root-bare : (v : Option Variable) (through : Bool) (at : Place) → judge_root v through any_place ≡ bare_judged (judge_root v through at)
judge_root-bare None through at = refl
judge_root-bare (Some v) through at =
    let right : Bool = if v.pointer then through else not through in
    ap (λ faults. record { ty = if right then Some v.ty else None; faults = faults }) (unless_bare right pointer_use at)

-- one step and then others
abbrev then_steps : Judged → (Option CType → Judged) → Judged
then_steps first rest = record { ty = (rest first.ty).ty; faults = first.faults ++ (rest first.ty).faults }

then_steps-bare : (first : Judged) (rest bare_rest : Option CType → Judged) → bare_rest first.ty ≡ bare_judged (rest first.ty) →
    then_steps (bare_judged first) bare_rest ≡ bare_judged (then_steps first rest)
then_steps-bare first rest bare_rest h =
    ap (λ (last : Judged). record { ty = last.ty; faults = bared first.faults ++ last.faults }) h
    ∙ ap (λ faults. record { ty = (rest first.ty).ty; faults = faults }) (more_bare first.faults (rest first.ty).faults _ refl)

abbrev place_of : Bool → Judged → Judged → JudgedPlace
place_of through root last = record { ty = last.ty; through = through; faults = root.faults ++ last.faults }

place_of-bare : (through : Bool) (root last : Judged) → place_of through (bare_judged root) (bare_judged last) ≡ bare_place (place_of through root last)
place_of-bare through root last =
    ap (λ faults. record { ty = last.ty; through = through; faults = faults }) (more_bare root.faults last.faults _ refl)

-- ---- whole expressions

module _ (context : Context) where
  abbrev ArgBare : CArg → Type 0
  ArgBare x = (at : Place) → judged_arg (placeless_arg x) context any_place ≡ bare_arg (judged_arg x context at)

  abbrev KindBare : CExprKind → Type 0
  KindBare x = (at : Place) → judged_kind (placeless_kind x) context any_place ≡ bare_judged (judged_kind x context at)

  abbrev CallBare : CCall → Type 0
  CallBare x = (at : Place) → judged_call (placeless_call x) context any_place ≡ bare_call (judged_call x context at)

  abbrev ExprBare : CExpr → Type 0
  ExprBare x = judged_expr (placeless_expr x) context ≡ bare_judged (judged_expr x context)

  abbrev IndexBare : CIndex → Type 0
  IndexBare x = (at : Place) → judged_index (placeless_index x) context any_place ≡ bare_index (judged_index x context at)

  abbrev PlaceBare : CPlace → Type 0
  PlaceBare x = (at : Place) → judged_place (placeless_place x) context any_place ≡ bare_place (judged_place x context at)

  abbrev StepBare : CStep → Type 0
  StepBare x = (at : Place) (ty : Option CType) → judged_step (placeless_step x) context any_place ty ≡ bare_judged (judged_step x context at ty)

  -- the arguments of a call
  args_bare : (args : List CArg) → All ArgBare args → (at : Place) →
      map (λ (judge : Judges JudgedArg). judge context any_place) (map judged_arg (map placeless_arg args))
      ≡ map bare_arg (map (λ (judge : Judges JudgedArg). judge context at) (map judged_arg args))
  args_bare [] h at = refl
  args_bare (a ∷ args) h at = ap₂ (λ first rest. first ∷ rest) (All-head ArgBare a args h at) (args_bare args (All-tail ArgBare a args h) at)

  -- the steps of a place
  steps_bare : (steps : List CStep) → All StepBare steps → (at : Place) (ty : Option CType) →
      judge_steps (map judged_step (map placeless_step steps)) context any_place ty ≡ bare_judged (judge_steps (map judged_step steps) context at ty)
  steps_bare [] h at ty = refl
  steps_bare (s ∷ steps) h at ty =
      ap (λ first. then_steps first (judge_steps (map judged_step (map placeless_step steps)) context any_place)) (All-head StepBare s steps h at ty)
      ∙ then_steps-bare (judged_step s context at ty) (judge_steps (map judged_step steps) context at)
      (judge_steps (map judged_step (map placeless_step steps)) context any_place)
      (steps_bare steps (All-tail StepBare s steps h) at (judged_step s context at ty).ty)

  -- a place whose variable is judged so
  abbrev along : Bool → List StepJudgement → Place → Judged → JudgedPlace
  along through steps at root = place_of through root (judge_steps steps context at root.ty)

  along-bare : (through : Bool) (steps : List CStep) → All StepBare steps → (at : Place) (root : Judged) →
      along through (map judged_step (map placeless_step steps)) any_place (bare_judged root) ≡ bare_place (along through (map judged_step steps) at root)
  along-bare through steps h at root =
      ap (λ last. place_of through (bare_judged root) last) (steps_bare steps h at root.ty)
      ∙ place_of-bare through root (judge_steps (map judged_step steps) context at root.ty)

  -- a step with an index
  abbrev indexed : Text → Place → Option CType → JudgedIndex → Judged
  indexed member at ty i = step_behind i (judge_into context member (Some i.length) at ty)

  indexed-bare : (member : Text) (at : Place) (ty : Option CType) (i : JudgedIndex) →
      indexed member any_place ty (bare_index i) ≡ bare_judged (indexed member at ty i)
  indexed-bare member at ty i =
      ap (λ m. step_behind (bare_index i) m) (judge_into-bare context member (Some i.length) ty at)
      ∙ step_behind-bare i (judge_into context member (Some i.length) at ty)

  step_bare : (member : Text) (i : Option CIndex) → Optional IndexBare i → StepBare (roll-CStep (record { member = member; index = i }))
  step_bare member None h at ty =
      ap (λ s. judged_step s context any_place ty) (step_levels (record { member = member; index = None })).bare_is
      ∙ rw fold-roll-CStep (judge_into-bare context member None ty at)
  step_bare member (Some i) h at ty =
      ap (λ s. judged_step s context any_place ty) (step_levels (record { member = member; index = Some i })).bare_is
      ∙ rw (fold-roll-CStep, fold-roll-CStep) (ap (λ j. indexed member any_place ty j) (h at) ∙ indexed-bare member at ty (judged_index i context at))

  -- a whole by its level without the places
  arg_from : (level : Args) (a : JudgedArg) → judged_arg (arg_bare level) context any_place ≡ a →
      judged_arg (placeless_arg (roll-CArg level)) context any_place ≡ a
  arg_from level a h = ap (λ x. judged_arg x context any_place) (arg_levels level).bare_is ∙ h

  kind_from : (level : Kinds) (a : Judged) → judged_kind (kind_bare level) context any_place ≡ a →
      judged_kind (placeless_kind (roll-CExprKind level)) context any_place ≡ a
  kind_from level a h = ap (λ x. judged_kind x context any_place) (kind_levels level).bare_is ∙ h

  -- a call and a place by their parts
  call_by : (name : Text) (args : List CArg) (at : Place) →
      judged_call (roll-CCall (record { name = name; args = args })) context at
      ≡ call_of context.is_read_only (signature_of context name) at (map (λ (judge : Judges JudgedArg). judge context at) (map judged_arg args))
  call_by name args at = rw fold-roll-CCall refl

  place_by : (through : Bool) (name : Text) (steps : List CStep) (at : Place) →
      judged_place (roll-CPlace (record { through = through; name = name; steps = steps })) context at
      ≡ along through (map judged_step steps) at (judge_root (context.variables name) through at)
  place_by through name steps at = rw fold-roll-CPlace refl

  cases : ExprCases ArgBare KindBare CallBare ExprBare IndexBare PlaceBare StepBare
  cases = record {
    value = λ e h at. arg_from (CArg-F.Value e) _ (rw (fold-roll-CArg, fold-roll-CArg) (ap arg_value h));
    address = λ p h at. arg_from (CArg-F.Address p) _ (rw (fold-roll-CArg, fold-roll-CArg) (ap arg_address (h at)));
    literal = λ t n at. kind_from (CExprKind-F.Literal t n) _ (rw fold-roll-CExprKind refl);
    read = λ p h at. kind_from (CExprKind-F.Read p) _ (rw (fold-roll-CExprKind, fold-roll-CExprKind) (ap read_of (h at)));
    call = λ c h at.
        kind_from (CExprKind-F.Call c) _
        (rw (fold-roll-CExprKind, fold-roll-CExprKind) (ap (value_of_call any_place) (h at) ∙ value_of_call-bare at (judged_call c context at)));
    negation = λ e h at.
        kind_from (CExprKind-F.Not e) _
        (rw (fold-roll-CExprKind, fold-roll-CExprKind) (ap (negation_of any_place) h ∙ negation_of-bare at (judged_expr e context)));
    two = λ op a b h k at.
        kind_from (CExprKind-F.Two op a b) _
        (rw (fold-roll-CExprKind, fold-roll-CExprKind) (ap₂ (two_of any_place op) h k ∙ two_of-bare at op (judged_expr a context) (judged_expr b context)));
    calling = λ name args h at.
        ap (λ c. judged_call c context any_place) (call_levels (record { name = name; args = args })).bare_is
        ∙ call_by name (map placeless_arg args) any_place
        ∙ (ap (call_of context.is_read_only (signature_of context name) any_place) (args_bare args h at)
        ∙ call_of-bare context.is_read_only (signature_of context name) at
        (map (λ (judge : Judges JudgedArg). judge context at) (map judged_arg args)))
        ∙ ap bare_call (sym (call_by name args at));
    expr = λ at what h.
        ap (λ e. judged_expr e context) (expr_levels (record { place = at; what = what })).bare_is ∙ rw (fold-roll-CExpr, fold-roll-CExpr) (h at);
    index = λ signed e length h at.
        ap (λ i. judged_index i context any_place) (index_levels (record { signed = signed; at = e; length = length })).bare_is
        ∙ rw (fold-roll-CIndex, fold-roll-CIndex) (ap (index_of any_place signed length) h ∙ index_of-bare at signed length (judged_expr e context));
    place = λ through name steps h at.
        ap (λ p. judged_place p context any_place) (place_levels (record { through = through; name = name; steps = steps })).bare_is
        ∙ place_by through name (map placeless_step steps) any_place
        ∙ (ap (along through (map judged_step (map placeless_step steps)) any_place) (judge_root-bare (context.variables name) through at)
        ∙ along-bare through steps h at (judge_root (context.variables name) through at))
        ∙ ap bare_place (sym (place_by through name steps at));
    step = step_bare;
  }

  pub expr_bare : (x : CExpr) → judged_expr (placeless_expr x) context ≡ bare_judged (judged_expr x context)
  expr_bare = induct_expr ArgBare KindBare CallBare ExprBare IndexBare PlaceBare StepBare cases

  pub place_bare : (x : CPlace) (at : Place) → judged_place (placeless_place x) context any_place ≡ bare_place (judged_place x context at)
  place_bare = induct_place ArgBare KindBare CallBare ExprBare IndexBare PlaceBare StepBare cases

  pub call_bare : (x : CCall) (at : Place) → judged_call (placeless_call x) context any_place ≡ bare_call (judged_call x context at)
  call_bare = induct_call ArgBare KindBare CallBare ExprBare IndexBare PlaceBare StepBare cases
