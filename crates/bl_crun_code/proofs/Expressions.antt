-- The code of an expression does what the expression evaluates to.
use Rattle.std.proofs.Common.{◌≡◌, ℕ, ◌+◌, ℤ, List, [], ◌∷◌, ◌++◌, map, length, Option, Some, None, refl, subst}
use Rattle.std.specs.Prelude.{All, if◌then◌else◌}
use Rattle.std.proofs.lemmas.List.Elements.{All-head, All-tail}
use Rattle.bl_tree.specs.declared.text.Text.{Text}
use Rattle.bl_tree.specs.declared.c.CType.{CType}
use Rattle.bl_tree.specs.declared.c.CType.TheVariants.{Scalar as OfScalar, Struct as OfStruct}
use Rattle.bl_tree.specs.declared.c.CArg.{CArg, fold-roll-CArg}
use Rattle.bl_tree.specs.declared.c.CCall.{CCall, fold-roll-CCall}
use Rattle.bl_tree.specs.declared.c.CExpr.{CExpr, fold-roll-CExpr}
use Rattle.bl_tree.specs.declared.c.CExprKind.{CExprKind, fold-roll-CExprKind}
use Rattle.bl_tree.specs.declared.c.CIndex.{CIndex, fold-roll-CIndex}
use Rattle.bl_tree.specs.declared.c.CPlace.{CPlace, fold-roll-CPlace}
use Rattle.bl_tree.specs.declared.c.CStep.{CStep, fold-roll-CStep, roll-CStep}
use Rattle.bl_ctext_semantics.specs.Builtin.{builtin_of}
use Rattle.bl_ctext_semantics.specs.Sizes.{Sizes, size_of_type}
use Rattle.bl_ctext_semantics.specs.Tables.{Table}
use Rattle.bl_ctext_semantics.proofs.Induction.{Optional, ExprCases, induct_call, induct_expr, induct_place}
use Rattle.bl_ctext_semantics_laws.specs.Flat.{Evaluates, Routine, address_of, call_flat, flat_answer, flat_next, read_at, reach_flat, value_flat}
use Rattle.bl_ctext_semantics_laws.specs.Layout.{Layouts, MemberOffset, Slot, capped}
use Rattle.bl_ctext_semantics_laws.specs.Reaching.{Ground, Index, Reach, laid_in, near, no_reach, onward, reach_along, reach_member, start_of_slot, through}
use Rattle.bl_ctext_semantics_laws.proofs.Folds.{arg_flat, index_flat, kind_flat, step_flat}
use Rattle.bl_crun_code.specs.Code.{FunctionEntry, Valued, arg_code, expr_valued, code_of_call, read_valued, reach_of_place}
use Rattle.bl_crun_code.proofs.Folds.{index_code, kind_code, step_code}
use Rattle.bl_crun_code.proofs.Runs.{Run}
use Rattle.bl_crun_code.proofs.Parts.{Values}
use Rattle.bl_crun_code.proofs.Operands.{literal-values}
use Rattle.bl_crun_code.proofs.Places.{Leads, Terms, place-spots, terms-append}
use Rattle.bl_crun_code.proofs.Fetches.{address-values, read-values}
use Rattle.bl_crun_code.proofs.Operators.{not-does, two-does}
use Rattle.bl_crun_code.proofs.Calls.{Args, Knows, call-values}

-- ---- how places are reached

-- the same index
pub data SameIndex (P : Valued → Evaluates ℤ → Type 0) : Index Valued → Index (Evaluates ℤ) → Type 0 where
  same_index : (length : ℕ) (part : Valued) (evaluates : Evaluates ℤ) → P part evaluates →
      SameIndex P (record { length = length; index = part }) (record { length = length; index = evaluates })

nowhere-leads : (P : Valued → Evaluates ℤ → Type 0) → Leads P no_reach no_reach
nowhere-leads P = Leads.leads (near 0) 0 [] [] None Terms.none

start-leads : (P : Valued → Evaluates ℤ → Type 0) (slot : Option Slot) → Leads P (start_of_slot slot) (start_of_slot slot)
start-leads P None = nowhere-leads P
start-leads P (Some slot) = Leads.leads (if slot.pointer then through slot.at else near slot.at) 0 [] [] (Some slot.ty) Terms.none

onward-leads : (P : Valued → Evaluates ℤ → Type 0) (r r' : Reach Valued) (u u' : Reach (Evaluates ℤ)) → Leads P r u → Leads P r' u' →
    Leads P (onward r r') (onward u u')
onward-leads P r r' u u' (Leads.leads start passed ts us ty h) (Leads.leads start' passed' ts' us' ty' k) =
    Leads.leads start (capped (passed + passed')) (ts ++ ts') (us ++ us') ty' (terms-append P ts us ts' us' h k)

module _ (r : Run) (sizes : Sizes) (structs : Layouts) (slots : Table Slot) (frame : ℕ) (entries : Table FunctionEntry) (routines : Table Routine)
    (knows : Knows r entries routines) where
  abbrev pub by_code : Ground FunctionEntry
  by_code = record { sizes = sizes; structs = structs; known = entries; slots = slots; frame = frame }

  abbrev pub by_value : Ground Routine
  by_value = record { sizes = sizes; structs = structs; known = routines; slots = slots; frame = frame }

  abbrev Q : Valued → Evaluates ℤ → Type 0
  Q = Values r

  laid-same : (ty : Option CType) (name : Text) → laid_in by_code ty name ≡ laid_in by_value ty name
  laid-same (Some (OfStruct struct)) name = refl
  laid-same (Some (OfScalar s)) name = refl
  laid-same None name = refl

  member-leads : (laid : Option MemberOffset) → Leads Q (reach_member by_code laid None) (reach_member by_value laid None)
  member-leads None = nowhere-leads Q
  member-leads (Some laid) = Leads.leads (near 0) laid.at [] [] (Some laid.it.ty) Terms.none

  element-leads : (laid : Option MemberOffset) (i : Index Valued) (j : Index (Evaluates ℤ)) → SameIndex Q i j →
      Leads Q (reach_member by_code laid (Some i)) (reach_member by_value laid (Some j))
  element-leads None i j same = nowhere-leads Q
  element-leads (Some laid) i j (SameIndex.same_index length part evaluates h) =
      Leads.leads (near 0) laid.at (record { length = length; size = size_of_type sizes laid.it.ty; index = part } ∷ [])
      (record { length = length; size = size_of_type sizes laid.it.ty; index = evaluates } ∷ []) (Some laid.it.ty)
      (Terms.one length (size_of_type sizes laid.it.ty) part evaluates [] [] h Terms.none)

  abbrev OfArg : CArg → Type 0
  OfArg a = Q (arg_code a by_code) (arg_flat a by_value)

  abbrev OfKind : CExprKind → Type 0
  OfKind k = Q (kind_code k by_code) (kind_flat k by_value)

  abbrev OfCall : CCall → Type 0
  OfCall c = Q (code_of_call c by_code) (call_flat c by_value)

  abbrev OfExpr : CExpr → Type 0
  OfExpr e = Q (expr_valued e by_code) (value_flat e by_value)

  abbrev OfIndex : CIndex → Type 0
  OfIndex i = SameIndex Q (index_code i by_code) (index_flat i by_value)

  abbrev OfPlace : CPlace → Type 0
  OfPlace p = Leads Q (reach_of_place p by_code) (reach_flat p by_value)

  abbrev OfStep : CStep → Type 0
  OfStep s = (ty : Option CType) → Leads Q (step_code s by_code ty) (step_flat s by_value ty)

  args-same : (args : List CArg) → All OfArg args → Args Q (map (λ arg. arg by_code) (map arg_code args)) (map (λ arg. arg by_value) (map arg_flat args))
  args-same [] h = Args.none
  args-same (a ∷ args) h =
      Args.one (arg_code a by_code) (arg_flat a by_value) (map (λ arg. arg by_code) (map arg_code args)) (map (λ arg. arg by_value) (map arg_flat args))
      (All-head OfArg a args h) (args-same args (All-tail OfArg a args h))

  steps-lead : (steps : List CStep) → All OfStep steps → (reach : Reach Valued) (u : Reach (Evaluates ℤ)) → Leads Q reach u →
      Leads Q (reach_along (map step_code steps) by_code reach) (reach_along (map step_flat steps) by_value u)
  steps-lead [] h reach u way = way
  steps-lead (s ∷ steps) h reach u (Leads.leads start passed ts us ty terms) =
      let first : Reach Valued = record { start = start; passed = passed; terms = ts; ty = ty } in
      let first' : Reach (Evaluates ℤ) = record { start = start; passed = passed; terms = us; ty = ty } in
      steps-lead steps (All-tail OfStep s steps h) (onward first (step_code s by_code ty)) (onward first' (step_flat s by_value ty))
      (onward-leads Q first (step_code s by_code ty) first' (step_flat s by_value ty) (Leads.leads start passed ts us ty terms) (All-head OfStep s steps h ty))

  of_step : (name : Text) (i : Option CIndex) → Optional OfIndex i → OfStep (roll-CStep (record { member = name; index = i }))
  of_step name None h ty =
      let it : Leads Q (reach_member by_code (laid_in by_code ty name) None) (reach_member by_value (laid_in by_value ty name) None) =
      subst (λ laid. Leads Q (reach_member by_code (laid_in by_code ty name) None) (reach_member by_value laid None)) (laid-same ty name)
      (member-leads (laid_in by_code ty name)) in
      rw (fold-roll-CStep, fold-roll-CStep) it
  of_step name (Some i) h ty =
      let it : Leads Q (reach_member by_code (laid_in by_code ty name) (Some (index_code i by_code)))
      (reach_member by_value (laid_in by_value ty name) (Some (index_flat i by_value))) =
      subst (λ laid. Leads Q (reach_member by_code (laid_in by_code ty name) (Some (index_code i by_code)))
      (reach_member by_value laid (Some (index_flat i by_value)))) (laid-same ty name)
      (element-leads (laid_in by_code ty name) (index_code i by_code) (index_flat i by_value) h) in
      rw (fold-roll-CStep, fold-roll-CStep) it

  -- a place that has the same type by code and by evaluations
  place-read : (reach : Reach Valued) (u : Reach (Evaluates ℤ)) → Leads Q reach u →
      Q (read_valued reach.ty reach) (λ base cells. flat_next (address_of u base cells) (λ after k. flat_answer after (Some (read_at u.ty after k))))
  place-read reach u (Leads.leads start passed ts us ty terms) =
      read-values r _ _ (place-spots r _ _ (Leads.leads start passed ts us ty terms)) ty

  cases : ExprCases OfArg OfKind OfCall OfExpr OfIndex OfPlace OfStep
  cases = record {
    value = λ e h. rw (fold-roll-CArg, fold-roll-CArg) h;
    address = λ p h. rw (fold-roll-CArg, fold-roll-CArg)
        (address-values r (reach_of_place p by_code) (reach_flat p by_value) (place-spots r (reach_of_place p by_code) (reach_flat p by_value) h));
    literal = λ t n. rw (fold-roll-CExprKind, fold-roll-CExprKind) (literal-values r n);
    read = λ p h. rw (fold-roll-CExprKind, fold-roll-CExprKind) (place-read (reach_of_place p by_code) (reach_flat p by_value) h);
    call = λ c h. rw (fold-roll-CExprKind, fold-roll-CExprKind) h;
    negation = λ e h. rw (fold-roll-CExprKind, fold-roll-CExprKind) (not-does r (expr_valued e by_code) (value_flat e by_value) h);
    two = λ op a b h k. rw (fold-roll-CExprKind, fold-roll-CExprKind)
        (two-does r (expr_valued a by_code) (expr_valued b by_code) (value_flat a by_value) (value_flat b by_value) h k op);
    calling = λ name args h. rw (fold-roll-CCall, fold-roll-CCall)
        (call-values r by_code (builtin_of name) (entries name) (routines name) (knows.known name) (map (λ arg. arg by_code) (map arg_code args))
        (map (λ arg. arg by_value) (map arg_flat args)) (args-same args h));
    expr = λ place what h. rw (fold-roll-CExpr, fold-roll-CExpr) h;
    index = λ signed at length h. rw (fold-roll-CIndex, fold-roll-CIndex) (SameIndex.same_index length (expr_valued at by_code) (value_flat at by_value) h);
    place = λ through name steps h. rw (fold-roll-CPlace, fold-roll-CPlace)
        (steps-lead steps h (start_of_slot (slots name)) (start_of_slot (slots name)) (start-leads Q (slots name)));
    step = of_step;
  }

  -- an expression
  pub expr-does : (e : CExpr) → Values r (expr_valued e by_code) (value_flat e by_value)
  expr-does = induct_expr OfArg OfKind OfCall OfExpr OfIndex OfPlace OfStep cases

  -- a place
  pub place-leads : (p : CPlace) → Leads (Values r) (reach_of_place p by_code) (reach_flat p by_value)
  place-leads = induct_place OfArg OfKind OfCall OfExpr OfIndex OfPlace OfStep cases

  -- a call
  pub call-does : (c : CCall) → Values r (code_of_call c by_code) (call_flat c by_value)
  call-does = induct_call OfArg OfKind OfCall OfExpr OfIndex OfPlace OfStep cases
