-- Expressions in a C text and over numbered cells.
use Rattle.std.proofs.Common.{◌≡◌, ℕ, ◌+◌, ◌≤◌, ℤ, pos, Bool, true, false, not, ◌&&◌, List, [], ◌∷◌, ◌++◌, map, Option, Some, None, refl, ap, sym}
use Rattle.std.proofs.Common.{subst, ◌∙◌, arith}
use Rattle.std.specs.Prelude.{All, option_map, is_some, is_none, int_le, int_lt, if◌then◌else◌}
use Rattle.std.specs.Ordering.{int_eq}
use Rattle.std.proofs.lemmas.List.Elements.{All-head, All-tail}
use Rattle.bl_tree.proofs.Basics.{and_first, and_second, first_empty, second_empty}
use Rattle.bl_tree.specs.declared.text.Text.{Text}
use Rattle.bl_tree.specs.declared.place.Place.{Place}
use Rattle.bl_tree.specs.declared.scalar.Scalar.{Scalar}
use Rattle.bl_tree.specs.declared.scalar.Scalar.TheVariants.{Bool as OfBool}
use Rattle.bl_tree.specs.declared.scalar.Op.{Op}
use Rattle.bl_tree.specs.declared.scalar.Op.TheVariants.{Add, Sub, Mul, Div, Rem, Minus, BitAnd, BitOr, BitXor, BitNot, Shl, Shr, Eq, Ne, Lt, Le, Gt}
use Rattle.bl_tree.specs.declared.scalar.Op.TheVariants.{Ge, And, Or, Not}
use Rattle.bl_tree.specs.declared.c.CType.{CType}
use Rattle.bl_tree.specs.declared.c.CType.TheVariants.{Scalar as OfScalar, Struct as OfStruct}
use Rattle.bl_tree.specs.declared.c.CArg.{CArg, fold-roll-CArg}
use Rattle.bl_tree.specs.declared.c.CCall.{CCall, fold-roll-CCall}
use Rattle.bl_tree.specs.declared.c.CExpr.{CExpr, fold-roll-CExpr}
use Rattle.bl_tree.specs.declared.c.CExprKind.{CExprKind, fold-roll-CExprKind}
use Rattle.bl_tree.specs.declared.c.CIndex.{CIndex, fold-roll-CIndex}
use Rattle.bl_tree.specs.declared.c.CPlace.{CPlace, fold-roll-CPlace}
use Rattle.bl_tree.specs.declared.c.CStep.{CStep, fold-roll-CStep, roll-CStep}
use Rattle.bl_tree.specs.Scalar.{in_range}
use Rattle.bl_tree.specs.Numbers.{checked_of, checked_one_of, is_one, number_of}
use Rattle.bl_tree.specs.Reduce.{all_of, joined}
use Rattle.bl_ctext.specs.Spellable.{is_c_operator, is_length, is_literal, spells_arg, spells_call, spells_expr, spells_index, spells_kind}
use Rattle.bl_ctext.specs.Spellable.{spells_place, spells_step}
use Rattle.bl_ctext_semantics.specs.Memory.{Location, CValue, Memory, scalar_number, scalar, value_at}
use Rattle.bl_ctext_semantics.specs.Meaning.{CallResult, Counted, Evaluates as EvaluatesC, ArgumentValue, by_address, by_value, Scope, at_once as at_once_c, call_c}
use Rattle.bl_ctext_semantics.specs.Meaning.{called_after, each_of as each_of_c, element_projection, further, given, location_c, named_location, next as next_c}
use Rattle.bl_ctext_semantics.specs.Meaning.{result_of}
use Rattle.bl_ctext_semantics.specs.Meaning.{way_of, two_values as two_values_c, value_c}
use Rattle.bl_ctext_semantics.specs.Sizes.{Sizes}
use Rattle.bl_ctext_semantics.specs.Tables.{Table, entry_or}
use Rattle.bl_ctext_semantics.specs.Calls.{calls_in, calls_in_arg, calls_in_call, calls_in_place, calls_in_step, most}
use Rattle.bl_ctext.specs.Names.{is_callee, is_name}
use Rattle.bl_ctext_semantics.specs.Builtin.{index_within}
use Rattle.bl_ctext_semantics.specs.Faults.{declared_before, arguments, changes_nothing, hands_on, indexes, indices, operand_type, void_as_statement}
use Rattle.bl_ctext_semantics.specs.Faults.{Context, JudgedArg, Signature, agree, bool_type, fit_args, if_typed, is_void, judge_into, judge_root}
use Rattle.bl_ctext_semantics.specs.Faults.{judge_steps, judged_arg, judged_call, judged_expr, judged_index, judged_place, judged_step, known_result}
use Rattle.bl_ctext_semantics.specs.Faults.{result_type, same_type, signature_of, takes, unless}
use Rattle.bl_ctext_semantics.proofs.Folds.{arg_c, calls_in_index, calls_in_kind, index_c, judged_kind, kind_c, step_c}
use Rattle.bl_ctext_semantics.proofs.CallLemmas.{most-append}
use Rattle.bl_ctext_semantics.proofs.Induction.{ExprCases, Optional, induct_call, induct_expr, induct_place}
use Rattle.bl_ctext_semantics_laws.specs.Reaching.{Ground, reach_along, start_of_slot}
use Rattle.bl_ctext_semantics_laws.specs.Flat.{Cells, Evaluates, FlatAnswer, Routine, address_of, at_once, call_flat, cell_at, compared, each_of, flat_answer, flat_call}
use Rattle.bl_ctext_semantics_laws.specs.Flat.{flat_next, reach_flat, read_at, two_values, value_flat}
use Rattle.bl_ctext_semantics_laws.proofs.Faultless.{unless-nil}
use Rattle.bl_ctext_semantics_laws.proofs.Ways.{Lists, Shaped, Structs}
use Rattle.bl_ctext_semantics_laws.proofs.Standing.{PlacedAt, Stands, World, range-part, read-scalar, same-memory}
use Rattle.bl_ctext_semantics_laws.proofs.Evaluations.{Agree, Matches, made-agrees, next-agrees}
use Rattle.bl_ctext_semantics_laws.proofs.Running.{Located, Ranged, Running, Valued}
use Rattle.bl_ctext_semantics_laws.proofs.Values.{PassedList, Passes, literal-fits, operand-number, truth-fits, value-agrees, value-typed}
use Rattle.bl_ctext_semantics_laws.proofs.FlatPlaces.{IndexFacts, PlaceFacts, StepFacts, StepsFacts, index-agrees, no-steps, place-agrees, step-before}
use Rattle.bl_ctext_semantics_laws.proofs.FlatPlaces.{step-indexed, step-plain}
use Rattle.bl_ctext_semantics_laws.proofs.Calls.{CallFacts, call-agrees}
use Rattle.bl_ctext_semantics_laws.proofs.Folds.{arg_flat, index_flat, kind_flat, step_flat}

-- each function of these has the cells that it needs
pub record RoomFor (chains : Table ℕ) (top limit : ℕ) (names : List Text) : Type 0 where
  pub enough : top + most chains names ≤ limit

module _ (chains : Table ℕ) (top limit : ℕ) where
  pub room-left : (xs ys : List Text) → RoomFor chains top limit (xs ++ ys) → RoomFor chains top limit xs
  room-left xs ys r = let e = most-append chains xs ys in let h = r.enough in record { enough = omega arith }

  pub room-right : (xs ys : List Text) → RoomFor chains top limit (xs ++ ys) → RoomFor chains top limit ys
  room-right xs ys r = let e = most-append chains xs ys in let h = r.enough in record { enough = omega arith }

module _ (known : Sizes) (lists : Lists) (structs : Structs) (shaped : Shaped known lists structs) (limit : ℕ) (context : Context) (scope : Scope)
    (ground : Ground Routine) (chains : Table ℕ)
    (base : ℕ) (w : World) (running : Running known lists structs shaped limit context scope ground chains base w) (memory : Memory) where
  abbrev Stood : Cells → Type 0
  Stood = Stands known lists structs shaped limit w memory

  abbrev Alike : {A B : Type 0} → (A → B → Type 0) → Counted A → FlatAnswer B → Type 0
  Alike = Agree known lists structs shaped limit w memory

  abbrev Value : Option CType → CValue → ℤ → Type 0
  Value = Valued known lists structs shaped limit w memory

  abbrev Room : List Text → Type 0
  Room names = RoomFor chains w.top limit names

  abbrev Passing : JudgedArg → ArgumentValue → ℤ → Type 0
  Passing = Passes known lists structs shaped limit w memory

  abbrev OfArg : CArg → Type 0
  OfArg a = (at : Place) → (judged_arg a context at).faults ≡ [] → Room (calls_in_arg a) → spells_arg a ≡ true → (cells : Cells) → Stood cells →
      Alike (Passing (judged_arg a context at)) (arg_c a scope memory) (arg_flat a ground base cells)

  abbrev OfKind : CExprKind → Type 0
  OfKind k = (at : Place) → (judged_kind k context at).faults ≡ [] → Room (calls_in_kind k) → spells_kind k ≡ true →
      (cells : Cells) → Stood cells →
      Alike (Value (judged_kind k context at).ty) (kind_c k scope memory) (kind_flat k ground base cells)

  abbrev OfCall : CCall → Type 0
  OfCall c = (at : Place) → (judged_call c context at).faults ≡ [] → Room (calls_in_call c) → spells_call c ≡ true →
      (cells : Cells) → Stood cells →
      CallFacts known lists structs shaped limit context scope ground chains base w running memory (judged_call c context at).signature (call_c c scope memory)
      (call_flat c ground base cells)

  abbrev OfExpr : CExpr → Type 0
  OfExpr e = (judged_expr e context).faults ≡ [] → Room (calls_in e) → spells_expr e ≡ true → (cells : Cells) → Stood cells →
      Alike (Value (judged_expr e context).ty) (value_c e scope memory) (value_flat e ground base cells)

  abbrev OfIndex : CIndex → Type 0
  OfIndex i = (at : Place) → (judged_index i context at).faults ≡ [] → Room (calls_in_index i) → spells_index i ≡ true →
      IndexFacts known lists structs shaped limit context scope ground chains base w running memory (judged_index i context at).length (index_c i)
      (index_flat i ground)

  abbrev OfPlace : CPlace → Type 0
  OfPlace p = (at : Place) → (judged_place p context at).faults ≡ [] → Room (calls_in_place p) → spells_place p ≡ true →
      PlaceFacts known lists structs shaped limit context scope ground chains base w running memory (judged_place p context at).ty (location_c p scope memory)
      (reach_flat p ground)

  abbrev OfStep : CStep → Type 0
  OfStep s = (at : Place) (ty : CType) → (judged_step s context at (Some ty)).faults ≡ [] → Room (calls_in_step s) → spells_step s ≡ true →
      StepFacts known lists structs shaped limit context scope ground chains base w running memory ty (judged_step s context at (Some ty)).ty (step_c s)
      (step_flat s ground (Some ty))

  -- ---- arguments

  located : (typed : Option CType) (goal : CType) (l : Location) (k : ℕ) → typed ≡ Some goal → PlacedAt known lists structs shaped limit w l goal k →
      Located known lists structs shaped limit w typed l k
  located typed goal l k is placed = subst (λ o. Located known lists structs shaped limit w o l k) (sym is) placed

  address-case : (p : CPlace) → OfPlace p → (at : Place) → (judged_place p context at).faults ≡ [] → Room (calls_in_place p) →
      spells_place p ≡ true →
      (cells : Cells) → Stood cells →
      Alike (Passing (record
      { address = true; through = (judged_place p context at).through; ty = (judged_place p context at).ty; faults = (judged_place p context at).faults }))
      (next_c (location_c p scope memory) (λ l. given (Some (by_address l))))
      (flat_next (address_of (reach_flat p ground) base cells) (λ after k. flat_answer after (Some (pos k))))
  address-case p h at none room spelled cells stood =
      let f = h at none room spelled in
      next-agrees known lists structs shaped limit w memory (λ l k. PlacedAt known lists structs shaped limit w l f.goal k)
      (Passing (record {
        address = true;
        through = (judged_place p context at).through;
        ty = (judged_place p context at).ty;
        faults =
            (judged_place p context at).faults;
      }))
      (location_c p scope memory) (address_of (reach_flat p ground) base cells) (λ l. given (Some (by_address l))) (λ after k. flat_answer after (Some (pos k)))
      (f.moves cells stood)
      (λ l k after placed there. record {
        count = refl;
        stands = there;
        answer =
            (refl, record { k = k; from = refl; placed = located (judged_place p context at).ty f.goal l k f.is placed });
      })

  value-case : (e : CExpr) → OfExpr e → (judged_expr e context).faults ≡ [] → Room (calls_in e) → spells_expr e ≡ true →
      (cells : Cells) → Stood cells →
      Alike (Passing (record { address = false; through = false; ty = (judged_expr e context).ty; faults = (judged_expr e context).faults }))
      (next_c (value_c e scope memory) (λ v. given (Some (by_value v)))) (value_flat e ground base cells)
  value-case e h none room spelled cells stood =
      made-agrees known lists structs shaped limit w memory (Value (judged_expr e context).ty)
      (Passing (record { address = false; through = false; ty = (judged_expr e context).ty; faults = (judged_expr e context).faults }))
      (value_c e scope memory) (value_flat e ground base cells) by_value (h none room spelled cells stood) (λ v n valued. (refl, valued))

  -- ---- reading

  read-valued : (typed reached : Option CType) (goal : CType) (l : Location) (k : ℕ) (cells : Cells) → typed ≡ Some goal → reached ≡ Some goal →
      PlacedAt known lists structs shaped limit w l goal k → Stood cells →
      Value typed (value_at memory l) (read_at reached cells k)
  read-valued typed reached goal l k cells is to placed stood =
      subst (λ o. Value o (value_at memory l) (read_at reached cells k)) (sym is)
      (subst (λ o. Value (Some goal) (value_at memory l) (read_at o cells k)) (sym to) (chosen goal placed))
    where
      chosen : (ty : CType) → PlacedAt known lists structs shaped limit w l ty k → Value (Some ty) (value_at memory l) (read_at (Some ty) cells k)
      chosen (OfScalar kind) p =
          let e : cell_at cells k ≡ scalar_number (value_at memory l) = read-scalar known lists structs shaped limit w memory cells stood l kind k p in
          (sym e, ap (in_range kind) e ∙ range-part known lists structs shaped limit w memory cells stood l (OfScalar kind) k p [] kind refl)
      chosen (OfStruct name) p = record { place = l; k = k; from = refl; placed = p; is = refl }

  read-case : (p : CPlace) → OfPlace p → (at : Place) → (judged_place p context at).faults ≡ [] → Room (calls_in_place p) →
      spells_place p ≡ true →
      (cells : Cells) → Stood cells →
      Alike (Value (judged_place p context at).ty) (next_c (location_c p scope memory) (λ l. given (Some (value_at memory l))))
      (flat_next (address_of (reach_flat p ground) base cells) (λ after k. flat_answer after (Some (read_at (reach_flat p ground).ty after k))))
  read-case p h at none room spelled cells stood =
      let f = h at none room spelled in
      next-agrees known lists structs shaped limit w memory (λ l k. PlacedAt known lists structs shaped limit w l f.goal k)
      (Value (judged_place p context at).ty)
      (location_c p scope memory) (address_of (reach_flat p ground) base cells) (λ l. given (Some (value_at memory l)))
      (λ after k. flat_answer after (Some (read_at (reach_flat p ground).ty after k)))
      (f.moves cells stood)
      (λ l k after placed there. record {
        count = refl;
        stands = there;
        answer = read-valued (judged_place p context at).ty (reach_flat p ground).ty f.goal l k after f.is f.reached placed
            there;
      })

  -- ---- calls in expressions

  result-of-call : (signature : Option Signature) (c : CallResult) (l : FlatAnswer ℤ) →
      CallFacts known lists structs shaped limit context scope ground chains base w running memory signature c l →
      not (is_void (known_result signature)) ≡ true → Alike (Value (result_type (known_result signature))) (result_of c) l
  result-of-call signature c l facts full = subst (λ o. Alike (Value (result_type (known_result o))) (result_of c) l) (sym facts.is)
      (with-result facts.s.result refl (subst (λ o. not (is_void (known_result o)) ≡ true) facts.is full))
    where
      answers : (t : Scalar) (a b : Option ℤ) → a ≡ b → Ranged known lists structs shaped limit (Some t) a →
          Matches (Value (Some (OfScalar t))) (option_map scalar a) b
      answers t None None is r = tt
      answers t (Some n) (Some k) is r = (some_number n k is, subst (λ x. in_range t x ≡ true) (some_number n k is) r)
        where
          some_number : (n k : ℤ) → Some n ≡ Some k → n ≡ k
          some_number n k h = cc
      answers t None (Some k) is r = cc
      answers t (Some n) None is r = cc

      with-result : (r : Option Scalar) → facts.s.result ≡ r → not (is_none r) ≡ true → Alike (Value (option_map OfScalar r)) (result_of c) l
      with-result None is full = cc
      with-result (Some t) is full = record {
        count = facts.agrees.count;
        stands = same-memory known lists structs shaped limit w c.memory memory l.cells (facts.same (ap is_some is)) facts.agrees.stands;
        answer = answers t c.result l.answer facts.agrees.answer (subst (λ o. Ranged known lists structs shaped limit o c.result) is facts.agrees.range);
      }

  -- ---- operators

  negated : (v : CValue) (n : ℤ) → scalar_number v ≡ n →
      Matches (Value (Some bool_type)) (option_map scalar (checked_one_of Not OfBool (scalar_number v))) (Some (number_of (if is_one n then false else true)))
  negated v n is = subst
      (λ x. Matches (Value (Some bool_type)) (option_map scalar (checked_one_of Not OfBool x)) (Some (number_of (if is_one n then false else true)))) (sym is)
      (chosen (is_one n))
    where
      chosen : (b : Bool) → Value (Some bool_type) (scalar (number_of (not b))) (number_of (if b then false else true))
      chosen true = (refl, refl)
      chosen false = (refl, refl)

  not-case : (ty : Option CType) (c : Counted CValue) (f : FlatAnswer ℤ) → agree ty (Some bool_type) ≡ true → Alike (Value ty) c f →
      Alike (Value (Some bool_type)) (next_c c (λ a. given (option_map scalar (checked_one_of Not OfBool (scalar_number a)))))
      (flat_next f (λ after a. flat_answer after (Some (number_of (if is_one a then false else true)))))
  not-case ty c f typed h =
      next-agrees known lists structs shaped limit w memory (Value ty) (Value (Some bool_type)) c f
      (λ a. given (option_map scalar (checked_one_of Not OfBool (scalar_number a))))
      (λ after a. flat_answer after (Some (number_of (if is_one a then false else true)))) h
      (λ v n after valued there. record {
        count = refl;
        stands = there;
        answer = negated v n (value-agrees known lists structs shaped limit w memory ty bool_type v n typed valued).0;
      })

  told : (b : Bool) (o p : Option ℤ) → o ≡ Some (number_of b) → p ≡ Some (number_of b) → Matches (Value (Some bool_type)) (option_map scalar o) p
  told b o p is so =
      subst (λ x. Matches (Value (Some bool_type)) (option_map scalar x) p) (sym is)
      (subst (λ x. Matches (Value (Some bool_type)) (Some (scalar (number_of b))) x) (sym so) (refl, truth-fits b))

  -- an operator that evaluates both sides
  both-sides : (op : Op) (truth : ℤ → ℤ → Bool) → ((x y : ℤ) → checked_of op OfBool x y ≡ Some (number_of (truth x y))) →
      ((x y : ℤ) → compared op x y ≡ Some (number_of (truth x y))) → (s t : Option CType) (a b : EvaluatesC CValue) (f g : Evaluates ℤ) →
      if_typed s (takes op) ≡ true → if_typed t (takes op) ≡ true → (cells : Cells) → Alike (Value s) (a scope memory) (f base cells) →
      ((after : Cells) → Stood after → Alike (Value t) (b scope memory) (g base after)) →
      Alike (Value (Some bool_type))
      (next_c (a scope memory) (λ x. next_c (b scope memory) (λ y. given (option_map scalar (checked_of op OfBool (scalar_number x) (scalar_number y))))))
      (flat_next (f base cells) (λ after x. flat_next (g base after) (λ last y. flat_answer last (compared op x y))))
  both-sides op truth is so s t a b f g ts tu cells h k =
      next-agrees known lists structs shaped limit w memory (Value s) (Value (Some bool_type)) (a scope memory) (f base cells)
      (λ x. next_c (b scope memory) (λ y. given (option_map scalar (checked_of op OfBool (scalar_number x) (scalar_number y)))))
      (λ after x. flat_next (g base after) (λ last y. flat_answer last (compared op x y))) h
      (λ v n after first there.
      next-agrees known lists structs shaped limit w memory (Value t) (Value (Some bool_type)) (b scope memory) (g base after)
      (λ y. given (option_map scalar (checked_of op OfBool (scalar_number v) (scalar_number y)))) (λ last y. flat_answer last (compared op n y)) (k after there)
      (λ u m last second stays. record {
        count = refl;
        stands = stays;
        answer = subst (λ x. Matches (Value (Some bool_type)) (option_map scalar (checked_of op OfBool x (scalar_number u))) (compared op n m))
            (sym (operand-number known lists structs shaped limit w memory op s v n ts first))
            (subst (λ x. Matches (Value (Some bool_type)) (option_map scalar (checked_of op OfBool n x)) (compared op n m))
            (sym (operand-number known lists structs shaped limit w memory op t u m tu second))
            (told (truth n m) (checked_of op OfBool n m) (compared op n m) (is n m) (so n m)));
      }))

  -- the right side of `&&` and `||`, or a number at once
  side-or-once : (b : Bool) (number : Bool) (a : EvaluatesC CValue) (f : Evaluates ℤ) (cells : Cells) → Stood cells →
      Alike (Value (Some bool_type)) (a scope memory) (f base cells) →
      Alike (Value (Some bool_type)) ((if b then a else at_once_c (number_of number)) scope memory) ((if b then f else at_once (number_of number)) base cells)
  side-or-once true number a f cells stood h = h
  side-or-once false number a f cells stood h = record { count = refl; stands = stood; answer = (refl, truth-fits number) }

  once-or-side : (b : Bool) (number : Bool) (a : EvaluatesC CValue) (f : Evaluates ℤ) (cells : Cells) → Stood cells →
      Alike (Value (Some bool_type)) (a scope memory) (f base cells) →
      Alike (Value (Some bool_type)) ((if b then at_once_c (number_of number) else a) scope memory) ((if b then at_once (number_of number) else f) base cells)
  once-or-side false number a f cells stood h = h
  once-or-side true number a f cells stood h = record { count = refl; stands = stood; answer = (refl, truth-fits number) }

  as-bool : (t : Option CType) (c : Counted CValue) (l : FlatAnswer ℤ) → if_typed t (λ x. same_type x bool_type) ≡ true → Alike (Value t) c l →
      Alike (Value (Some bool_type)) c l
  as-bool t c l typed h = record {
    count = h.count;
    stands = h.stands;
    answer = both c.answer l.answer h.answer;
  }
    where
      both : (a : Option CValue) (b : Option ℤ) → Matches (Value t) a b → Matches (Value (Some bool_type)) a b
      both None None m = tt
      both None (Some n) m = absurd m
      both (Some v) None m = absurd m
      both (Some v) (Some n) m = value-typed known lists structs shaped limit w memory t bool_type v n typed m

  two-agree : (op : Op) (s t : Option CType) (a b : EvaluatesC CValue) (f g : Evaluates ℤ) → is_c_operator op ≡ true →
      if_typed s (takes op) ≡ true →
      if_typed t (takes op) ≡ true → (cells : Cells) →
      Alike (Value s) (a scope memory) (f base cells) → ((after : Cells) → Stood after → Alike (Value t) (b scope memory) (g base after)) →
      Alike (Value (Some bool_type)) (two_values_c op a b scope memory) (two_values op f g base cells)
  two-agree Eq s t a b f g spelled ts tu cells h k = both-sides Eq (λ x y. int_eq x y) (λ x y. refl) (λ x y. refl) s t a b f g ts tu cells h k
  two-agree Ne s t a b f g spelled ts tu cells h k = both-sides Ne (λ x y. not (int_eq x y)) (λ x y. refl) (λ x y. refl) s t a b f g ts tu cells h k
  two-agree Lt s t a b f g spelled ts tu cells h k = both-sides Lt (λ x y. int_lt x y) (λ x y. refl) (λ x y. refl) s t a b f g ts tu cells h k
  two-agree Le s t a b f g spelled ts tu cells h k = both-sides Le (λ x y. int_le x y) (λ x y. refl) (λ x y. refl) s t a b f g ts tu cells h k
  two-agree Gt s t a b f g spelled ts tu cells h k = both-sides Gt (λ x y. int_lt y x) (λ x y. refl) (λ x y. refl) s t a b f g ts tu cells h k
  two-agree Ge s t a b f g spelled ts tu cells h k = both-sides Ge (λ x y. int_le y x) (λ x y. refl) (λ x y. refl) s t a b f g ts tu cells h k
  two-agree And s t a b f g spelled ts tu cells h k =
      next-agrees known lists structs shaped limit w memory (Value s) (Value (Some bool_type)) (a scope memory) (f base cells)
      (λ x. (if is_one (scalar_number x) then b else at_once_c (pos 0)) scope memory) (λ after x. (if is_one x then g else at_once (pos 0)) base after) h
      (λ v n after first there.
      subst (λ x. Alike (Value (Some bool_type)) ((if is_one x then b else at_once_c (pos 0)) scope memory)
      ((if is_one n then g else at_once (pos 0)) base after))
      (sym (operand-number known lists structs shaped limit w memory And s v n ts first))
      (side-or-once (is_one n) false b g after there (as-bool t (b scope memory) (g base after) tu (k after there))))
  two-agree Or s t a b f g spelled ts tu cells h k =
      next-agrees known lists structs shaped limit w memory (Value s) (Value (Some bool_type)) (a scope memory) (f base cells)
      (λ x. (if is_one (scalar_number x) then at_once_c (pos 1) else b) scope memory) (λ after x. (if is_one x then at_once (pos 1) else g) base after) h
      (λ v n after first there.
      subst (λ x. Alike (Value (Some bool_type)) ((if is_one x then at_once_c (pos 1) else b) scope memory)
      ((if is_one n then at_once (pos 1) else g) base after))
      (sym (operand-number known lists structs shaped limit w memory Or s v n ts first))
      (once-or-side (is_one n) true b g after there (as-bool t (b scope memory) (g base after) tu (k after there))))
  two-agree Add s t a b f g spelled ts tu cells h k = cc
  two-agree Sub s t a b f g spelled ts tu cells h k = cc
  two-agree Mul s t a b f g spelled ts tu cells h k = cc
  two-agree Div s t a b f g spelled ts tu cells h k = cc
  two-agree Rem s t a b f g spelled ts tu cells h k = cc
  two-agree Minus s t a b f g spelled ts tu cells h k = cc
  two-agree BitAnd s t a b f g spelled ts tu cells h k = cc
  two-agree BitOr s t a b f g spelled ts tu cells h k = cc
  two-agree BitXor s t a b f g spelled ts tu cells h k = cc
  two-agree BitNot s t a b f g spelled ts tu cells h k = cc
  two-agree Shl s t a b f g spelled ts tu cells h k = cc
  two-agree Shr s t a b f g spelled ts tu cells h k = cc
  two-agree Not s t a b f g spelled ts tu cells h k = cc

  -- ---- lists of arguments and steps

  args-agree : (args : List CArg) → All OfArg args → (at : Place) →
      joined (map (λ a. a.faults) (map (λ judge. judge context at) (map judged_arg args))) ≡ [] →
      Room (joined (map calls_in_arg args)) → all_of (map spells_arg args) ≡ true → (cells : Cells) → Stood cells →
      Alike (PassedList known lists structs shaped limit w memory (map (λ judge. judge context at) (map judged_arg args)))
      (each_of_c (map arg_c args) scope memory) (each_of (map (λ arg. arg ground) (map arg_flat args)) base cells)
  args-agree [] h at none room spelled cells stood = record { count = refl; stands = stood; answer = tt }
  args-agree (a ∷ args) h at none room spelled cells stood =
      next-agrees known lists structs shaped limit w memory (Passing (judged_arg a context at))
      (PassedList known lists structs shaped limit w memory (map (λ judge. judge context at) (map judged_arg (a ∷ args))))
      (arg_c a scope memory) (arg_flat a ground base cells) (λ v. next_c (each_of_c (map arg_c args) scope memory) (λ others. given (Some (v ∷ others))))
      (λ after n. flat_next (each_of (map (λ arg. arg ground) (map arg_flat args)) base after) (λ last others. flat_answer last (Some (n ∷ others))))
      (All-head OfArg a args h at (first_empty _ _ none) (room-left chains w.top limit (calls_in_arg a) _ room) (and_first _ _ spelled) cells stood)
      (λ v n after passes there.
      next-agrees known lists structs shaped limit w memory
      (PassedList known lists structs shaped limit w memory (map (λ judge. judge context at) (map judged_arg args)))
      (PassedList known lists structs shaped limit w memory (map (λ judge. judge context at) (map judged_arg (a ∷ args))))
      (each_of_c (map arg_c args) scope memory) (each_of (map (λ arg. arg ground) (map arg_flat args)) base after) (λ others. given (Some (v ∷ others)))
      (λ last others. flat_answer last (Some (n ∷ others)))
      (args-agree args (All-tail OfArg a args h) at (second_empty (judged_arg a context at).faults _ none) (room-right chains w.top limit (calls_in_arg a) _ room)
      (and_second (spells_arg a) _ spelled) after there)
      (λ vs ns last rest stays. record { count = refl; stands = stays; answer = (passes, rest) }))

  steps-agree : (steps : List CStep) → All OfStep steps → (at : Place) (ty : CType) →
      (judge_steps (map judged_step steps) context at (Some ty)).faults ≡ [] →
      Room (joined (map calls_in_step steps)) → all_of (map spells_step steps) ≡ true →
      StepsFacts known lists structs shaped limit context scope ground chains base w running memory ty
      (judge_steps (map judged_step steps) context at (Some ty)).ty (each_of_c (map step_c steps)) (map step_flat steps)
  steps-agree [] h at ty none room spelled = no-steps known lists structs shaped limit context scope ground chains base w running memory ty
  steps-agree (s ∷ steps) h at ty none room spelled =
      let first = All-head OfStep s steps h at ty (first_empty _ _ none) (room-left chains w.top limit (calls_in_step s) _ room) (and_first _ _ spelled) in
      let later : (judge_steps (map judged_step steps) context at (Some first.goal)).faults ≡ [] =
      ap (λ o. (judge_steps (map judged_step steps) context at o).faults) (sym first.is) ∙ second_empty (judged_step s context at (Some ty)).faults _ none in
      subst (λ o. StepsFacts known lists structs shaped limit context scope ground chains base w running memory ty
      (judge_steps (map judged_step steps) context at o).ty (each_of_c (map step_c (s ∷ steps))) (map step_flat (s ∷ steps))) (sym first.is)
      (step-before known lists structs shaped limit context scope ground chains base w running memory ty first.goal (judged_step s context at (Some ty)).ty
      (judge_steps (map judged_step steps) context at (Some first.goal)).ty
      (step_c s) (map step_c steps) (step_flat s) (map step_flat steps) first refl
      (steps-agree steps (All-tail OfStep s steps h) at first.goal later (room-right chains w.top limit (calls_in_step s) _ room)
      (and_second (spells_step s) _ spelled)))

  -- ---- each kind over its parts

  two-case : (op : Op) (a b : CExpr) → OfExpr a → OfExpr b → (at : Place) →
      (judged_expr a context).faults
      ++ ((judged_expr b context).faults
      ++ unless (if_typed (judged_expr a context).ty (takes op) && if_typed (judged_expr b context).ty (takes op)
      && agree (judged_expr a context).ty (judged_expr b context).ty) operand_type at) ≡ [] →
      Room (calls_in a ++ calls_in b) → (is_c_operator op && (spells_expr a && spells_expr b)) ≡ true → (cells : Cells) → Stood cells →
      Alike (Value (Some bool_type)) (two_values_c op (value_c a) (value_c b) scope memory)
      (two_values op (value_flat a ground) (value_flat b ground) base cells)
  two-case op a b ha hb at none room spelled cells stood =
      let rest = second_empty (judged_expr a context).faults _ none in
      let typed = unless-nil
      (if_typed (judged_expr a context).ty (takes op) && if_typed (judged_expr b context).ty (takes op)
      && agree (judged_expr a context).ty (judged_expr b context).ty) operand_type at
      (second_empty (judged_expr b context).faults _ rest) in
      let both = and_first (if_typed (judged_expr a context).ty (takes op) && if_typed (judged_expr b context).ty (takes op)) _ typed in
      let parts = and_second (is_c_operator op) _ spelled in
      two-agree op (judged_expr a context).ty (judged_expr b context).ty (value_c a) (value_c b) (value_flat a ground) (value_flat b ground)
      (and_first (is_c_operator op) _ spelled)
      (and_first _ _ both) (and_second (if_typed (judged_expr a context).ty (takes op)) _ both) cells
      (ha (first_empty _ _ none) (room-left chains w.top limit (calls_in a) (calls_in b) room) (and_first _ _ parts) cells stood)
      (λ after there. hb (first_empty _ _ rest) (room-right chains w.top limit (calls_in a) (calls_in b) room) (and_second (spells_expr a) _ parts) after there)

  -- what is wanted of the callee's name among the called ones
  room-first : (name : Text) (rest : List Text) → Room (name ∷ rest) → w.top + entry_or 0 chains name ≤ limit
  room-first name rest r = let h = r.enough in omega arith

  room-rest : (name : Text) (rest : List Text) → Room (name ∷ rest) → Room rest
  room-rest name rest r = let h = r.enough in record { enough = omega arith }

  calling-case : (name : Text) (args : List CArg) → All OfArg args → (at : Place) →
      unless (is_some (signature_of context name)) declared_before at
      ++ (joined (map (λ a. a.faults) (map (λ judge. judge context at) (map judged_arg args)))
      ++ (unless (fit_args (signature_of context name) (map (λ judge. judge context at) (map judged_arg args))) arguments at
      ++ unless (not (context.is_read_only && hands_on (signature_of context name) (map (λ judge. judge context at) (map judged_arg args)))) changes_nothing at))
      ≡ [] →
      Room (name ∷ joined (map calls_in_arg args)) → (is_callee name && all_of (map spells_arg args)) ≡ true → (cells : Cells) → Stood cells →
      CallFacts known lists structs shaped limit context scope ground chains base w running memory (signature_of context name)
      (called_after scope memory name (each_of_c (map arg_c args) scope memory).count (each_of_c (map arg_c args) scope memory).answer)
      (flat_next (each_of (map (λ arg. arg ground) (map arg_flat args)) base cells) (λ after ns. flat_call ground name base ns after))
  calling-case name args h at none room spelled cells stood =
      let there = unless-nil (is_some (signature_of context name)) declared_before at (first_empty _ _ none) in
      let h1 = second_empty (unless (is_some (signature_of context name)) declared_before at) _ none in
      let h2 = second_empty (joined (map (λ a. a.faults) (map (λ judge. judge context at) (map judged_arg args)))) _ h1 in
      let fit = unless-nil (fit_args (signature_of context name) (map (λ judge. judge context at) (map judged_arg args))) arguments at (first_empty _ _ h2) in
      call-agrees known lists structs shaped limit context scope ground chains base w running memory name (signature_of context name)
      (map (λ judge. judge context at) (map judged_arg args))
      (each_of_c (map arg_c args) scope memory) (each_of (map (λ arg. arg ground) (map arg_flat args)) base cells) refl there fit
      (λ s is. (running.functions name s is).plain)
      (room-first name (joined (map calls_in_arg args)) room)
      (args-agree args h at (first_empty _ _ h1) (room-rest name (joined (map calls_in_arg args)) room) (and_second (is_callee name) _ spelled) cells stood)

  index-case : (signed : Bool) (e : CExpr) (length : ℕ) → OfExpr e → (at : Place) →
      (judged_expr e context).faults ++ unless (if_typed (judged_expr e context).ty (indexes signed)) indices at ≡ [] →
      Room (calls_in e) → spells_expr e ≡ true →
      IndexFacts known lists structs shaped limit context scope ground chains base w running memory length
      (λ s m. next_c (value_c e s m) (λ i. given (element_projection (index_within (scalar_number i) (pos length)))))
      (record { length = length; index = value_flat e ground })
  index-case signed e length h at none room spelled =
      index-agrees known lists structs shaped limit context scope ground chains base w running memory signed length (judged_expr e context).ty (value_c e)
      (value_flat e ground)
      (unless-nil (if_typed (judged_expr e context).ty (indexes signed)) indices at (second_empty (judged_expr e context).faults _ none))
      (h (first_empty _ _ none) room spelled)

  place-case : (through : Bool) (name : Text) (steps : List CStep) → All OfStep steps → (at : Place) →
      (judge_root (context.variables name) through at).faults
      ++ (judge_steps (map judged_step steps) context at (judge_root (context.variables name) through at).ty).faults ≡ [] →
      Room (joined (map calls_in_step steps)) → all_of (map spells_step steps) ≡ true →
      PlaceFacts known lists structs shaped limit context scope ground chains base w running memory
      (judge_steps (map judged_step steps) context at (judge_root (context.variables name) through at).ty).ty
      (next_c (each_of_c (map step_c steps) scope memory) (λ ways. given (Some (further (named_location scope through name) (way_of ways)))))
      (reach_along (map step_flat steps) ground (start_of_slot (ground.slots name)))
  place-case through name steps h at none room spelled =
      place-agrees known lists structs shaped limit context scope ground chains base w running memory through name at (each_of_c (map step_c steps))
      (map step_flat steps)
      (λ o. (judge_steps (map judged_step steps) context at o).ty) (first_empty _ _ none)
      (λ ty is. steps-agree steps h at ty
      (ap (λ o. (judge_steps (map judged_step steps) context at o).faults) (sym is)
      ∙ second_empty (judge_root (context.variables name) through at).faults _ none)
      room spelled)

  step-case : (name : Text) (i : Option CIndex) → Optional OfIndex i → OfStep (roll-CStep (record { member = name; index = i }))
  step-case name None h at ty none room spelled =
      let n : (judge_into context name None at (Some ty)).faults ≡ [] = rw (fold-roll-CStep) at none in
      rw (fold-roll-CStep, fold-roll-CStep, fold-roll-CStep)
      (step-plain known lists structs shaped limit context scope ground chains base w running memory ty name at n)
  step-case name (Some i) h at ty none room spelled =
      let n : (judged_index i context at).faults ++ (judge_into context name (Some (judged_index i context at).length) at (Some ty)).faults ≡ [] =
      rw (fold-roll-CStep) at none in
      let r : Room (calls_in_index i) = rw (fold-roll-CStep) at room in
      let s : (is_name name && spells_index i) ≡ true = rw (fold-roll-CStep) at spelled in
      rw (fold-roll-CStep, fold-roll-CStep, fold-roll-CStep)
      (step-indexed known lists structs shaped limit context scope ground chains base w running memory ty name (judged_index i context at).length (index_c i)
      (index_flat i ground) at
      (h at (first_empty _ _ n) r (and_second (is_name name) _ s)) (second_empty (judged_index i context at).faults _ n))

  expr_cases : ExprCases OfArg OfKind OfCall OfExpr OfIndex OfPlace OfStep
  expr_cases = record {
    value = λ e h at none room spelled cells stood.
        rw (fold-roll-CArg, fold-roll-CArg, fold-roll-CArg)
        (value-case e h (rw (fold-roll-CArg) at none) (rw (fold-roll-CArg) at room) (rw (fold-roll-CArg) at spelled) cells stood);
    address = λ p h at none room spelled cells stood.
        rw (fold-roll-CArg, fold-roll-CArg, fold-roll-CArg)
        (address-case p h at (rw (fold-roll-CArg) at none) (rw (fold-roll-CArg) at room) (rw (fold-roll-CArg) at spelled) cells stood);
    literal = λ t n at none room spelled cells stood.
        let fits : is_literal t n ≡ true = rw (fold-roll-CExprKind) at spelled in
        rw (fold-roll-CExprKind, fold-roll-CExprKind, fold-roll-CExprKind) (record { count = refl; stands = stood; answer = (refl, literal-fits t n fits) });
    read = λ p h at none room spelled cells stood.
        rw (fold-roll-CExprKind, fold-roll-CExprKind, fold-roll-CExprKind)
        (read-case p h at (rw (fold-roll-CExprKind) at none) (rw (fold-roll-CExprKind) at room) (rw (fold-roll-CExprKind) at spelled) cells stood);
    call = λ c h at none room spelled cells stood.
        let n : (judged_call c context at).faults ++ unless (not (is_void (known_result (judged_call c context at).signature))) void_as_statement at ≡ [] =
        rw (fold-roll-CExprKind) at none in
        rw (fold-roll-CExprKind, fold-roll-CExprKind, fold-roll-CExprKind)
        (result-of-call (judged_call c context at).signature (call_c c scope memory) (call_flat c ground base cells)
        (h at (first_empty _ _ n) (rw (fold-roll-CExprKind) at room) (rw (fold-roll-CExprKind) at spelled) cells stood)
        (unless-nil (not (is_void (known_result (judged_call c context at).signature))) void_as_statement at
        (second_empty (judged_call c context at).faults _ n)));
    negation = λ e h at none room spelled cells stood.
        let n : (judged_expr e context).faults ++ unless (agree (judged_expr e context).ty (Some bool_type)) operand_type at ≡ [] =
        rw (fold-roll-CExprKind) at none in
        rw (fold-roll-CExprKind, fold-roll-CExprKind, fold-roll-CExprKind)
        (not-case (judged_expr e context).ty (value_c e scope memory) (value_flat e ground base cells)
        (unless-nil (agree (judged_expr e context).ty (Some bool_type)) operand_type at (second_empty (judged_expr e context).faults _ n))
        (h (first_empty _ _ n) (rw (fold-roll-CExprKind) at room) (rw (fold-roll-CExprKind) at spelled) cells stood));
    two = λ op a b ha hb at none room spelled cells stood.
        rw (fold-roll-CExprKind, fold-roll-CExprKind, fold-roll-CExprKind)
        (two-case op a b ha hb at (rw (fold-roll-CExprKind) at none) (rw (fold-roll-CExprKind) at room) (rw (fold-roll-CExprKind) at spelled) cells stood);
    calling = λ name args h at none room spelled cells stood.
        rw (fold-roll-CCall, fold-roll-CCall, fold-roll-CCall)
        (calling-case name args h at (rw (fold-roll-CCall) at none) (rw (fold-roll-CCall) at room) (rw (fold-roll-CCall) at spelled) cells stood);
    expr = λ place what h none room spelled cells stood.
        rw (fold-roll-CExpr, fold-roll-CExpr, fold-roll-CExpr)
        (h place (rw (fold-roll-CExpr) at none) (rw (fold-roll-CExpr) at room) (rw (fold-roll-CExpr) at spelled) cells stood);
    index = λ signed e length h at none room spelled.
        let s : (spells_expr e && is_length length) ≡ true = rw (fold-roll-CIndex) at spelled in
        rw (fold-roll-CIndex, fold-roll-CIndex, fold-roll-CIndex)
        (index-case signed e length h at (rw (fold-roll-CIndex) at none) (rw (fold-roll-CIndex) at room) (and_first _ _ s));
    place = λ through name steps h at none room spelled.
        let s : (is_name name && all_of (map spells_step steps)) ≡ true = rw (fold-roll-CPlace) at spelled in
        rw (fold-roll-CPlace, fold-roll-CPlace, fold-roll-CPlace)
        (place-case through name steps h at (rw (fold-roll-CPlace) at none) (rw (fold-roll-CPlace) at room) (and_second (is_name name) _ s));
    step = step-case;
  }

  pub expr-agrees : (e : CExpr) → OfExpr e
  expr-agrees = induct_expr OfArg OfKind OfCall OfExpr OfIndex OfPlace OfStep expr_cases

  pub place-facts : (p : CPlace) → OfPlace p
  place-facts = induct_place OfArg OfKind OfCall OfExpr OfIndex OfPlace OfStep expr_cases

  pub call-facts : (c : CCall) → OfCall c
  call-facts = induct_call OfArg OfKind OfCall OfExpr OfIndex OfPlace OfStep expr_cases
