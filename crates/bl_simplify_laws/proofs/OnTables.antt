-- A C function whose calls may be made does the same over two tables that know the same.
use Rattle.std.proofs.Common.{◌≡◌, ℕ, ◌+◌, ℤ, pos, Bool, true, false, not, ◌&&◌, ◌||◌, List, [], ◌∷◌, map, Option}
use Rattle.std.proofs.Common.{Some, None, refl, ap, sym, subst, ◌∙◌, arith}
use Rattle.std.specs.List.{list_all}
use Rattle.std.proofs.lemmas.List.Elements.{All-cons, All-head, All-nil, All-tail}
use Rattle.std.specs.Prelude.{All, bytes_eq, option_map, unwrap_or, if◌then◌else◌}
use Rattle.bl_tree.specs.Numbers.{checked_of, is_one}
use Rattle.bl_tree.specs.declared.text.Text.{Text}
use Rattle.bl_tree.specs.declared.place.Place.{Place}
use Rattle.bl_tree.specs.declared.scalar.Scalar.TheVariants.{Bool as OfBool}
use Rattle.bl_tree.specs.declared.scalar.Op.{Op}
use Rattle.bl_tree.specs.declared.scalar.Op.TheVariants.{Add, Sub, Mul, Div, Rem, Minus, BitAnd, BitOr, BitXor, BitNot, Shl, Shr}
use Rattle.bl_tree.specs.declared.scalar.Op.TheVariants.{Eq, Ne, Lt, Le, Gt, Ge, And, Or, Not}
use Rattle.bl_tree.specs.declared.c.CArg.{CArg, fold-CArg, fold-roll-CArg}
use Rattle.bl_tree.specs.declared.c.CCall.{CCall, fold-roll-CCall}
use Rattle.bl_tree.specs.declared.c.CExpr.{CExpr, fold-roll-CExpr}
use Rattle.bl_tree.specs.declared.c.CExprKind.{CExprKind, fold-CExprKind, fold-roll-CExprKind}
use Rattle.bl_tree.specs.declared.c.CIndex.{CIndex, fold-CIndex, fold-roll-CIndex}
use Rattle.bl_tree.specs.declared.c.CParam.{CParam}
use Rattle.bl_tree.specs.declared.c.CPlace.{CPlace, fold-roll-CPlace, roll-CPlace}
use Rattle.bl_tree.specs.declared.c.CStep.{CStep, fold-CStep, fold-roll-CStep, roll-CStep}
use Rattle.bl_tree.specs.declared.c.CStmt.{CStmt, fold-roll-CStmt}
use Rattle.bl_tree.specs.declared.c.CStmtKind.{fold-roll-CStmtKind}
use Rattle.bl_tree.specs.declared.c.CStmtKind.TheOpen.{CStmtKind-F}
use Rattle.bl_ctext.specs.declared.builtin.Builtin.{Builtin}
use Rattle.bl_ctext_semantics.specs.Builtin.{builtin_of}
use Rattle.bl_ctext_semantics.specs.Course.{End, goes_on, breaks, returns, traps, Outcome, going, result_at, turn_limit, turn_or_none}
use Rattle.bl_ctext_semantics.specs.Meaning.{ArgumentValue, CStmtMeaning, CallResult, Evaluates, Meaning, Scope, at_once, block_c, block_of}
use Rattle.bl_ctext_semantics.specs.Meaning.{by_address, by_value, call_c, call_end, called_after, called_as, each_of}
use Rattle.bl_ctext_semantics.specs.Meaning.{further, given, location_c, named_location, next, once_more, pointers_of, result_of, runs_c}
use Rattle.bl_ctext_semantics.specs.Meaning.{two_values, value_c, way_of, with_params}
use Rattle.bl_ctext_semantics.specs.Memory.{CValue, Location, Memory, Root, state_object, input_object, output_object, variable}
use Rattle.bl_ctext_semantics.specs.Memory.{scalar, scalar_number, without_frame}
use Rattle.bl_ctext_semantics.specs.Tables.{Table, found, table_of}
use Rattle.bl_ctext_semantics.proofs.Folds.{arg_c, index_c, kind_c, step_c}
use Rattle.bl_ctext_semantics.proofs.Induction.{ExprCases, Optional, StmtCases, induct_call, induct_expr, induct_place, induct_stmt, stmt}
use Rattle.bl_simplify_laws.specs.declared.facts.CSpot.{CSpot}
use Rattle.bl_simplify_laws.specs.Observed.{PassedBelow, PassesBelow, PointBelow, RootBelow, Observed, SeenCall, broke, call_seen_at, failed, gave, returned}
use Rattle.bl_simplify_laws.specs.Observed.{observed, observed_at, seen_call, trapped, went_on}
use Rattle.bl_simplify_laws.specs.Spots.{OwnApart, are_apart, first_of, is_own, member_of_step, spot_of_place}
use Rattle.bl_simplify_laws.specs.Tables.{ApartFrom, ArgStands, Fine, FirstApart, KnownAlike, StepStands, TablesAlike, TablesDecide}
use Rattle.bl_simplify_laws.specs.Tables.{TablesDecideBlocks, apart_from_lent, arg_stands, call_stands, calls_stand_in, calls_stand_in_call}
use Rattle.bl_simplify_laws.specs.Tables.{calls_stand_in_expr, calls_stand_in_place, expr_stands, first_apart, has_name, index_stands}
use Rattle.bl_simplify_laws.specs.Tables.{kind_stands, own_lent, owns_first, place_stands, step_stands}
use Rattle.bl_simplify_laws.proofs.OnOutcomes.{EachAlike, RunAlike, ended-same, loop-same, next-same, order-same}
use Rattle.bl_simplify_laws.proofs.OnSpots.{InSpot, and-left, and-right, next-has, next-with, place-in-spot, same-name, some-of, spots-apart}

-- ---- where places lead

pub below-more : (depth : ℕ) (root : Root) → RootBelow depth root → RootBelow (depth + 1) root
below-more depth state_object h = tt
below-more depth input_object h = tt
below-more depth output_object h = tt
below-more depth (variable d name) h = omega arith

-- the result that is seen of a call
pub result_in : SeenCall → Option ℤ
result_in failed = None
result_in (gave n m) = Some n

pub result-seen : (o : Option ℤ) (m : Memory) → result_in (call_seen_at o m) ≡ o
unfolding result_in
result-seen None m = refl
result-seen (Some n) m = refl

-- what is seen of a call as a statement
abbrev pub of_call : SeenCall → Observed Memory
of_call failed = trapped
of_call (gave n m) = went_on m

pub call-seen : (o : Option ℤ) (m : Memory) → observed_at (call_end o) m ≡ of_call (call_seen_at o m)
call-seen None m = refl
call-seen (Some n) m = refl

-- a call that may be the prelude's
as-same : (framed : List Text) (name : Text) (builtin : Option Builtin) (a b : Option Meaning) (depth : ℕ) (passed : List ArgumentValue) (memory : Memory) →
    KnownAlike framed name a b → Fine framed name depth passed →
    seen_call (called_as builtin a depth passed memory) ≡ seen_call (called_as builtin b depth passed memory)
as-same framed name (Some builtin) a b depth passed memory h fine = refl
as-same framed name None (Some a) (Some b) depth passed memory h fine = h depth passed memory fine
as-same framed name None None None depth passed memory h fine = refl
as-same framed name None None (Some b) depth passed memory h fine = absurd h
as-same framed name None (Some a) None depth passed memory h fine = absurd h

implied : (b c : Bool) → (not b || c) ≡ true → b ≡ true → c ≡ true
implied true c h e = h
implied false c h e = cc

both-of : {A : Type 0} (P Q : A → Type 0) (o : Option A) → Optional P o → Optional Q o → Optional (λ a. P a × Q a) o
both-of P Q None h k = tt
both-of P Q (Some a) h k = (h, k)

module _ (framed : List Text) (one other : Table Meaning) (alike : TablesAlike framed one other) (depth : ℕ) (pointers : Table Location)
    (below : PointBelow depth pointers) (own : OwnApart pointers) where
  abbrev first : Scope
  first = record { known = one; depth = depth; pointers = pointers }

  abbrev second : Scope
  second = record { known = other; depth = depth; pointers = pointers }

  -- what is evaluated over the one table is what is evaluated over the other
  abbrev Same : {A : Type 0} → Evaluates A → Type 0
  Same evaluate = (m : Memory) → (evaluate first m).answer ≡ (evaluate second m).answer

  -- what is evaluated has P
  abbrev Has : {A : Type 0} → (A → Type 0) → Evaluates A → Type 0
  Has P evaluate = (m : Memory) → Optional P (evaluate first m).answer

  abbrev Leads : Location → Type 0
  Leads l = RootBelow (depth + 1) l.root

  abbrev Passes : ArgumentValue → Type 0
  Passes a = PassesBelow (depth + 1) a

  -- a pointer leads into the spot whose address is passed on
  abbrev Lent : Option CSpot → ArgumentValue → Type 0
  Lent None (by_value v) = Unit {0}
  Lent None (by_address l) = ⊥
  Lent (Some spot) (by_value v) = ⊥
  Lent (Some spot) (by_address l) = InSpot first spot l

  abbrev EachLent : List ArgStands → List ArgumentValue → Type 0
  EachLent [] [] = Unit {0}
  EachLent (a ∷ rest) (v ∷ values) = Lent a.lent v × EachLent rest values
  EachLent [] (v ∷ values) = ⊥
  EachLent (a ∷ rest) [] = ⊥

  rest-apart : (spot : CSpot) (k : Location) → InSpot first spot k → (checks : List ArgStands) (values : List ArgumentValue) → EachLent checks values →
      list_all (λ a. apart_from_lent spot a.lent) checks ≡ true → ApartFrom k values
  rest-apart spot k inside [] [] h all = tt
  rest-apart spot k inside [] (v ∷ values) h all = absurd h
  rest-apart spot k inside (a ∷ checks) [] h all = absurd h
  rest-apart spot k inside (a ∷ checks) (v ∷ values) h all =
      by a.lent v h.0 (and-left (apart_from_lent spot a.lent) (list_all (λ a. apart_from_lent spot a.lent) checks) all)
      (rest-apart spot k inside checks values h.1 (and-right (apart_from_lent spot a.lent) (list_all (λ a. apart_from_lent spot a.lent) checks) all))
    where
      by : (o : Option CSpot) (v : ArgumentValue) → Lent o v → apart_from_lent spot o ≡ true → ApartFrom k values → ApartFrom k (v ∷ values)
      by None (by_value v) h e rest = rest
      by None (by_address l) h e rest = absurd h
      by (Some s) (by_value v) h e rest = absurd h
      by (Some s) (by_address l) h e rest = (spots-apart first below own spot s k l e inside h, rest)

  passed-apart : (checks : List ArgStands) (values : List ArgumentValue) → EachLent checks values → first_apart checks ≡ true → FirstApart values
  passed-apart [] [] h e = cc
  passed-apart [] (v ∷ values) h e = cc
  passed-apart (a ∷ checks) [] h e = absurd h
  passed-apart (a ∷ checks) (v ∷ values) h e = by a.lent v h.0 e
    where
      by : (o : Option CSpot) (v : ArgumentValue) → Lent o v → own_lent o checks ≡ true → FirstApart (v ∷ values)
      by None v h e = cc
      by (Some s) (by_value v) h e = absurd h
      by (Some s) (by_address l) inside e = rest-apart s l inside checks values h.1 e

  -- ---- expressions

  abbrev arg_check : CArg → ArgStands
  arg_check = fold-CArg _ _ _ _ _ _ _ arg_stands kind_stands (call_stands framed) expr_stands index_stands place_stands step_stands

  abbrev kind_check : CExprKind → Bool
  kind_check = fold-CExprKind _ _ _ _ _ _ _ arg_stands kind_stands (call_stands framed) expr_stands index_stands place_stands step_stands

  abbrev index_check : CIndex → Bool
  index_check = fold-CIndex _ _ _ _ _ _ _ arg_stands kind_stands (call_stands framed) expr_stands index_stands place_stands step_stands

  abbrev step_check : CStep → StepStands
  step_check = fold-CStep _ _ _ _ _ _ _ arg_stands kind_stands (call_stands framed) expr_stands index_stands place_stands step_stands

  abbrev OfArg : CArg → Type 0
  OfArg a = (arg_check a).stands ≡ true → Same (arg_c a) × (Has Passes (arg_c a) × Has (Lent (arg_check a).lent) (arg_c a))

  abbrev OfKind : CExprKind → Type 0
  OfKind k = kind_check k ≡ true → Same (kind_c k)

  abbrev OfCall : CCall → Type 0
  OfCall c = calls_stand_in_call framed c ≡ true → (m : Memory) → seen_call (call_c c first m) ≡ seen_call (call_c c second m)

  abbrev OfExpr : CExpr → Type 0
  OfExpr e = calls_stand_in_expr framed e ≡ true → Same (value_c e)

  abbrev OfIndex : CIndex → Type 0
  OfIndex i = index_check i ≡ true → Same (index_c i)

  abbrev OfPlace : CPlace → Type 0
  OfPlace p =
      ((calls_stand_in_place framed p).spot ≡ spot_of_place p)
      × ((calls_stand_in_place framed p).stands ≡ true → Same (location_c p) × Has Leads (location_c p))

  abbrev OfStep : CStep → Type 0
  OfStep s = ((step_check s).member ≡ member_of_step s) × ((step_check s).stands ≡ true → Same (step_c s))

  steps-same : (steps : List CStep) → All OfStep steps → list_all (λ s. s.stands) (map step_check steps) ≡ true → Same (each_of (map step_c steps))
  steps-same [] h all m = refl
  steps-same (x ∷ xs) h all m =
      next-same (step_c x first m) (step_c x second m) _ _
      ((All-head OfStep x xs h).1 (and-left (step_check x).stands (list_all (λ s. s.stands) (map step_check xs)) all) m)
      (λ a. next-same (each_of (map step_c xs) first m) (each_of (map step_c xs) second m) _ _
      (steps-same xs (All-tail OfStep x xs h) (and-right (step_check x).stands (list_all (λ s. s.stands) (map step_check xs)) all) m) (λ others. refl))

  members-same : (steps : List CStep) → All OfStep steps → map (λ (s : StepStands). s.member) (map step_check steps) ≡ map member_of_step steps
  members-same [] h = refl
  members-same (x ∷ xs) h = (λ i. (All-head OfStep x xs h).0 i ∷ members-same xs (All-tail OfStep x xs h) i)

  args-same : (xs : List CArg) → All OfArg xs → list_all (λ a. a.stands) (map arg_check xs) ≡ true → Same (each_of (map arg_c xs))
  args-same [] h all m = refl
  args-same (x ∷ xs) h all m =
      next-same (arg_c x first m) (arg_c x second m) _ _
      ((All-head OfArg x xs h (and-left (arg_check x).stands (list_all (λ a. a.stands) (map arg_check xs)) all)).0 m)
      (λ a. next-same (each_of (map arg_c xs) first m) (each_of (map arg_c xs) second m) _ _
      (args-same xs (All-tail OfArg x xs h) (and-right (arg_check x).stands (list_all (λ a. a.stands) (map arg_check xs)) all) m) (λ others. refl))

  args-pass : (xs : List CArg) → All OfArg xs → list_all (λ a. a.stands) (map arg_check xs) ≡ true → Has (PassedBelow (depth + 1)) (each_of (map arg_c xs))
  args-pass [] h all m = tt
  args-pass (x ∷ xs) h all m =
      next-with Passes (PassedBelow (depth + 1)) (arg_c x first m) _
      ((All-head OfArg x xs h (and-left (arg_check x).stands (list_all (λ a. a.stands) (map arg_check xs)) all)).1.0 m)
      (λ a passes. next-with (PassedBelow (depth + 1)) (PassedBelow (depth + 1)) (each_of (map arg_c xs) first m) _
      (args-pass xs (All-tail OfArg x xs h) (and-right (arg_check x).stands (list_all (λ a. a.stands) (map arg_check xs)) all) m)
      (λ others rest. (passes, rest)))

  args-lent : (xs : List CArg) → All OfArg xs → list_all (λ a. a.stands) (map arg_check xs) ≡ true → Has (EachLent (map arg_check xs)) (each_of (map arg_c xs))
  args-lent [] h all m = tt
  args-lent (x ∷ xs) h all m =
      next-with (Lent (arg_check x).lent) (EachLent (map arg_check (x ∷ xs))) (arg_c x first m) _
      ((All-head OfArg x xs h (and-left (arg_check x).stands (list_all (λ a. a.stands) (map arg_check xs)) all)).1.1 m)
      (λ a lent. next-with (EachLent (map arg_check xs)) (EachLent (map arg_check (x ∷ xs))) (each_of (map arg_c xs) first m) _
      (args-lent xs (All-tail OfArg x xs h) (and-right (arg_check x).stands (list_all (λ a. a.stands) (map arg_check xs)) all) m)
      (λ others rest. (lent, rest)))

  -- arguments with which the function of this name may be called
  args-fine : (name : Text) (xs : List CArg) → All OfArg xs →
      (list_all (λ a. a.stands) (map arg_check xs) && (not (has_name framed name) || first_apart (map arg_check xs))) ≡ true →
      Has (Fine framed name (depth + 1)) (each_of (map arg_c xs))
  args-fine name xs h all m =
      by (each_of (map arg_c xs) first m).answer
      (both-of (PassedBelow (depth + 1)) (EachLent (map arg_check xs)) (each_of (map arg_c xs) first m).answer (args-pass xs h stands m)
      (args-lent xs h stands m))
    where
      stands : list_all (λ (a : ArgStands). a.stands) (map arg_check xs) ≡ true
      stands = and-left (list_all (λ (a : ArgStands). a.stands) (map arg_check xs)) (not (has_name framed name) || first_apart (map arg_check xs)) all

      by : (o : Option (List ArgumentValue)) → Optional (λ values. PassedBelow (depth + 1) values × EachLent (map arg_check xs) values) o →
          Optional (Fine framed name (depth + 1)) o
      by None h = tt
      by (Some values) h = record {
        below = h.0;
        apart = λ has.
            passed-apart (map arg_check xs) values h.1
            (implied (has_name framed name) (first_apart (map arg_check xs))
            (and-right (list_all (λ (a : ArgStands). a.stands) (map arg_check xs)) (not (has_name framed name) || first_apart (map arg_check xs)) all) has);
      }

  choice-same : (b : Bool) (f g : Evaluates CValue) → Same f → Same g → (m : Memory) →
      ((if b then f else g) first m).answer ≡ ((if b then f else g) second m).answer
  choice-same true f g h k m = h m
  choice-same false f g h k m = k m

  both-same : (op : Op) (left right : Evaluates CValue) → Same left → Same right → (m : Memory) →
      (next (left first m) (λ a. next (right first m) (λ b. given (option_map scalar (checked_of op OfBool (scalar_number a) (scalar_number b)))))).answer
      ≡ (next (left second m) (λ a. next (right second m) (λ b. given (option_map scalar (checked_of op OfBool (scalar_number a) (scalar_number b)))))).answer
  both-same op left right h k m =
      next-same (left first m) (left second m) _ _ (h m) (λ a. next-same (right first m) (right second m) _ _ (k m) (λ b. refl))

  two-same : (op : Op) (left right : Evaluates CValue) → Same left → Same right → Same (two_values op left right)
  two-same And left right h k m =
      next-same (left first m) (left second m) _ _ (h m) (λ a. choice-same (is_one (scalar_number a)) right (at_once (pos 0)) k (λ m. refl) m)
  two-same Or left right h k m =
      next-same (left first m) (left second m) _ _ (h m) (λ a. choice-same (is_one (scalar_number a)) (at_once (pos 1)) right (λ m. refl) k m)
  two-same Not left right h k m = both-same Not left right h k m
  two-same Minus left right h k m = both-same Minus left right h k m
  two-same BitNot left right h k m = both-same BitNot left right h k m
  two-same Add left right h k m = both-same Add left right h k m
  two-same Sub left right h k m = both-same Sub left right h k m
  two-same Mul left right h k m = both-same Mul left right h k m
  two-same Div left right h k m = both-same Div left right h k m
  two-same Rem left right h k m = both-same Rem left right h k m
  two-same BitAnd left right h k m = both-same BitAnd left right h k m
  two-same BitOr left right h k m = both-same BitOr left right h k m
  two-same BitXor left right h k m = both-same BitXor left right h k m
  two-same Shl left right h k m = both-same Shl left right h k m
  two-same Shr left right h k m = both-same Shr left right h k m
  two-same Eq left right h k m = both-same Eq left right h k m
  two-same Ne left right h k m = both-same Ne left right h k m
  two-same Lt left right h k m = both-same Lt left right h k m
  two-same Le left right h k m = both-same Le left right h k m
  two-same Gt left right h k m = both-same Gt left right h k m
  two-same Ge left right h k m = both-same Ge left right h k m

  -- ---- calls

  after-same : (memory : Memory) (name : Text) (j k : ℕ) (p q : Option (List ArgumentValue)) → p ≡ q → Optional (Fine framed name (depth + 1)) p →
      seen_call (called_after first memory name j p) ≡ seen_call (called_after second memory name k q)
  after-same memory name j k p q same passes = by p passes ∙ ap (λ o. seen_call (called_after second memory name k o)) same
    where
      by : (o : Option (List ArgumentValue)) → Optional (Fine framed name (depth + 1)) o →
          seen_call (called_after first memory name j o) ≡ seen_call (called_after second memory name k o)
      by None h = refl
      by (Some passed) h = as-same framed name (builtin_of name) (one name) (other name) (depth + 1) passed memory (alike name) h

  result-same : (c d : CallResult) → seen_call c ≡ seen_call d → (result_of c).answer ≡ (result_of d).answer
  result-same c d h = ap (option_map scalar) (sym (result-seen c.result c.memory) ∙ ap result_in h ∙ result-seen d.result d.memory)

  -- ---- places

  named-same : (through : Bool) (name : Text) → named_location first through name ≡ named_location second through name
  named-same true name = refl
  named-same false name = refl

  named-leads : (through : Bool) (name : Text) → Leads (named_location first through name)
  named-leads false name = omega arith
  named-leads true name = by (pointers name) refl
    where
      by : (o : Option Location) → pointers name ≡ o → Leads (unwrap_or o (record { root = variable depth name; parts = [] }))
      by None h = omega arith
      by (Some place) h = below-more depth place.root (below name place h)

  of-place : (through : Bool) (name : Text) (steps : List CStep) → All OfStep steps →
      OfPlace (roll-CPlace (record { through = through; name = name; steps = steps }))
  of-place through name steps h = (spot, λ stands. (same (rw fold-roll-CPlace at stands), leads))
    where
      spot : (calls_stand_in_place framed (roll-CPlace (record { through = through; name = name; steps = steps }))).spot
          ≡ spot_of_place (roll-CPlace (record { through = through; name = name; steps = steps }))
      spot =
          rw (fold-roll-CPlace, fold-roll-CPlace)
          (ap (λ members. record { through = through; name = name; first = first_of members }) (members-same steps h))

      same : list_all (λ (s : StepStands). s.stands) (map step_check steps) ≡ true →
          Same (location_c (roll-CPlace (record { through = through; name = name; steps = steps })))
      same all m =
          rw fold-roll-CPlace
          (next-same (each_of (map step_c steps) first m) (each_of (map step_c steps) second m) _ _ (steps-same steps h all m)
          (λ ways i. Some (further (named-same through name i) (way_of ways))))

      leads : Has Leads (location_c (roll-CPlace (record { through = through; name = name; steps = steps })))
      leads m = rw fold-roll-CPlace (next-has Leads (each_of (map step_c steps) first m) _ (λ ways. named-leads through name))

  step-same : (name : Text) (i : Option CIndex) → Optional OfIndex i → OfStep (roll-CStep (record { member = name; index = i }))
  step-same name None h = (rw (fold-roll-CStep, fold-roll-CStep) refl, λ stands m. rw fold-roll-CStep refl)
  step-same name (Some i) h = (
    rw (fold-roll-CStep, fold-roll-CStep) refl,
    λ stands m.
        let own : index_check i ≡ true = rw fold-roll-CStep at stands in
        rw fold-roll-CStep (next-same (index_c i first m) (index_c i second m) _ _ (h own m) (λ parts. refl)),
  )

  lent-in-spot : (p : CPlace) → OfPlace p → Has (λ l. InSpot first (calls_stand_in_place framed p).spot l) (location_c p)
  lent-in-spot p h m = subst (λ s. Optional (InSpot first s) (location_c p first m).answer) (sym h.0) (place-in-spot first p m)

  expr_cases : ExprCases OfArg OfKind OfCall OfExpr OfIndex OfPlace OfStep
  expr_cases = record {
    value = λ e h stands.
        let own : calls_stand_in_expr framed e ≡ true = rw fold-roll-CArg at stands in (
          λ m. rw fold-roll-CArg (next-same (value_c e first m) (value_c e second m) _ _ (h own m) (λ v. refl)),
          (
            λ m. rw fold-roll-CArg (next-has Passes (value_c e first m) _ (λ v. tt)),
            λ m. rw (fold-roll-CArg, fold-roll-CArg) (next-has (Lent None) (value_c e first m) _ (λ v. tt)),
          ),
        );
    address = λ p h stands.
        let own : (calls_stand_in_place framed p).stands ≡ true = rw fold-roll-CArg at stands in (
          λ m. rw fold-roll-CArg (next-same (location_c p first m) (location_c p second m) _ _ ((h.1 own).0 m) (λ l. refl)),
          (
            λ m. rw fold-roll-CArg (next-with Leads Passes (location_c p first m) _ ((h.1 own).1 m) (λ l leads. leads)),
            λ m. rw (fold-roll-CArg, fold-roll-CArg)
                (next-with (InSpot first (calls_stand_in_place framed p).spot) (Lent (Some (calls_stand_in_place framed p).spot)) (location_c p first m) _
                (lent-in-spot p h m) (λ l inside. inside)),
          ),
        );
    literal = λ t n stands m. rw fold-roll-CExprKind refl;
    read = λ p h stands m.
        let own : (calls_stand_in_place framed p).stands ≡ true = rw fold-roll-CExprKind at stands in
        rw fold-roll-CExprKind (next-same (location_c p first m) (location_c p second m) _ _ ((h.1 own).0 m) (λ l. refl));
    call = λ c h stands m.
        let own : calls_stand_in_call framed c ≡ true = rw fold-roll-CExprKind at stands in
        rw fold-roll-CExprKind (result-same (call_c c first m) (call_c c second m) (h own m));
    negation = λ e h stands m.
        let own : calls_stand_in_expr framed e ≡ true = rw fold-roll-CExprKind at stands in
        rw fold-roll-CExprKind (next-same (value_c e first m) (value_c e second m) _ _ (h own m) (λ v. refl));
    two = λ op a b h k stands m.
        let own : (calls_stand_in_expr framed a && calls_stand_in_expr framed b) ≡ true = rw fold-roll-CExprKind at stands in
        rw fold-roll-CExprKind
        (two-same op (value_c a) (value_c b) (h (and-left (calls_stand_in_expr framed a) (calls_stand_in_expr framed b) own))
        (k (and-right (calls_stand_in_expr framed a) (calls_stand_in_expr framed b) own)) m);
    calling = λ name args h stands m.
        let own : (list_all (λ (a : ArgStands). a.stands) (map arg_check args) && (not (has_name framed name) || first_apart (map arg_check args))) ≡ true =
        rw fold-roll-CCall at stands in
        rw fold-roll-CCall
        (after-same m name (each_of (map arg_c args) first m).count (each_of (map arg_c args) second m).count (each_of (map arg_c args) first m).answer
        (each_of (map arg_c args) second m).answer
        (args-same args h
        (and-left (list_all (λ (a : ArgStands). a.stands) (map arg_check args)) (not (has_name framed name) || first_apart (map arg_check args)) own) m)
        (args-fine name args h own m));
    expr = λ place what h stands m.
        let own : kind_check what ≡ true = rw fold-roll-CExpr at stands in
        rw fold-roll-CExpr (h own m);
    index = λ signed at length h stands m.
        let own : calls_stand_in_expr framed at ≡ true = rw fold-roll-CIndex at stands in
        rw fold-roll-CIndex (next-same (value_c at first m) (value_c at second m) _ _ (h own m) (λ k. refl));
    place = of-place;
    step = step-same;
  }

  expr-same : (e : CExpr) → OfExpr e
  expr-same = induct_expr OfArg OfKind OfCall OfExpr OfIndex OfPlace OfStep expr_cases

  place-same : (p : CPlace) → OfPlace p
  place-same = induct_place OfArg OfKind OfCall OfExpr OfIndex OfPlace OfStep expr_cases

  call-same : (c : CCall) → OfCall c
  call-same = induct_call OfArg OfKind OfCall OfExpr OfIndex OfPlace OfStep expr_cases

  -- ---- statements

  abbrev OfStmt : CStmt → Type 0
  OfStmt s = calls_stand_in framed s ≡ true → RunAlike (runs_c s first) (runs_c s second)

  each-stmt : (stmts : List CStmt) → All OfStmt stmts → list_all (λ b. b) (map (calls_stand_in framed) stmts) ≡ true →
      EachAlike (map (λ (run : CStmtMeaning). run first) (map runs_c stmts)) (map (λ (run : CStmtMeaning). run second) (map runs_c stmts))
  each-stmt [] h all = tt
  each-stmt (s ∷ stmts) h all = (
    All-head OfStmt s stmts h (and-left (calls_stand_in framed s) (list_all (λ b. b) (map (calls_stand_in framed) stmts)) all),
    each-stmt stmts (All-tail OfStmt s stmts h) (and-right (calls_stand_in framed s) (list_all (λ b. b) (map (calls_stand_in framed) stmts)) all),
  )

  block-same : (stmts : List CStmt) → All OfStmt stmts → list_all (λ b. b) (map (calls_stand_in framed) stmts) ≡ true →
      RunAlike (block_of (map runs_c stmts) first) (block_of (map runs_c stmts) second)
  block-same stmts h all = order-same _ _ (each-stmt stmts h all)

  chosen-same : (b : Bool) (f g : CStmtMeaning) → RunAlike (f first) (f second) → RunAlike (g first) (g second) →
      RunAlike ((if b then f else g) first) ((if b then f else g) second)
  chosen-same true f g h k = h
  chosen-same false f g h k = k

  turn-same : (b : Bool) (m : Memory) (f g : Memory → Outcome Memory) → RunAlike f g → observed (turn_or_none b m f) ≡ observed (turn_or_none b m g)
  turn-same true m f g h = h m
  turn-same false m f g h = refl

  if-same : (at : Place) (e : CExpr) (block : List CStmt) (more : Option (List CStmt)) → All OfStmt block → Optional (All OfStmt) more →
      OfStmt (stmt at (CStmtKind-F.If e block more))
  if-same at e block None h k stands m =
      let own : (calls_stand_in_expr framed e && (list_all (λ b. b) (map (calls_stand_in framed) block) && true)) ≡ true =
      rw (fold-roll-CStmt, fold-roll-CStmtKind) at stands in
      let inner : (list_all (λ b. b) (map (calls_stand_in framed) block) && true) ≡ true =
      and-right (calls_stand_in_expr framed e) (list_all (λ b. b) (map (calls_stand_in framed) block) && true) own in
      rw (fold-roll-CStmt, fold-roll-CStmtKind)
      (ended-same m _ _ (value_c e first m).answer (value_c e second m).answer _ _
      (expr-same e (and-left (calls_stand_in_expr framed e) (list_all (λ b. b) (map (calls_stand_in framed) block) && true) own) m)
      (λ v. chosen-same (is_one (scalar_number v)) (block_of (map runs_c block)) (block_of [])
      (block-same block h (and-left (list_all (λ b. b) (map (calls_stand_in framed) block)) true inner)) (λ m. refl) m))
  if-same at e block (Some more) h k stands m =
      let own : (calls_stand_in_expr framed e
      && (list_all (λ b. b) (map (calls_stand_in framed) block) && list_all (λ b. b) (map (calls_stand_in framed) more))) ≡ true =
      rw (fold-roll-CStmt, fold-roll-CStmtKind) at stands in
      let inner : (list_all (λ b. b) (map (calls_stand_in framed) block) && list_all (λ b. b) (map (calls_stand_in framed) more)) ≡ true =
      and-right (calls_stand_in_expr framed e)
      (list_all (λ b. b) (map (calls_stand_in framed) block) && list_all (λ b. b) (map (calls_stand_in framed) more)) own in
      rw (fold-roll-CStmt, fold-roll-CStmtKind)
      (ended-same m _ _ (value_c e first m).answer (value_c e second m).answer _ _
      (expr-same e
      (and-left (calls_stand_in_expr framed e)
      (list_all (λ b. b) (map (calls_stand_in framed) block) && list_all (λ b. b) (map (calls_stand_in framed) more)) own) m)
      (λ v. chosen-same (is_one (scalar_number v)) (block_of (map runs_c block)) (block_of (map runs_c more))
      (block-same block h
      (and-left (list_all (λ b. b) (map (calls_stand_in framed) block)) (list_all (λ b. b) (map (calls_stand_in framed) more)) inner))
      (block-same more k
      (and-right (list_all (λ b. b) (map (calls_stand_in framed) block)) (list_all (λ b. b) (map (calls_stand_in framed) more)) inner)) m))

  of-return : (at : Place) (e : Option CExpr) → OfStmt (stmt at (CStmtKind-F.Return e))
  of-return at None stands m = rw (fold-roll-CStmt, fold-roll-CStmtKind) refl
  of-return at (Some e) stands m =
      let own : calls_stand_in_expr framed e ≡ true = rw (fold-roll-CStmt, fold-roll-CStmtKind) at stands in
      rw (fold-roll-CStmt, fold-roll-CStmtKind)
      (ended-same m _ _ (value_c e first m).answer (value_c e second m).answer _ _ (expr-same e own m) (λ v. refl))

  stmt_cases : StmtCases OfStmt
  stmt_cases = record {
    set = λ at p e stands m.
        let own : ((calls_stand_in_place framed p).stands && calls_stand_in_expr framed e) ≡ true = rw (fold-roll-CStmt, fold-roll-CStmtKind) at stands in
        rw (fold-roll-CStmt, fold-roll-CStmtKind)
        (ended-same m _ _ _ _ going going
        (next-same (location_c p first m) (location_c p second m) _ _
        (((place-same p).1 (and-left (calls_stand_in_place framed p).stands (calls_stand_in_expr framed e) own)).0 m)
        (λ l. next-same (value_c e first m) (value_c e second m) _ _
        (expr-same e (and-right (calls_stand_in_place framed p).stands (calls_stand_in_expr framed e) own) m) (λ v. refl)))
        (λ n. refl));
    clear = λ at p name stands m.
        let own : (calls_stand_in_place framed p).stands ≡ true = rw (fold-roll-CStmt, fold-roll-CStmtKind) at stands in
        rw (fold-roll-CStmt, fold-roll-CStmtKind)
        (ended-same m _ _ (location_c p first m).answer (location_c p second m).answer _ _ (((place-same p).1 own).0 m) (λ l. refl));
    call = λ at c stands m.
        let own : calls_stand_in_call framed c ≡ true = rw (fold-roll-CStmt, fold-roll-CStmtKind) at stands in
        rw (fold-roll-CStmt, fold-roll-CStmtKind)
        (call-seen (call_c c first m).result (call_c c first m).memory ∙ ap of_call (call-same c own m)
        ∙ sym (call-seen (call_c c second m).result (call_c c second m).memory));
    branching = if-same;
    loop = λ at turn e body h stands m.
        let own : (calls_stand_in_expr framed e && list_all (λ b. b) (map (calls_stand_in framed) body)) ≡ true =
        rw (fold-roll-CStmt, fold-roll-CStmtKind) at stands in
        let first_own : calls_stand_in_expr framed e ≡ true =
        and-left (calls_stand_in_expr framed e) (list_all (λ b. b) (map (calls_stand_in framed) body)) own in
        rw (fold-roll-CStmt, fold-roll-CStmtKind)
        (loop-same turn_limit (once_more (value_c e) first) (once_more (value_c e) second) (block_of (map runs_c body) first)
        (block_of (map runs_c body) second)
        (λ f g like k. ended-same k _ _ (value_c e first k).answer (value_c e second k).answer _ _ (expr-same e first_own k)
        (λ v. turn-same (is_one (scalar_number v)) k f g like))
        (block-same body h (and-right (calls_stand_in_expr framed e) (list_all (λ b. b) (map (calls_stand_in framed) body)) own)) m);
    break = λ at stands m. rw (fold-roll-CStmt, fold-roll-CStmtKind) refl;
    returns = of-return;
  }

  every : (stmts : List CStmt) → All OfStmt stmts
  every [] = All-nil OfStmt
  every (s ∷ stmts) = All-cons OfStmt s stmts (induct_stmt OfStmt stmt_cases s) (every stmts)

  each-stands : (stmts : List CStmt) → list_all (calls_stand_in framed) stmts ≡ true → list_all (λ b. b) (map (calls_stand_in framed) stmts) ≡ true
  each-stands [] h = refl
  each-stands (s ∷ stmts) h = by (calls_stand_in framed s) (each-stands stmts) h
    where
      by : (b : Bool) → (list_all (calls_stand_in framed) stmts ≡ true → list_all (λ b. b) (map (calls_stand_in framed) stmts) ≡ true) →
          (b && list_all (calls_stand_in framed) stmts) ≡ true → (b && list_all (λ b. b) (map (calls_stand_in framed) stmts)) ≡ true
      by true later h = later h
      by false later h = cc

  pub body-same : (stmts : List CStmt) → list_all (calls_stand_in framed) stmts ≡ true → RunAlike (block_c stmts first) (block_c stmts second)
  body-same stmts all = block-same stmts (every stmts) (each-stands stmts all)

pub blocks-decided : TablesDecideBlocks
blocks-decided framed one other alike block stands depth pointers below own memory = body-same framed one other alike depth pointers below own block stands
    memory

-- ---- functions

-- what is seen of a call whose body does what is seen
abbrev pub leaving : ℕ → Observed Memory → SeenCall
leaving depth trapped = failed
leaving depth (went_on m) = gave (pos 0) (without_frame depth m)
leaving depth (broke m) = gave (pos 0) (without_frame depth m)
leaving depth (returned n m) = gave n (without_frame depth m)

pub left-seen : (depth : ℕ) (e : End) (m : Memory) → call_seen_at (result_at e) (without_frame depth m) ≡ leaving depth (observed_at e m)
left-seen depth goes_on m = refl
left-seen depth breaks m = refl
left-seen depth (returns n) m = refl
left-seen depth traps m = refl

-- pointers of a call lead where its arguments do
pub point-below : (depth : ℕ) (params : List CParam) (passed : List ArgumentValue) → PassedBelow depth passed →
    PointBelow depth (table_of (pointers_of params passed))
point-below depth [] [] h name place is = cc
point-below depth [] (a ∷ rest) h name place is = cc
point-below depth (p ∷ params) [] h name place is = cc
point-below depth (p ∷ params) (by_value v ∷ rest) h name place is = point-below depth params rest h.1 name place is
point-below depth (p ∷ params) (by_address l ∷ rest) h name place is =
    by (bytes_eq p.name name) (λ later. point-below depth params rest h.1 name place later) is
  where
    by : (b : Bool) → (found name (pointers_of params rest) ≡ Some place → RootBelow depth place.root) →
        (if b then Some l else found name (pointers_of params rest)) ≡ Some place → RootBelow depth place.root
    by true later is = subst (λ x. RootBelow depth x.root) (some-of l place is) h.0
    by false later is = later is

-- ---- own pointers

-- a pointer that a call has leads apart from a location where each argument does
pointer-apart : (own : Location) (params : List CParam) (passed : List ArgumentValue) → ApartFrom own passed → (name : Text) (l : Location) →
    found name (pointers_of params passed) ≡ Some l → are_apart own l ≡ true
pointer-apart own [] [] h name l is = cc
pointer-apart own [] (a ∷ rest) h name l is = cc
pointer-apart own (p ∷ params) [] h name l is = cc
pointer-apart own (p ∷ params) (by_value v ∷ rest) h name l is = pointer-apart own params rest h name l is
pointer-apart own (p ∷ params) (by_address k ∷ rest) h name l is = by (bytes_eq p.name name) (pointer-apart own params rest h.1 name l) is
  where
    by : (b : Bool) → (found name (pointers_of params rest) ≡ Some l → are_apart own l ≡ true) →
        (if b then Some k else found name (pointers_of params rest)) ≡ Some l → are_apart own l ≡ true
    by true later is = subst (λ x. are_apart own x ≡ true) (some-of k l is) h.0
    by false later is = later is

-- no pointer has an own pointer's name where no parameter has
not-owned : (params : List CParam) (passed : List ArgumentValue) → list_all (λ (q : CParam). not (is_own q.name)) params ≡ true → (name : Text) (l : Location) →
    is_own name ≡ true → found name (pointers_of params passed) ≡ Some l → ⊥
not-owned [] [] none name l owned is = cc
not-owned [] (a ∷ rest) none name l owned is = cc
not-owned (p ∷ params) [] none name l owned is = cc
not-owned (p ∷ params) (by_value v ∷ rest) none name l owned is =
    not-owned params rest (and-right (not (is_own p.name)) (list_all (λ (q : CParam). not (is_own q.name)) params) none) name l owned is
not-owned (p ∷ params) (by_address k ∷ rest) none name l owned is =
    by (bytes_eq p.name name) refl
    (not-owned params rest (and-right (not (is_own p.name)) (list_all (λ (q : CParam). not (is_own q.name)) params) none) name l owned) is
  where
    no_own : (b : Bool) → not b ≡ true → b ≡ true → ⊥
    no_own true h k = cc
    no_own false h k = cc

    by : (b : Bool) → bytes_eq p.name name ≡ b → (found name (pointers_of params rest) ≡ Some l → ⊥) →
        (if b then Some k else found name (pointers_of params rest)) ≡ Some l → ⊥
    by true e later is =
        no_own (is_own p.name) (and-left (not (is_own p.name)) (list_all (λ (q : CParam). not (is_own q.name)) params) none)
        (ap is_own (same-name p.name name e) ∙ owned)
    by false e later is = later is

-- a function's own pointers lead apart from its others in a call that may be made
pub own-apart : (framed : List Text) (name : Text) (depth : ℕ) (params : List CParam) (passed : List ArgumentValue) → owns_first framed name params ≡ true →
    Fine framed name depth passed → OwnApart (table_of (pointers_of params passed))
own-apart framed name depth [] [] owned fine a b k l is other first second = cc
own-apart framed name depth [] (v ∷ rest) owned fine a b k l is other first second = cc
own-apart framed name depth (p ∷ params) passed owned fine a b k l is other first second =
    by (has_name framed name) refl (and-left (has_name framed name || not (is_own p.name)) (list_all (λ (q : CParam). not (is_own q.name)) params) owned)
  where
    none : list_all (λ (q : CParam). not (is_own q.name)) params ≡ true
    none = and-right (has_name framed name || not (is_own p.name)) (list_all (λ (q : CParam). not (is_own q.name)) params) owned

    here : (passed : List ArgumentValue) → FirstApart passed → found a (pointers_of (p ∷ params) passed) ≡ Some k →
        found b (pointers_of (p ∷ params) passed) ≡ Some l → are_apart k l ≡ true
    here [] h first second = absurd h
    here (by_value v ∷ rest) h first second = absurd h
    here (by_address own ∷ rest) h first second = at (bytes_eq p.name a) (bytes_eq p.name b) refl refl first second
      where
        at : (c d : Bool) → bytes_eq p.name a ≡ c → bytes_eq p.name b ≡ d → (if c then Some own else found a (pointers_of params rest)) ≡ Some k →
            (if d then Some own else found b (pointers_of params rest)) ≡ Some l → are_apart k l ≡ true
        at true true e f first second = absurd (no (sym other ∙ ap (λ x. bytes_eq x b) (sym (same-name p.name a e)) ∙ f))
          where
            no : false ≡ true → ⊥
            no h = cc
        at true false e f first second =
            subst (λ x. are_apart x l ≡ true) (some-of own k first) (pointer-apart own params rest h b l second)
        at false d e f first second = absurd (not-owned params rest none a k is first)

    by : (c : Bool) → has_name framed name ≡ c → (c || not (is_own p.name)) ≡ true → are_apart k l ≡ true
    by true e h = here passed (fine.apart e) first second
    by false e h =
        absurd
        (not-owned (p ∷ params) passed
        (ap (λ c. c && list_all (λ (q : CParam). not (is_own q.name)) params) h ∙ none) a k is first)

pub functions-decided : TablesDecide
functions-decided framed one other alike function stands depth passed memory fine =
    let pointers : Table Location = table_of (pointers_of function.params passed) in
    let start : Memory = with_params depth function.params passed (without_frame depth memory) in
    let o : Outcome Memory = block_c function.body (record { known = one; depth = depth; pointers = pointers }) start in
    let p : Outcome Memory = block_c function.body (record { known = other; depth = depth; pointers = pointers }) start in
    left-seen depth o.end o.memory
    ∙ ap (leaving depth)
    (blocks-decided framed one other alike function.body
    (and-right (owns_first framed function.name function.params) (list_all (calls_stand_in framed) function.body) stands) depth pointers
    (point-below depth function.params passed fine.below)
    (own-apart framed function.name depth function.params passed
    (and-left (owns_first framed function.name function.params) (list_all (calls_stand_in framed) function.body) stands) fine) start)
    ∙ sym (left-seen depth p.end p.memory)
