-- A call leaves the numbers to which it has no pointer.
use Rattle.std.proofs.Common.{◌≡◌, ℕ, zero, suc, ◌+◌, Bool, true, false, ◌==◌, ◌&&◌, List, [], ◌∷◌, ◌++◌, map, Option, Some, None}
use Rattle.std.proofs.Common.{refl, ap, subst, ◌∙◌, arith}
use Rattle.std.proofs.lemmas.Grind.{common_steps}
use Rattle.std.proofs.lemmas.List.Elements.{All-cons, All-head, All-nil, All-tail}
use Rattle.std.specs.Prelude.{All, bytes_eq, is_some, unwrap_or, if◌then◌else◌}
use Rattle.bl_tree.specs.Numbers.{is_one}
use Rattle.bl_tree.specs.Reduce.{joined}
use Rattle.bl_tree.specs.declared.text.Text.{Text}
use Rattle.bl_tree.specs.declared.place.Place.{Place}
use Rattle.bl_tree.specs.declared.c.CArg.{CArg, fold-roll-CArg}
use Rattle.bl_tree.specs.declared.c.CCall.{CCall, fold-roll-CCall}
use Rattle.bl_tree.specs.declared.c.CExpr.{CExpr}
use Rattle.bl_tree.specs.declared.c.CFunc.{CFunc}
use Rattle.bl_tree.specs.declared.c.CParam.{CParam}
use Rattle.bl_tree.specs.declared.c.CPlace.{CPlace}
use Rattle.bl_tree.specs.declared.c.CStmt.{CStmt, fold-roll-CStmt}
use Rattle.bl_tree.specs.declared.c.CStmtKind.{fold-roll-CStmtKind}
use Rattle.bl_tree.specs.declared.c.CStmtKind.TheOpen.{CStmtKind-F}
use Rattle.bl_ctext.specs.declared.builtin.Builtin.{Builtin}
use Rattle.bl_ctext_semantics.specs.Builtin.{builtin_of}
use Rattle.bl_ctext_semantics.specs.Course.{End, goes_on, breaks, returns, traps, Outcome, ended_by, ending, following_end, going, in_order, loop_with_turns}
use Rattle.bl_ctext_semantics.specs.Course.{turn_end, turn_limit, turn_or_none}
use Rattle.bl_ctext_semantics.specs.Meaning.{ArgumentValue, CStmtMeaning, Meaning, Scope, block_c, block_of}
use Rattle.bl_ctext_semantics.specs.Meaning.{by_address, by_value, call_c, called_after, called_as, each_of, location_c, once_more}
use Rattle.bl_ctext_semantics.specs.Meaning.{function_c, named_location, pointers_of, runs_c, value_c, with_params}
use Rattle.bl_ctext_semantics.specs.Memory.{CValue, Location, Memory, Projection, Root, left_after, number_or, state_object, input_object, output_object}
use Rattle.bl_ctext_semantics.specs.Memory.{variable}
use Rattle.bl_ctext_semantics.specs.Memory.{same_root, scalar_number, set_at, with_part, without_frame, zeros}
use Rattle.bl_ctext_semantics.specs.Tables.{Table, found, table_of}
use Rattle.bl_ctext_semantics.proofs.Folds.{arg_c}
use Rattle.bl_ctext_semantics.proofs.Induction.{ExprCases, Optional, StmtCases, induct_call, induct_stmt, stmt}
use Rattle.bl_simplify_laws.specs.declared.facts.CSpot.{CSpot}
use Rattle.bl_simplify_laws.specs.Frames.{CallsLeave, LeavesOthers, NotPassed, SpotApart, TableLeaves, lies_in}
use Rattle.bl_simplify_laws.specs.Observed.{RootBelow}
use Rattle.bl_simplify_laws.specs.Spots.{first_part, lent_by, lent_in, spot_of_place}
use Rattle.bl_simplify_laws.specs.Written.{written_by}
use Rattle.bl_simplify_laws.proofs.OnSpots.{InSpot, any, lies-further, next-has, next-with, not-here, place-in-spot, some-of, spot-lies}
use Rattle.bl_simplify_laws.proofs.OnTables.{below-more}

front : {A : Type 0} (P : A → Type 0) (xs ys : List A) → All P (xs ++ ys) → All P xs
front P [] ys all = All-nil P
front P (x ∷ xs) ys all = All-cons P x xs (All-head P x (xs ++ ys) all) (front P xs ys (All-tail P x (xs ++ ys) all))

back : {A : Type 0} (P : A → Type 0) (xs ys : List A) → All P (xs ++ ys) → All P ys
back P [] ys all = all
back P (x ∷ xs) ys all = back P xs ys (All-tail P x (xs ++ ys) all)

all-of : {A : Type 0} (P : A → Type 0) → ((x : A) → P x) → (xs : List A) → All P xs
all-of P h [] = All-nil P
all-of P h (x ∷ xs) = All-cons P x xs (h x) (all-of P h xs)

-- ---- what a set place leaves

pub set-leaves : (memory : Memory) (place : Location) (value : CValue) (root : Root) (way : List Projection) → lies_in place root way ≡ false →
    set_at memory place value root way ≡ memory root way
set-leaves memory place value root way h = by (same_root place.root root) h
  where
    kept : (o : Option (List Projection)) → is_some o ≡ false → number_or o value (memory root way) ≡ memory root way
    kept None h = refl
    kept (Some rest) h = cc

    by : (b : Bool) → (b && is_some (left_after place.parts way)) ≡ false →
        (if b then with_part (memory root) place.parts value else memory root) way ≡ memory root way
    by true h = kept (left_after place.parts way) h
    by false h = refl

-- a root that isn't that of a location
pub root-lies : (place : Location) (root : Root) (way : List Projection) → same_root place.root root ≡ false → lies_in place root way ≡ false
root-lies place root way h = ap (λ b. b && is_some (left_after place.parts way)) h

frame-leaves : (depth : ℕ) (memory : Memory) (root : Root) → RootBelow depth root → without_frame depth memory root ≡ memory root
frame-leaves depth memory state_object h = refl
frame-leaves depth memory input_object h = refl
frame-leaves depth memory output_object h = refl
frame-leaves depth memory (variable d n) h = by (depth == d) refl
  where
    by : (b : Bool) → (depth == d) ≡ b → (if b then zeros else memory (variable d n)) ≡ memory (variable d n)
    by true e = let same : depth ≡ d = grind (arith, common_steps) in let no : ⊥ = omega arith in absurd no
    by false e = refl

params-leave : (depth : ℕ) (params : List CParam) (passed : List ArgumentValue) (memory : Memory) (root : Root) (way : List Projection) → RootBelow depth root →
    with_params depth params passed memory root way ≡ memory root way
params-leave depth [] [] memory root way h = refl
params-leave depth [] (a ∷ rest) memory root way h = refl
params-leave depth (p ∷ params) [] memory root way h = refl
params-leave depth (p ∷ params) (by_value v ∷ rest) memory root way h =
    params-leave depth params rest (set_at memory (record { root = variable depth p.name; parts = [] }) v) root way h
    ∙ set-leaves memory (record { root = variable depth p.name; parts = [] }) v root way
    (root-lies (record { root = variable depth p.name; parts = [] }) root way (not-here depth p.name root h))
params-leave depth (p ∷ params) (by_address l ∷ rest) memory root way h = params-leave depth params rest memory root way h

-- ---- what outcomes leave

module _ (root : Root) (way : List Projection) where
  ended-leaves : {A : Type 0} (m : Memory) (n : ℕ) (o : Option A) (f : A → Outcome Memory) → Optional (λ a. (f a).memory root way ≡ m root way) o →
      (ended_by m n o f).memory root way ≡ m root way
  ended-leaves m n None f h = refl
  ended-leaves m n (Some a) f h = h

  abbrev RunLeaves : (Memory → Outcome Memory) → Type 0
  RunLeaves f = (m : Memory) → (f m).memory root way ≡ m root way

  abbrev EachLeaves : List (Memory → Outcome Memory) → Type 0
  EachLeaves [] = Unit {0}
  EachLeaves (f ∷ fs) = RunLeaves f × EachLeaves fs

  following-leaves : (n : ℕ) (m : Memory) (e : End) (f : Memory → Outcome Memory) → RunLeaves f → (following_end n m e f).memory root way ≡ m root way
  following-leaves n m goes_on f h = h m
  following-leaves n m breaks f h = refl
  following-leaves n m (returns r) f h = refl
  following-leaves n m traps f h = refl

  order-leaves : (fs : List (Memory → Outcome Memory)) → EachLeaves fs → RunLeaves (in_order fs)
  order-leaves [] h m = refl
  order-leaves (f ∷ fs) h m = following-leaves (f m).count (f m).memory (f m).end (in_order fs) (order-leaves fs h.1) ∙ h.0 m

  turn-leaves : (n : ℕ) (m : Memory) (e : End) (f : Memory → Outcome Memory) → RunLeaves f → (turn_end n m e f).memory root way ≡ m root way
  turn-leaves n m goes_on f h = h m
  turn-leaves n m breaks f h = refl
  turn-leaves n m (returns r) f h = refl
  turn-leaves n m traps f h = refl

  loop-leaves : (n : ℕ) (once : (Memory → Outcome Memory) → Memory → Outcome Memory) (f : Memory → Outcome Memory) →
      ((g : Memory → Outcome Memory) → RunLeaves g → RunLeaves (once g)) → RunLeaves f → RunLeaves (loop_with_turns n once f)
  unfolding loop_with_turns
  loop-leaves zero once f asks h = asks (ending traps) (λ m. refl)
  loop-leaves (suc n) once f asks h =
      asks (λ m. let o = f m in turn_end o.count o.memory o.end (loop_with_turns n once f))
      (λ m. turn-leaves (f m).count (f m).memory (f m).end (loop_with_turns n once f) (loop-leaves n once f asks h) ∙ h m)

-- ---- what parts of expressions lead to

module _ (scope : Scope) (root : Root) (way : List Projection) where
  abbrev Apart : Location → Type 0
  Apart l = lies_in l root way ≡ false

  abbrev Outside : ArgumentValue → Type 0
  Outside a = NotPassed root way (a ∷ [])

  abbrev OfArg : CArg → Type 0
  OfArg a = All (SpotApart scope root way) (lent_by a) → (m : Memory) → Optional Outside (arg_c a scope m).answer

  one-more : (a : ArgumentValue) (rest : List ArgumentValue) → Outside a → NotPassed root way rest → NotPassed root way (a ∷ rest)
  one-more (by_value v) rest h k = k
  one-more (by_address l) rest h k = (h.0, k)

  args-apart : (xs : List CArg) → All OfArg xs → All (SpotApart scope root way) (joined (map lent_by xs)) → (m : Memory) →
      Optional (NotPassed root way) (each_of (map arg_c xs) scope m).answer
  args-apart [] h names m = tt
  args-apart (x ∷ xs) h names m =
      next-with Outside (NotPassed root way) (arg_c x scope m) _
      (All-head OfArg x xs h (front (SpotApart scope root way) (lent_by x) (joined (map lent_by xs)) names) m)
      (λ a outside. next-with (NotPassed root way) (NotPassed root way) (each_of (map arg_c xs) scope m) _
      (args-apart xs (All-tail OfArg x xs h) (back (SpotApart scope root way) (lent_by x) (joined (map lent_by xs)) names) m)
      (λ others rest. one-more a others outside rest))

  -- the location of a place whose spot doesn't hold the number
  pub place-apart : (p : CPlace) → SpotApart scope root way (spot_of_place p) → (m : Memory) → Optional Apart (location_c p scope m).answer
  place-apart p h m = by (location_c p scope m).answer (place-in-spot scope p m)
    where
      by : (o : Option Location) → Optional (InSpot scope (spot_of_place p)) o → Optional Apart o
      by None inside = tt
      by (Some l) inside = spot-lies scope (spot_of_place p) l root way inside h

  module _ (leaves : TableLeaves scope.known) (below : RootBelow (scope.depth + 1) root) where
    as-leaves : (builtin : Option Builtin) (name : Text) (function : Option Meaning) (passed : List ArgumentValue) (m : Memory) →
        scope.known name ≡ function → NotPassed root way passed → (called_as builtin function (scope.depth + 1) passed m).memory root way ≡ m root way
    as-leaves (Some builtin) name function passed m is apart = refl
    as-leaves None name None passed m is apart = refl
    as-leaves None name (Some meaning) passed m is apart = leaves name meaning is (scope.depth + 1) passed m root way below apart

    after-leaves : (name : Text) (n : ℕ) (passed : Option (List ArgumentValue)) (m : Memory) → Optional (NotPassed root way) passed →
        (called_after scope m name n passed).memory root way ≡ m root way
    after-leaves name n None m apart = refl
    after-leaves name n (Some passed) m apart = as-leaves (builtin_of name) name (scope.known name) passed m refl apart

    abbrev OfCall : CCall → Type 0
    OfCall c = All (SpotApart scope root way) (lent_in c) → (m : Memory) → (call_c c scope m).memory root way ≡ m root way

    abbrev Nothing : {A : Type 0} → A → Type 0
    Nothing a = Unit {0}

    expr_cases : ExprCases OfArg Nothing OfCall Nothing Nothing Nothing Nothing
    expr_cases = record {
      value = λ e h names m. rw fold-roll-CArg (next-has Outside (value_c e scope m) _ (λ v. tt));
      address = λ p h names m.
          let own : All (SpotApart scope root way) (spot_of_place p ∷ []) = rw fold-roll-CArg at names in
          rw fold-roll-CArg
          (next-with Apart Outside (location_c p scope m) _ (place-apart p (All-head (SpotApart scope root way) (spot_of_place p) [] own) m)
          (λ l apart. (apart, tt)));
      literal = λ t n. tt;
      read = λ p h. tt;
      call = λ c h. tt;
      negation = λ e h. tt;
      two = λ op a b h k. tt;
      calling = λ name args h names m.
          let own : All (SpotApart scope root way) (joined (map lent_by args)) = rw fold-roll-CCall at names in
          rw fold-roll-CCall (after-leaves name (each_of (map arg_c args) scope m).count (each_of (map arg_c args) scope m).answer m (args-apart args h own m));
      expr = λ place what h. tt;
      index = λ signed at length h. tt;
      place = λ through name steps h. tt;
      step = λ member index h. tt;
    }

    pub call-leaves : (c : CCall) → OfCall c
    call-leaves = induct_call OfArg Nothing OfCall Nothing Nothing Nothing Nothing expr_cases

    -- ---- statements that write no spot in which the number lies

    abbrev Untouched : List CSpot → Type 0
    Untouched spots = All (SpotApart scope root way) spots

    abbrev OfStmt : CStmt → Type 0
    OfStmt s = Untouched (written_by s) → RunLeaves root way (runs_c s scope)

    each-leaves : (stmts : List CStmt) → All OfStmt stmts → Untouched (joined (map written_by stmts)) →
        EachLeaves root way (map (λ (run : CStmtMeaning). run scope) (map runs_c stmts))
    each-leaves [] h spots = tt
    each-leaves (s ∷ stmts) h spots = (
      All-head OfStmt s stmts h (front (SpotApart scope root way) (written_by s) (joined (map written_by stmts)) spots),
      each-leaves stmts (All-tail OfStmt s stmts h) (back (SpotApart scope root way) (written_by s) (joined (map written_by stmts)) spots),
    )

    block-leaves : (stmts : List CStmt) → All OfStmt stmts → Untouched (joined (map written_by stmts)) → RunLeaves root way (block_of (map runs_c stmts) scope)
    block-leaves stmts h spots = order-leaves root way (map (λ run. run scope) (map runs_c stmts)) (each-leaves stmts h spots)

    chosen-leaves : (b : Bool) (f g : CStmtMeaning) → RunLeaves root way (f scope) → RunLeaves root way (g scope) →
        RunLeaves root way ((if b then f else g) scope)
    chosen-leaves true f g h k = h
    chosen-leaves false f g h k = k

    turn-or-none-leaves : (b : Bool) (m : Memory) (f : Memory → Outcome Memory) → RunLeaves root way f → (turn_or_none b m f).memory root way ≡ m root way
    turn-or-none-leaves true m f h = h m
    turn-or-none-leaves false m f h = refl

    if-leaves : (at : Place) (e : CExpr) (block : List CStmt) (more : Option (List CStmt)) → All OfStmt block → Optional (All OfStmt) more →
        OfStmt (stmt at (CStmtKind-F.If e block more))
    if-leaves at e block None h k spots m =
        let own : Untouched (joined (map written_by block) ++ []) = rw (fold-roll-CStmt, fold-roll-CStmtKind) at spots in
        rw (fold-roll-CStmt, fold-roll-CStmtKind)
        (ended-leaves root way m _ (value_c e scope m).answer _
        (any _ (λ v. chosen-leaves (is_one (scalar_number v)) (block_of (map runs_c block)) (block_of [])
        (block-leaves block h (front (SpotApart scope root way) (joined (map written_by block)) [] own)) (λ m. refl) m) (value_c e scope m).answer))
    if-leaves at e block (Some more) h k spots m =
        let own : Untouched (joined (map written_by block) ++ joined (map written_by more)) = rw (fold-roll-CStmt, fold-roll-CStmtKind) at spots in
        rw (fold-roll-CStmt, fold-roll-CStmtKind)
        (ended-leaves root way m _ (value_c e scope m).answer _
        (any _ (λ v. chosen-leaves (is_one (scalar_number v)) (block_of (map runs_c block)) (block_of (map runs_c more))
        (block-leaves block h (front (SpotApart scope root way) (joined (map written_by block)) (joined (map written_by more)) own))
        (block-leaves more k (back (SpotApart scope root way) (joined (map written_by block)) (joined (map written_by more)) own)) m)
        (value_c e scope m).answer))

    return-leaves : (at : Place) (e : Option CExpr) → OfStmt (stmt at (CStmtKind-F.Return e))
    return-leaves at None spots m = rw (fold-roll-CStmt, fold-roll-CStmtKind) refl
    return-leaves at (Some e) spots m =
        rw (fold-roll-CStmt, fold-roll-CStmtKind)
        (ended-leaves root way m _ (value_c e scope m).answer _ (any _ (λ v. refl) (value_c e scope m).answer))

    stmt_cases : StmtCases OfStmt
    stmt_cases = record {
      set = λ at p e spots m.
          let own : Untouched (spot_of_place p ∷ []) = rw (fold-roll-CStmt, fold-roll-CStmtKind) at spots in
          rw (fold-roll-CStmt, fold-roll-CStmtKind)
          (ended-leaves root way m _ _ going
          (next-with Apart (λ n. n root way ≡ m root way) (location_c p scope m) _
          (place-apart p (All-head (SpotApart scope root way) (spot_of_place p) [] own) m)
          (λ l away. next-has (λ n. n root way ≡ m root way) (value_c e scope m) _ (λ v. set-leaves m l v root way away))));
      clear = λ at p name spots m.
          let own : Untouched (spot_of_place p ∷ []) = rw (fold-roll-CStmt, fold-roll-CStmtKind) at spots in
          rw (fold-roll-CStmt, fold-roll-CStmtKind)
          (ended-leaves root way m _ (location_c p scope m).answer _
          (cleared m (location_c p scope m).answer (place-apart p (All-head (SpotApart scope root way) (spot_of_place p) [] own) m)));
      call = λ at c spots m.
          let own : Untouched (lent_in c) = rw (fold-roll-CStmt, fold-roll-CStmtKind) at spots in
          rw (fold-roll-CStmt, fold-roll-CStmtKind) (call-leaves c own m);
      branching = if-leaves;
      loop = λ at turn e body h spots m.
          let own : Untouched (joined (map written_by body)) = rw (fold-roll-CStmt, fold-roll-CStmtKind) at spots in
          rw (fold-roll-CStmt, fold-roll-CStmtKind)
          (loop-leaves root way turn_limit (once_more (value_c e) scope) (block_of (map runs_c body) scope)
          (λ g leaves k. ended-leaves root way k _ (value_c e scope k).answer _
          (any _ (λ v. turn-or-none-leaves (is_one (scalar_number v)) k g leaves) (value_c e scope k).answer))
          (block-leaves body h own) m);
      break = λ at spots m. rw (fold-roll-CStmt, fold-roll-CStmtKind) refl;
      returns = return-leaves;
    }
      where
        cleared : (m : Memory) (o : Option Location) → Optional Apart o → Optional (λ l. set_at m l zeros root way ≡ m root way) o
        cleared m None h = tt
        cleared m (Some l) h = set-leaves m l zeros root way h

    pub stmt-leaves : (s : CStmt) → OfStmt s
    stmt-leaves = induct_stmt OfStmt stmt_cases

    pub body-leaves : (stmts : List CStmt) → Untouched (joined (map written_by stmts)) → RunLeaves root way (block_c stmts scope)
    body-leaves stmts spots = block-leaves stmts (all-of OfStmt stmt-leaves stmts) spots

pub calls-leave : CallsLeave
calls-leave scope leaves root way below call spots memory = call-leaves scope root way leaves below call spots memory

-- ---- functions

pointers-apart : (root : Root) (way : List Projection) (params : List CParam) (passed : List ArgumentValue) → NotPassed root way passed → (name : Text)
    (place : Location) → found name (pointers_of params passed) ≡ Some place → lies_in place root way ≡ false
pointers-apart root way [] [] h name place is = cc
pointers-apart root way [] (a ∷ rest) h name place is = cc
pointers-apart root way (p ∷ params) [] h name place is = cc
pointers-apart root way (p ∷ params) (by_value v ∷ rest) h name place is = pointers-apart root way params rest h name place is
pointers-apart root way (p ∷ params) (by_address l ∷ rest) h name place is = by (bytes_eq p.name name) (pointers-apart root way params rest h.1 name place) is
  where
    by : (b : Bool) → (found name (pointers_of params rest) ≡ Some place → lies_in place root way ≡ false) →
        (if b then Some l else found name (pointers_of params rest)) ≡ Some place → lies_in place root way ≡ false
    by true later is = subst (λ x. lies_in x root way ≡ false) (some-of l place is) h.0
    by false later is = later is

-- no spot holds a number that is there before the function and to which it has no pointer
spots-hold : (known : Table Meaning) (depth : ℕ) (pointers : Table Location) (root : Root) (way : List Projection) → RootBelow depth root →
    ((name : Text) (place : Location) → pointers name ≡ Some place → lies_in place root way ≡ false) → (spot : CSpot) →
    SpotApart (record { known = known; depth = depth; pointers = pointers }) root way spot
spots-hold known depth pointers root way below apart spot =
    let base : Location = named_location (record { known = known; depth = depth; pointers = pointers }) spot.through spot.name in
    lies-further base.root root base.parts (first_part spot.first) way (base-holds spot.through)
  where
    at : (o : Option Location) → pointers spot.name ≡ o → lies_in (unwrap_or o (record { root = variable depth spot.name; parts = [] })) root way ≡ false
    at None is = root-lies (record { root = variable depth spot.name; parts = [] }) root way (not-here depth spot.name root below)
    at (Some place) is = apart spot.name place is

    base-holds : (through : Bool) → lies_in (named_location (record { known = known; depth = depth; pointers = pointers }) through spot.name) root way ≡ false
    base-holds false = root-lies (record { root = variable depth spot.name; parts = [] }) root way (not-here depth spot.name root below)
    base-holds true = at (pointers spot.name) refl

pub functions-leave : (known : Table Meaning) → TableLeaves known → (function : CFunc) → LeavesOthers (function_c known function)
functions-leave known leaves function depth passed memory root way below outside =
    let pointers : Table Location = table_of (pointers_of function.params passed) in
    let scope : Scope = record { known = known; depth = depth; pointers = pointers } in
    let start : Memory = with_params depth function.params passed (without_frame depth memory) in
    ap (λ (v : CValue). v way) (frame-leaves depth (block_c function.body scope start).memory root below)
    ∙ body-leaves scope root way leaves (below-more depth root below) function.body
    (all-of (SpotApart scope root way) (spots-hold known depth pointers root way below (pointers-apart root way function.params passed outside))
    (joined (map written_by function.body))) start
    ∙ params-leave depth function.params passed (without_frame depth memory) root way below
    ∙ ap (λ (v : CValue). v way) (frame-leaves depth memory root below)
