-- Expressions that call no function of some names do the same over tables that know the same otherwise, and what calls pass.
use Rattle.std.proofs.Common.{◌≡◌, ℕ, ◌+◌, pos, Bool, true, false, not, ◌&&◌, ◌||◌, List, [], ◌∷◌, map, Option, Some, None}
use Rattle.std.proofs.Common.{refl, ap, sym, subst, ◌∙◌}
use Rattle.std.specs.List.{list_all}
use Rattle.std.proofs.lemmas.List.Elements.{All-head, All-tail}
use Rattle.std.specs.Prelude.{All, option_map, if◌then◌else◌}
use Rattle.bl_tree.specs.Numbers.{checked_of, checked_one_of, is_one}
use Rattle.bl_tree.specs.declared.text.Text.{Text}
use Rattle.bl_tree.specs.declared.scalar.Scalar.TheVariants.{Bool as OfBool}
use Rattle.bl_tree.specs.declared.scalar.Op.{Op}
use Rattle.bl_tree.specs.declared.scalar.Op.TheVariants.{Add, Sub, Mul, Div, Rem, Minus, BitAnd, BitOr, BitXor, BitNot, Shl, Shr}
use Rattle.bl_tree.specs.declared.scalar.Op.TheVariants.{Eq, Ne, Lt, Le, Gt, Ge, And, Or, Not}
use Rattle.bl_tree.specs.declared.c.CArg.{CArg, fold-CArg, fold-roll-CArg}
use Rattle.bl_tree.specs.declared.c.CCall.{CCall, fold-roll-CCall}
use Rattle.bl_tree.specs.declared.c.CExpr.{CExpr, fold-roll-CExpr}
use Rattle.bl_tree.specs.declared.c.CExprKind.{CExprKind, fold-CExprKind, fold-roll-CExprKind}
use Rattle.bl_tree.specs.declared.c.CIndex.{CIndex, fold-CIndex, fold-roll-CIndex}
use Rattle.bl_tree.specs.declared.c.CPlace.{CPlace, fold-roll-CPlace, roll-CPlace}
use Rattle.bl_tree.specs.declared.c.CStep.{CStep, fold-CStep, fold-roll-CStep, roll-CStep}
use Rattle.bl_ctext_semantics.specs.Builtin.{builtin_of, index_within}
use Rattle.bl_ctext_semantics.specs.Meaning.{ArgumentValue, Evaluates, Meaning, Scope, at_once, by_address, by_value, call_c}
use Rattle.bl_ctext_semantics.specs.Meaning.{called_after, called_as, each_of, element_projection, further, given, later_call, location_c, named_location}
use Rattle.bl_ctext_semantics.specs.Meaning.{next, result_of, two_values, value_c, way_of}
use Rattle.bl_ctext_semantics.specs.Memory.{CValue, Location, Memory, member, scalar, scalar_number, value_at}
use Rattle.bl_ctext_semantics.specs.Tables.{Table}
use Rattle.bl_ctext_semantics.proofs.Folds.{arg_c, index_c, kind_c, step_c}
use Rattle.bl_ctext_semantics.proofs.Induction.{ExprCases, Optional, induct_call, induct_expr, induct_place}
use Rattle.bl_simplify_laws.specs.declared.facts.CSpot.{CSpot}
use Rattle.bl_simplify_laws.specs.Known.{arg_told, call_told, expr_told, index_told, kind_told, place_told, spot_told, step_told}
use Rattle.bl_simplify_laws.specs.Known.{place_is as told_of_place}
use Rattle.bl_simplify_laws.specs.Observed.{PassedBelow, PassesBelow, PointBelow, RootBelow}
use Rattle.bl_simplify_laws.specs.Spots.{OwnApart, first_of, member_of_step, spot_location, spot_of_place}
use Rattle.bl_simplify_laws.specs.Tables.{ApartFrom, ArgStands, Fine, FirstApart, StepStands, apart_from_lent, arg_stands, call_stands}
use Rattle.bl_simplify_laws.specs.Tables.{calls_stand_in_call, calls_stand_in_place, expr_stands, first_apart, has_name, index_stands}
use Rattle.bl_simplify_laws.specs.Tables.{kind_stands, own_lent, place_stands, step_stands}
use Rattle.bl_simplify_laws.proofs.OnKnown.{place-sound}
use Rattle.bl_simplify_laws.proofs.OnSpots.{InSpot, and-left, and-right, next-has, next-with, place-in-spot, spots-apart}
use Rattle.bl_simplify_laws.proofs.OnSteps.{below-spot}
use Rattle.bl_simplify_laws_frames.specs.Reached.{ArgFrames, StepFrames, arg_frames, call_frames, expr_frames, first_exact, index_frames}
use Rattle.bl_simplify_laws_frames.specs.Reached.{is_plain_expr, kind_frames, place_frames, plain_call, plain_place, step_frames}

implied : (b c : Bool) → (not b || c) ≡ true → b ≡ true → c ≡ true
implied true c h e = h
implied false c h e = cc

none-of : (b : Bool) → not b ≡ true → b ≡ false
none-of true h = cc
none-of false h = refl

module _ (names : List Text) (one other : Table Meaning) (known : (name : Text) → has_name names name ≡ false → one name ≡ other name) (depth : ℕ)
    (pointers : Table Location) (below : PointBelow depth pointers) (own : OwnApart pointers) where
  abbrev first : Scope
  first = record { known = one; depth = depth; pointers = pointers }

  abbrev second : Scope
  second = record { known = other; depth = depth; pointers = pointers }

  -- what is evaluated is the same over both tables
  abbrev Exact : {A : Type 0} → Evaluates A → Type 0
  Exact evaluate = (m : Memory) → evaluate first m ≡ evaluate second m

  -- what is evaluated has P
  abbrev Has : {A : Type 0} → (A → Type 0) → Evaluates A → Type 0
  Has P evaluate = (m : Memory) → Optional P (evaluate first m).answer

  -- ---- what arguments pass

  -- a pointer leads into the spot whose address is passed on
  abbrev Lent : Option CSpot → ArgumentValue → Type 0
  Lent None (by_value v) = Unit {0}
  Lent None (by_address l) = ⊥
  Lent (Some spot) (by_value v) = ⊥
  Lent (Some spot) (by_address l) = InSpot first spot l

  abbrev EachLent : List ArgStands → List ArgumentValue → Type 0
  EachLent [] [] = Unit {0}
  EachLent (a ∷ rest) (v ∷ values) = Lent a.lent v × EachLent rest values
  EachLent [] (v ∷ values) = ⊥
  EachLent (a ∷ rest) [] = ⊥

  rest-apart : (spot : CSpot) (k : Location) → InSpot first spot k → (checks : List ArgStands) (values : List ArgumentValue) → EachLent checks values →
      list_all (λ a. apart_from_lent spot a.lent) checks ≡ true → ApartFrom k values
  rest-apart spot k inside [] [] h all = tt
  rest-apart spot k inside [] (v ∷ values) h all = absurd h
  rest-apart spot k inside (a ∷ checks) [] h all = absurd h
  rest-apart spot k inside (a ∷ checks) (v ∷ values) h all =
      by a.lent v h.0 (and-left (apart_from_lent spot a.lent) (list_all (λ a. apart_from_lent spot a.lent) checks) all)
      (rest-apart spot k inside checks values h.1 (and-right (apart_from_lent spot a.lent) (list_all (λ a. apart_from_lent spot a.lent) checks) all))
    where
      by : (o : Option CSpot) (v : ArgumentValue) → Lent o v → apart_from_lent spot o ≡ true → ApartFrom k values → ApartFrom k (v ∷ values)
      by None (by_value v) h e rest = rest
      by None (by_address l) h e rest = absurd h
      by (Some s) (by_value v) h e rest = absurd h
      by (Some s) (by_address l) h e rest = (spots-apart first below own spot s k l e inside h, rest)

  passed-apart : (checks : List ArgStands) (values : List ArgumentValue) → EachLent checks values → first_apart checks ≡ true → FirstApart values
  passed-apart [] [] h e = cc
  passed-apart [] (v ∷ values) h e = cc
  passed-apart (a ∷ checks) [] h e = absurd h
  passed-apart (a ∷ checks) (v ∷ values) h e = by a.lent v h.0 e
    where
      by : (o : Option CSpot) (v : ArgumentValue) → Lent o v → own_lent o checks ≡ true → FirstApart (v ∷ values)
      by None v h e = cc
      by (Some s) (by_value v) h e = absurd h
      by (Some s) (by_address l) inside e = rest-apart s l inside checks values h.1 e

  -- a location that is that of a spot, where one is told
  abbrev pub IsHere : Option CSpot → Location → Type 0
  IsHere None l = Unit {0}
  IsHere (Some spot) l = l ≡ spot_location first spot

  -- an argument that is a pointer to a spot, where one is told
  abbrev pub IsAt : Option CSpot → ArgumentValue → Type 0
  IsAt None v = Unit {0}
  IsAt (Some spot) (by_value v) = ⊥
  IsAt (Some spot) (by_address l) = l ≡ spot_location first spot

  -- the first argument is a pointer to a spot, where one is told
  abbrev pub FirstAt : Option CSpot → List ArgumentValue → Type 0
  FirstAt None values = Unit {0}
  FirstAt (Some spot) [] = ⊥
  FirstAt (Some spot) (v ∷ values) = IsAt (Some spot) v

  points-there : (o : Option CSpot) (l : Location) → IsHere o l → IsAt o (by_address l)
  points-there None l h = tt
  points-there (Some spot) l h = h

  first-there : (o : Option CSpot) (v : ArgumentValue) (values : List ArgumentValue) → IsAt o v → FirstAt o (v ∷ values)
  first-there None v values h = tt
  first-there (Some spot) v values h = h

  -- ---- expressions

  abbrev arg_check : CArg → ArgStands
  arg_check = fold-CArg _ _ _ _ _ _ _ arg_stands kind_stands (call_stands names) expr_stands index_stands place_stands step_stands

  abbrev step_check : CStep → StepStands
  step_check = fold-CStep _ _ _ _ _ _ _ arg_stands kind_stands (call_stands names) expr_stands index_stands place_stands step_stands

  abbrev plain_arg : CArg → ArgFrames
  plain_arg = fold-CArg _ _ _ _ _ _ _ arg_frames (kind_frames names) call_frames expr_frames index_frames place_frames step_frames

  abbrev plain_kind : CExprKind → Bool
  plain_kind = fold-CExprKind _ _ _ _ _ _ _ arg_frames (kind_frames names) call_frames expr_frames index_frames place_frames step_frames

  abbrev plain_index : CIndex → Bool
  plain_index = fold-CIndex _ _ _ _ _ _ _ arg_frames (kind_frames names) call_frames expr_frames index_frames place_frames step_frames

  abbrev plain_step : CStep → StepFrames
  plain_step = fold-CStep _ _ _ _ _ _ _ arg_frames (kind_frames names) call_frames expr_frames index_frames place_frames step_frames

  abbrev told_step : CStep → Option Text
  told_step = fold-CStep _ _ _ _ _ _ _ arg_told kind_told call_told expr_told index_told place_told step_told

  -- what is so of an argument, by the spot that it lends and the one that it is the address of
  abbrev ArgHas : Option CSpot → Option CSpot → ArgumentValue → Type 0
  ArgHas lent exact v = PassesBelow (depth + 1) v × Lent lent v × IsAt exact v

  -- what is so of a place's location, by the spot in which it lies and the one that it is
  abbrev PlaceHas : CSpot → Option CSpot → Location → Type 0
  PlaceHas spot exact l = RootBelow (depth + 1) l.root × InSpot first spot l × IsHere exact l

  -- what is so of arguments
  abbrev ArgsHave : List CArg → List ArgumentValue → Type 0
  ArgsHave xs values =
      PassedBelow (depth + 1) values
      × EachLent (map arg_check xs) values
      × FirstAt (first_exact (map (λ (a : ArgFrames). a.exact) (map plain_arg xs))) values

  abbrev OfArg : CArg → Type 0
  OfArg a = ((plain_arg a).plain ≡ true → Exact (arg_c a)) × Has (ArgHas (arg_check a).lent (plain_arg a).exact) (arg_c a)

  abbrev OfKind : CExprKind → Type 0
  OfKind k = plain_kind k ≡ true → Exact (kind_c k)

  -- what a call passes, and how it may be made
  pub record CallParts (c : CCall) : Type 0 where
    pub passed : Evaluates (List ArgumentValue)
    pub called : (scope : Scope) (m : Memory) →
        call_c c scope m ≡ called_after scope m (plain_call names c).name (passed scope m).count (passed scope m).answer
    pub exact : (plain_call names c).plain ≡ true → Exact passed
    pub fine : calls_stand_in_call names c ≡ true → Has (Fine names (plain_call names c).name (depth + 1)) passed
    pub at_first : Has (FirstAt (first_exact (plain_call names c).exact)) passed

  abbrev OfExpr : CExpr → Type 0
  OfExpr e = is_plain_expr names e ≡ true → Exact (value_c e)

  abbrev OfIndex : CIndex → Type 0
  OfIndex i = plain_index i ≡ true → Exact (index_c i)

  abbrev OfPlace : CPlace → Type 0
  OfPlace p =
      ((calls_stand_in_place names p).spot ≡ spot_of_place p)
      × ((plain_place names p).exact ≡ (told_of_place p).spot)
      × ((plain_place names p).plain ≡ true → Exact (location_c p))

  abbrev OfStep : CStep → Type 0
  OfStep s =
      ((step_check s).member ≡ member_of_step s)
      × ((plain_step s).member ≡ told_step s)
      × ((plain_step s).plain ≡ true → Exact (step_c s))

  -- ---- parts in order

  steps-exact : (steps : List CStep) → All OfStep steps → list_all (λ (s : StepFrames). s.plain) (map plain_step steps) ≡ true →
      Exact (each_of (map step_c steps))
  steps-exact [] h all m = refl
  steps-exact (x ∷ xs) h all m =
      λ i. next ((All-head OfStep x xs h).2 (and-left (plain_step x).plain (list_all (λ (s : StepFrames). s.plain) (map plain_step xs)) all) m i)
      (λ a. next
      (steps-exact xs (All-tail OfStep x xs h) (and-right (plain_step x).plain (list_all (λ (s : StepFrames). s.plain) (map plain_step xs)) all) m i)
      (λ others. given (Some (a ∷ others))))

  members-same : (steps : List CStep) → All OfStep steps → map (λ (s : StepStands). s.member) (map step_check steps) ≡ map member_of_step steps
  members-same [] h = refl
  members-same (x ∷ xs) h = (λ i. (All-head OfStep x xs h).0 i ∷ members-same xs (All-tail OfStep x xs h) i)

  members-told : (steps : List CStep) → All OfStep steps → map (λ (s : StepFrames). s.member) (map plain_step steps) ≡ map told_step steps
  members-told [] h = refl
  members-told (x ∷ xs) h = (λ i. (All-head OfStep x xs h).1 i ∷ members-told xs (All-tail OfStep x xs h) i)

  args-exact : (xs : List CArg) → All OfArg xs → list_all (λ (a : ArgFrames). a.plain) (map plain_arg xs) ≡ true → Exact (each_of (map arg_c xs))
  args-exact [] h all m = refl
  args-exact (x ∷ xs) h all m =
      λ i. next ((All-head OfArg x xs h).0 (and-left (plain_arg x).plain (list_all (λ (a : ArgFrames). a.plain) (map plain_arg xs)) all) m i)
      (λ a. next
      (args-exact xs (All-tail OfArg x xs h) (and-right (plain_arg x).plain (list_all (λ (a : ArgFrames). a.plain) (map plain_arg xs)) all) m i)
      (λ others. given (Some (a ∷ others))))

  args-have : (xs : List CArg) → All OfArg xs → Has (ArgsHave xs) (each_of (map arg_c xs))
  args-have [] h m = (tt, tt, tt)
  args-have (x ∷ xs) h m =
      next-with (ArgHas (arg_check x).lent (plain_arg x).exact) (ArgsHave (x ∷ xs)) (arg_c x first m) _ ((All-head OfArg x xs h).1 m)
      (λ a has. next-with (ArgsHave xs) (ArgsHave (x ∷ xs)) (each_of (map arg_c xs) first m) _ (args-have xs (All-tail OfArg x xs h) m)
      (λ others have. ((has.0, have.0), (has.1, have.1), first-there (plain_arg x).exact a others has.2)))

  optional-map : {A : Type 0} (P Q : A → Type 0) (o : Option A) → ((a : A) → P a → Q a) → Optional P o → Optional Q o
  optional-map P Q None f h = tt
  optional-map P Q (Some a) f h = f a h

  -- arguments with which the function of this name may be called
  args-fine : (name : Text) (xs : List CArg) → All OfArg xs →
      (list_all (λ (a : ArgStands). a.stands) (map arg_check xs) && (not (has_name names name) || first_apart (map arg_check xs))) ≡ true →
      Has (Fine names name (depth + 1)) (each_of (map arg_c xs))
  args-fine name xs h all m =
      optional-map (ArgsHave xs) (Fine names name (depth + 1)) (each_of (map arg_c xs) first m).answer
      (λ values have. record {
        below = have.0;
        apart = λ has.
            passed-apart (map arg_check xs) values have.1
            (implied (has_name names name) (first_apart (map arg_check xs))
            (and-right (list_all (λ (a : ArgStands). a.stands) (map arg_check xs)) (not (has_name names name) || first_apart (map arg_check xs)) all) has);
      })
      (args-have xs h m)

  args-first : (xs : List CArg) → All OfArg xs →
      Has (FirstAt (first_exact (map (λ (a : ArgFrames). a.exact) (map plain_arg xs)))) (each_of (map arg_c xs))
  args-first xs h m =
      optional-map (ArgsHave xs) (FirstAt (first_exact (map (λ (a : ArgFrames). a.exact) (map plain_arg xs)))) (each_of (map arg_c xs) first m).answer
      (λ values have. have.2) (args-have xs h m)

  -- ---- operations of two sides

  choice-exact : (b : Bool) (f g : Evaluates CValue) → Exact f → Exact g → Exact (if b then f else g)
  choice-exact true f g h k = h
  choice-exact false f g h k = k

  both-exact : (op : Op) (left right : Evaluates CValue) → Exact left → Exact right → (m : Memory) →
      next (left first m) (λ a. next (right first m) (λ b. given (option_map scalar (checked_of op OfBool (scalar_number a) (scalar_number b)))))
      ≡ next (left second m) (λ a. next (right second m) (λ b. given (option_map scalar (checked_of op OfBool (scalar_number a) (scalar_number b)))))
  both-exact op left right h k m =
      λ i. next (h m i) (λ a. next (k m i) (λ b. given (option_map scalar (checked_of op OfBool (scalar_number a) (scalar_number b)))))

  two-exact : (op : Op) (left right : Evaluates CValue) → Exact left → Exact right → Exact (two_values op left right)
  two-exact And left right h k m =
      λ i. next (h m i) (λ a. choice-exact (is_one (scalar_number a)) right (at_once (pos 0)) k (λ m. refl) m i)
  two-exact Or left right h k m =
      λ i. next (h m i) (λ a. choice-exact (is_one (scalar_number a)) (at_once (pos 1)) right (λ m. refl) k m i)
  two-exact Not left right h k m = both-exact Not left right h k m
  two-exact Minus left right h k m = both-exact Minus left right h k m
  two-exact BitNot left right h k m = both-exact BitNot left right h k m
  two-exact Add left right h k m = both-exact Add left right h k m
  two-exact Sub left right h k m = both-exact Sub left right h k m
  two-exact Mul left right h k m = both-exact Mul left right h k m
  two-exact Div left right h k m = both-exact Div left right h k m
  two-exact Rem left right h k m = both-exact Rem left right h k m
  two-exact BitAnd left right h k m = both-exact BitAnd left right h k m
  two-exact BitOr left right h k m = both-exact BitOr left right h k m
  two-exact BitXor left right h k m = both-exact BitXor left right h k m
  two-exact Shl left right h k m = both-exact Shl left right h k m
  two-exact Shr left right h k m = both-exact Shr left right h k m
  two-exact Eq left right h k m = both-exact Eq left right h k m
  two-exact Ne left right h k m = both-exact Ne left right h k m
  two-exact Lt left right h k m = both-exact Lt left right h k m
  two-exact Le left right h k m = both-exact Le left right h k m
  two-exact Gt left right h k m = both-exact Gt left right h k m
  two-exact Ge left right h k m = both-exact Ge left right h k m

  -- ---- calls

  -- a call in which no function of these names is called
  call-exact : (c : CCall) → CallParts c → ((plain_call names c).plain && not (has_name names (plain_call names c).name)) ≡ true →
      (m : Memory) → call_c c first m ≡ call_c c second m
  call-exact c parts plain m =
      parts.called first m
      ∙ ap (λ p. called_after first m (plain_call names c).name p.count p.answer)
      (parts.exact (and-left (plain_call names c).plain (not (has_name names (plain_call names c).name)) plain) m)
      ∙ by (parts.passed second m).answer
      ∙ sym (parts.called second m)
    where
      fresh : has_name names (plain_call names c).name ≡ false
      fresh =
          none-of (has_name names (plain_call names c).name)
          (and-right (plain_call names c).plain (not (has_name names (plain_call names c).name)) plain)

      by : (o : Option (List ArgumentValue)) →
          called_after first m (plain_call names c).name (parts.passed second m).count o
          ≡ called_after second m (plain_call names c).name (parts.passed second m).count o
      by None = refl
      by (Some passed) =
          ap (λ f. later_call (parts.passed second m).count (called_as (builtin_of (plain_call names c).name) f (depth + 1) passed m))
          (known (plain_call names c).name fresh)

  -- ---- places

  named-same : (through : Bool) (name : Text) → named_location first through name ≡ named_location second through name
  named-same true name = refl
  named-same false name = refl

  of-place : (through : Bool) (name : Text) (steps : List CStep) → All OfStep steps →
      OfPlace (roll-CPlace (record { through = through; name = name; steps = steps }))
  of-place through name steps h = (
    rw (fold-roll-CPlace, fold-roll-CPlace)
        (ap (λ members. record { through = through; name = name; first = first_of members }) (members-same steps h)),
    rw (fold-roll-CPlace, fold-roll-CPlace) (ap (spot_told through name) (members-told steps h)),
    λ plain m. same (rw fold-roll-CPlace at plain) m,
  )
    where
      same : list_all (λ (s : StepFrames). s.plain) (map plain_step steps) ≡ true →
          Exact (location_c (roll-CPlace (record { through = through; name = name; steps = steps })))
      same all m =
          rw fold-roll-CPlace
          (λ i. next (steps-exact steps h all m i) (λ ways. given (Some (further (named-same through name i) (way_of ways)))))

  of-step : (name : Text) (i : Option CIndex) → Optional OfIndex i → OfStep (roll-CStep (record { member = name; index = i }))
  of-step name None h = (
    rw (fold-roll-CStep, fold-roll-CStep) refl,
    rw (fold-roll-CStep, fold-roll-CStep) refl,
    λ plain m. rw fold-roll-CStep refl,
  )
  of-step name (Some i) h = (
    rw (fold-roll-CStep, fold-roll-CStep) refl,
    rw (fold-roll-CStep, fold-roll-CStep) refl,
    λ plain m.
        let own : plain_index i ≡ true = rw fold-roll-CStep at plain in
        rw fold-roll-CStep (ap (λ c. next c (λ parts. given (Some (member name ∷ parts)))) (h own m)),
  )

  -- the location of a place
  place-has : (p : CPlace) → OfPlace p → Has (PlaceHas (calls_stand_in_place names p).spot (plain_place names p).exact) (location_c p)
  place-has p h m = by (location_c p first m).answer (place-in-spot first p m) (subst (λ o. Optional (IsHere o) (location_c p first m).answer) (sym h.1) here)
    where
      told : (o : Option CSpot) → (told_of_place p).spot ≡ o → Optional (IsHere o) (location_c p first m).answer
      told None e = every (location_c p first m).answer
        where
          every : (o : Option Location) → Optional (IsHere None) o
          every None = tt
          every (Some l) = tt
      told (Some spot) e = subst (Optional (IsHere (Some spot))) (sym ((place-sound first m p).1 spot e)) refl

      here : Optional (IsHere (told_of_place p).spot) (location_c p first m).answer
      here = told (told_of_place p).spot refl

      by : (o : Option Location) → Optional (InSpot first (spot_of_place p)) o → Optional (IsHere (plain_place names p).exact) o →
          Optional (PlaceHas (calls_stand_in_place names p).spot (plain_place names p).exact) o
      by None inside at = tt
      by (Some l) inside at = (
        subst (λ x. RootBelow (depth + 1) x.root) (sym inside.is) (below-spot first below (spot_of_place p)),
        subst (λ s. InSpot first s l) (sym h.0) inside,
        at,
      )

  expr_cases : ExprCases OfArg OfKind CallParts OfExpr OfIndex OfPlace OfStep
  expr_cases = record {
    value = λ e h. (
      λ plain m.
          let own : is_plain_expr names e ≡ true = rw fold-roll-CArg at plain in
          rw fold-roll-CArg (ap (λ c. next c (λ v. given (Some (by_value v)))) (h own m)),
      λ m. rw (fold-roll-CArg, fold-roll-CArg, fold-roll-CArg) (next-has (ArgHas None None) (value_c e first m) _ (λ v. (tt, tt, tt))),
    );
    address = λ p h. (
      λ plain m.
          let own : (plain_place names p).plain ≡ true = rw fold-roll-CArg at plain in
          rw fold-roll-CArg (ap (λ c. next c (λ l. given (Some (by_address l)))) (h.2 own m)),
      λ m. rw (fold-roll-CArg, fold-roll-CArg, fold-roll-CArg)
          (next-with (PlaceHas (calls_stand_in_place names p).spot (plain_place names p).exact)
          (ArgHas (Some (calls_stand_in_place names p).spot) (plain_place names p).exact) (location_c p first m) _ (place-has p h m)
          (λ l has. (has.0, has.1, points-there (plain_place names p).exact l has.2))),
    );
    literal = λ t n plain m. rw fold-roll-CExprKind refl;
    read = λ p h plain m.
        let own : (plain_place names p).plain ≡ true = rw fold-roll-CExprKind at plain in
        rw fold-roll-CExprKind (ap (λ c. next c (λ l. given (Some (value_at m l)))) (h.2 own m));
    call = λ c h plain m.
        let own : ((plain_call names c).plain && not (has_name names (plain_call names c).name)) ≡ true = rw fold-roll-CExprKind at plain in
        rw fold-roll-CExprKind (ap result_of (call-exact c h own m));
    negation = λ e h plain m.
        let own : is_plain_expr names e ≡ true = rw fold-roll-CExprKind at plain in
        rw fold-roll-CExprKind (ap (λ c. next c (λ a. given (option_map scalar (checked_one_of Not OfBool (scalar_number a))))) (h own m));
    two = λ op a b h k plain m.
        let own : (is_plain_expr names a && is_plain_expr names b) ≡ true = rw fold-roll-CExprKind at plain in
        rw fold-roll-CExprKind
        (two-exact op (value_c a) (value_c b) (h (and-left (is_plain_expr names a) (is_plain_expr names b) own))
        (k (and-right (is_plain_expr names a) (is_plain_expr names b) own)) m);
    calling = λ name args h. record {
      passed = each_of (map arg_c args);
      called = λ scope m. rw (fold-roll-CCall, fold-roll-CCall) refl;
      exact = λ plain m. args-exact args h (rw fold-roll-CCall at plain) m;
      fine = λ stands m. rw fold-roll-CCall (args-fine name args h (rw fold-roll-CCall at stands) m);
      at_first = λ m. rw fold-roll-CCall (args-first args h m);
    };
    expr = λ place what h plain m.
        let own : plain_kind what ≡ true = rw fold-roll-CExpr at plain in
        rw fold-roll-CExpr (h own m);
    index = λ signed at length h plain m.
        let own : is_plain_expr names at ≡ true = rw fold-roll-CIndex at plain in
        rw fold-roll-CIndex
        (ap (λ c. next c (λ i. given (element_projection (index_within (scalar_number i) (pos length))))) (h own m));
    place = of-place;
    step = of-step;
  }

  pub expr-exact : (e : CExpr) → OfExpr e
  expr-exact = induct_expr OfArg OfKind CallParts OfExpr OfIndex OfPlace OfStep expr_cases

  of-places : (p : CPlace) → OfPlace p
  of-places = induct_place OfArg OfKind CallParts OfExpr OfIndex OfPlace OfStep expr_cases

  pub place-exact : (p : CPlace) → (plain_place names p).plain ≡ true → Exact (location_c p)
  place-exact p = (of-places p).2

  -- the location of a place is that of its spot, where that is told
  pub place-here : (p : CPlace) → Has (IsHere (plain_place names p).exact) (location_c p)
  place-here p m =
      optional-map (PlaceHas (calls_stand_in_place names p).spot (plain_place names p).exact) (IsHere (plain_place names p).exact)
      (location_c p first m).answer (λ l has. has.2) (place-has p (of-places p) m)

  pub call-parts : (c : CCall) → CallParts c
  call-parts = induct_call OfArg OfKind CallParts OfExpr OfIndex OfPlace OfStep expr_cases
