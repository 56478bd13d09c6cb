-- What is known of the numbers of spots, and what conditions give by it.
use Rattle.std.specs.Prelude.{◌≡◌, ℤ, pos, Bool, true, false, not, ◌&&◌, ◌||◌, List, [], ◌∷◌, ◌⊎◌, Option, Some, None, int_le, int_lt}
use Rattle.std.specs.Prelude.{is_some, option_and_then, option_map, if◌then◌else◌}
use Rattle.std.specs.List.{list_all}
use Rattle.std.specs.Ordering.{int_eq}
use Rattle.bl_tree.specs.Numbers.{checked_one_of, is_one}
use Rattle.bl_tree.specs.declared.text.Text.{Text}
use Rattle.bl_tree.specs.declared.place.Place.{Place}
use Rattle.bl_tree.specs.declared.scalar.Scalar.TheVariants.{Bool as OfBool}
use Rattle.bl_tree.specs.declared.scalar.Op.{Op}
use Rattle.bl_tree.specs.declared.scalar.Op.TheVariants.{And, Or, Not, Eq, Ne, Lt, Le, Gt, Ge}
use Rattle.bl_tree.specs.declared.c.CArg.TheOpen.{CArg-F, CExprKind-F, CCall-F, CExpr-F, CIndex-F, CPlace-F, CStep-F}
use Rattle.bl_tree.specs.declared.c.CExpr.{CExpr, fold-CExpr}
use Rattle.bl_tree.specs.declared.c.CPlace.{CPlace, fold-CPlace}
use Rattle.bl_tree.specs.declared.c.CStmt.{CStmt}
use Rattle.bl_ctext.specs.Folds.{OpenPart}
use Rattle.bl_ctext.specs.declared.builtin.Builtin.{Builtin}
use Rattle.bl_ctext.specs.declared.builtin.Builtin.TheVariants.{Cast}
use Rattle.bl_ctext_semantics.specs.Builtin.{builtin_of, builtin_value}
use Rattle.bl_ctext_semantics.specs.Meaning.{Scope, block_c, runs_c, value_c}
use Rattle.bl_ctext_semantics.specs.Memory.{CValue, Memory, scalar, scalar_number, value_at}
use Rattle.bl_simplify_laws.specs.declared.facts.CSpot.{CSpot}
use Rattle.bl_simplify_laws.specs.declared.facts.Fact.{Fact}
use Rattle.bl_simplify_laws.specs.declared.facts.Fact.TheVariants.{AtLeast, AtMost, Is, Number}
use Rattle.bl_simplify_laws.specs.Observed.{SameOutcome}
use Rattle.bl_simplify_laws.specs.Splits.{branch, if_stmt}
use Rattle.bl_simplify_laws.specs.Spots.{same_spot, spot_location}

-- ---- facts and valuations

-- a fact holds of a value
abbrev pub Says : Fact → CValue → Type 0
Says (Is n) value = value ≡ scalar n
Says (Number n) value = scalar_number value ≡ n
Says (AtMost n) value = int_le (scalar_number value) n ≡ true
Says (AtLeast n) value = int_le n (scalar_number value) ≡ true

-- the number that a fact tells
abbrev pub exact : Fact → Option ℤ
exact (Is n) = Some n
exact (Number n) = Some n
exact (AtMost n) = None
exact (AtLeast n) = None

-- a fact for each of some spots; nothing is known of others
abbrev pub Valuation : Type 0
Valuation = List (CSpot × Fact)

-- the fact that a valuation has for a spot
abbrev pub fact_in : CSpot → Valuation → Option Fact
fact_in spot [] = None
fact_in spot (entry ∷ rest) = if same_spot entry.0 spot then Some entry.1 else fact_in spot rest

-- the facts hold of the values of their spots
abbrev pub Agrees : Valuation → Scope → Memory → Type 0
Agrees known scope memory = (spot : CSpot) (fact : Fact) → fact_in spot known ≡ Some fact → Says fact (value_at memory (spot_location scope spot))

-- one of several valuations holds
abbrev pub Holds : List Valuation → Scope → Memory → Type 0
Holds [] scope memory = ⊥
Holds (known ∷ rest) scope memory = Agrees known scope memory ⊎ Holds rest scope memory

-- ---- expressions

-- whether there is a number, and it passes a test
abbrev pub tested : (ℤ → Bool) → Option ℤ → Bool
tested test None = false
tested test (Some n) = test n

-- what is told of an expression: whether it surely has a value, and a fact of it where a valuation tells one
pub record Told : Type 0 where
  pub total : Bool
  pub fact : Valuation → Option Fact

-- what is told of a place: whether no index stands in it, and the spot that it is
pub record PlaceTold : Type 0 where
  pub steady : Bool
  pub spot : Option CSpot

-- a layer with what is told of each part: of arguments their numbers, of calls a fact of their results
abbrev pub Tells : OpenPart → Type 0
Tells Of = Of (Valuation → Option ℤ) Told (Valuation → Option Fact) Told (Unit {0}) PlaceTold (Option Text)

-- the number of an argument by value
abbrev pub arg_told : Tells CArg-F → Valuation → Option ℤ
arg_told (CArg-F.Value value) known = option_and_then exact (value.fact known)
arg_told (CArg-F.Address place) known = None

-- a fact that tells this number
abbrev pub only_at : ℤ → Option Fact → Option Fact
only_at n None = None
only_at n (Some fact) = if tested (λ k. int_eq k n) (exact fact) then Some fact else None

-- a fact of `&&`: by the left side where its number is known, and 0 where the left surely has a value and the right is 0
abbrev pub and_told : Option ℤ → Bool → Option Fact → Option Fact
and_told (Some a) total right = if is_one a then right else Some (Is (pos 0))
and_told None true right = only_at (pos 0) right
and_told None false right = None

-- a fact of `||`: by the left side where its number is known, and 1 where the left surely has a value and the right is 1
abbrev pub or_told : Option ℤ → Bool → Option Fact → Option Fact
or_told (Some a) total right = if is_one a then Some (Is (pos 1)) else right
or_told None true right = only_at (pos 1) right
or_told None false right = None

-- whether an operator is a comparison
abbrev pub compares : Op → Bool
compares Eq = true
compares Ne = true
compares Lt = true
compares Le = true
compares Gt = true
compares Ge = true
compares _ = false

-- the number of a comparison that surely holds or surely doesn't
abbrev pub decided_by : Bool → Bool → Option Fact
decided_by holds fails = if holds then Some (Is (pos 1)) else if fails then Some (Is (pos 0)) else None

-- how a value stands to a number for sure: below it, above it, and each or at it
pub record SureOrder : Type 0 where
  pub under : Bool
  pub above : Bool
  pub no_more : Bool
  pub no_less : Bool

-- the least number that a fact leaves
abbrev pub least : Fact → Option ℤ
least (Is n) = Some n
least (Number n) = Some n
least (AtMost n) = None
least (AtLeast n) = Some n

-- the greatest number that a fact leaves
abbrev pub greatest_left : Fact → Option ℤ
greatest_left (Is n) = Some n
greatest_left (Number n) = Some n
greatest_left (AtMost n) = Some n
greatest_left (AtLeast n) = None

-- how a value of which a fact is known stands to a number for sure
abbrev pub sure_order : Fact → ℤ → SureOrder
sure_order fact n = record {
  under = tested (λ k. int_lt k n) (greatest_left fact);
  above = tested (λ k. int_lt n k) (least fact);
  no_more = tested (λ k. int_le k n) (greatest_left fact);
  no_less = tested (λ k. int_le n k) (least fact);
}

-- the number of a comparison, by how its left side stands to its right
abbrev pub comparison_by : Op → SureOrder → Option Fact
comparison_by Eq s = decided_by (s.no_more && s.no_less) (s.under || s.above)
comparison_by Ne s = decided_by (s.under || s.above) (s.no_more && s.no_less)
comparison_by Lt s = decided_by s.under s.no_less
comparison_by Le s = decided_by s.no_more s.above
comparison_by Gt s = decided_by s.above s.no_more
comparison_by Ge s = decided_by s.no_less s.under
comparison_by _ s = None

-- the number of a comparison of which a fact of the left side and the number of the right are known
abbrev pub comparison_told : Op → Option Fact → Option ℤ → Option Fact
comparison_told op (Some fact) (Some n) = comparison_by op (sure_order fact n)
comparison_told op (Some fact) None = None
comparison_told op None n = None

-- what is told of an operation of two sides
abbrev pub two_told : Op → Told → Told → Told
two_told And a b = record {
  total = a.total && b.total;
  fact = λ known. and_told (option_and_then exact (a.fact known)) a.total (b.fact known);
}
two_told Or a b = record {
  total = a.total && b.total;
  fact = λ known. or_told (option_and_then exact (a.fact known)) a.total (b.fact known);
}
two_told op a b = record {
  total = compares op && (a.total && b.total);
  fact = λ known. comparison_told op (a.fact known) (option_and_then exact (b.fact known));
}

-- what is told of an expression's form
abbrev pub kind_told : Tells CExprKind-F → Told
kind_told (CExprKind-F.Literal type n) = record { total = true; fact = λ known. Some (Is n) }
kind_told (CExprKind-F.Read place) = record { total = place.steady; fact = λ known. option_and_then (λ spot. fact_in spot known) place.spot }
kind_told (CExprKind-F.Call call) = record { total = is_some (call []); fact = call }
kind_told (CExprKind-F.Not operand) = record {
  total = operand.total;
  fact = λ known. option_map Is (option_and_then (checked_one_of Not OfBool) (option_and_then exact (operand.fact known)));
}
kind_told (CExprKind-F.Two op left right) = two_told op left right

-- two numbers, where both are known
abbrev pub more_numbers : Option ℤ → Option (List ℤ) → Option (List ℤ)
more_numbers (Some n) (Some numbers) = Some (n ∷ numbers)
more_numbers (Some n) None = None
more_numbers None numbers = None

-- the numbers of arguments, where all are known
abbrev pub all_numbers : Valuation → List (Valuation → Option ℤ) → Option (List ℤ)
all_numbers known [] = Some []
all_numbers known (arg ∷ args) = more_numbers (arg known) (all_numbers known args)

-- whether a function of the prelude is a cast
abbrev pub is_cast : Builtin → Bool
is_cast (Cast signed type) = true
is_cast _ = false

-- the result of a cast of numbers that are known
abbrev pub result_told : Option Builtin → Option (List ℤ) → Option Fact
result_told (Some builtin) (Some numbers) = if is_cast builtin then option_map Is (builtin_value builtin numbers) else None
result_told (Some builtin) None = None
result_told None numbers = None

-- a fact of a call, where it is a cast
abbrev pub call_told : Tells CCall-F → Valuation → Option Fact
call_told call known = result_told (builtin_of call.name) (all_numbers known call.args)

-- what is told of an expression is told of its form
abbrev pub expr_told : Tells CExpr-F → Told
expr_told expr = expr.what

-- nothing is told of an index
abbrev pub index_told : Tells CIndex-F → Unit {0}
index_told index = tt

-- the spot of a place with at most one step, which has no index
abbrev pub spot_told : Bool → Text → List (Option Text) → Option CSpot
spot_told through name [] = Some (record { through = through; name = name; first = None })
spot_told through name (Some m ∷ []) = Some (record { through = through; name = name; first = Some m })
spot_told through name (None ∷ []) = None
spot_told through name (step ∷ next ∷ steps) = None

-- a place is steady if each step is
abbrev pub place_told : Tells CPlace-F → PlaceTold
place_told place = record { steady = list_all (λ member. is_some member) place.steps; spot = spot_told place.through place.name place.steps }

-- the member of a step that has no index
abbrev pub plain_member : Text → Option (Unit {0}) → Option Text
plain_member member None = Some member
plain_member member (Some index) = None

-- a step leads to its member where it has no index
abbrev pub step_told : Tells CStep-F → Option Text
step_told step = plain_member step.member step.index

-- what is told of an expression
abbrev pub told : CExpr → Told
told = fold-CExpr _ _ _ _ _ _ _ arg_told kind_told call_told expr_told index_told place_told step_told

-- what is told of a place
abbrev pub place_is : CPlace → PlaceTold
place_is = fold-CPlace _ _ _ _ _ _ _ arg_told kind_told call_told expr_told index_told place_told step_told

-- ---- what it says

-- a value of which this fact holds
abbrev pub HasFact : Fact → Option CValue → Type 0
HasFact fact None = ⊥
HasFact fact (Some value) = Says fact value

-- some value
abbrev pub HasValue : {A : Type 0} → Option A → Type 0
HasValue None = ⊥
HasValue (Some value) = Unit {0}

-- a fact that is told of an expression holds, and one that is told to be total has a value
abbrev pub ToldHolds : Type 0
ToldHolds =
    (scope : Scope) (memory : Memory) (e : CExpr) →
    ((told e).total ≡ true → HasValue (value_c e scope memory).answer)
    × ((known : Valuation) → Agrees known scope memory → (fact : Fact) → (told e).fact known ≡ Some fact → HasFact fact (value_c e scope memory).answer)

-- ---- decided conditions

-- the number of an expression that a valuation tells
abbrev pub number_told : CExpr → Valuation → Option ℤ
number_told e known = option_and_then exact ((told e).fact known)

-- whether a number is known, and has this truth
abbrev pub number_is : Bool → Option ℤ → Bool
number_is b None = false
number_is true (Some n) = is_one n
number_is false (Some n) = not (is_one n)

-- whether each of the valuations gives the condition this truth
abbrev pub all_decide : List Valuation → CExpr → Bool → Bool
all_decide facts condition b = list_all (λ known. number_is b (number_told condition known)) facts

-- an `if` whose condition is decided does what the branch does
abbrev pub Decided : Type 0
Decided =
    (scope : Scope) (memory : Memory) (facts : List Valuation) → Holds facts scope memory →
    (at : Place) (condition : CExpr) (block : List CStmt) (other : Option (List CStmt)) →
    (all_decide facts condition true ≡ true → SameOutcome (runs_c (if_stmt at condition block other) scope memory) (block_c block scope memory))
    × (all_decide facts condition false ≡ true → SameOutcome (runs_c (if_stmt at condition block other) scope memory) (block_c (branch other) scope memory))

-- ---- filters

-- the valuations that don't give the condition the other truth
abbrev pub filtered : List Valuation → CExpr → Bool → List Valuation
filtered [] condition b = []
filtered (known ∷ rest) condition b =
    if number_is (not b) (number_told condition known) then filtered rest condition b else known ∷ filtered rest condition b

-- where the condition has given this truth, one of these holds
abbrev pub Filters : Type 0
Filters =
    (scope : Scope) (memory : Memory) (facts : List Valuation) → Holds facts scope memory →
    (condition : CExpr) (value : CValue) → (value_c condition scope memory).answer ≡ Some value →
    Holds (filtered facts condition (is_one (scalar_number value))) scope memory
