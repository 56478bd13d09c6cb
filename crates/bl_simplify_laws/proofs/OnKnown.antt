-- What is told of expressions holds, and conditions that it decides.
use Rattle.std.proofs.Common.{◌≡◌, ℕ, ◌+◌, ℤ, pos, Bool, true, false, not, ◌&&◌, ◌||◌, inl, inr, List, [], ◌∷◌, map, Option, Some, None}
use Rattle.std.proofs.Common.{refl, ap, sym, subst, ◌∙◌, arith}
use Rattle.std.proofs.lemmas.Bool.Decides.{Decides-int_eq}
use Rattle.std.proofs.lemmas.Int.{ints}
use Rattle.std.proofs.lemmas.List.Elements.{All-head, All-tail}
use Rattle.std.specs.List.{list_all}
use Rattle.std.specs.Option.{option_and_then}
use Rattle.std.specs.Ordering.{int_eq}
use Rattle.std.specs.Prelude.{All, int_le, int_lt, is_some, option_map, if◌then◌else◌}
use Rattle.bl_tree.specs.Numbers.{checked_of, checked_one_of, is_one, number_of}
use Rattle.bl_tree.specs.declared.text.Text.{Text}
use Rattle.bl_tree.specs.declared.scalar.Scalar.TheVariants.{Bool as OfBool}
use Rattle.bl_tree.specs.declared.scalar.Op.{Op}
use Rattle.bl_tree.specs.declared.scalar.Op.TheVariants.{Add, Sub, Mul, Div, Rem, Minus, BitAnd, BitOr, BitXor, BitNot, Shl, Shr}
use Rattle.bl_tree.specs.declared.scalar.Op.TheVariants.{Eq, Ne, Lt, Le, Gt, Ge, And, Or, Not}
use Rattle.bl_tree.specs.declared.c.CArg.{CArg, fold-CArg, fold-roll-CArg}
use Rattle.bl_tree.specs.declared.c.CCall.{CCall, fold-CCall, fold-roll-CCall}
use Rattle.bl_tree.specs.declared.c.CExpr.{CExpr, fold-roll-CExpr}
use Rattle.bl_tree.specs.declared.c.CExprKind.{CExprKind, fold-CExprKind, fold-roll-CExprKind}
use Rattle.bl_tree.specs.declared.c.CIndex.{CIndex}
use Rattle.bl_tree.specs.declared.c.CPlace.{CPlace, fold-roll-CPlace, roll-CPlace}
use Rattle.bl_tree.specs.declared.c.CStep.{CStep, fold-CStep, fold-roll-CStep, roll-CStep}
use Rattle.bl_ctext.specs.declared.builtin.Builtin.{Builtin}
use Rattle.bl_ctext_semantics.specs.Builtin.{builtin_of, builtin_value}
use Rattle.bl_ctext_semantics.specs.Course.{ended_by}
use Rattle.bl_ctext_semantics.specs.Meaning.{ArgumentValue, CStmtMeaning, Counted, Evaluates, Scope, at_once, block_c, by_value, call_c, called_after}
use Rattle.bl_ctext_semantics.specs.Meaning.{called_as, each_of, further, given, later_call, location_c, named_location, next, number_of_passed}
use Rattle.bl_ctext_semantics.specs.Meaning.{result_of, two_values, value_c, way_of}
use Rattle.bl_ctext_semantics.specs.Memory.{CValue, Location, Memory, Projection, member, scalar, scalar_number, value_at}
use Rattle.bl_ctext_semantics.proofs.Folds.{arg_c, kind_c, step_c}
use Rattle.bl_ctext_semantics.proofs.Induction.{ExprCases, induct_expr, induct_place}
use Rattle.bl_simplify_laws.specs.declared.facts.CSpot.{CSpot}
use Rattle.bl_simplify_laws.specs.declared.facts.Fact.{Fact}
use Rattle.bl_simplify_laws.specs.declared.facts.Fact.TheVariants.{AtLeast, AtMost, Is, Number}
use Rattle.bl_simplify_laws.specs.Known.{Agrees, Decided, Filters, HasFact, HasValue, Holds, PlaceTold, Says, SureOrder, Told, ToldHolds, Valuation}
use Rattle.bl_simplify_laws.specs.Known.{all_decide, all_numbers, and_told, arg_told, call_told, compares, comparison_by, comparison_told}
use Rattle.bl_simplify_laws.specs.Known.{decided_by, exact, expr_told, fact_in, filtered, greatest_left, index_told, is_cast, kind_told, least, more_numbers}
use Rattle.bl_simplify_laws.specs.Known.{number_is, number_told, only_at, or_told, place_is, place_told, result_told, spot_told, sure_order}
use Rattle.bl_simplify_laws.specs.Known.{step_told, tested, told, two_told}
use Rattle.bl_simplify_laws.specs.Observed.{observed}
use Rattle.bl_simplify_laws.specs.Splits.{branch}
use Rattle.bl_simplify_laws.specs.Spots.{spot_location}
use Rattle.bl_simplify_laws.proofs.OnSplits.{if-is}
use Rattle.bl_simplify_laws.proofs.OnSpots.{and-left, and-right, some-of}

-- ---- evaluations one after the other

pub value-next : {A B : Type 0} (c : Counted A) (f : A → Counted B) → HasValue c.answer → ((a : A) → HasValue (f a).answer) → HasValue (next c f).answer
value-next {A} {B} c f h k = by c.answer h
  where
    by : (o : Option A) → HasValue o → HasValue (next (record { count = c.count; answer = o }) f).answer
    by None h = h
    by (Some a) h = k a

-- a fact of what follows, where one of what it follows is known
fact-next : (c : Counted CValue) (f : CValue → Counted CValue) (known fact : Fact) → HasFact known c.answer →
    ((v : CValue) → Says known v → HasFact fact (f v).answer) → HasFact fact (next c f).answer
fact-next c f known fact h go = by c.answer h
  where
    by : (o : Option CValue) → HasFact known o → HasFact fact (next (record { count = c.count; answer = o }) f).answer
    by None h = h
    by (Some v) h = go v h

-- a fact of what follows any value
fact-after : (c : Counted CValue) (f : CValue → Counted CValue) (fact : Fact) → HasValue c.answer → ((v : CValue) → HasFact fact (f v).answer) →
    HasFact fact (next c f).answer
fact-after c f fact h go = by c.answer h
  where
    by : (o : Option CValue) → HasValue o → HasFact fact (next (record { count = c.count; answer = o }) f).answer
    by None h = h
    by (Some v) h = go v

pub next-at : {A B : Type 0} (c : Counted A) (f : A → Counted B) (a : A) → c.answer ≡ Some a → (next c f).answer ≡ (f a).answer
next-at c f a h = ap (λ o. (next (record { count = c.count; answer = o }) f).answer) h

-- ---- facts

-- the number of a value of which a fact tells it
pub exact-says : (fact : Fact) (n : ℤ) (v : CValue) → exact fact ≡ Some n → Says fact v → scalar_number v ≡ n
exact-says (Is m) n v h says = ap scalar_number says ∙ some-of m n h
exact-says (Number m) n v h says = says ∙ some-of m n h
exact-says (AtMost m) n v h says = cc
exact-says (AtLeast m) n v h says = cc

exact-of : (o : Option Fact) (n : ℤ) → option_and_then exact o ≡ Some n → (fact : Fact) × ((o ≡ Some fact) × (exact fact ≡ Some n))
exact-of None n h = cc
exact-of (Some fact) n h = (fact, (refl, h))

tested-at : (test : ℤ → Bool) (o : Option ℤ) → tested test o ≡ true → (n : ℤ) × ((o ≡ Some n) × (test n ≡ true))
tested-at test None h = cc
tested-at test (Some n) h = (n, (refl, h))

-- a fact that tells this number
only-is : (n : ℤ) (o : Option Fact) (fact : Fact) → only_at n o ≡ Some fact → (o ≡ Some fact) × (exact fact ≡ Some n)
only-is n None fact h = cc
only-is n (Some own) fact h = by (tested (λ k. int_eq k n) (exact own)) refl h
  where
    by : (b : Bool) → tested (λ k. int_eq k n) (exact own) ≡ b → (if b then Some own else None) ≡ Some fact → (Some own ≡ Some fact) × (exact fact ≡ Some n)
    by true e h =
        let at = tested-at (λ k. int_eq k n) (exact own) e in
        let same : at.0 ≡ n = (Decides-int_eq at.0 n).0 at.1.1 in
        (h, ap exact (sym (some-of own fact h)) ∙ at.1.0 ∙ ap Some same)
    by false e h = cc

-- a fact holds of the scalar of the number that it tells
scalar-says : (fact : Fact) (n : ℤ) → exact fact ≡ Some n → Says fact (scalar n)
scalar-says (Is m) n h = ap scalar (sym (some-of m n h))
scalar-says (Number m) n h = sym (some-of m n h)
scalar-says (AtMost m) n h = cc
scalar-says (AtLeast m) n h = cc

-- ---- comparisons

le-le : (a b c : ℤ) → int_le a b ≡ true → int_le b c ≡ true → int_le a c ≡ true
le-le a b c h k = grind (arith, ints)

le-lt : (a b c : ℤ) → int_le a b ≡ true → int_lt b c ≡ true → int_lt a c ≡ true
le-lt a b c h k = grind (arith, ints)

lt-le : (a b c : ℤ) → int_lt a b ≡ true → int_le b c ≡ true → int_lt a c ≡ true
lt-le a b c h k = grind (arith, ints)

le-itself : (a b : ℤ) → a ≡ b → int_le a b ≡ true
le-itself a b h = grind (arith, ints)

greatest-says : (fact : Fact) (n : ℤ) (v : CValue) → greatest_left fact ≡ Some n → Says fact v → int_le (scalar_number v) n ≡ true
greatest-says (Is m) n v h says = le-itself (scalar_number v) n (ap scalar_number says ∙ some-of m n h)
greatest-says (Number m) n v h says = le-itself (scalar_number v) n (says ∙ some-of m n h)
greatest-says (AtMost m) n v h says = subst (λ k. int_le (scalar_number v) k ≡ true) (some-of m n h) says
greatest-says (AtLeast m) n v h says = cc

least-says : (fact : Fact) (n : ℤ) (v : CValue) → least fact ≡ Some n → Says fact v → int_le n (scalar_number v) ≡ true
least-says (Is m) n v h says = le-itself n (scalar_number v) (sym (ap scalar_number says ∙ some-of m n h))
least-says (Number m) n v h says = le-itself n (scalar_number v) (sym (says ∙ some-of m n h))
least-says (AtMost m) n v h says = cc
least-says (AtLeast m) n v h says = subst (λ k. int_le k (scalar_number v) ≡ true) (some-of m n h) says

-- what a sure_order says of two numbers
record Stands (s : SureOrder) (x n : ℤ) : Type 0 where
  pub under : s.under ≡ true → int_lt x n ≡ true
  pub above : s.above ≡ true → int_lt n x ≡ true
  pub no_more : s.no_more ≡ true → int_le x n ≡ true
  pub no_less : s.no_less ≡ true → int_le n x ≡ true

sure-order-holds : (fact : Fact) (n : ℤ) (v : CValue) → Says fact v → Stands (sure_order fact n) (scalar_number v) n
sure-order-holds fact n v says = record {
  under = λ h.
      let at = tested-at (λ k. int_lt k n) (greatest_left fact) h in
      le-lt (scalar_number v) at.0 n (greatest-says fact at.0 v at.1.0 says) at.1.1;
  above = λ h.
      let at = tested-at (λ k. int_lt n k) (least fact) h in
      lt-le n at.0 (scalar_number v) at.1.1 (least-says fact at.0 v at.1.0 says);
  no_more = λ h.
      let at = tested-at (λ k. int_le k n) (greatest_left fact) h in
      le-le (scalar_number v) at.0 n (greatest-says fact at.0 v at.1.0 says) at.1.1;
  no_less = λ h.
      let at = tested-at (λ k. int_le n k) (least fact) h in
      le-le n at.0 (scalar_number v) at.1.1 (least-says fact at.0 v at.1.0 says);
}

-- the number of a test that surely holds or surely doesn't
decided-says : (holds fails test : Bool) (fact : Fact) → decided_by holds fails ≡ Some fact → (holds ≡ true → test ≡ true) → (fails ≡ true → test ≡ false) →
    Says fact (scalar (number_of test))
decided-says true fails test fact h yes_if no_if =
    subst (λ f. Says f (scalar (number_of test))) (some-of (Is (pos 1)) fact h) (ap (λ b. scalar (number_of b)) (yes_if refl))
decided-says false true test fact h yes_if no_if =
    subst (λ f. Says f (scalar (number_of test))) (some-of (Is (pos 0)) fact h) (ap (λ b. scalar (number_of b)) (no_if refl))
decided-says false false test fact h yes_if no_if = cc

or-either : (a b : Bool) (P : Type 0) → (a ≡ true → P) → (b ≡ true → P) → (a || b) ≡ true → P
or-either true b P f g h = f refl
or-either false b P f g h = g h

-- what a comparison by a sure_order says of the test
abbrev Compares : Op → (ℤ → ℤ → Bool) → Type 0
Compares op test =
    (s : SureOrder) (x n : ℤ) → Stands s x n → (fact : Fact) → comparison_by op s ≡ Some fact → Says fact (scalar (number_of (test x n)))

both-equal : (x n : ℤ) → int_le x n ≡ true → int_le n x ≡ true → int_eq x n ≡ true
both-equal x n h k = grind (arith, ints)

under-differs : (x n : ℤ) → int_lt x n ≡ true → int_eq x n ≡ false
under-differs x n h = grind (arith, ints)

above-differs : (x n : ℤ) → int_lt n x ≡ true → int_eq x n ≡ false
above-differs x n h = grind (arith, ints)

not-under : (x n : ℤ) → int_le n x ≡ true → int_lt x n ≡ false
not-under x n h = grind (arith, ints)

not-within : (x n : ℤ) → int_lt n x ≡ true → int_le x n ≡ false
not-within x n h = grind (arith, ints)

compares-eq : Compares Eq (λ x y. int_eq x y)
compares-eq s x n stands fact h =
    decided-says (s.no_more && s.no_less) (s.under || s.above) (int_eq x n) fact h
    (λ e. both-equal x n (stands.no_more (and-left s.no_more s.no_less e)) (stands.no_less (and-right s.no_more s.no_less e)))
    (or-either s.under s.above (int_eq x n ≡ false) (λ e. under-differs x n (stands.under e)) (λ e. above-differs x n (stands.above e)))

compares-ne : Compares Ne (λ x y. not (int_eq x y))
compares-ne s x n stands fact h =
    decided-says (s.under || s.above) (s.no_more && s.no_less) (not (int_eq x n)) fact h
    (λ e. ap not (or-either s.under s.above (int_eq x n ≡ false) (λ e. under-differs x n (stands.under e)) (λ e. above-differs x n (stands.above e)) e))
    (λ e. ap not (both-equal x n (stands.no_more (and-left s.no_more s.no_less e)) (stands.no_less (and-right s.no_more s.no_less e))))

compares-lt : Compares Lt (λ x y. int_lt x y)
compares-lt s x n stands fact h =
    decided-says s.under s.no_less (int_lt x n) fact h stands.under (λ e. not-under x n (stands.no_less e))

compares-le : Compares Le (λ x y. int_le x y)
compares-le s x n stands fact h =
    decided-says s.no_more s.above (int_le x n) fact h stands.no_more (λ e. not-within x n (stands.above e))

compares-gt : Compares Gt (λ x y. int_lt y x)
compares-gt s x n stands fact h =
    decided-says s.above s.no_more (int_lt n x) fact h stands.above (λ e. not-under n x (stands.no_more e))

compares-ge : Compares Ge (λ x y. int_le y x)
compares-ge s x n stands fact h =
    decided-says s.no_less s.under (int_le n x) fact h stands.no_less (λ e. not-within n x (stands.under e))

-- ---- operators

module _ (scope : Scope) (memory : Memory) where
  -- a value, where it is told, and a fact, where that is
  abbrev TotalHas : Bool → Evaluates CValue → Type 0
  TotalHas total e = total ≡ true → HasValue (e scope memory).answer

  abbrev FactHas : Option Fact → Evaluates CValue → Type 0
  FactHas o e = (fact : Fact) → o ≡ Some fact → HasFact fact (e scope memory).answer

  chosen-value : (b : Bool) (f g : Evaluates CValue) → HasValue (f scope memory).answer → HasValue (g scope memory).answer →
      HasValue ((if b then f else g) scope memory).answer
  chosen-value true f g h k = h
  chosen-value false f g h k = k

  chosen-fact : (b : Bool) (f g : Evaluates CValue) (fact : Fact) → HasFact fact (f scope memory).answer → HasFact fact (g scope memory).answer →
      HasFact fact ((if b then f else g) scope memory).answer
  chosen-fact true f g fact h k = h
  chosen-fact false f g fact h k = k

  and-by : (b : Bool) (right : Evaluates CValue) (o : Option Fact) (fact : Fact) → FactHas o right → (if b then o else Some (Is (pos 0))) ≡ Some fact →
      HasFact fact ((if b then right else at_once (pos 0)) scope memory).answer
  and-by true right o fact h is = h fact is
  and-by false right o fact h is = subst (λ f. Says f (scalar (pos 0))) (some-of (Is (pos 0)) fact is) refl

  or-by : (b : Bool) (right : Evaluates CValue) (o : Option Fact) (fact : Fact) → FactHas o right → (if b then Some (Is (pos 1)) else o) ≡ Some fact →
      HasFact fact ((if b then at_once (pos 1) else right) scope memory).answer
  or-by true right o fact h is = subst (λ f. Says f (scalar (pos 1))) (some-of (Is (pos 1)) fact is) refl
  or-by false right o fact h is = h fact is

  and-fact : (left right : Evaluates CValue) (o : Option Fact) (p : Option Fact) (total : Bool) → TotalHas total left → FactHas o left → FactHas p right →
      FactHas (and_told (option_and_then exact o) total p) (two_values And left right)
  and-fact left right o p total t h k fact is = by (option_and_then exact o) total refl t is
    where
      by : (q : Option ℤ) (total : Bool) → option_and_then exact o ≡ q → TotalHas total left → and_told q total p ≡ Some fact →
          HasFact fact (two_values And left right scope memory).answer
      by (Some a) total e t is =
          let own = exact-of o a e in
          fact-next (left scope memory) _ own.0 fact (h own.0 own.1.0)
          (λ v says. subst (λ z. HasFact fact ((if is_one z then right else at_once (pos 0)) scope memory).answer)
          (sym (exact-says own.0 a v own.1.1 says)) (and-by (is_one a) right p fact k is))
      by None true e t is =
          let own = only-is (pos 0) p fact is in
          fact-after (left scope memory) _ fact (t refl)
          (λ v. chosen-fact (is_one (scalar_number v)) right (at_once (pos 0)) fact (k fact own.0) (scalar-says fact (pos 0) own.1))
      by None false e t is = cc

  or-fact : (left right : Evaluates CValue) (o : Option Fact) (p : Option Fact) (total : Bool) → TotalHas total left → FactHas o left → FactHas p right →
      FactHas (or_told (option_and_then exact o) total p) (two_values Or left right)
  or-fact left right o p total t h k fact is = by (option_and_then exact o) total refl t is
    where
      by : (q : Option ℤ) (total : Bool) → option_and_then exact o ≡ q → TotalHas total left → or_told q total p ≡ Some fact →
          HasFact fact (two_values Or left right scope memory).answer
      by (Some a) total e t is =
          let own = exact-of o a e in
          fact-next (left scope memory) _ own.0 fact (h own.0 own.1.0)
          (λ v says. subst (λ z. HasFact fact ((if is_one z then at_once (pos 1) else right) scope memory).answer)
          (sym (exact-says own.0 a v own.1.1 says)) (or-by (is_one a) right p fact k is))
      by None true e t is =
          let own = only-is (pos 1) p fact is in
          fact-after (left scope memory) _ fact (t refl)
          (λ v. chosen-fact (is_one (scalar_number v)) (at_once (pos 1)) right fact (scalar-says fact (pos 1) own.1) (k fact own.0))
      by None false e t is = cc

  -- what two operands give whose values are both asked
  abbrev both_by : Op → Evaluates CValue → Evaluates CValue → Counted CValue
  both_by op left right =
      next (left scope memory) (λ a. next (right scope memory) (λ b. given (option_map scalar (checked_of op OfBool (scalar_number a) (scalar_number b)))))

  both-fact : (op : Op) (test : ℤ → ℤ → Bool) (left right : Evaluates CValue) (o p : Option Fact) →
      ((a b : ℤ) → checked_of op OfBool a b ≡ Some (number_of (test a b))) → Compares op test → FactHas o left → FactHas p right → (fact : Fact) →
      comparison_told op o (option_and_then exact p) ≡ Some fact → HasFact fact (both_by op left right).answer
  both-fact op test left right (Some known) p spelled comparing h k fact is = by (option_and_then exact p) refl is
    where
      by : (q : Option ℤ) → option_and_then exact p ≡ q → comparison_told op (Some known) q ≡ Some fact → HasFact fact (both_by op left right).answer
      by None e is = cc
      by (Some n) e is =
          let own = exact-of p n e in
          fact-next (left scope memory) _ known fact (h known refl)
          (λ v says. fact-next (right scope memory) _ own.0 fact (k own.0 own.1.0)
          (λ w also. subst (λ o. HasFact fact (option_map scalar o)) (sym (spelled (scalar_number v) (scalar_number w)))
          (subst (λ z. Says fact (scalar (number_of (test (scalar_number v) z)))) (sym (exact-says own.0 n w own.1.1 also))
          (comparing (sure_order known n) (scalar_number v) n (sure-order-holds known n v says) fact is))))
  both-fact op test left right None p spelled comparing h k fact is = cc

  both-value : (op : Op) (test : ℤ → ℤ → Bool) (left right : Evaluates CValue) → ((a b : ℤ) → checked_of op OfBool a b ≡ Some (number_of (test a b))) →
      HasValue (left scope memory).answer → HasValue (right scope memory).answer → HasValue (both_by op left right).answer
  both-value op test left right spelled h k =
      value-next (left scope memory) _ h
      (λ v. value-next (right scope memory) _ k
      (λ w. subst (λ o. HasValue (option_map scalar o)) (sym (spelled (scalar_number v) (scalar_number w))) tt))

  -- what is told of an expression holds
  abbrev Sound : Told → Evaluates CValue → Type 0
  Sound t e =
      (t.total ≡ true → HasValue (e scope memory).answer)
      × ((known : Valuation) → Agrees known scope memory → (fact : Fact) → t.fact known ≡ Some fact → HasFact fact (e scope memory).answer)

  tests-sound : (op : Op) (test : ℤ → ℤ → Bool) (a b : Told) (left right : Evaluates CValue) →
      ((x y : ℤ) → checked_of op OfBool x y ≡ Some (number_of (test x y))) → Compares op test → Sound a left → Sound b right →
      ((a.total && b.total) ≡ true → HasValue (both_by op left right).answer)
      × ((known : Valuation) → Agrees known scope memory → (fact : Fact) → comparison_told op (a.fact known) (option_and_then exact (b.fact known)) ≡ Some
      fact →
      HasFact fact (both_by op left right).answer)
  tests-sound op test a b left right spelled comparing h k = (
    λ t. both-value op test left right spelled (h.0 (and-left a.total b.total t)) (k.0 (and-right a.total b.total t)),
    λ known agrees fact is. both-fact op test left right (a.fact known) (b.fact known) spelled comparing (h.1 known agrees) (k.1 known agrees) fact is,
  )

  -- an operator of which nothing is told
  untold : (op : Op) (a b : Told) (e : Evaluates CValue) → compares op ≡ false → ((s : SureOrder) → comparison_by op s ≡ None) →
      (compares op && (a.total && b.total) ≡ true → HasValue (e scope memory).answer)
      × ((known : Valuation) → Agrees known scope memory → (fact : Fact) → comparison_told op (a.fact known) (option_and_then exact (b.fact known)) ≡ Some
      fact →
      HasFact fact (e scope memory).answer)
  untold op a b e fails none = (
    λ t. absurd (absurd_of (sym fails ∙ and-left (compares op) (a.total && b.total) t)),
    λ known agrees fact is. absurd (none_of (a.fact known) (option_and_then exact (b.fact known)) fact is),
  )
    where
      absurd_of : false ≡ true → ⊥
      absurd_of h = cc

      none_is : (fact : Fact) → None ≡ Some fact → ⊥
      none_is fact h = cc

      none_of : (o : Option Fact) (p : Option ℤ) (fact : Fact) → comparison_told op o p ≡ Some fact → ⊥
      none_of (Some own) (Some n) fact h = none_is fact (sym (none (sure_order own n)) ∙ h)
      none_of (Some own) None fact h = cc
      none_of None p fact h = cc

  two-sound : (op : Op) (a b : Told) (left right : Evaluates CValue) → Sound a left → Sound b right → Sound (two_told op a b) (two_values op left right)
  two-sound And a b left right h k = (
    λ t. value-next (left scope memory) _ (h.0 (and-left a.total b.total t))
        (λ v. chosen-value (is_one (scalar_number v)) right (at_once (pos 0)) (k.0 (and-right a.total b.total t)) tt),
    λ known agrees. and-fact left right (a.fact known) (b.fact known) a.total h.0 (h.1 known agrees) (k.1 known agrees),
  )
  two-sound Or a b left right h k = (
    λ t. value-next (left scope memory) _ (h.0 (and-left a.total b.total t))
        (λ v. chosen-value (is_one (scalar_number v)) (at_once (pos 1)) right tt (k.0 (and-right a.total b.total t))),
    λ known agrees. or-fact left right (a.fact known) (b.fact known) a.total h.0 (h.1 known agrees) (k.1 known agrees),
  )
  two-sound Eq a b left right h k = tests-sound Eq (λ x y. int_eq x y) a b left right (λ x y. refl) compares-eq h k
  two-sound Ne a b left right h k = tests-sound Ne (λ x y. not (int_eq x y)) a b left right (λ x y. refl) compares-ne h k
  two-sound Lt a b left right h k = tests-sound Lt (λ x y. int_lt x y) a b left right (λ x y. refl) compares-lt h k
  two-sound Le a b left right h k = tests-sound Le (λ x y. int_le x y) a b left right (λ x y. refl) compares-le h k
  two-sound Gt a b left right h k = tests-sound Gt (λ x y. int_lt y x) a b left right (λ x y. refl) compares-gt h k
  two-sound Ge a b left right h k = tests-sound Ge (λ x y. int_le y x) a b left right (λ x y. refl) compares-ge h k
  two-sound Not a b left right h k = untold Not a b (two_values Not left right) refl (λ s. refl)
  two-sound Minus a b left right h k = untold Minus a b (two_values Minus left right) refl (λ s. refl)
  two-sound BitNot a b left right h k = untold BitNot a b (two_values BitNot left right) refl (λ s. refl)
  two-sound Add a b left right h k = untold Add a b (two_values Add left right) refl (λ s. refl)
  two-sound Sub a b left right h k = untold Sub a b (two_values Sub left right) refl (λ s. refl)
  two-sound Mul a b left right h k = untold Mul a b (two_values Mul left right) refl (λ s. refl)
  two-sound Div a b left right h k = untold Div a b (two_values Div left right) refl (λ s. refl)
  two-sound Rem a b left right h k = untold Rem a b (two_values Rem left right) refl (λ s. refl)
  two-sound BitAnd a b left right h k = untold BitAnd a b (two_values BitAnd left right) refl (λ s. refl)
  two-sound BitOr a b left right h k = untold BitOr a b (two_values BitOr left right) refl (λ s. refl)
  two-sound BitXor a b left right h k = untold BitXor a b (two_values BitXor left right) refl (λ s. refl)
  two-sound Shl a b left right h k = untold Shl a b (two_values Shl left right) refl (λ s. refl)
  two-sound Shr a b left right h k = untold Shr a b (two_values Shr left right) refl (λ s. refl)

  not-sound : (a : Told) (e : Evaluates CValue) → Sound a e →
      Sound
      (record {
        total = a.total;
        fact = λ known. option_map Is (option_and_then (checked_one_of Not OfBool) (option_and_then exact (a.fact known)));
      })
      (λ s m. next (e s m) (λ v. given (option_map scalar (checked_one_of Not OfBool (scalar_number v)))))
  not-sound a e h =
      (λ t. value-next (e scope memory) _ (h.0 t) (λ v. tt), λ known agrees fact is. by (a.fact known) (h.1 known agrees) fact is)
    where
      by : (o : Option Fact) → FactHas o e → (fact : Fact) → option_map Is (option_and_then (checked_one_of Not OfBool) (option_and_then exact o)) ≡ Some fact →
          HasFact fact (next (e scope memory) (λ v. given (option_map scalar (checked_one_of Not OfBool (scalar_number v))))).answer
      by o h fact is = at (option_and_then exact o) refl is
        where
          at : (q : Option ℤ) → option_and_then exact o ≡ q → option_map Is (option_and_then (checked_one_of Not OfBool) q) ≡ Some fact →
              HasFact fact (next (e scope memory) (λ v. given (option_map scalar (checked_one_of Not OfBool (scalar_number v))))).answer
          at None same is = cc
          at (Some n) same is =
              let own = exact-of o n same in
              fact-next (e scope memory) _ own.0 fact (h own.0 own.1.0)
              (λ v says. subst (λ f. Says f (scalar (number_of (not (is_one (scalar_number v)))))) (some-of (Is (number_of (not (is_one n)))) fact is)
              (ap (λ z. scalar (number_of (not (is_one z)))) (exact-says own.0 n v own.1.1 says)))

  -- ---- places

  -- what is told of a place holds
  abbrev Leads : PlaceTold → Evaluates Location → Type 0
  Leads t l =
      (t.steady ≡ true → HasValue (l scope memory).answer)
      × ((spot : CSpot) → t.spot ≡ Some spot → (l scope memory).answer ≡ Some (spot_location scope spot))

  read-sound : (t : PlaceTold) (l : Evaluates Location) → Leads t l →
      Sound (record { total = t.steady; fact = λ known. option_and_then (λ spot. fact_in spot known) t.spot })
      (λ s m. next (l s m) (λ p. given (Some (value_at m p))))
  read-sound t l h =
      (λ steady. value-next (l scope memory) _ (h.0 steady) (λ p. tt), λ known agrees fact is. by t.spot h.1 known agrees fact is)
    where
      by : (o : Option CSpot) → ((spot : CSpot) → o ≡ Some spot → (l scope memory).answer ≡ Some (spot_location scope spot)) →
          (known : Valuation) → Agrees known scope memory → (fact : Fact) → option_and_then (λ spot. fact_in spot known) o ≡ Some fact →
          HasFact fact (next (l scope memory) (λ p. given (Some (value_at memory p)))).answer
      by None h known agrees fact is = cc
      by (Some spot) h known agrees fact is =
          subst (HasFact fact)
          (sym (next-at (l scope memory) (λ p. given (Some (value_at memory p))) (spot_location scope spot) (h spot refl)))
          (agrees spot fact is)

  -- ---- calls of the prelude

  -- an argument with this number
  abbrev HasPassed : ℤ → Option ArgumentValue → Type 0
  HasPassed n None = ⊥
  HasPassed n (Some a) = number_of_passed a ≡ n

  -- arguments with these numbers
  abbrev HasAll : List ℤ → Option (List ArgumentValue) → Type 0
  HasAll numbers None = ⊥
  HasAll numbers (Some passed) = map number_of_passed passed ≡ numbers

  abbrev arg_is : CArg → Valuation → Option ℤ
  arg_is = fold-CArg _ _ _ _ _ _ _ arg_told kind_told call_told expr_told index_told place_told step_told

  abbrev call_is : CCall → Valuation → Option Fact
  call_is = fold-CCall _ _ _ _ _ _ _ arg_told kind_told call_told expr_told index_told place_told step_told

  abbrev OfArg : CArg → Type 0
  OfArg a = (known : Valuation) → Agrees known scope memory → (n : ℤ) → arg_is a known ≡ Some n → HasPassed n (arg_c a scope memory).answer

  abbrev OfCall : CCall → Type 0
  OfCall c =
      (known : Valuation) → Agrees known scope memory → (fact : Fact) → call_is c known ≡ Some fact → HasFact fact (result_of (call_c c scope memory)).answer

  passed-next : (c : Counted CValue) (fact : Fact) (n : ℤ) → HasFact fact c.answer → exact fact ≡ Some n →
      HasPassed n (next c (λ v. given (Some (by_value v)))).answer
  passed-next c fact n h e = by c.answer h
    where
      by : (o : Option CValue) → HasFact fact o → HasPassed n (next (record { count = c.count; answer = o }) (λ v. given (Some (by_value v)))).answer
      by None h = h
      by (Some v) h = exact-says fact n v e h

  more-of : (o : Option ℤ) (p : Option (List ℤ)) (numbers : List ℤ) → more_numbers o p ≡ Some numbers →
      (n : ℤ) × ((rest : List ℤ) × ((o ≡ Some n) × ((p ≡ Some rest) × (numbers ≡ n ∷ rest))))
  more-of (Some n) (Some rest) numbers h = (n, (rest, (refl, (refl, sym (some-of (n ∷ rest) numbers h)))))
  more-of (Some n) None numbers h = cc
  more-of None p numbers h = cc

  all-next : (c : Counted ArgumentValue) (d : Counted (List ArgumentValue)) (n : ℤ) (rest : List ℤ) → HasPassed n c.answer → HasAll rest d.answer →
      HasAll (n ∷ rest) (next c (λ a. next d (λ others. given (Some (a ∷ others))))).answer
  all-next c d n rest h k = by c.answer d.answer h k
    where
      by : (o : Option ArgumentValue) (p : Option (List ArgumentValue)) → HasPassed n o → HasAll rest p →
          HasAll (n ∷ rest)
          (next (record { count = c.count; answer = o }) (λ a. next (record { count = d.count; answer = p }) (λ others. given (Some (a ∷ others))))).answer
      by None p h k = h
      by (Some a) None h k = k
      by (Some a) (Some others) h k = (λ i. h i ∷ k i)

  args-told : (args : List CArg) → All OfArg args → (known : Valuation) → Agrees known scope memory → (numbers : List ℤ) →
      all_numbers known (map arg_is args) ≡ Some numbers → HasAll numbers (each_of (map arg_c args) scope memory).answer
  args-told [] h known agrees numbers is = some-of [] numbers is
  args-told (a ∷ args) h known agrees numbers is =
      let own = more-of (arg_is a known) (all_numbers known (map arg_is args)) numbers is in
      subst (λ x. HasAll x (each_of (map arg_c (a ∷ args)) scope memory).answer) (sym own.1.1.1.1)
      (all-next (arg_c a scope memory) (each_of (map arg_c args) scope memory) own.0 own.1.0 (All-head OfArg a args h known agrees own.0 own.1.1.0)
      (args-told args (All-tail OfArg a args h) known agrees own.1.0 own.1.1.1.0))

  called-told : (name : Text) (n : ℕ) (passed : Option (List ArgumentValue)) (o : Option Builtin) (p : Option (List ℤ)) → builtin_of name ≡ o →
      ((numbers : List ℤ) → p ≡ Some numbers → HasAll numbers passed) → (fact : Fact) → result_told o p ≡ Some fact →
      HasFact fact (result_of (called_after scope memory name n passed)).answer
  called-told name n passed None p is h fact told = cc
  called-told name n passed (Some builtin) None is h fact told = cc
  called-told name n passed (Some builtin) (Some numbers) is h fact told = by passed (h numbers refl)
    where
      result : (b : Bool) (o : Option ℤ) → (if b then option_map Is o else None) ≡ Some fact → HasFact fact (option_map scalar o)
      result true None told = cc
      result true (Some k) told = subst (λ f. Says f (scalar k)) (some-of (Is k) fact told) refl
      result false o told = cc

      by : (passed : Option (List ArgumentValue)) → HasAll numbers passed → HasFact fact (result_of (called_after scope memory name n passed)).answer
      by None all = absurd all
      by (Some passed) all =
          subst (λ o. HasFact fact (result_of (later_call n (called_as o (scope.known name) (scope.depth + 1) passed memory))).answer) (sym is)
          (subst (λ x. HasFact fact (option_map scalar (builtin_value builtin x))) (sym all) (result (is_cast builtin) (builtin_value builtin numbers) told))

  nothing-known : Agrees [] scope memory
  nothing-known spot fact is = cc

  value-of : (fact : Fact) (o : Option CValue) → HasFact fact o → HasValue o
  value-of fact None h = h
  value-of fact (Some v) h = tt

  some-is : (o : Option Fact) → is_some o ≡ true → (fact : Fact) × (o ≡ Some fact)
  some-is None h = cc
  some-is (Some fact) h = (fact, refl)

  call-sound : (c : CCall) → OfCall c → Sound (record { total = is_some (call_is c []); fact = call_is c }) (λ s m. result_of (call_c c s m))
  call-sound c h = (
    λ total.
        let own = some-is (call_is c []) total in
        value-of own.0 (result_of (call_c c scope memory)).answer (h [] nothing-known own.0 own.1),
    h,
  )

  abbrev step_is : CStep → Option Text
  step_is = fold-CStep _ _ _ _ _ _ _ arg_told kind_told call_told expr_told index_told place_told step_told

  abbrev kind_is : CExprKind → Told
  kind_is = fold-CExprKind _ _ _ _ _ _ _ arg_told kind_told call_told expr_told index_told place_told step_told

  abbrev OfStep : CStep → Type 0
  OfStep s =
      (is_some (step_is s) ≡ true → HasValue (step_c s scope memory).answer)
      × ((m : Text) → step_is s ≡ Some m → (step_c s scope memory).answer ≡ Some (member m ∷ []))

  steps-steady : (steps : List CStep) → All OfStep steps → list_all (λ m. is_some m) (map step_is steps) ≡ true →
      HasValue (each_of (map step_c steps) scope memory).answer
  steps-steady [] h steady = tt
  steps-steady (s ∷ steps) h steady =
      value-next (step_c s scope memory) _ ((All-head OfStep s steps h).0 (and-left (is_some (step_is s)) (list_all (λ m. is_some m) (map step_is steps))
      steady))
      (λ ways. value-next (each_of (map step_c steps) scope memory) _
      (steps-steady steps (All-tail OfStep s steps h) (and-right (is_some (step_is s)) (list_all (λ m. is_some m) (map step_is steps)) steady)) (λ others. tt))

  abbrev OfPlace : CPlace → Type 0
  OfPlace p = Leads (place_is p) (location_c p)

  abbrev OfKind : CExprKind → Type 0
  OfKind k = Sound (kind_is k) (kind_c k)

  abbrev OfExpr : CExpr → Type 0
  OfExpr e = Sound (told e) (value_c e)

  -- where a place leads, by what its steps give
  abbrev led : Bool → Text → Counted (List (List Projection)) → Counted Location
  led through name ways = next ways (λ ways. given (Some (further (named_location scope through name) (way_of ways))))

  one-step : (through : Bool) (name : Text) (s : CStep) (m : Text) → (step_c s scope memory).answer ≡ Some (member m ∷ []) →
      (led through name (each_of (map step_c (s ∷ [])) scope memory)).answer
      ≡ Some (spot_location scope (record { through = through; name = name; first = Some m }))
  one-step through name s m is =
      ap
      (λ o. (led through name (next (record { count = (step_c s scope memory).count; answer = o })
      (λ a. next (each_of (map step_c []) scope memory) (λ others. given (Some (a ∷ others)))))).answer)
      is

  place-leads : (through : Bool) (name : Text) (steps : List CStep) → All OfStep steps →
      OfPlace (roll-CPlace (record { through = through; name = name; steps = steps }))
  place-leads through name steps h = (
    λ steady.
        let own : list_all (λ m. is_some m) (map step_is steps) ≡ true = rw fold-roll-CPlace at steady in
        rw fold-roll-CPlace (value-next (each_of (map step_c steps) scope memory) _ (steps-steady steps h own) (λ ways. tt)),
    λ spot is. rw fold-roll-CPlace (by steps spot h (rw fold-roll-CPlace at is)),
  )
    where
      told-step : (o : Option Text) (spot : CSpot) → spot_told through name (o ∷ []) ≡ Some spot →
          (m : Text) × ((o ≡ Some m) × (spot ≡ record { through = through; name = name; first = Some m }))
      told-step None spot is = cc
      told-step (Some m) spot is = (m, (refl, sym (some-of (record { through = through; name = name; first = Some m }) spot is)))

      two-steps : (o p : Option Text) (rest : List (Option Text)) (spot : CSpot) → spot_told through name (o ∷ p ∷ rest) ≡ Some spot → ⊥
      two-steps None None rest spot is = cc
      two-steps None (Some n) rest spot is = cc
      two-steps (Some m) None rest spot is = cc
      two-steps (Some m) (Some n) rest spot is = cc

      by : (steps : List CStep) (spot : CSpot) → All OfStep steps → spot_told through name (map step_is steps) ≡ Some spot →
          (led through name (each_of (map step_c steps) scope memory)).answer ≡ Some (spot_location scope spot)
      by [] spot h is = ap (λ s. Some (spot_location scope s)) (some-of (record { through = through; name = name; first = None }) spot is)
      by (s ∷ []) spot h is =
          let own = told-step (step_is s) spot is in
          one-step through name s own.0 ((All-head OfStep s [] h).1 own.0 own.1.0) ∙ ap (λ s. Some (spot_location scope s)) (sym own.1.1)
      by (s ∷ t ∷ steps) spot h is = absurd (two-steps (step_is s) (step_is t) (map step_is steps) spot is)

  abbrev Nothing : {A : Type 0} → A → Type 0
  Nothing a = Unit {0}

  step-steady : (name : Text) (i : Option CIndex) → OfStep (roll-CStep (record { member = name; index = i }))
  step-steady name None = (
    λ h. rw fold-roll-CStep tt,
    λ m is. let own : Some name ≡ Some m = rw fold-roll-CStep at is in rw fold-roll-CStep (ap (λ n. Some (member n ∷ [])) (some-of name m own)),
  )
  step-steady name (Some i) = (
    λ h. let no : false ≡ true = rw fold-roll-CStep at h in cc,
    λ m is. let no : None ≡ Some m = rw fold-roll-CStep at is in cc,
  )

  expr_cases : ExprCases OfArg OfKind OfCall OfExpr Nothing OfPlace OfStep
  expr_cases = record {
    value = λ e h known agrees n is.
        let own : option_and_then exact ((told e).fact known) ≡ Some n = rw fold-roll-CArg at is in
        let fact = exact-of ((told e).fact known) n own in
        rw fold-roll-CArg (passed-next (value_c e scope memory) fact.0 n (h.1 known agrees fact.0 fact.1.0) fact.1.1);
    address = λ p h known agrees n is. let no : None ≡ Some n = rw fold-roll-CArg at is in cc;
    literal = λ t n. rw (fold-roll-CExprKind, fold-roll-CExprKind)
        (λ total. tt, λ known agrees fact is. subst (λ f. Says f (scalar n)) (some-of (Is n) fact is) refl);
    read = λ p h. rw (fold-roll-CExprKind, fold-roll-CExprKind) (read-sound (place_is p) (location_c p) h);
    call = λ c h. rw (fold-roll-CExprKind, fold-roll-CExprKind) (call-sound c h);
    negation = λ e h. rw (fold-roll-CExprKind, fold-roll-CExprKind) (not-sound (told e) (value_c e) h);
    two = λ op a b h k. rw (fold-roll-CExprKind, fold-roll-CExprKind) (two-sound op (told a) (told b) (value_c a) (value_c b) h k);
    calling = λ name args h known agrees fact is.
        let own : result_told (builtin_of name) (all_numbers known (map arg_is args)) ≡ Some fact = rw fold-roll-CCall at is in
        rw fold-roll-CCall
        (called-told name (each_of (map arg_c args) scope memory).count (each_of (map arg_c args) scope memory).answer (builtin_of name)
        (all_numbers known (map arg_is args)) refl (args-told args h known agrees) fact own);
    expr = λ place what h. rw (fold-roll-CExpr, fold-roll-CExpr) h;
    index = λ signed at length h. tt;
    place = place-leads;
    step = λ name i h. step-steady name i;
  }

  pub expr-sound : (e : CExpr) → OfExpr e
  expr-sound = induct_expr OfArg OfKind OfCall OfExpr Nothing OfPlace OfStep expr_cases

  pub place-sound : (p : CPlace) → OfPlace p
  place-sound = induct_place OfArg OfKind OfCall OfExpr Nothing OfPlace OfStep expr_cases

pub told-holds : ToldHolds
told-holds scope memory e = expr-sound scope memory e

-- a number that is told of an expression
pub number-holds : (scope : Scope) (memory : Memory) (e : CExpr) (known : Valuation) → Agrees known scope memory → (n : ℤ) → number_told e known ≡ Some n →
    HasFact (Number n) (value_c e scope memory).answer
number-holds scope memory e known agrees n is =
    let own = exact-of ((told e).fact known) n is in
    by own.0 own.1.1 (value_c e scope memory).answer ((told-holds scope memory e).1 known agrees own.0 own.1.0)
  where
    by : (fact : Fact) → exact fact ≡ Some n → (o : Option CValue) → HasFact fact o → HasFact (Number n) o
    by fact e None h = h
    by fact e (Some v) h = exact-says fact n v e h

-- ---- decided conditions

-- a number that decides
number-decides : (b : Bool) (o : Option ℤ) (n : ℤ) → o ≡ Some n → number_is b o ≡ true → is_one n ≡ b
number-decides true o n is h = sym (ap (number_is true) is) ∙ h
number-decides false o n is h = by (is_one n) (sym (ap (number_is false) is) ∙ h)
  where
    by : (c : Bool) → not c ≡ true → c ≡ false
    by true h = cc
    by false h = refl

number-there : (b : Bool) (o : Option ℤ) → number_is b o ≡ true → (n : ℤ) × (o ≡ Some n)
number-there b None h = cc
number-there b (Some n) h = (n, refl)

-- the truth that a condition gives
abbrev pub HasTruth : Bool → Option CValue → Type 0
HasTruth b None = ⊥
HasTruth b (Some v) = is_one (scalar_number v) ≡ b

pub truth-of : (b : Bool) (n : ℤ) (o : Option CValue) → is_one n ≡ b → HasFact (Number n) o → HasTruth b o
truth-of b n None is h = h
truth-of b n (Some v) is h = ap is_one h ∙ is

pub truth : (scope : Scope) (memory : Memory) (condition : CExpr) (b : Bool) (facts : List Valuation) → Holds facts scope memory →
    all_decide facts condition b ≡ true → HasTruth b (value_c condition scope memory).answer
truth scope memory condition b [] h all = absurd h
truth scope memory condition b (known ∷ rest) (inl agrees) all =
    let own : number_is b (number_told condition known) ≡ true = and-left (number_is b (number_told condition known)) (all_decide rest condition b) all in
    let there : (n : ℤ) × (number_told condition known ≡ Some n) = number-there b (number_told condition known) own in
    truth-of b there.0 (value_c condition scope memory).answer (number-decides b (number_told condition known) there.0 there.1 own)
    (number-holds scope memory condition known agrees there.0 there.1)
truth scope memory condition b (known ∷ rest) (inr holds) all =
    truth scope memory condition b rest holds (and-right (number_is b (number_told condition known)) (all_decide rest condition b) all)

pub ended-by-truth : (scope : Scope) (memory : Memory) (b : Bool) (n : ℕ) (o : Option CValue) (f g : CStmtMeaning) → HasTruth b o →
    observed (ended_by memory n o (λ v. (if is_one (scalar_number v) then f else g) scope memory)) ≡ observed ((if b then f else g) scope memory)
ended-by-truth scope memory b n None f g h = absurd h
ended-by-truth scope memory b n (Some v) f g h = ap (λ c. observed ((if c then f else g) scope memory)) h

pub decided : Decided
decided scope memory facts holds at condition block other = (
  λ all. ap observed (if-is at condition block other scope memory)
      ∙ ended-by-truth scope memory true (1 + (value_c condition scope memory).count) (value_c condition scope memory).answer (block_c block)
      (block_c (branch other)) (truth scope memory condition true facts holds all),
  λ all. ap observed (if-is at condition block other scope memory)
      ∙ ended-by-truth scope memory false (1 + (value_c condition scope memory).count) (value_c condition scope memory).answer (block_c block)
      (block_c (branch other)) (truth scope memory condition false facts holds all),
)

-- ---- filters

-- a number of which a value has the truth doesn't give the other
not-other : (o : Option ℤ) (v : CValue) → ((n : ℤ) → o ≡ Some n → scalar_number v ≡ n) → number_is (not (is_one (scalar_number v))) o ≡ false
not-other None v h = refl
not-other (Some n) v h =
    ap (λ z. number_is (not (is_one z)) (Some n)) (h n refl) ∙ by (is_one n) refl
  where
    by : (c : Bool) → is_one n ≡ c → number_is (not c) (Some n) ≡ false
    by true e = ap not e
    by false e = e

pub filters : Filters
filters scope memory [] h condition value is = absurd h
filters scope memory (known ∷ rest) (inl agrees) condition value is =
    by (number_is (not (is_one (scalar_number value))) (number_told condition known))
    (not-other (number_told condition known) value
    (λ n number. subst (HasFact (Number n)) is (number-holds scope memory condition known agrees n number)))
  where
    by : (c : Bool) → c ≡ false →
        Holds (if c then filtered rest condition (is_one (scalar_number value)) else known ∷ filtered rest condition (is_one (scalar_number value))) scope
        memory
    by true e = cc
    by false e = inl agrees
filters scope memory (known ∷ rest) (inr holds) condition value is =
    by (number_is (not (is_one (scalar_number value))) (number_told condition known)) (filters scope memory rest holds condition value is)
  where
    by : (c : Bool) → Holds (filtered rest condition (is_one (scalar_number value))) scope memory →
        Holds (if c then filtered rest condition (is_one (scalar_number value)) else known ∷ filtered rest condition (is_one (scalar_number value))) scope
        memory
    by true h = h
    by false h = inr h
