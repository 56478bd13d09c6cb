-- Conditions in place of others, by the rules for conditions.
use Rattle.std.proofs.Common.{◌≡◌, true, false, Result, sym, subst}
use Rattle.std.proofs.lemmas.Result.{IfOk-weaker}
use Rattle.std.specs.Prelude.{IfOk}
use Rattle.bl_tree.specs.declared.place.Place.{Place}
use Rattle.bl_tree.specs.declared.c.CExpr.{CExpr}
use Rattle.bl_simplify_laws.specs.Conditions.{TestAnd, TestAndSide, TestChain, TestNot, TestOr, TestOrSide, TestsAlike}
use Rattle.bl_simplify_laws.specs.Joins.{and_expr, not_expr, or_expr}
use Rattle.bl_simplify_laws.specs.Known.{all_decide, filtered}
use Rattle.bl_simplify_laws.specs.Rules.{Facts}

module _ {E : Type 0} (facts : Facts) (e : CExpr) (at : Place) (a b : CExpr) where
  -- what has one truth with another condition has it with this one
  pub by-middle : TestChain → (middle : CExpr) → TestsAlike facts e middle → (r : Result CExpr E) → IfOk r (λ test. TestsAlike facts middle test) →
      IfOk r (λ test. TestsAlike facts e test)
  by-middle chain middle same r = IfOk-weaker r _ _ (λ test then_same. chain facts e middle test same then_same)

  pub right-of-and : TestChain → TestAndSide → e ≡ and_expr at a b → all_decide facts a true ≡ true → (r : Result CExpr E) →
      IfOk r (λ test. TestsAlike facts b test) → IfOk r (λ test. TestsAlike facts e test)
  right-of-and chain side is decided = by-middle chain b (subst (λ x. TestsAlike facts x b) (sym is) ((side facts at a b).0 decided))

  pub left-of-and : TestChain → TestAndSide → e ≡ and_expr at a b → all_decide facts b true ≡ true → (r : Result CExpr E) →
      IfOk r (λ test. TestsAlike facts a test) → IfOk r (λ test. TestsAlike facts e test)
  left-of-and chain side is decided = by-middle chain a (subst (λ x. TestsAlike facts x a) (sym is) ((side facts at a b).1 decided))

  pub right-of-or : TestChain → TestOrSide → e ≡ or_expr at a b → all_decide facts a false ≡ true → (r : Result CExpr E) →
      IfOk r (λ test. TestsAlike facts b test) → IfOk r (λ test. TestsAlike facts e test)
  right-of-or chain side is decided = by-middle chain b (subst (λ x. TestsAlike facts x b) (sym is) ((side facts at a b).0 decided))

  pub left-of-or : TestChain → TestOrSide → e ≡ or_expr at a b → all_decide facts b false ≡ true → (r : Result CExpr E) →
      IfOk r (λ test. TestsAlike facts a test) → IfOk r (λ test. TestsAlike facts e test)
  left-of-or chain side is decided = by-middle chain a (subst (λ x. TestsAlike facts x a) (sym is) ((side facts at a b).1 decided))

  -- new sides of `&&` and `||`, and a new operand of `!`
  pub of-and : TestAnd → e ≡ and_expr at a b → (first second : CExpr) (held : Facts) → TestsAlike facts a first → held ≡ filtered facts a true →
      TestsAlike held b second → (r : Result CExpr E) → IfOk r (λ test. test ≡ and_expr at first second) → IfOk r (λ test. TestsAlike facts e test)
  of-and rule is first second held one same other r = IfOk-weaker r _ _
      (λ test made. subst (λ x. TestsAlike facts x test) (sym is) (subst (TestsAlike facts (and_expr at a b)) (sym made)
      (rule facts at at a b first second one (subst (λ f. TestsAlike f b second) same other))))

  pub of-or : TestOr → e ≡ or_expr at a b → (first second : CExpr) (held : Facts) → TestsAlike facts a first → held ≡ filtered facts a false →
      TestsAlike held b second → (r : Result CExpr E) → IfOk r (λ test. test ≡ or_expr at first second) → IfOk r (λ test. TestsAlike facts e test)
  of-or rule is first second held one same other r = IfOk-weaker r _ _
      (λ test made. subst (λ x. TestsAlike facts x test) (sym is) (subst (TestsAlike facts (or_expr at a b)) (sym made)
      (rule facts at at a b first second one (subst (λ f. TestsAlike f b second) same other))))

  pub of-not : TestNot → e ≡ not_expr at a → (first : CExpr) → TestsAlike facts a first → (r : Result CExpr E) →
      IfOk r (λ test. test ≡ not_expr at first) → IfOk r (λ test. TestsAlike facts e test)
  of-not rule is first one r = IfOk-weaker r _ _
      (λ test made. subst (λ x. TestsAlike facts x test) (sym is) (subst (TestsAlike facts (not_expr at a)) (sym made) (rule facts at at a first one)))
