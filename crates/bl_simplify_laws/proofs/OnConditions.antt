-- Conditions that may stand for one another.
use Rattle.std.proofs.Common.{◌≡◌, ℕ, ◌+◌, ℤ, pos, Bool, true, false, not, inl, inr, List, [], ◌∷◌, Option, Some, None, refl, ap, sym, subst, ◌∙◌}
use Rattle.std.specs.Prelude.{if◌then◌else◌, option_map}
use Rattle.bl_tree.specs.Numbers.{checked_one_of, is_one, number_of}
use Rattle.bl_tree.specs.declared.place.Place.{Place}
use Rattle.bl_tree.specs.declared.scalar.Scalar.TheVariants.{Bool as OfBool}
use Rattle.bl_tree.specs.declared.scalar.Op.TheVariants.{And, Not, Or}
use Rattle.bl_tree.specs.declared.c.CExpr.{CExpr}
use Rattle.bl_tree.specs.declared.c.CStmt.{CStmt}
use Rattle.bl_ctext_semantics.specs.Course.{ended_by}
use Rattle.bl_ctext_semantics.specs.Meaning.{CStmtMeaning, Counted, Evaluates, Scope, at_once, block_c, given, next, runs_c, two_values, value_c}
use Rattle.bl_ctext_semantics.specs.Memory.{CValue, Memory, scalar, scalar_number}
use Rattle.bl_simplify_laws.specs.Conditions.{OneTruth, RuleTest, TestAnd, TestAndSide, TestChain, TestItself, TestNot, TestOr, TestOrSide, TestSame}
use Rattle.bl_simplify_laws.specs.Conditions.{TestsAlike, same_tests, same_truths}
use Rattle.bl_simplify_laws.specs.Joins.{and_expr, not_expr, or_expr}
use Rattle.bl_simplify_laws.specs.Known.{Holds, filtered, number_told}
use Rattle.bl_simplify_laws.specs.Observed.{observed}
use Rattle.bl_simplify_laws.specs.Rules.{Facts, StmtsAlikeWhere}
use Rattle.bl_simplify_laws.specs.Splits.{branch, if_stmt}
use Rattle.bl_simplify_laws.specs.Spots.{same_truth}
use Rattle.bl_simplify_laws.proofs.OnJoins.{and-is, not-is, or-is}
use Rattle.bl_simplify_laws.proofs.OnKnown.{HasTruth, filters, number-holds, truth, truth-of}
use Rattle.bl_simplify_laws.proofs.OnOutcomes.{following-same}
use Rattle.bl_simplify_laws.proofs.OnSplits.{if-is}
use Rattle.bl_simplify_laws.proofs.OnSpots.{and-left, and-right}

-- ---- answers of one truth

truth-itself : (o : Option CValue) → OneTruth o o
truth-itself None = tt
truth-itself (Some v) = refl

truth-chain : (o p q : Option CValue) → OneTruth o p → OneTruth p q → OneTruth o q
truth-chain None None None h k = tt
truth-chain (Some u) (Some v) (Some w) h k = h ∙ k
truth-chain None None (Some w) h k = k
truth-chain (Some u) (Some v) None h k = k
truth-chain None (Some v) q h k = absurd h
truth-chain (Some u) None q h k = absurd h

-- two answers of the same truth
both-truth : (b c : Bool) (o p : Option CValue) → HasTruth b o → HasTruth c p → b ≡ c → OneTruth o p
both-truth b c (Some v) (Some w) h k same = h ∙ same ∙ sym k
both-truth b c None p h k same = absurd h
both-truth b c (Some v) None h k same = absurd k

pub test-itself : TestItself
test-itself facts e = record { same = λ scope memory holds. truth-itself (value_c e scope memory).answer }

pub test-chain : TestChain
test-chain facts one middle other first second = record {
  same = λ scope memory holds.
      truth-chain (value_c one scope memory).answer (value_c middle scope memory).answer (value_c other scope memory).answer
      (first.same scope memory holds) (second.same scope memory holds);
}

-- ---- conditions that are told

truths-there : (o p : Option ℤ) → same_truths o p ≡ true → (a : ℤ) × ((b : ℤ) × ((o ≡ Some a) × ((p ≡ Some b) × (is_one a ≡ is_one b))))
truths-there (Some a) (Some b) h = (a, (b, (refl, (refl, truth-same (is_one a) (is_one b) h))))
  where
    truth-same : (s t : Bool) → same_truth s t ≡ true → s ≡ t
    truth-same true true h = refl
    truth-same false false h = refl
    truth-same true false h = cc
    truth-same false true h = cc
truths-there (Some a) None h = cc
truths-there None p h = cc

told-same : (facts : Facts) (scope : Scope) (memory : Memory) (one other : CExpr) → Holds facts scope memory → same_tests facts one other ≡ true →
    OneTruth (value_c one scope memory).answer (value_c other scope memory).answer
told-same [] scope memory one other h all = absurd h
told-same (known ∷ rest) scope memory one other (inr h) all =
    told-same rest scope memory one other h (and-right (same_truths (number_told one known) (number_told other known)) (same_tests rest one other) all)
told-same (known ∷ rest) scope memory one other (inl agrees) all =
    let own = truths-there (number_told one known) (number_told other known)
    (and-left (same_truths (number_told one known) (number_told other known)) (same_tests rest one other) all) in
    both-truth (is_one own.0) (is_one own.1.0) (value_c one scope memory).answer (value_c other scope memory).answer
    (truth-of (is_one own.0) own.0 (value_c one scope memory).answer refl (number-holds scope memory one known agrees own.0 own.1.1.0))
    (truth-of (is_one own.1.0) own.1.0 (value_c other scope memory).answer refl (number-holds scope memory other known agrees own.1.0 own.1.1.1.0))
    own.1.1.1.1

pub test-same : TestSame
test-same facts one other all = record { same = λ scope memory holds. told-same facts scope memory one other holds all }

-- ---- operators

module _ (scope : Scope) (memory : Memory) where
  -- the answer of `&&`, by that of its left side
  abbrev and_after : Option CValue → ℕ → Evaluates CValue → Option CValue
  and_after o n right = (next (record { count = n; answer = o }) (λ a. (if is_one (scalar_number a) then right else at_once (pos 0)) scope memory)).answer

  abbrev or_after : Option CValue → ℕ → Evaluates CValue → Option CValue
  or_after o n right = (next (record { count = n; answer = o }) (λ a. (if is_one (scalar_number a) then at_once (pos 1) else right) scope memory)).answer

  and-left-true : (o : Option CValue) (n : ℕ) (right : Evaluates CValue) → HasTruth true o → OneTruth (and_after o n right) (right scope memory).answer
  and-left-true None n right h = absurd h
  and-left-true (Some v) n right h =
      subst (λ b. OneTruth ((if b then right else at_once (pos 0)) scope memory).answer (right scope memory).answer) (sym h)
      (truth-itself (right scope memory).answer)

  or-left-false : (o : Option CValue) (n : ℕ) (right : Evaluates CValue) → HasTruth false o → OneTruth (or_after o n right) (right scope memory).answer
  or-left-false None n right h = absurd h
  or-left-false (Some v) n right h =
      subst (λ b. OneTruth ((if b then at_once (pos 1) else right) scope memory).answer (right scope memory).answer) (sym h)
      (truth-itself (right scope memory).answer)

  and-right-true : (o : Option CValue) (n : ℕ) (right : Evaluates CValue) → HasTruth true (right scope memory).answer → OneTruth (and_after o n right) o
  and-right-true None n right h = tt
  and-right-true (Some v) n right h = by (is_one (scalar_number v)) refl
    where
      truly : (o : Option CValue) → HasTruth true o → (b : Bool) → is_one (scalar_number v) ≡ b → b ≡ true → OneTruth o (Some v)
      truly None h b e t = absurd h
      truly (Some w) h b e t = h ∙ sym (e ∙ t)

      by : (b : Bool) → is_one (scalar_number v) ≡ b → OneTruth ((if b then right else at_once (pos 0)) scope memory).answer (Some v)
      by true e = truly (right scope memory).answer h true e refl
      by false e = sym e

  or-right-false : (o : Option CValue) (n : ℕ) (right : Evaluates CValue) → HasTruth false (right scope memory).answer → OneTruth (or_after o n right) o
  or-right-false None n right h = tt
  or-right-false (Some v) n right h = by (is_one (scalar_number v)) refl
    where
      falsely : (o : Option CValue) → HasTruth false o → (b : Bool) → is_one (scalar_number v) ≡ b → b ≡ false → OneTruth o (Some v)
      falsely None h b e t = absurd h
      falsely (Some w) h b e t = h ∙ sym (e ∙ t)

      by : (b : Bool) → is_one (scalar_number v) ≡ b → OneTruth ((if b then at_once (pos 1) else right) scope memory).answer (Some v)
      by true e = sym e
      by false e = falsely (right scope memory).answer h false e refl

  and-both : (o p : Option CValue) (j k : ℕ) (f g : Evaluates CValue) → OneTruth o p →
      ((v : CValue) → o ≡ Some v → is_one (scalar_number v) ≡ true → OneTruth (f scope memory).answer (g scope memory).answer) →
      OneTruth (and_after o j f) (and_after p k g)
  and-both None None j k f g h i = tt
  and-both None (Some w) j k f g h i = absurd h
  and-both (Some v) None j k f g h i = absurd h
  and-both (Some v) (Some w) j k f g h i =
      subst
      (λ c. OneTruth ((if is_one (scalar_number v) then f else at_once (pos 0)) scope memory).answer ((if c then g else at_once (pos 0)) scope memory).answer) h
      (by (is_one (scalar_number v)) refl)
    where
      by : (b : Bool) → is_one (scalar_number v) ≡ b →
          OneTruth ((if b then f else at_once (pos 0)) scope memory).answer ((if b then g else at_once (pos 0)) scope memory).answer
      by true e = i v refl e
      by false e = refl

  or-both : (o p : Option CValue) (j k : ℕ) (f g : Evaluates CValue) → OneTruth o p →
      ((v : CValue) → o ≡ Some v → is_one (scalar_number v) ≡ false → OneTruth (f scope memory).answer (g scope memory).answer) →
      OneTruth (or_after o j f) (or_after p k g)
  or-both None None j k f g h i = tt
  or-both None (Some w) j k f g h i = absurd h
  or-both (Some v) None j k f g h i = absurd h
  or-both (Some v) (Some w) j k f g h i =
      subst
      (λ c. OneTruth ((if is_one (scalar_number v) then at_once (pos 1) else f) scope memory).answer ((if c then at_once (pos 1) else g) scope memory).answer) h
      (by (is_one (scalar_number v)) refl)
    where
      by : (b : Bool) → is_one (scalar_number v) ≡ b →
          OneTruth ((if b then at_once (pos 1) else f) scope memory).answer ((if b then at_once (pos 1) else g) scope memory).answer
      by true e = refl
      by false e = i v refl e

  negated-both : (c d : Counted CValue) → OneTruth c.answer d.answer →
      OneTruth (next c (λ v. given (option_map scalar (checked_one_of Not OfBool (scalar_number v))))).answer
      (next d (λ v. given (option_map scalar (checked_one_of Not OfBool (scalar_number v))))).answer
  negated-both c d h = by c.answer d.answer h
    where
      by : (o p : Option CValue) → OneTruth o p →
          OneTruth (next (record { count = c.count; answer = o }) (λ v. given (option_map scalar (checked_one_of Not OfBool (scalar_number v))))).answer
          (next (record { count = d.count; answer = p }) (λ v. given (option_map scalar (checked_one_of Not OfBool (scalar_number v))))).answer
      by None None h = tt
      by None (Some w) h = absurd h
      by (Some v) None h = absurd h
      by (Some v) (Some w) h = ap (λ b. is_one (number_of (not b))) h

-- answers as they are
moved : (c d : Counted CValue) (q : Option CValue) → c ≡ d → OneTruth d.answer q → OneTruth c.answer q
moved c d q is h = subst (λ (x : Counted CValue). OneTruth x.answer q) (sym is) h

moved-both : (c d e f : Counted CValue) → c ≡ d → e ≡ f → OneTruth d.answer f.answer → OneTruth c.answer e.answer
moved-both c d e f is are h = moved c d e.answer is (subst (λ (x : Counted CValue). OneTruth d.answer x.answer) (sym are) h)

pub test-or-side : TestOrSide
test-or-side facts at a b = (
  λ all. record {
    same = λ scope memory holds.
        moved (value_c (or_expr at a b) scope memory) (two_values Or (value_c a) (value_c b) scope memory) (value_c b scope memory).answer
        (or-is at a b scope memory)
        (or-left-false scope memory (value_c a scope memory).answer (value_c a scope memory).count (value_c b) (truth scope memory a false facts holds all));
  },
  λ all. record {
    same = λ scope memory holds.
        moved (value_c (or_expr at a b) scope memory) (two_values Or (value_c a) (value_c b) scope memory) (value_c a scope memory).answer
        (or-is at a b scope memory)
        (or-right-false scope memory (value_c a scope memory).answer (value_c a scope memory).count (value_c b) (truth scope memory b false facts holds all));
  },
)

pub test-and-side : TestAndSide
test-and-side facts at a b = (
  λ all. record {
    same = λ scope memory holds.
        moved (value_c (and_expr at a b) scope memory) (two_values And (value_c a) (value_c b) scope memory) (value_c b scope memory).answer
        (and-is at a b scope memory)
        (and-left-true scope memory (value_c a scope memory).answer (value_c a scope memory).count (value_c b) (truth scope memory a true facts holds all));
  },
  λ all. record {
    same = λ scope memory holds.
        moved (value_c (and_expr at a b) scope memory) (two_values And (value_c a) (value_c b) scope memory) (value_c a scope memory).answer
        (and-is at a b scope memory)
        (and-right-true scope memory (value_c a scope memory).answer (value_c a scope memory).count (value_c b) (truth scope memory b true facts holds all));
  },
)

pub test-or : TestOr
test-or facts at to a b c d first second = record {
  same = λ scope memory holds.
      moved-both (value_c (or_expr at a b) scope memory) (two_values Or (value_c a) (value_c b) scope memory) (value_c (or_expr to c d) scope memory)
      (two_values Or (value_c c) (value_c d) scope memory) (or-is at a b scope memory) (or-is to c d scope memory)
      (or-both scope memory (value_c a scope memory).answer (value_c c scope memory).answer (value_c a scope memory).count (value_c c scope memory).count
      (value_c b) (value_c d) (first.same scope memory holds)
      (λ v is zero. second.same scope memory
      (subst (λ t. Holds (filtered facts a t) scope memory) zero (filters scope memory facts holds a v is))));
}

pub test-and : TestAnd
test-and facts at to a b c d first second = record {
  same = λ scope memory holds.
      moved-both (value_c (and_expr at a b) scope memory) (two_values And (value_c a) (value_c b) scope memory) (value_c (and_expr to c d) scope memory)
      (two_values And (value_c c) (value_c d) scope memory) (and-is at a b scope memory) (and-is to c d scope memory)
      (and-both scope memory (value_c a scope memory).answer (value_c c scope memory).answer (value_c a scope memory).count (value_c c scope memory).count
      (value_c b) (value_c d) (first.same scope memory holds)
      (λ v is one. second.same scope memory
      (subst (λ t. Holds (filtered facts a t) scope memory) one (filters scope memory facts holds a v is))));
}

pub test-not : TestNot
test-not facts at to a b first = record {
  same = λ scope memory holds.
      moved-both (value_c (not_expr at a) scope memory) _ (value_c (not_expr to b) scope memory) _ (not-is at a scope memory) (not-is to b scope memory)
      (negated-both scope memory (value_c a scope memory) (value_c b scope memory) (first.same scope memory holds));
}

-- ---- `if`s

-- what is chosen by two values of one truth
same-chosen : (scope : Scope) (memory : Memory) (j k : ℕ) (o p : Option CValue) (f g : CStmtMeaning) → OneTruth o p →
    observed (ended_by memory j o (λ v. (if is_one (scalar_number v) then f else g) scope memory))
    ≡ observed (ended_by memory k p (λ v. (if is_one (scalar_number v) then f else g) scope memory))
same-chosen scope memory j k None None f g h = refl
same-chosen scope memory j k (Some v) (Some w) f g h = ap (λ b. observed ((if b then f else g) scope memory)) h
same-chosen scope memory j k None (Some w) f g h = absurd h
same-chosen scope memory j k (Some v) None f g h = absurd h

test-stmts : (facts : Facts) (at to : Place) (one other : CExpr) (block : List CStmt) (more : Option (List CStmt)) → TestsAlike facts one other →
    StmtsAlikeWhere facts (if_stmt at one block more) (if_stmt to other block more)
test-stmts facts at to one other block more tests = record {
  same = λ scope running memory holds.
      ap observed (if-is at one block more scope memory)
      ∙ same-chosen scope memory (1 + (value_c one scope memory).count) (1 + (value_c other scope memory).count) (value_c one scope memory).answer
      (value_c other scope memory).answer (block_c block) (block_c (branch more)) (tests.same scope memory holds)
      ∙ sym (ap observed (if-is to other block more scope memory));
}

pub rule-test : RuleTest
rule-test facts at to one other block more tests = (
  test-stmts facts at to one other block more tests,
  λ rest new same. record {
    same = λ scope running memory holds.
        following-same (runs_c (if_stmt at one block more) scope memory) (runs_c (if_stmt to other block more) scope memory) (block_c rest scope)
        (block_c rest scope) ((test-stmts facts at to one other block more tests).same scope running memory holds) (λ m. refl)
        ∙ same.same scope running memory holds;
  },
)
