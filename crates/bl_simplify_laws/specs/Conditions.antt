-- Conditions that may stand for one another where something is known of spots.
use Rattle.std.specs.Prelude.{◌≡◌, ℤ, Bool, true, false, List, ◌∷◌, Option, Some, None}
use Rattle.std.specs.List.{list_all}
use Rattle.bl_tree.specs.Numbers.{is_one}
use Rattle.bl_tree.specs.declared.place.Place.{Place}
use Rattle.bl_tree.specs.declared.c.CExpr.{CExpr}
use Rattle.bl_tree.specs.declared.c.CStmt.{CStmt}
use Rattle.bl_ctext_semantics.specs.Meaning.{Scope, value_c}
use Rattle.bl_ctext_semantics.specs.Memory.{CValue, Memory, scalar_number}
use Rattle.bl_simplify_laws.specs.Joins.{and_expr, not_expr, or_expr}
use Rattle.bl_simplify_laws.specs.Known.{Holds, all_decide, filtered, number_told}
use Rattle.bl_simplify_laws.specs.Rules.{AlikeWhere, Facts, StmtsAlikeWhere}
use Rattle.bl_simplify_laws.specs.Splits.{if_stmt}
use Rattle.bl_simplify_laws.specs.Spots.{same_truth}

-- two evaluations both trap, or give values of one truth
abbrev pub OneTruth : Option CValue → Option CValue → Type 0
OneTruth None None = Unit {0}
OneTruth (Some v) (Some w) = is_one (scalar_number v) ≡ is_one (scalar_number w)
OneTruth None (Some w) = ⊥
OneTruth (Some v) None = ⊥

-- two conditions have one truth where these facts hold
pub record TestsAlike (facts : Facts) (one other : CExpr) : Type 0 where
  pub same : (scope : Scope) (memory : Memory) → Holds facts scope memory → OneTruth (value_c one scope memory).answer (value_c other scope memory).answer

-- ---- rules

-- each condition has one truth with itself
abbrev pub TestItself : Type 0
TestItself = (facts : Facts) (e : CExpr) → TestsAlike facts e e

-- what has one truth with a condition that has one truth with another has it with that too
abbrev pub TestChain : Type 0
TestChain = (facts : Facts) (one middle other : CExpr) → TestsAlike facts one middle → TestsAlike facts middle other → TestsAlike facts one other

-- whether two numbers are known and have one truth
abbrev pub same_truths : Option ℤ → Option ℤ → Bool
same_truths (Some a) (Some b) = same_truth (is_one a) (is_one b)
same_truths (Some a) None = false
same_truths None n = false

-- whether each of the valuations tells two conditions, and gives them one truth
abbrev pub same_tests : Facts → CExpr → CExpr → Bool
same_tests facts one other = list_all (λ known. same_truths (number_told one known) (number_told other known)) facts

-- conditions to which each of the valuations gives one truth
abbrev pub TestSame : Type 0
TestSame = (facts : Facts) (one other : CExpr) → same_tests facts one other ≡ true → TestsAlike facts one other

-- the other side of `||` where one is false
abbrev pub TestOrSide : Type 0
TestOrSide =
    (facts : Facts) (at : Place) (a b : CExpr) →
    (all_decide facts a false ≡ true → TestsAlike facts (or_expr at a b) b) × (all_decide facts b false ≡ true → TestsAlike facts (or_expr at a b) a)

-- the other side of `&&` where one is true
abbrev pub TestAndSide : Type 0
TestAndSide =
    (facts : Facts) (at : Place) (a b : CExpr) →
    (all_decide facts a true ≡ true → TestsAlike facts (and_expr at a b) b) × (all_decide facts b true ≡ true → TestsAlike facts (and_expr at a b) a)

-- sides of `||` that have one truth, the right where the left is false
abbrev pub TestOr : Type 0
TestOr =
    (facts : Facts) (at to : Place) (a b c d : CExpr) → TestsAlike facts a c → TestsAlike (filtered facts a false) b d →
    TestsAlike facts (or_expr at a b) (or_expr to c d)

-- sides of `&&` that have one truth, the right where the left is true
abbrev pub TestAnd : Type 0
TestAnd =
    (facts : Facts) (at to : Place) (a b c d : CExpr) → TestsAlike facts a c → TestsAlike (filtered facts a true) b d →
    TestsAlike facts (and_expr at a b) (and_expr to c d)

-- negations of conditions that have one truth
abbrev pub TestNot : Type 0
TestNot = (facts : Facts) (at to : Place) (a b : CExpr) → TestsAlike facts a b → TestsAlike facts (not_expr at a) (not_expr to b)

-- an `if` on a condition that has one truth with its own
abbrev pub RuleTest : Type 0
RuleTest =
    (facts : Facts) (at to : Place) (one other : CExpr) (block : List CStmt) (more : Option (List CStmt)) → TestsAlike facts one other →
    StmtsAlikeWhere facts (if_stmt at one block more) (if_stmt to other block more)
    × ((rest new : List CStmt) → AlikeWhere facts (if_stmt to other block more ∷ rest) new → AlikeWhere facts (if_stmt at one block more ∷ rest) new)
