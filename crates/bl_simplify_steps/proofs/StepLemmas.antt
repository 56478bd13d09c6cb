-- What is known after statements, by the rules for steps.
use Rattle.std.proofs.Common.{◌≡◌, true, false, List, ◌++◌, map, Option, Result, sym, subst}
use Rattle.std.proofs.lemmas.Result.{IfOk-weaker}
use Rattle.std.specs.Prelude.{IfOk}
use Rattle.bl_tree.specs.declared.place.Place.{Place}
use Rattle.bl_tree.specs.declared.c.CCall.{CCall}
use Rattle.bl_tree.specs.declared.c.CExpr.{CExpr}
use Rattle.bl_tree.specs.declared.c.CPlace.{CPlace}
use Rattle.bl_tree.specs.declared.c.CStmt.{CStmt}
use Rattle.bl_simplify_laws.specs.Known.{filtered}
use Rattle.bl_simplify_laws.specs.Rules.{After, AfterBlock, Facts, RuleAfterIf, RuleAfterWeaker, RuleCall, RuleSet, call_stmt}
use Rattle.bl_simplify_laws.specs.Splits.{branch, if_stmt}
use Rattle.bl_simplify_laws.specs.Spots.{lent_in}
use Rattle.bl_simplify_laws.specs.Steps.{after_set, set_stmt, without_spots}
use Rattle.bl_simplify_laws.specs.Written.{RuleAfterAny, written_by}
use Rattle.bl_simplify_facts.specs.declared.entries.Entry.{Entry}
use Rattle.bl_simplify_facts.specs.Entries.{facts_of}
use Rattle.bl_simplify_steps.specs.inner.Looser.{Looser}

module _ {E : Type 0} (r : Result (List (List Entry)) E) (facts : Facts) (s : CStmt) where
  -- what is known after a statement that is the same
  of-same : (same : CStmt) (exits : Facts) → s ≡ same → After facts same exits → IfOk r (λ left. facts_of left ≡ exits) →
      IfOk r (λ left. After facts s (facts_of left))
  of-same same exits is after = IfOk-weaker r _ _ (λ left made. subst (After facts s) (sym made) (subst (λ x. After facts x exits) (sym is) after))

  pub of-set : RuleSet → (at : Place) (place : CPlace) (e : CExpr) → s ≡ set_stmt at place e →
      IfOk r (λ left. facts_of left ≡ map (after_set place e) facts) → IfOk r (λ left. After facts s (facts_of left))
  of-set rule at place e is = of-same (set_stmt at place e) (map (after_set place e) facts) is (rule facts at place e)

  pub of-call : RuleCall → (at : Place) (call : CCall) → s ≡ call_stmt at call →
      IfOk r (λ left. facts_of left ≡ map (without_spots (lent_in call)) facts) → IfOk r (λ left. After facts s (facts_of left))
  of-call rule at call is = of-same (call_stmt at call) (map (without_spots (lent_in call)) facts) is (rule facts at call)

  pub of-any : RuleAfterAny → IfOk r (λ left. facts_of left ≡ map (without_spots (written_by s)) facts) →
      IfOk r (λ left. After facts s (facts_of left))
  of-any rule = IfOk-weaker r _ _ (λ left made. subst (After facts s) (sym made) (rule facts s))

-- after an `if` what is known after either branch, or less
pub of-if : RuleAfterIf → RuleAfterWeaker → (facts : Facts) (s : CStmt) (at : Place) (condition : CExpr) (block : List CStmt)
    (other : Option (List CStmt)) (taken exits left others all : Facts) → s ≡ if_stmt at condition block other →
    taken ≡ filtered facts condition true → AfterBlock taken block exits → left ≡ filtered facts condition false →
    AfterBlock left (branch other) others → Looser (exits ++ others) all → After facts s all
of-if rule weaker facts s at condition block other taken exits left others all is one after two after_other looser =
    subst (λ x. After facts x all) (sym is)
    (weaker.0 facts (exits ++ others) all (if_stmt at condition block other) looser.holds
    (rule facts exits others at condition block other (subst (λ f. AfterBlock f block exits) one after)
    (subst (λ f. AfterBlock f (branch other) others) two after_other)))
