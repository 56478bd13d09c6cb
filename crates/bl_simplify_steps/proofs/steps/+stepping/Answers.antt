use Rattle.std.proofs.Common.{◌≡◌, None, Some, rules}
use Rattle.bl_tree.specs.declared.c.CStmt.{out-CStmt}
use Rattle.bl_tree.specs.declared.c.CStmtKind.{the_lemmas}
use Rattle.bl_simplify_laws.specs.Rules.{call_stmt}
use Rattle.bl_simplify_laws.specs.Splits.{if_stmt}
use Rattle.bl_simplify_laws.specs.Steps.{set_stmt}
use Rattle.bl_simplify_facts.specs.Entries.{facts_of}
use Rattle.bl_simplify_steps.proofs.StepLemmas.{of-any, of-call, of-if, of-set}
use Rattle.bl_simplify_steps.proofs.steps.+stepping.Goals as goal

pub cases_after-returns-in-Set : goal.cases_after-returns-in-Set
cases_after-returns-in-Set t c =
    let at = (out-CStmt c.args.stmt.now).place in
    let is : c.args.stmt.now ≡ set_stmt at c.in-Set.at c.in-Set.value = search (rules, the_lemmas) in
    of-set c.after_set.result (facts_of c.args.cases.now) c.args.stmt.now c.step_rules.ensures.set at c.in-Set.at c.in-Set.value is (search rules)

pub cases_after-returns-in-Call : goal.cases_after-returns-in-Call
cases_after-returns-in-Call t c =
    let at = (out-CStmt c.args.stmt.now).place in
    let is : c.args.stmt.now ≡ call_stmt at c.in-Call.call = search (rules, the_lemmas) in
    of-call c.after_call.result (facts_of c.args.cases.now) c.args.stmt.now c.step_rules.ensures.call at c.in-Call.call is (search rules)

pub cases_after-few-requires : goal.cases_after-few-requires
cases_after-few-requires t c =
    let at = (out-CStmt c.args.stmt.now).place in
    let condition = c.in-If-default-default-None.condition in
    let block = c.in-If-default-default-None.block in
    let is : c.args.stmt.now ≡ if_stmt at condition block None = search (rules, the_lemmas) in
    of-if c.step_rules.ensures.branches c.step_rules.ensures.weaker (facts_of c.args.cases.now) c.args.stmt.now at condition block None
    (facts_of c.in_ok-taken-in-If-default-default-None.taken) (facts_of c.in_ok-exits-in-If-default-default-None.exits)
    (facts_of c.in_ok-others-in-If-default-default-None.others) (facts_of c.in_ok-others-in-If-default-default-None.others)
    (facts_of c.in_ok-together-in-If-default-default-None.field-0)
    is (search rules) (search rules) (search rules) (c.step_rules.ensures.block.0 _) (search rules)

pub cases_after-few-requires-in-If-default-default-Some : goal.cases_after-few-requires-in-If-default-default-Some
cases_after-few-requires-in-If-default-default-Some t c =
    let at = (out-CStmt c.args.stmt.now).place in
    let condition = c.in-If-default-default-Some.condition in
    let block = c.in-If-default-default-Some.block in
    let other = c.in-If-default-default-Some.other in
    let is : c.args.stmt.now ≡ if_stmt at condition block (Some other) = search (rules, the_lemmas) in
    of-if c.step_rules.ensures.branches c.step_rules.ensures.weaker (facts_of c.args.cases.now) c.args.stmt.now at condition block (Some other)
    (facts_of c.in_ok-taken-in-If-default-default-Some.taken) (facts_of c.in_ok-exits-in-If-default-default-Some.exits)
    (facts_of c.in_ok-left-in-If-default-default-Some.left) (facts_of c.in_ok-others-in-If-default-default-Some.others)
    (facts_of c.in_ok-together-in-If-default-default-Some.field-0)
    is (search rules) (search rules) (search rules) (search rules) (search rules)

pub cases_after-returns-in-Clear : goal.cases_after-returns-in-Clear
cases_after-returns-in-Clear t c =
    of-any c.after_any.result (facts_of c.args.cases.now) c.args.stmt.now c.step_rules.ensures.any c.after_any.ensures
