use Rattle.std.proofs.Common.{◌≡◌, rules}
use Rattle.bl_tree.specs.declared.c.CExpr.{out-CExpr, the_lemmas}
use Rattle.bl_simplify_laws.specs.Joins.{and_expr, not_expr, or_expr}
use Rattle.bl_simplify_facts.specs.Entries.{facts_of}
use Rattle.bl_simplify_steps.proofs.TestLemmas.{by-middle, left-of-and, left-of-or, of-and, of-not, of-or, right-of-and, right-of-or}
use Rattle.bl_simplify_steps.proofs.exchange.+exchanging.Goals as goal

pub returns-then-all_give : goal.returns-then-all_give
returns-then-all_give t c =
    let left = c.in-Two-And-default-default.left in
    let right = c.in-Two-And-default-default.right in
    let at = (out-CExpr c.args.condition.now).place in
    let is : c.args.condition.now ≡ and_expr at left right = search (rules, the_lemmas) in
    right-of-and (facts_of c.args.cases.now) c.args.condition.now at left right c.test_rules.ensures.chain c.test_rules.ensures.and_side is
    (search rules) _ (search rules)

pub returns-then-all_give-2 : goal.returns-then-all_give-2
returns-then-all_give-2 t c =
    let left = c.in-Two-And-default-default.left in
    let right = c.in-Two-And-default-default.right in
    let at = (out-CExpr c.args.condition.now).place in
    let is : c.args.condition.now ≡ and_expr at left right = search (rules, the_lemmas) in
    left-of-and (facts_of c.args.cases.now) c.args.condition.now at left right c.test_rules.ensures.chain c.test_rules.ensures.and_side is
    (search rules) _ (search rules)

pub returns-then-all_give-3 : goal.returns-then-all_give-3
returns-then-all_give-3 t c =
    let left = c.in-Two-Or-default-default.left in
    let right = c.in-Two-Or-default-default.right in
    let at = (out-CExpr c.args.condition.now).place in
    let is : c.args.condition.now ≡ or_expr at left right = search (rules, the_lemmas) in
    right-of-or (facts_of c.args.cases.now) c.args.condition.now at left right c.test_rules.ensures.chain c.test_rules.ensures.or_side is
    (search rules) _ (search rules)

pub returns-then-all_give-4 : goal.returns-then-all_give-4
returns-then-all_give-4 t c =
    let left = c.in-Two-Or-default-default.left in
    let right = c.in-Two-Or-default-default.right in
    let at = (out-CExpr c.args.condition.now).place in
    let is : c.args.condition.now ≡ or_expr at left right = search (rules, the_lemmas) in
    left-of-or (facts_of c.args.cases.now) c.args.condition.now at left right c.test_rules.ensures.chain c.test_rules.ensures.or_side is
    (search rules) _ (search rules)

pub returns-in_ok-second-in-Two-And-default-default : goal.returns-in_ok-second-in-Two-And-default-default
returns-in_ok-second-in-Two-And-default-default t c =
    let left = c.in-Two-And-default-default.left in
    let right = c.in-Two-And-default-default.right in
    let at = (out-CExpr c.args.condition.now).place in
    let is : c.args.condition.now ≡ and_expr at left right = search (rules, the_lemmas) in
    of-and (facts_of c.args.cases.now) c.args.condition.now at left right c.test_rules.ensures.and is c.in_ok-first-in-Two-And-default-default.first
    c.in_ok-second-in-Two-And-default-default.second (facts_of c.in_ok-held-in-Two-And-default-default.held) (search rules) (search rules) (search rules) _
    (search rules)

pub returns-in_ok-second-in-Two-Or-default-default : goal.returns-in_ok-second-in-Two-Or-default-default
returns-in_ok-second-in-Two-Or-default-default t c =
    let left = c.in-Two-Or-default-default.left in
    let right = c.in-Two-Or-default-default.right in
    let at = (out-CExpr c.args.condition.now).place in
    let is : c.args.condition.now ≡ or_expr at left right = search (rules, the_lemmas) in
    of-or (facts_of c.args.cases.now) c.args.condition.now at left right c.test_rules.ensures.or is c.in_ok-first-in-Two-Or-default-default.first
    c.in_ok-second-in-Two-Or-default-default.second (facts_of c.in_ok-held-in-Two-Or-default-default.held) (search rules) (search rules) (search rules) _
    (search rules)

pub returns-in_ok-operand-in-Not : goal.returns-in_ok-operand-in-Not
returns-in_ok-operand-in-Not t c =
    let at = (out-CExpr c.args.condition.now).place in
    let is : c.args.condition.now ≡ not_expr at c.in-Not.operand = search (rules, the_lemmas) in
    of-not (facts_of c.args.cases.now) c.args.condition.now at c.in-Not.operand c.in-Not.operand c.test_rules.ensures.not is
    c.in_ok-operand-in-Not.operand (search rules) _ (search rules)

pub returns-then-have_one_truth : goal.returns-then-have_one_truth
returns-then-have_one_truth t c =
    let side = c.in-Two-And-default-default.right in
    by-middle (facts_of c.args.cases.now) c.args.condition.now (out-CExpr c.args.condition.now).place side side c.test_rules.ensures.chain side
    (c.test_rules.ensures.same (facts_of c.args.cases.now) c.args.condition.now side (search rules)) _ (search rules)

pub returns-then-have_one_truth-2 : goal.returns-then-have_one_truth-2
returns-then-have_one_truth-2 t c =
    let side = c.in-Two-And-default-default.left in
    by-middle (facts_of c.args.cases.now) c.args.condition.now (out-CExpr c.args.condition.now).place side side c.test_rules.ensures.chain side
    (c.test_rules.ensures.same (facts_of c.args.cases.now) c.args.condition.now side (search rules)) _ (search rules)

pub returns-then-have_one_truth-3 : goal.returns-then-have_one_truth-3
returns-then-have_one_truth-3 t c =
    let side = c.in-Two-Or-default-default.right in
    by-middle (facts_of c.args.cases.now) c.args.condition.now (out-CExpr c.args.condition.now).place side side c.test_rules.ensures.chain side
    (c.test_rules.ensures.same (facts_of c.args.cases.now) c.args.condition.now side (search rules)) _ (search rules)

pub returns-then-have_one_truth-4 : goal.returns-then-have_one_truth-4
returns-then-have_one_truth-4 t c =
    let side = c.in-Two-Or-default-default.left in
    by-middle (facts_of c.args.cases.now) c.args.condition.now (out-CExpr c.args.condition.now).place side side c.test_rules.ensures.chain side
    (c.test_rules.ensures.same (facts_of c.args.cases.now) c.args.condition.now side (search rules)) _ (search rules)
