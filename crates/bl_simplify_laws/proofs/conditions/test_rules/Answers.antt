use Rattle.bl_simplify_laws.proofs.OnConditions.{test-and, test-and-side, test-chain, test-itself, test-not, test-or, test-or-side, test-same}
use Rattle.bl_simplify_laws.proofs.conditions.test_rules.Goals as goal

pub returns : goal.returns
returns c = record {
  itself = test-itself;
  chain = test-chain;
  same = test-same;
  or_side = test-or-side;
  and_side = test-and-side;
  or = test-or;
  and = test-and;
  not = test-not;
}
