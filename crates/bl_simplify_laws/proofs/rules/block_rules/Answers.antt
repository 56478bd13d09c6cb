use Rattle.bl_simplify_laws.proofs.OnRules.{rule-chain, rule-cut, rule-decided, rule-either, rule-empty, rule-forgotten, rule-never, rule-replace, rule-same}
use Rattle.bl_simplify_laws.proofs.OnRules.{rule-split, rule-weaker}
use Rattle.bl_simplify_laws.proofs.rules.block_rules.Goals as goal

pub returns : goal.returns
returns c = record {
  empty = rule-empty;
  replaced = rule-replace;
  decided = rule-decided;
  split = rule-split;
  either = rule-either;
  same = rule-same;
  never = rule-never;
  weaker = rule-weaker;
  cut = rule-cut;
  forgotten = rule-forgotten;
  chain = rule-chain;
}
