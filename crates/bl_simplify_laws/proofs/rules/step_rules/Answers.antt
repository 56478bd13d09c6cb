use Rattle.bl_simplify_laws.proofs.OnRules.{rule-after-block, rule-after-if, rule-after-weaker, rule-call, rule-forget, rule-set, rule-stop}
use Rattle.bl_simplify_laws.proofs.OnWritten.{rule-after-any, rule-after-any-block}
use Rattle.bl_simplify_laws.proofs.rules.step_rules.Goals as goal

pub returns : goal.returns
returns c = record {
  set = rule-set;
  call = rule-call;
  branches = rule-after-if;
  block = rule-after-block;
  stop = rule-stop;
  any = rule-after-any;
  any_block = rule-after-any-block;
  forget = rule-forget;
  weaker = rule-after-weaker;
}
