-- The first rule that fails of the text, judge by judge.
use Rattle.std.proofs.Common.{length, subst}
use Rattle.bl_parse.specs.Programs.{Spells}
use Rattle.bl_parse_syntax.specs.Rules.{Fails as TokensFail, Passes as TokensPass}
use Rattle.bl_rules.proofs.Causes.{is_short, parsed}
use Rattle.bl_tree.specs.Rules.{IsCause}
use Rattle.bl_module.specs.Rules.{TreeFails, TreePasses}
use Rattle.bl_module.proofs.Layers.{text_passes, tokens_cause, tree_cause}
use Rattle.bl_module.proofs.judge.judge.Goals as goal

pub parse-requires-clause-short : goal.parse-requires-clause-short
parse-requires-clause-short c = is_short c.args.text.now c.in-Ok.ensures.passes

pub returns-in-Err-parse-clause-cause : goal.returns-in-Err-parse-clause-cause
returns-in-Err-parse-clause-cause c =
    tokens_cause c.tokens_are_one.ensures c.a_text_has_one_tree.ensures c.first_failure_is_one.ensures.none c.args.behind c.args.taken c.args.text.now
    c.in-Ok.tokens.items c.in-Ok.ensures.passes c.in-Ok.ensures.tokens c.in-Err-parse.refusal
    (subst (λ tokens. IsCause (TokensFail (length c.args.text.now) tokens) c.in-Err-parse.refusal) c.deref.ensures.value c.in-Err-parse.ensures.refusal)

pub returns-in-Ok-judge_tree-clause-passes : goal.returns-in-Ok-judge_tree-clause-passes
returns-in-Ok-judge_tree-clause-passes c =
    text_passes c.tokens_are_one.ensures c.a_text_has_one_tree.ensures c.first_failure_is_one.ensures.none c.args.behind c.args.taken c.args.text.now
    c.in-Ok-parse.raw c.in-Ok.ensures.passes
    (parsed c.args.text.now c.in-Ok.tokens.items c.in-Ok-parse.raw c.in-Ok.ensures.tokens
    (subst TokensPass c.deref.ensures.value c.in-Ok-parse.ensures.passes)
    (subst (λ tokens. Spells c.args.text.now tokens c.in-Ok-parse.raw) c.deref.ensures.value c.in-Ok-parse.ensures.spells))
    (subst (λ last. TreePasses c.args.behind last c.in-Ok-parse.raw) c.is_last.ensures c.in-Ok-judge_tree.ensures.passes)

pub returns-clause-cause : goal.returns-clause-cause
returns-clause-cause c =
    tree_cause c.tokens_are_one.ensures c.a_text_has_one_tree.ensures c.first_failure_is_one.ensures.none c.args.behind c.args.taken c.args.text.now
    c.in-Ok-parse.raw c.in-Ok.ensures.passes
    (parsed c.args.text.now c.in-Ok.tokens.items c.in-Ok-parse.raw c.in-Ok.ensures.tokens
    (subst TokensPass c.deref.ensures.value c.in-Ok-parse.ensures.passes)
    (subst (λ tokens. Spells c.args.text.now tokens c.in-Ok-parse.raw) c.deref.ensures.value c.in-Ok-parse.ensures.spells))
    c.in-Err-judge_tree.refusal
    (subst (λ last. IsCause (TreeFails c.args.behind last c.in-Ok-parse.raw) c.in-Err-judge_tree.refusal) c.is_last.ensures
    c.in-Err-judge_tree.ensures.cause)
