-- The first rule that fails of the text, judge by judge.
use Rattle.std.proofs.Common.{length, subst}
use Rattle.bl_parse.specs.Programs.{Spells}
use Rattle.bl_rules.proofs.Causes.{bytes_cause, is_short, parsed, program_of_text, tokens_cause, tree_cause}
use Rattle.bl_rules.proofs.Layers.{text_passes}
use Rattle.bl_parse_syntax.specs.Rules.{Fails as TokensFail, Passes as TokensPass}
use Rattle.bl_tree.specs.Rules.{IsCause}
use Rattle.bl_rules.proofs.judge.accept.Goals as goal

pub returns-in-Err-clause-cause : goal.returns-in-Err-clause-cause
returns-in-Err-clause-cause c = bytes_cause c.args.text.now c.in-Err.refusal c.in-Err.ensures.refusal

pub parse-requires-clause-short : goal.parse-requires-clause-short
parse-requires-clause-short c = is_short c.args.text.now c.in-Ok.ensures.passes

pub returns-in-Err-parse-clause-cause : goal.returns-in-Err-parse-clause-cause
returns-in-Err-parse-clause-cause c =
    tokens_cause c.tokens_are_one.ensures c.first_failure_is_one.ensures.none c.args.text.now c.in-Ok.tokens.items c.in-Err-parse.refusal
    c.in-Ok.ensures.passes c.in-Ok.ensures.tokens
    (subst (λ tokens. IsCause (TokensFail (length c.args.text.now) tokens) c.in-Err-parse.refusal) c.deref.ensures.value c.in-Err-parse.ensures.refusal)

pub returns-in-Ok-accept_raw-clause-passes : goal.returns-in-Ok-accept_raw-clause-passes
returns-in-Ok-accept_raw-clause-passes c =
    text_passes c.tokens_are_one.ensures c.a_text_has_one_tree.ensures c.first_failure_is_one.ensures.none c.args.text.now c.in-Ok-parse.tree.raw
    c.in-Ok.ensures.passes
    (parsed c.args.text.now c.in-Ok.tokens.items c.in-Ok-parse.tree.raw c.in-Ok.ensures.tokens
    (subst TokensPass c.deref.ensures.value c.in-Ok-parse.ensures.passes)
    (subst (λ tokens. Spells c.args.text.now tokens c.in-Ok-parse.tree.raw) c.deref.ensures.value c.in-Ok-parse.ensures.spells))
    c.in-Ok-accept_raw.ensures.passes

pub returns-in-Ok-accept_raw-clause-program : goal.returns-in-Ok-accept_raw-clause-program
returns-in-Ok-accept_raw-clause-program c =
    program_of_text c.tokens_are_one.ensures c.a_text_has_one_tree.ensures c.first_failure_is_one.ensures.none c.args.text.now c.in-Ok-parse.tree.raw
    c.in-Ok-accept_raw.accepted.program c.in-Ok.ensures.passes
    (parsed c.args.text.now c.in-Ok.tokens.items c.in-Ok-parse.tree.raw c.in-Ok.ensures.tokens
    (subst TokensPass c.deref.ensures.value c.in-Ok-parse.ensures.passes)
    (subst (λ tokens. Spells c.args.text.now tokens c.in-Ok-parse.tree.raw) c.deref.ensures.value c.in-Ok-parse.ensures.spells))
    c.in-Ok-accept_raw.ensures.passes c.in-Ok-accept_raw.ensures.program

pub returns-clause-cause : goal.returns-clause-cause
returns-clause-cause c =
    tree_cause c.tokens_are_one.ensures c.a_text_has_one_tree.ensures c.first_failure_is_one.ensures.none c.args.text.now c.in-Ok-parse.tree.raw
    c.in-Err-accept_raw.refusal c.in-Ok.ensures.passes
    (parsed c.args.text.now c.in-Ok.tokens.items c.in-Ok-parse.tree.raw c.in-Ok.ensures.tokens
    (subst TokensPass c.deref.ensures.value c.in-Ok-parse.ensures.passes)
    (subst (λ tokens. Spells c.args.text.now tokens c.in-Ok-parse.tree.raw) c.deref.ensures.value c.in-Ok-parse.ensures.spells))
    c.in-Err-accept_raw.ensures.cause
