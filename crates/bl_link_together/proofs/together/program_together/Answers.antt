-- Files that pass together are good one behind another.
use Rattle.std.proofs.Common.{subst}
use Rattle.bl_link.proofs.Linking.{of_small}
use Rattle.bl_link_together.proofs.Joining.{files_of, lexes, parsed}
use Rattle.bl_parse.specs.Programs.{Spells}
use Rattle.bl_parse_syntax.specs.Rules.{Passes as TokensPass}
use Rattle.bl_link_together.proofs.together.program_together.Goals as goal

pub returns-in-Ok-accept_raw-clause-program : goal.returns-in-Ok-accept_raw-clause-program
returns-in-Ok-accept_raw-clause-program c =
    files_of c.files_are_the_whole.ensures.whole c.args.texts.now c.in-Some.joined c.in-Ok.tree.raw c.in-Ok-accept_raw.accepted.program c.in-Some.ensures
    (parsed c.in-Some.joined c.in-Ok.tree.raw (lexes c.joined_texts_have_joined_tokens.ensures c.args.texts.now c.in-Some.joined c.in-Some.ensures)
    (subst TokensPass c.deref-2.ensures.value c.in-Ok.ensures.passes)
    (subst (λ text. Spells text c.in-Some.joined.tokens.items c.in-Ok.tree.raw) c.deref.ensures.value
    (subst (λ tokens. Spells c.deref.result.now tokens c.in-Ok.tree.raw) c.deref-2.ensures.value c.in-Ok.ensures.spells)))
    c.in-Ok-accept_raw.ensures.passes c.in-Ok-accept_raw.ensures.program

pub returns-in-Ok-accept_raw-clause-of_small_tree : goal.returns-in-Ok-accept_raw-clause-of_small_tree
returns-in-Ok-accept_raw-clause-of_small_tree c =
    of_small c.programs_of_texts_are_small.ensures.spelled c.in-Some.joined c.in-Ok.tree.raw c.in-Ok-accept_raw.accepted.program c.in-Some.ensures.short
    (parsed c.in-Some.joined c.in-Ok.tree.raw (lexes c.joined_texts_have_joined_tokens.ensures c.args.texts.now c.in-Some.joined c.in-Some.ensures)
    (subst TokensPass c.deref-2.ensures.value c.in-Ok.ensures.passes)
    (subst (λ text. Spells text c.in-Some.joined.tokens.items c.in-Ok.tree.raw) c.deref.ensures.value
    (subst (λ tokens. Spells c.deref.result.now tokens c.in-Ok.tree.raw) c.deref-2.ensures.value c.in-Ok.ensures.spells)))
    c.in-Ok-accept_raw.ensures.passes c.in-Ok-accept_raw.ensures.program
