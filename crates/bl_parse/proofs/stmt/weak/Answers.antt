use Rattle.std.proofs.Common.{refl, ◌∷◌, []}
use Rattle.bl_tree.specs.declared.token.Keyword.TheVariants as keyword
use Rattle.bl_parse_syntax.specs.Grammar.{word}
use Rattle.bl_parse.specs.Statements.{SpellsWeak}
use Rattle.bl_parse.proofs.ReadLemmas.{then, pass, opened, omit, no_word}
use Rattle.bl_parse.proofs.stmt.weak.Goals as goal

pub returns-then-stands-clause-spelled : goal.returns-then-stands-clause-spelled
returns-then-stands-clause-spelled c = SpellsWeak.weak refl c.take.ensures.taken

pub returns-then-stands-clause-follows : goal.returns-then-stands-clause-follows
returns-then-stands-clause-follows c = then (opened (word keyword.Weak ∷ []) (λ v. refl) (c.if-stands.ensures.kind.0 refl) refl) (pass c.take.ensures.next)

pub returns-else-stands-clause-spelled : goal.returns-else-stands-clause-spelled
returns-else-stands-clause-spelled c = SpellsWeak.strong refl refl

pub returns-else-stands-clause-follows : goal.returns-else-stands-clause-follows
returns-else-stands-clause-follows c = omit refl (no_word (c.if-stands.ensures.not refl))
