use Rattle.std.proofs.Common.{refl, ◌∷◌, []}
use Rattle.bl_lex.specs.declared.sign.TheConstants.{COLON}
use Rattle.bl_parse_syntax.specs.declared.grammar.Part.TheVariants.{Ty}
use Rattle.bl_parse_syntax.specs.Grammar.{sign, the}
use Rattle.bl_parse.specs.Statements.{SpellsMaybeTyping}
use Rattle.bl_parse.proofs.ReadLemmas.{after, then, opened, omit, no_sign}
use Rattle.bl_parse.proofs.parts.maybe_typing.Goals as goal

pub typing-requires : goal.typing-requires
typing-requires c = record { awaits = after c.requires.awaits (opened (sign COLON ∷ the Ty ∷ []) (λ v. refl) (c.if-stands.ensures.kind.0 refl) refl) }

pub returns-in_ok-ty-clause-spelled : goal.returns-in_ok-ty-clause-spelled
returns-in_ok-ty-clause-spelled c = SpellsMaybeTyping.written c.in_ok-ty.ensures.spelled refl

pub returns-in_ok-ty-clause-follows : goal.returns-in_ok-ty-clause-follows
returns-in_ok-ty-clause-follows c = then (opened (sign COLON ∷ the Ty ∷ []) (λ v. refl) (c.if-stands.ensures.kind.0 refl) refl)
    (c.in_ok-ty.ensures.follows)

pub returns-else-stands-clause-spelled : goal.returns-else-stands-clause-spelled
returns-else-stands-clause-spelled c = SpellsMaybeTyping.absent refl refl

pub returns-else-stands-clause-follows : goal.returns-else-stands-clause-follows
returns-else-stands-clause-follows c = omit refl (no_sign (c.if-stands.ensures.not refl))
