use Rattle.std.proofs.Common.{refl, ◌∷◌, []}
use Rattle.bl_lex.specs.declared.sign.TheConstants.{ASSIGN}
use Rattle.bl_parse_syntax.specs.declared.grammar.Part.TheVariants.{Expr}
use Rattle.bl_parse_syntax.specs.Grammar.{sign, the}
use Rattle.bl_parse.specs.Statements.{SpellsInitial}
use Rattle.bl_parse.proofs.ReadLemmas.{after, then, opened, omit, no_sign}
use Rattle.bl_parse.proofs.parts.initial.Goals as goal

pub value-requires : goal.value-requires
value-requires c = record { awaits = after c.requires.awaits (opened (sign ASSIGN ∷ the Expr ∷ []) (λ v. refl) (c.if-stands.ensures.kind.0 refl) refl) }

pub returns-in_ok-e-clause-spelled : goal.returns-in_ok-e-clause-spelled
returns-in_ok-e-clause-spelled c = SpellsInitial.given c.in_ok-e.ensures.spelled refl

pub returns-in_ok-e-clause-follows : goal.returns-in_ok-e-clause-follows
returns-in_ok-e-clause-follows c = then (opened (sign ASSIGN ∷ the Expr ∷ []) (λ v. refl) (c.if-stands.ensures.kind.0 refl) refl)
    (c.in_ok-e.ensures.follows)

pub returns-else-stands-clause-spelled : goal.returns-else-stands-clause-spelled
returns-else-stands-clause-spelled c = SpellsInitial.absent refl refl

pub returns-else-stands-clause-follows : goal.returns-else-stands-clause-follows
returns-else-stands-clause-follows c = omit refl (no_sign (c.if-stands.ensures.not refl))
