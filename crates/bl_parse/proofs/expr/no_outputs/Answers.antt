use Rattle.std.proofs.Common.{refl, ◌∷◌, []}
use Rattle.bl_lex.specs.declared.sign.TheConstants.{OPEN_PAREN, CLOSE_PAREN}
use Rattle.bl_parse_syntax.specs.Grammar.{sign}
use Rattle.bl_parse.specs.Expressions.{SpellsNone}
use Rattle.bl_parse.proofs.ReadLemmas.{next_sign, after, then, pass, opened, omit, no_sign}
use Rattle.bl_parse.proofs.expr.no_outputs.Goals as goal

pub take-requires-then-stands : goal.take-requires-then-stands
take-requires-then-stands c = record {
  stands = next_sign
      (after c.requires.awaits (then (opened (sign OPEN_PAREN ∷ sign CLOSE_PAREN ∷ []) (λ v. refl)
      (c.if-stands.ensures.kind.0 refl) refl) (pass c.take.ensures.next)));
}

pub returns-then-stands-clause-spelled : goal.returns-then-stands-clause-spelled
returns-then-stands-clause-spelled c = SpellsNone.empty c.take.ensures.taken c.take-then-stands.ensures.taken

pub returns-then-stands-clause-follows : goal.returns-then-stands-clause-follows
returns-then-stands-clause-follows c = then (opened (sign OPEN_PAREN ∷ sign CLOSE_PAREN ∷ []) (λ v. refl)
    (c.if-stands.ensures.kind.0 refl) refl) (then (pass c.take.ensures.next) (pass c.take-then-stands.ensures.next))

pub returns-else-stands-clause-follows : goal.returns-else-stands-clause-follows
returns-else-stands-clause-follows c = omit refl (no_sign (c.if-stands.ensures.not refl))
