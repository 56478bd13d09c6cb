use Rattle.std.proofs.Common.{sym, refl, ◌∙◌}
use Rattle.bl_cparse_syntax.specs.declared.grammar.Digits.TheVariants.{Negated}
use Rattle.bl_cparse.proofs.NumberLemmas.{up_to}
use Rattle.bl_cparse.proofs.ReadLemmas.{wanting}
use Rattle.bl_cparse.proofs.ExprOpening.{negative_constant, negative_stands}
use Rattle.bl_cparse.proofs.parser.literal.negative.Goals as goal

pub returns-in_default-clause-follows : goal.returns-in_default-clause-follows
returns-in_default-clause-follows c = λ room rest e. absurd (negative_stands (rw c.piece.ensures at (c.in_default.ensures.none refl)) e)

pub returns-in_err-n-clause-follows : goal.returns-in_err-n-clause-follows
returns-in_err-n-clause-follows c = λ room rest e. wanting _ _ _ c.from_residual.ensures.1
    (c.in_err-n.ensures.follows (Negated c.in-Some.width) refl (up_to c.in-Some.width c.negatives_of.ensures) _
    (c.skip.ensures.follows _ _ (negative_constant c.in-Some.width (sym c.piece.ensures ∙ c.in-Some.ensures.some.0) e)))

pub returns-in_err-take-clause-follows : goal.returns-in_err-take-clause-follows
returns-in_err-take-clause-follows c = λ room rest e. wanting _ _ _ c.from_residual-in_err-take.ensures.1
    (c.in_err-take.ensures.follows _ (c.in_ok-n.ensures.follows (Negated c.in-Some.width) refl
    (up_to c.in-Some.width c.negatives_of.ensures) _ (c.skip.ensures.follows _ _
    (negative_constant c.in-Some.width (sym c.piece.ensures ∙ c.in-Some.ensures.some.0) e))))

pub returns-clause-follows : goal.returns-clause-follows
returns-clause-follows c = λ room rest e. c.in_ok-take.ensures.follows _
    (c.in_ok-n.ensures.follows (Negated c.in-Some.width) refl (up_to c.in-Some.width c.negatives_of.ensures) _
    (c.skip.ensures.follows _ _ (negative_constant c.in-Some.width (sym c.piece.ensures ∙ c.in-Some.ensures.some.0) e)))
