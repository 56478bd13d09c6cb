use Rattle.bl_cparse_syntax.specs.declared.grammar.Digits.TheVariants.{Int, Unsigned}
use Rattle.std.proofs.Common.{refl, sym, ◌∙◌}
use Rattle.bl_cparse.proofs.ExprOpening.{signed_constant, unsigned_constant}
use Rattle.bl_cparse.proofs.NumberLemmas.{up_to}
use Rattle.bl_cparse.proofs.ReadLemmas.{wanting}
use Rattle.bl_cparse.proofs.parser.literal.bracketed_constant.Goals as goal

pub returns-in_err-n-clause-follows : goal.returns-in_err-n-clause-follows
returns-in_err-n-clause-follows c = λ room rest e. wanting _ _ _ c.from_residual.ensures.1
    (c.in_err-n.ensures.follows (Int c.in-Some.width) refl (up_to c.in-Some.width c.negatives_of.ensures) _
    (c.skip.ensures.follows _ _ (signed_constant c.in-Some.width (sym c.piece.ensures ∙ c.in-Some.ensures.some.0) e)))

pub returns-in-Some-clause-follows : goal.returns-in-Some-clause-follows
returns-in-Some-clause-follows c = λ room rest e. c.in_ok-n.ensures.follows (Int c.in-Some.width) refl
    (up_to c.in-Some.width c.negatives_of.ensures) _ (c.skip.ensures.follows _ _
    (signed_constant c.in-Some.width (sym c.piece.ensures ∙ c.in-Some.ensures.some.0) e))

pub returns-in_err-n-2-clause-follows : goal.returns-in_err-n-2-clause-follows
returns-in_err-n-2-clause-follows c = λ room rest e. wanting _ _ _ c.from_residual-in_err-n-2.ensures.1
    (c.in_err-n-2.ensures.follows (Unsigned c.in-Some-unsigned_of.width) refl (sym c.greatest_of.ensures) _
    (c.skip-in-Some-unsigned_of.ensures.follows _ _ (unsigned_constant c.in-Some-unsigned_of.width
    (sym c.piece-2.ensures ∙ c.in-Some-unsigned_of.ensures.some.0) e)))

pub returns-in-Some-unsigned_of-clause-follows : goal.returns-in-Some-unsigned_of-clause-follows
returns-in-Some-unsigned_of-clause-follows c = λ room rest e. c.in_ok-n-2.ensures.follows
    (Unsigned c.in-Some-unsigned_of.width) refl (sym c.greatest_of.ensures) _
    (c.skip-in-Some-unsigned_of.ensures.follows _ _ (unsigned_constant c.in-Some-unsigned_of.width
    (sym c.piece-2.ensures ∙ c.in-Some-unsigned_of.ensures.some.0) e))
