use Rattle.bl_cparse_syntax.specs.Expects.{Expects}
use Rattle.std.specs.Prelude.{List, codes}
use Rattle.bl_cparse_syntax.specs.declared.grammar.Part.TheVariants.{Simple}
use Rattle.bl_ctext.specs.Token.{Token}
use Rattle.std.proofs.Common.{ap, refl, subst, sym, ◌∙◌, ◌∷◌, ◌≡◌}
use Rattle.bl_cparse_syntax.specs.Follow.{constant_starts}
use Rattle.bl_cparse_syntax.specs.Classes.Class.{exactly}
use Rattle.bl_cparse.proofs.ExprOpening.{false_passed, least_passed, true_passed}
use Rattle.bl_cparse_syntax.specs.Pieces.{first_piece}
use Rattle.bl_cparse_syntax.specs.Tables.{has}
use Rattle.bl_cparse.specs.inner.Reading.{least_starts, part}
use Rattle.bl_cparse.specs.Places.{WantsMemory}
use Rattle.bl_cparse_syntax.specs.Classes.{matches}
use Rattle.bl_cparse.proofs.WordLemmas.{no_literal, no_plain}
use Rattle.bl_cparse.proofs.ReadLemmas.{widened}
use Rattle.bl_tree.specs.declared.c.CExprKind.{CExprKind}
use Rattle.bl_cparse.specs.declared.refusal.CRefusal.{CRefusal}
use Rattle.bl_cparse.proofs.parser.literal.literal.Goals as goal

pub returns-then-eat-clause-follows : goal.returns-then-eat-clause-follows
returns-then-eat-clause-follows c = λ room rest e. true_passed (c.eat.ensures.yes c.if-eat.true) e

pub returns-then-eat-2-clause-follows : goal.returns-then-eat-2-clause-follows
returns-then-eat-2-clause-follows c = λ room rest e. false_passed (sym (c.eat.ensures.no c.if-eat.false) ∙ c.eat-2.ensures.yes c.if-eat-2.true) e

pub returns-in-Some-clause-follows : goal.returns-in-Some-clause-follows
returns-in-Some-clause-follows c = λ room rest e. least_passed c.in-Some.width (sym c.piece.ensures ∙ c.in-Some.ensures.some.0)
    (sym (c.eat.ensures.no c.if-eat.false) ∙ (sym (c.eat-2.ensures.no c.if-eat-2.false) ∙ c.skip.ensures.passed)) e

pub returns-clause-follows : goal.returns-clause-follows
returns-clause-follows c = λ room rest e. let same : c.eat-2.new.self ≡ c.args.r.now =
    c.eat-2.ensures.no c.if-eat-2.false ∙ c.eat.ensures.no c.if-eat.false in
    widened {A = CExprKind} {E = CRefusal} (λ x. Expects rest c.bracketed_constant.new.r) WantsMemory c.bracketed_constant.result
    (λ k. no_literal (first_piece c.args.r.now) (no_plain (first_piece c.args.r.now) (sym c.eat.ensures.is ∙ c.if-eat.false)
    (ap (λ (ts : List Token). matches (exactly (codes "false")) (first_piece ts)) (sym (c.eat.ensures.no c.if-eat.false))
    ∙ (sym c.eat-2.ensures.is ∙ c.if-eat-2.false)) (ap (λ (ts : List Token). has least_starts (first_piece ts)) (sym same)
    ∙ (rw c.piece.ensures at (c.in_default.ensures.none refl))))
    (ap (λ (ts : List Token). has constant_starts (first_piece ts)) (sym same) ∙ k))
    (c.bracketed_constant.ensures.follows room rest (subst (λ (ts : List Token). Expects (part Simple room ∷ rest) ts) (sym same) e))
