use Rattle.std.proofs.Common.{sym, ◌∙◌}
use Rattle.bl_grammar.proofs.Predictive.{not_both}
use Rattle.bl_cparse_syntax_laws.proofs.Pieces.{callee_is}
use Rattle.bl_cparse.proofs.ReadLemmas.{next}
use Rattle.bl_cparse.proofs.parser.name.callee.Goals as goal

pub returns-else-is_callee-clause-follows : goal.returns-else-is_callee-clause-follows
returns-else-is_callee-clause-follows c = λ rest e. absurd
    (not_both _ (callee_is _ (next e).matched) (rw c.piece.ensures at (sym c.is_callee.ensures ∙ c.if-is_callee.false)))
