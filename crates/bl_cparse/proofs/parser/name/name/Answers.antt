use Rattle.std.proofs.Common.{sym, ◌∙◌}
use Rattle.bl_grammar.proofs.Predictive.{not_both}
use Rattle.bl_cparse_syntax_laws.proofs.Pieces.{name_is}
use Rattle.bl_cparse.proofs.ReadLemmas.{next}
use Rattle.bl_cparse.proofs.parser.name.name.Goals as goal

pub returns-else-is_name-clause-follows : goal.returns-else-is_name-clause-follows
returns-else-is_name-clause-follows c = λ rest e. absurd
    (not_both _ (name_is _ (next e).matched) (rw c.piece.ensures at (sym c.is_name.ensures ∙ c.if-is_name.false)))
