use Rattle.std.proofs.Common.{◌∙◌, sym, refl}
use Rattle.bl_cparse_syntax.specs.Pieces.{is_same}
use Rattle.bl_cparse_syntax.specs.Classes.{matches}
use Rattle.bl_cparse.proofs.TokenLemmas.{bytes_same}
use Rattle.bl_cparse.proofs.parser.literal.is.Goals as goal

pub returns-clause-same : goal.returns-clause-same
unfolding is_same matches
returns-clause-same c = c.eq.ensures ∙ rw c.as_bytes.ensures.value refl

pub returns-clause-yes : goal.returns-clause-yes
returns-clause-yes c = λ yes. bytes_same c.args.what.now c.args.piece.now (sym (rw c.as_bytes.ensures.value at c.eq.ensures) ∙ yes)
