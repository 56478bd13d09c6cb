use Rattle.std.proofs.Common.{◌∙◌, refl}
use Rattle.bl_cparse_syntax.specs.Pieces.{is_same, first_piece}
use Rattle.bl_cparse_syntax.specs.Classes.{matches}
use Rattle.bl_cparse.proofs.TokenLemmas.{same_other}
use Rattle.bl_cparse.proofs.reader.Reader.sees.Goals as goal

pub returns-clause-same : goal.returns-clause-same
unfolding is_same
returns-clause-same c = c.eq.ensures ∙ rw (c.piece.ensures, c.as_bytes.ensures.value) refl

pub returns-clause-is : goal.returns-clause-is
unfolding is_same matches
returns-clause-is c = c.eq.ensures ∙ rw (c.piece.ensures, c.as_bytes.ensures.value) (same_other (first_piece c.args.self.now) c.args.what.now)
