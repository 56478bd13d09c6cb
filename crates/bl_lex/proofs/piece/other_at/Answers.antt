use Rattle.std.proofs.Common.{refl}
use Rattle.bl_lex.proofs.PieceLaws.{longest_sign, no_piece}
use Rattle.bl_lex.proofs.piece.other_at.Goals as goal

pub returns-in-Some : goal.returns-in-Some
returns-in-Some c = let found = c.in-Some.ensures in
    longest_sign _ _ _ found.k _ c.requires.not_blank c.requires.no_word c.requires.no_slash found.form found.sign found.longest

pub returns-in-None : goal.returns-in-None
returns-in-None c = rw c.place_between.ensures (
  refl,
  record {
    inside = c.requires.inside;
    begins_nothing = no_piece _ _ c.requires.not_blank c.requires.no_word c.requires.no_slash c.in-None.ensures;
    no_word = c.requires.no_word;
    no_comment = λ opens. c.requires.no_slash opens.0;
    one_byte = refl;
  },
)
