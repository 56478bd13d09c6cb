use Rattle.std.proofs.Common.{subst}
use Rattle.bl_lex.specs.Pieces.WordIs.{keyword, name, outside}
use Rattle.bl_lex.specs.inner.Steps.{IsMeaningOf}
use Rattle.bl_lex.proofs.piece.word_form.Goals as goal

pub returns-in-Some-Keyword : goal.returns-in-Some-Keyword
returns-in-Some-Keyword c = λ text end. keyword (subst (IsMeaningOf c.args.word.now) c.in-Some-Keyword.field-0-is c.in-Some-Keyword.ensures)

pub returns-in-Some-Outside : goal.returns-in-Some-Outside
returns-in-Some-Outside c = λ text end. let h = subst (IsMeaningOf c.args.word.now) c.in-Some-Outside.field-0-is c.in-Some-Outside.ensures in outside h.0 h.1

pub returns-in-None : goal.returns-in-None
returns-in-None c = λ text end. name c.requires c.in-None.ensures.no_keyword c.in-None.ensures.not_outside
