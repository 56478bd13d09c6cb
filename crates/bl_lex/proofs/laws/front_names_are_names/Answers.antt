use Rattle.bl_lex.proofs.NameLaws.{names_among}
use Rattle.bl_lex.proofs.laws.front_names_are_names.Goals as goal

pub returns : goal.returns
returns c = λ text tokens stop is. names_among text is.parts stop is.covers tokens is.are_tokens
