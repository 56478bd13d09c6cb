use Rattle.std.proofs.Common.{arith}
use Rattle.std.proofs.lemmas.Bool.Decides.{nat_tests}
use Rattle.bl_lex.proofs.Tables.{one_byte_known}
use Rattle.bl_lex.proofs.piece.short_sign.Goals as goal

pub returns-in_default : goal.returns-in_default
returns-in_default c = λ k is. let h = one_byte_known _ _ is in grind (arith, nat_tests, h)
