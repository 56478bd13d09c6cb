use Rattle.std.proofs.Common.{arith}
use Rattle.std.proofs.lemmas.Bool.Decides.{nat_tests}
use Rattle.bl_lex.proofs.Tables.{two_bytes_known}
use Rattle.bl_lex.proofs.piece.long_sign.Goals as goal

pub returns-in_default : goal.returns-in_default
returns-in_default c = λ k is. let h = two_bytes_known _ _ _ is in grind (arith, nat_tests, h)

pub returns-in_default-2 : goal.returns-in_default-2
returns-in_default-2 c = λ k is. let h = two_bytes_known _ _ _ is in grind (arith, nat_tests, h)

pub returns-in_default-3 : goal.returns-in_default-3
returns-in_default-3 c = λ k is. let h = two_bytes_known _ _ _ is in grind (arith, nat_tests, h)

pub returns-in_default-4 : goal.returns-in_default-4
returns-in_default-4 c = λ k is. let h = two_bytes_known _ _ _ is in grind (arith, nat_tests, h)

pub returns-in_default-5 : goal.returns-in_default-5
returns-in_default-5 c = λ k is. let h = two_bytes_known _ _ _ is in grind (arith, nat_tests, h)
