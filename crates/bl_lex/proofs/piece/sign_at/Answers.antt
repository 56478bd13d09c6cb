use Rattle.std.proofs.Common.{refl, arith}
use Rattle.bl_lex.proofs.Signs.{sign_ends, only_ends, at_most_one}
use Rattle.bl_lex.proofs.piece.sign_at.Goals as goal

pub returns-in_err-short_sign_at-in-None : goal.returns-in_err-short_sign_at-in-None
returns-in_err-short_sign_at-in-None c = rw c.from_residual.ensures
    (λ end k is. only_ends _ _ end k c.in_err-short_sign_at-in-None.ensures c.in-None.ensures is)

pub returns-in-Some : goal.returns-in-Some
returns-in-Some c = record {
  k = c.in-Some.sign;
  form = refl;
  sign = c.in-Some.ensures;
  longest = λ end other is. let ends = sign_ends _ _ _ _ is in omega arith;
}

pub returns-in_ok-short_sign_at-in-None : goal.returns-in_ok-short_sign_at-in-None
returns-in_ok-short_sign_at-in-None c = record {
  k = c.in_ok-short_sign_at-in-None.field-0;
  form = refl;
  sign = c.in_ok-short_sign_at-in-None.ensures;
  longest = λ end other is. at_most_one _ _ end other c.in-None.ensures is;
}
