use Rattle.std.proofs.Common.{◌≡◌, ◌^◌, min, take, arith, ap, ◌∙◌, below_more, take_all, false-eqb}
use Rattle.bl_lex.specs.Spelling.{digits_value}
use Rattle.bl_lex.proofs.Numbers.{kept-take, IsDigits-all}
use Rattle.bl_lex.proofs.number.value_of.Goals as goal

pub loop-byte-preserved : goal.loop-byte-preserved
loop-byte-preserved c = record {
  value = c.min-value.ensures ∙ kept-take _ _ _ _ _ _ (omega arith) (omega arith) c.loop-byte.invariant.value c.in_ok-digit.ensures.value.1;
  each = below_more _ _ c.loop-byte.invariant.each c.in_ok-digit.ensures.value.0;
}

pub returns : goal.returns
returns c = let whole : take c.loop-byte.byte-index c.args.digits.now ≡ c.args.digits.now = take_all _ _ (omega arith) in (
  IsDigits-all _ _ (omega (arith, false-eqb _ 0 c.if-is_empty.ensures)) (λ k h. c.loop-byte.invariant.each k (omega arith)),
  c.loop-byte.invariant.value ∙ ap (λ l. min (digits_value c.args.base l) (2 ^ 64)) whole,
)
