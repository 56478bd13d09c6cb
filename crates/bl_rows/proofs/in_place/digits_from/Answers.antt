use Rattle.std.proofs.Common.{◌≡◌, ◌+◌, ◌*◌, ◌∙◌, arith, get_or, sym}
use Rattle.std.proofs.lemmas.Grind.{common_steps}
use Rattle.std.specs.Char.{digit_value}
use Rattle.bl_rows.proofs.PlainRows.{all_more, value_more}
use Rattle.bl_rows.proofs.in_place.digits_from.Goals as goal

pub digits-preserved : goal.digits-preserved
digits-preserved c =
    let more : c.in_ok-number.number ≡ c.digits.number * 10 + digit_value (get_or c.args.bytes.now c.digits.end 0) =
    grind (arith, common_steps, c.in_ok-number.ensures, c.in_ok-checked_mul.ensures, c.is_ascii_digit.ensures.cases) in
    record {
      value = value_more c.args.bytes.now c.args.start c.digits.end c.digits.number c.in_ok-number.number (omega arith) (omega arith)
          c.digits.invariant.value more;
      digits = all_more c.args.bytes.now c.args.start c.digits.end (omega arith) (omega arith) c.digits.invariant.digits
          (sym c.is_ascii_digit.ensures.value ∙ c.if-not-is_ascii_digit.false);
    }
