use Rattle.std.proofs.Common.{rules}
use Rattle.bl_rows.proofs.PlainRows.{digits_are_number, minus_and_digits}
use Rattle.bl_rows.proofs.in_place.number_from.Goals as goal

pub returns-then-has_byte : goal.returns-then-has_byte
returns-then-has_byte c = minus_and_digits c.args.bytes.now c.args.start c.in_ok-digits.digits.number c.in_ok-digits.digits.end _
    (c.has_byte.ensures.inside c.if-has_byte.true) (c.has_byte.ensures.byte c.if-has_byte.true) c.in_ok-digits.ensures (search rules)

pub returns : goal.returns
returns c = digits_are_number c.args.bytes.now c.args.start c.in_ok-digits-2.digits.number c.in_ok-digits-2.digits.end _
    c.in_ok-digits-2.ensures (search rules)
