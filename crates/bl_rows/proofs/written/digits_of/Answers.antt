use Rattle.std.proofs.Common.{arith}
use Rattle.itoa.proofs.Decimal.{length_four}
use Rattle.bl_rows.proofs.Room.{digits_within, fours_fit}
use Rattle.bl_rows.proofs.written.digits_of.Goals as goal

pub overflow_add-count : goal.overflow_add-count
overflow_add-count c =
    omega (
      arith,
      fours_fit c.fours.count c.fours.left c.args.n c.fours.invariant.all c.fours-test.true c.fours.invariant.small,
      digits_within c.args.n (omega arith),
    )

pub fours-preserved : goal.fours-preserved
fours-preserved c = record {
  all = omega (arith, c.fours.invariant.all, length_four c.fours.left c.fours-test.true c.fours.invariant.small);
  small = omega (arith, c.fours.invariant.small);
}

pub overflow_add-result : goal.overflow_add-result
overflow_add-result c =
    omega (arith, c.fours.invariant.all, c.few_digits_of.ensures, digits_within c.args.n (omega arith))
