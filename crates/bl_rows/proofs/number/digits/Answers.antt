use Rattle.std.proofs.Common.{arith, ◌+◌, ◌*◌, ◌≤◌, ◌^◌, get_or}
use Rattle.std.proofs.lemmas.Grind.{common_steps}
use Rattle.std.specs.Char.{digit_value}
use Rattle.bl_rows.proofs.Numbers.{grows_beyond}
use Rattle.bl_rows.proofs.number.digits.Goals as goal

pub returns-in_err-checked_mul-clause-beyond : goal.returns-in_err-checked_mul-clause-beyond
returns-in_err-checked_mul-clause-beyond c = λ _.
    let inside = c.digits-test.true in
    grows_beyond c.args.text.now c.digits.digit-index c.digits.n (2 ^ 64) (omega arith) c.digits.invariant.value (omega (arith, c.in_err-checked_mul.ensures))

pub returns-in_err-n-clause-beyond : goal.returns-in_err-n-clause-beyond
returns-in_err-n-clause-beyond c = λ _.
    let large : 2 ^ 64 ≤ c.digits.n * 10 + digit_value (get_or c.args.text.now c.digits.digit-index 0) =
    grind (arith, common_steps, c.in_err-n.ensures, c.in_ok-checked_mul.ensures) in
    grows_beyond c.args.text.now c.digits.digit-index c.digits.n (2 ^ 64) (omega arith) c.digits.invariant.value large
