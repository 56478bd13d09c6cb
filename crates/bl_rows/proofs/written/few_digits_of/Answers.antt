use Rattle.std.proofs.Common.{sym}
use Rattle.itoa.proofs.Decimal.{length_one}
use Rattle.bl_rows.proofs.Room.{digits_few, digits_four, digits_three}
use Rattle.bl_rows.proofs.written.few_digits_of.Goals as goal

pub returns-then-n-lt10 : goal.returns-then-n-lt10
returns-then-n-lt10 c = sym (length_one c.args.n c.if-n-lt10.true)

pub returns-then-n-lt100 : goal.returns-then-n-lt100
returns-then-n-lt100 c = digits_few c.args.n c.if-n-lt100.true c.if-n-lt10.false

pub returns-then-n-lt1000 : goal.returns-then-n-lt1000
returns-then-n-lt1000 c = digits_three c.args.n c.if-n-lt100.false c.if-n-lt1000.true

pub returns-else-n-lt1000 : goal.returns-else-n-lt1000
returns-else-n-lt1000 c = digits_four c.args.n c.if-n-lt1000.false c.requires
