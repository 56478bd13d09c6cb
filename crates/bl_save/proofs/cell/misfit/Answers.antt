use Rattle.std.proofs.Common.{rules, arith, sym}
use Rattle.bl_save.proofs.States.{cell-ends, cell-holds}
use Rattle.bl_save.proofs.cell.misfit.Goals as goal

pub returns-then-bytes-size_of : goal.returns-then-bytes-size_of
returns-then-bytes-size_of c = sym (cell-ends c.args.kind c.args.bytes.now (omega arith) (search rules))

pub returns : goal.returns
returns c = sym (cell-holds c.args.kind c.args.bytes.now (omega arith) (search rules) (omega arith))
