use Rattle.std.proofs.Common.{◌+◌, drop}
use Rattle.bl_rows.proofs.Room.{number_written}
use Rattle.bl_rows.proofs.written.write_number.Goals as goal

pub returns-clause-front : goal.returns-clause-front
returns-clause-front c = number_written c.args.room.now c.write_digits.new.buf c.args.at c.args.n c.digits_of.result c.write_digits.result
    (drop (c.args.at + c.digits_of.result) c.args.room.now) c.digits_of.ensures c.write_digits.ensures.start c.write_digits.ensures.before
    c.write_digits.ensures.written
