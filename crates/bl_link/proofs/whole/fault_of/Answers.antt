-- There are few texts, so the number of one has 32 bits.
use Rattle.std.proofs.Common.{arith}
use Rattle.bl_link.proofs.Joining.{file_few}
use Rattle.bl_link.proofs.whole.fault_of.Goals as goal

pub overflow_cast-result : goal.overflow_cast-result
overflow_cast-result c =
    let few = file_few c.args.joined.now c.in-Rule.place c.in_file-own.result.file c.in_file-own.result.place c.requires.few c.in_file-own.ensures in
    omega (arith, few)

pub overflow_add-result : goal.overflow_add-result
overflow_add-result c =
    let few = file_few c.args.joined.now c.in-Rule.place c.in_file-own.result.file c.in_file-own.result.place c.requires.few c.in_file-own.ensures in
    omega (arith, few)
