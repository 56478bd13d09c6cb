-- What is known of the machine, and what the file shows then.
use Rattle.bl_emit.specs.Kept.{written_in}
use Rattle.bl_emit_file.proofs.Counted.{all_countable}
use Rattle.bl_emit_file.proofs.Merged.{made_known, made_of_merged, made_spelled}
use Rattle.bl_emit_file.proofs.Whole.{file_shows}
use Rattle.bl_emit_file.proofs.c_file.Goals as goal

pub merge-requires : goal.merge-requires
merge-requires c = c.in_ok-machine.ensures.program

pub invariant_of-result : goal.invariant_of-result
invariant_of-result c =
    let program = c.args.accepted.now.program in
    let machine = c.in_ok-merged.merged in
    let made = written_in c.in_ok-made.made in
    let it = made_known c.args.accepted.now c.in_ok-machine.machine machine made c.is_accepted.ensures
    c.requires.text (all_countable c.args.accepted.now.program.units c.requires.small) c.in_ok-machine.ensures.program
    c.in_ok-merged.ensures.program c.in_ok-merged.ensures.merged c.is_machine.ensures c.written_is_told.ensures
    c.in_ok-made.ensures in
    record { spellable = made_spelled program machine.activities made (c.programs_have_spelling.ensures program machine.activities it.known) it }

pub returns-clause-shows : goal.returns-clause-shows
returns-clause-shows c =
    let program = c.args.accepted.now.program in
    let machine = c.in_ok-merged.merged in
    let made = written_in c.in_ok-made.made in
    let it = made_known c.args.accepted.now c.in_ok-machine.machine machine made c.is_accepted.ensures
    c.requires.text (all_countable c.args.accepted.now.program.units c.requires.small) c.in_ok-machine.ensures.program
    c.in_ok-merged.ensures.program c.in_ok-merged.ensures.merged c.is_machine.ensures c.written_is_told.ensures
    c.in_ok-made.ensures in
    file_shows program machine.activities made (c.programs_show.ensures program) it.known it.is

pub returns-clause-merged : goal.returns-clause-merged
returns-clause-merged c =
    let machine = c.in_ok-merged.merged in
    let made = written_in c.in_ok-made.made in
    let it = made_known c.args.accepted.now c.in_ok-machine.machine machine made c.is_accepted.ensures
    c.requires.text (all_countable c.args.accepted.now.program.units c.requires.small) c.in_ok-machine.ensures.program
    c.in_ok-merged.ensures.program c.in_ok-merged.ensures.merged c.is_machine.ensures c.written_is_told.ensures
    c.in_ok-made.ensures in
    made_of_merged c.args.accepted.now.program machine.activities made it
