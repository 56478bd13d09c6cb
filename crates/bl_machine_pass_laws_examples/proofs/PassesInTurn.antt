-- The ticks of the worked examples, one after another.
use Rattle.bl_machine_pass_laws_examples.specs.Laws.{PassesOfRows}
use Rattle.bl_machine_pass_laws_examples.proofs.PassesAlone.{aborting_begins, aborting_ends, blinking_again, blinking_begins, blinking_goes_on, fields_begin}
use Rattle.bl_machine_pass_laws_examples.proofs.PassesAlone.{fields_go_on, resetting_begins, resetting_goes_on, resetting_resets, two_branches_begin}
use Rattle.bl_machine_pass_laws_examples.proofs.PassesAlone.{two_branches_go_on, weakly_begins, weakly_ends, weakly_goes_on}
use Rattle.bl_machine_pass_laws_examples.proofs.PassesCalling.{calling_begins, calling_goes_on}

pub passes : PassesOfRows
passes = record {
  blinking = (blinking_begins, (blinking_goes_on, (blinking_again, (blinking_goes_on, tt))));
  two_branches = (two_branches_begin, (two_branches_go_on, tt));
  fields = (fields_begin, (fields_go_on, tt));
  calling = (calling_begins, (calling_goes_on, (calling_goes_on, tt)));
  aborting = (aborting_begins, (aborting_ends, tt));
  resetting = (resetting_begins, (resetting_goes_on, (resetting_resets, (resetting_goes_on, tt))));
  weakly = (weakly_begins, (weakly_goes_on, (weakly_ends, tt)));
}
