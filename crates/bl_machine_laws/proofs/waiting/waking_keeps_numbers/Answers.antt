use Rattle.bl_ctree_laws_traces.specs.Progress.Places.{whole}
use Rattle.bl_machine_laws.specs.Numbers.Numbers.{Over}
use Rattle.bl_machine_laws.proofs.OnWaiting.Waking.{numbers_woken}
use Rattle.bl_machine_laws.proofs.waiting.waking_keeps_numbers.Goals as goal

pub returns : goal.returns
returns c w i stood body slots tree counter live = numbers_woken w i (whole stood body) slots tree Over counter live
