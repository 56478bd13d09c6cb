use Rattle.bl_machine_pass_laws_execution.proofs.OnMachines.{machines_give_contexts}
use Rattle.bl_machine_pass_laws_execution.proofs.machines.machines_give_contexts.Goals as goal

pub returns : goal.returns
returns c =
    machines_give_contexts c.accepted_programs_are_orderly.ensures c.machines_give_orders.ensures c.numbers_are_laid.ensures
    c.typed_have_branches.ensures
