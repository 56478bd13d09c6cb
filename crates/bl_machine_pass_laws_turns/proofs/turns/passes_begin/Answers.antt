use Rattle.bl_machine_pass_laws_turns.proofs.OnTurns.{passes_begin}
use Rattle.bl_machine_pass_laws_turns.proofs.turns.passes_begin.Goals as goal

pub returns : goal.returns
returns c = passes_begin c.counters_linger.ensures c.trees_stay_placed.ensures c.bodies_begin.ensures c.marks_begin.ensures c.resumes_begin.ensures
    c.only_resumes_begin.ensures c.waking_keeps_numbers.ensures
