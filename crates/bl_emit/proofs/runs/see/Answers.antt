use Rattle.bl_machine_transitions.specs.Runs.{key_of}
use Rattle.bl_emit.proofs.SeenLemmas.{place_added}
use Rattle.bl_emit.proofs.runs.see.Goals as goal

pub returns-in-Ok-clause-seen : goal.returns-in-Ok-clause-seen
returns-in-Ok-clause-seen c q = place_added c.args.seen.now c.insert.new.self c.args.place q (c.in-Ok.ensures.updates.0 (key_of q))
