use Rattle.bl_machine_pass_laws_turns.proofs.OnTurns.{trees_stand}
use Rattle.bl_machine_pass_laws_turns.proofs.turns.trees_stand.Goals as goal

pub returns : goal.returns
returns c = trees_stand c.trees_stay_placed.ensures c.trees_stay_dozing.ensures c.stays_rooted.ensures c.stays_stemmed.ensures
