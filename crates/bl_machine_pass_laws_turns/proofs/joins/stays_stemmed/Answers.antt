use Rattle.bl_machine_pass_laws_turns.proofs.OnJoins.Stemming.{stays_stemmed}
use Rattle.bl_machine_pass_laws_turns.proofs.joins.stays_stemmed.Goals as goal

pub returns : goal.returns
returns c = stays_stemmed
