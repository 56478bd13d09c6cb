use Rattle.bl_emit_spec_laws.proofs.OnWithin.Passing.{all_stay}
use Rattle.bl_emit_spec_laws.proofs.within.passes_stay_within.Goals as goal

pub returns : goal.returns
returns c = all_stay c.accepted_programs_are_orderly.ensures c.spots_differ.ensures
