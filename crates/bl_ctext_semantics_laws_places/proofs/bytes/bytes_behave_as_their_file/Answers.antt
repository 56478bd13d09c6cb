use Rattle.bl_ctext_semantics_laws_places.proofs.Texts.{each_behaves, formed_alike, one_behaviour}
use Rattle.bl_ctext_semantics_laws_places.proofs.bytes.bytes_behave_as_their_file.Goals as goal

pub returns-clause-well_formed : goal.returns-clause-well_formed
returns-clause-well_formed c = formed_alike

pub returns-clause-each : goal.returns-clause-each
returns-clause-each c = each_behaves

pub returns-clause-one : goal.returns-clause-one
returns-clause-one c = one_behaviour
