use Rattle.bl_ctext_semantics_laws_places.proofs.Files.{behaviour-same, clauses-same, formed-same}
use Rattle.bl_ctext_semantics_laws_places.proofs.alike.places_do_not_count.Goals as goal

pub returns-clause-clauses : goal.returns-clause-clauses
returns-clause-clauses c = clauses-same

pub returns-clause-well_formed : goal.returns-clause-well_formed
returns-clause-well_formed c = formed-same

pub returns-clause-behaviour : goal.returns-clause-behaviour
returns-clause-behaviour c = behaviour-same
