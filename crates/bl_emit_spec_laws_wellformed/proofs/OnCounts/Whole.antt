-- The law of a whole program.
use Rattle.std.proofs.Common.{◌≡◌, ℕ, List, [], ◌∷◌, take}
use Rattle.bl_tree.specs.declared.tree.StructDef.{StructDef}
use Rattle.bl_tree.specs.declared.tree.Unit.{Unit as UnitDef}
use Rattle.bl_tree.specs.Typing.{fits, site_of}
use Rattle.bl_emit_acts_laws_wellformed.proofs.OnFormed.Units.{body_stands}
use Rattle.bl_emit_spec_laws_wellformed.specs.Counts.{NodesCounted}
use Rattle.bl_emit_spec_laws_wellformed.proofs.OnCounts.Counts.{body-few}
use Rattle.bl_eval.proofs.UnitFits.{all_listed}

pub counted : (structs : List StructDef) (units : List UnitDef) (entry : ℕ) → NodesCounted structs units entry
counted structs units entry k unit keeps there =
    let few = body-few (site_of structs (take k units) unit) unit.body
    (all_listed (fits (site_of structs (take k units) unit)) unit.body (body_stands structs units entry keeps k unit there)) in
    record { nodes = few.low; places = few.rests }
