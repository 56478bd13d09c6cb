use Rattle.bl_ctree_laws.proofs.Surfaces.{soon_is_surface}
use Rattle.bl_ctree_laws.proofs.bridge.surfaces_write_soon.Goals as goal

pub returns : goal.returns
returns c = soon_is_surface
