use Rattle.std.proofs.Common.{drop}
use Rattle.bl_ctext_places.specs.Names.{HasNames}
use Rattle.bl_ctext_semantics.specs.inner.Maps.{text_at}
use Rattle.bl_simplify_laws_frames.specs.Reached.{framed_names}
use Rattle.bl_simplify_frames.specs.Told.{as_frames}
use Rattle.bl_simplify_frames.proofs.decide.names_of.Given as goal

abbrev pub invariant-loop-k : goal.invariant-loop-k
invariant-loop-k l = HasNames (text_at l.framed) (framed_names (as_frames (drop l.k l.frames)))
