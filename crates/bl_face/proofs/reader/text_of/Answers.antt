use Rattle.bl_face.proofs.Names.{name_is_utf8}
use Rattle.bl_face.proofs.reader.text_of.Goals as goal

pub unreachable-requires : goal.unreachable-requires
unreachable-requires c = c.in-Err.ensures.cases.0 (name_is_utf8 _ c.requires)
