use Rattle.bl_face_laws.proofs.Printed.{printed_is_read}
use Rattle.bl_face_laws.proofs.laws.a_printed_face_is_read.Goals as goal

pub returns : goal.returns
returns c = printed_is_read
