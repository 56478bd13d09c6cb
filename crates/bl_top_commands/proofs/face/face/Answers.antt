-- How the command ends, and what is left of its files.
use Rattle.std.proofs.Common.{◌∷◌, map, string_bytes}
use Rattle.bl_top_commands.proofs.Cuts.{reads_sources}
use Rattle.bl_top_commands.proofs.Faces.{face_stopped, face_told}
use Rattle.bl_top_commands.proofs.face.face.Goals as goal
use Rattle.bl_rows_stream.proofs.Takings.{kept-same}

pub returns-in-Ok-clause-ends : goal.returns-in-Ok-clause-ends
returns-in-Ok-clause-ends g c = λ notes.
    face_told _ _ _ c.in-Ok.face _ _ c.in-Ok.ensures.face c.write_face.ensures.writes c.write_face.ensures.line

pub returns-in-Ok-clause-reads : goal.returns-in-Ok-clause-reads
returns-in-Ok-clause-reads g c =
    reads_sources (c.args.source.now ∷ map string_bytes c.args.faces.now) (g.F.Files.left c.args.files.now)
    (g.F.Files.left c.face_of_file.new.files) c.face_of_file.ensures.reads

pub returns-in-Err-clause-ends : goal.returns-in-Err-clause-ends
returns-in-Err-clause-ends g c = λ notes. face_stopped _ _ _ c.in-Err.fault _ c.in-Err.ensures.fault c.end_at_files.ensures (kept-same _)

pub returns-in-Err-clause-reads : goal.returns-in-Err-clause-reads
returns-in-Err-clause-reads g c =
    reads_sources (c.args.source.now ∷ map string_bytes c.args.faces.now) (g.F.Files.left c.args.files.now)
    (g.F.Files.left c.face_of_file.new.files) c.face_of_file.ensures.reads
