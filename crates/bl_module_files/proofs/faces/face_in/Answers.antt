-- What was read of the file, and what is left of it.
use Rattle.std.proofs.Common.{refl, subst}
use Rattle.bl_face.specs.declared.fault.FaceFault.{FaceFault}
use Rattle.bl_face.specs.Reading.{IsFaceFault, NotFaceAt, ReadsAs}
use Rattle.bl_module_files.proofs.Turns.{face_read, further_read, no_face_read}
use Rattle.bl_module_files.proofs.faces.face_in.Goals as goal

pub returns-in-Ok-read_face-clause-face : goal.returns-in-Ok-read_face-clause-face
returns-in-Ok-read_face-clause-face g c =
    face_read c.args.name.now c.in-Ok.text.items c.in-Ok-read_face.face (g.F.Files.left c.args.files.now) (g.F.Files.left c.read_up_to.new.files)
    c.in-Ok.ensures.front c.read_up_to.ensures.others
    (subst (λ text. ReadsAs text c.in-Ok-read_face.face) c.deref.ensures.value c.in-Ok-read_face.ensures.face)

pub returns-in-Ok-read_face-clause-further : goal.returns-in-Ok-read_face-clause-further
returns-in-Ok-read_face-clause-further g c =
    further_read (g.F.Files.left c.args.files.now c.args.name.now) c.in-Ok.text.items (g.F.Files.left c.read_up_to.new.files c.args.name.now)
    c.in-Ok.ensures.front

pub returns-in-Err-NotFace-clause-fault : goal.returns-in-Err-NotFace-clause-fault
returns-in-Err-NotFace-clause-fault g c = (
  refl,
  no_face_read (g.F.Files.left c.args.files.now c.args.name.now) c.in-Ok.text.items (g.F.Files.left c.read_up_to.new.files c.args.name.now)
      c.in-Err-NotFace.at c.in-Ok.ensures.front (subst (λ text. NotFaceAt text c.in-Err-NotFace.at) c.deref.ensures.value
      (subst (λ (told : FaceFault). IsFaceFault c.deref.result.now told) c.in-Err-NotFace.field-0-is c.in-Err-NotFace.ensures.fault)),
)

pub returns-in-Err-NotFace-clause-further : goal.returns-in-Err-NotFace-clause-further
returns-in-Err-NotFace-clause-further g c =
    further_read (g.F.Files.left c.args.files.now c.args.name.now) c.in-Ok.text.items (g.F.Files.left c.read_up_to.new.files c.args.name.now)
    c.in-Ok.ensures.front

pub returns-clause-further : goal.returns-clause-further
returns-clause-further g c =
    further_read (g.F.Files.left c.args.files.now c.args.name.now) c.in-Ok.text.items (g.F.Files.left c.read_up_to.new.files c.args.name.now)
    c.in-Ok.ensures.front
