-- What comes of the files, and what is left of them.
use Rattle.std.proofs.Common.{List, map, string_bytes, subst}
use Rattle.bl_face.specs.declared.face.Face.{Face}
use Rattle.bl_module.specs.declared.taken.Taken.TheVariants.{AsMarked}
use Rattle.bl_module.specs.Parts.{IsGoodBehind, PartStops}
use Rattle.bl_module_files.proofs.Sizes.{face_of_files, faces_stop, part_stops}
use Rattle.bl_module_files.proofs.Turns.{further_read, one_further, text_of, was_read}
use Rattle.bl_module_files.proofs.judged.face_of_file.Goals as goal

pub returns-in-Err-clause-reads : goal.returns-in-Err-clause-reads
returns-in-Err-clause-reads g c =
    one_further c.args.source.now (map string_bytes c.args.names.now) (g.F.Files.left c.args.files.now) (g.F.Files.left c.read_up_to.new.files)
    c.in-Err.ensures.err c.read_up_to.ensures.others

pub returns-in-Err-faces_of-clause-fault : goal.returns-in-Err-faces_of-clause-fault
returns-in-Err-faces_of-clause-fault g c =
    faces_stop (g.F.Files.left c.args.files.now) (g.F.Files.left c.read_up_to.new.files) c.args.source.now
    (text_of (g.F.Files.left c.args.files.now c.args.source.now) c.in-Ok.text.items) (map string_bytes c.args.names.now)
    (g.F.Files.faults c.args.files.now) (g.F.Files.faults c.read_up_to.new.files) (g.F.Files.faults c.faces_of.new.files) c.in-Err-faces_of.fault
    (was_read c.args.source.now c.in-Ok.text.items (g.F.Files.left c.args.files.now) (g.F.Files.left c.read_up_to.new.files) c.in-Ok.ensures.front
    c.read_up_to.ensures.others)
    c.read_up_to.ensures.counts c.in-Err-faces_of.ensures.fault

pub returns-in-Err-faces_of-clause-reads : goal.returns-in-Err-faces_of-clause-reads
returns-in-Err-faces_of-clause-reads g c = (
  g.F.Files.left c.read_up_to.new.files,
  further_read (g.F.Files.left c.args.files.now c.args.source.now) c.in-Ok.text.items (g.F.Files.left c.read_up_to.new.files c.args.source.now)
      c.in-Ok.ensures.front,
  c.read_up_to.ensures.others,
  c.faces_of.ensures.reads,
)

pub returns-in-Ok-face_behind-clause-face : goal.returns-in-Ok-face_behind-clause-face
returns-in-Ok-face_behind-clause-face g c =
    face_of_files (g.F.Files.left c.args.files.now) c.args.source.now c.in-Ok.text.items (map string_bytes c.args.names.now)
    (g.F.Files.left c.read_up_to.new.files) (g.F.Files.left c.faces_of.new.files) c.in-Ok-faces_of.uses.items c.in-Ok.ensures.front
    (was_read c.args.source.now c.in-Ok.text.items (g.F.Files.left c.args.files.now) (g.F.Files.left c.read_up_to.new.files) c.in-Ok.ensures.front
    c.read_up_to.ensures.others)
    c.in-Ok-faces_of.ensures.faces c.in-Ok-face_behind.face
    (subst (λ text. IsGoodBehind c.in-Ok-faces_of.uses.items AsMarked text c.in-Ok-face_behind.face) c.deref.ensures.value
    (subst (λ (uses : List Face). IsGoodBehind uses AsMarked c.deref.result.now c.in-Ok-face_behind.face) c.deref-2.ensures.value
    c.in-Ok-face_behind.ensures.good))

pub returns-in-Ok-face_behind-clause-reads : goal.returns-in-Ok-face_behind-clause-reads
returns-in-Ok-face_behind-clause-reads g c = (
  g.F.Files.left c.read_up_to.new.files,
  further_read (g.F.Files.left c.args.files.now c.args.source.now) c.in-Ok.text.items (g.F.Files.left c.read_up_to.new.files c.args.source.now)
      c.in-Ok.ensures.front,
  c.read_up_to.ensures.others,
  c.faces_of.ensures.reads,
)

pub returns-clause-fault : goal.returns-clause-fault
returns-clause-fault g c =
    part_stops (g.F.Files.left c.args.files.now) c.args.source.now c.in-Ok.text.items (map string_bytes c.args.names.now)
    (g.F.Files.left c.read_up_to.new.files) (g.F.Files.left c.faces_of.new.files) c.in-Ok-faces_of.uses.items c.in-Ok.ensures.front
    (was_read c.args.source.now c.in-Ok.text.items (g.F.Files.left c.args.files.now) (g.F.Files.left c.read_up_to.new.files) c.in-Ok.ensures.front
    c.read_up_to.ensures.others)
    c.in-Ok-faces_of.ensures.faces c.in-Err-face_behind.fault
    (subst (λ text. PartStops c.in-Ok-faces_of.uses.items AsMarked text c.in-Err-face_behind.fault) c.deref.ensures.value
    (subst (λ (uses : List Face). PartStops uses AsMarked c.deref.result.now c.in-Err-face_behind.fault) c.deref-2.ensures.value
    c.in-Err-face_behind.ensures.fault))

pub returns-clause-reads : goal.returns-clause-reads
returns-clause-reads g c = (
  g.F.Files.left c.read_up_to.new.files,
  further_read (g.F.Files.left c.args.files.now c.args.source.now) c.in-Ok.text.items (g.F.Files.left c.read_up_to.new.files c.args.source.now)
      c.in-Ok.ensures.front,
  c.read_up_to.ensures.others,
  c.faces_of.ensures.reads,
)
