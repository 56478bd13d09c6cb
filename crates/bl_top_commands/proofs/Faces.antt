-- How `face` ends.
use Rattle.std.proofs.Common.{◌≡◌, ℕ, List, inl, inr}
use Rattle.bl_face.specs.declared.face.Face.{Face}
use Rattle.bl_face.specs.Text.{face_text}
use Rattle.bl_io.specs.Left.{IsKept}
use Rattle.bl_module.specs.declared.fault.PartFault.{PartFault}
use Rattle.bl_module.specs.declared.fault.PartFault.TheVariants as part
use Rattle.bl_module_files.specs.declared.fault.FilesFault.{FilesFault}
use Rattle.bl_module_files.specs.declared.fault.FilesFault.TheVariants as files
use Rattle.bl_module_files.specs.Judged.{FilesStop, HasNoPart, IsFaceOfFile}
use Rattle.bl_top_args.specs.Jobs.{Word}
use Rattle.bl_top_commands.specs.Calls.{Call}
use Rattle.bl_top_commands.specs.Face.{FaceEnds, FaceStops, bad_face, no_face, refused, short, stopped, told, unread}
use Rattle.bl_top_commands.specs.inner.Outcomes.{IsEndAtFiles, IsEndAtPart, chosen_line, line_in}
use Rattle.bl_top_commands.specs.Notes.{line_of}
use Rattle.bl_top_commands.specs.Results.{WritesResult}
use Rattle.bl_top_commands.specs.declared.outcome.Outcome.{Outcome}
use Rattle.bl_top_commands.specs.declared.status.Status.{Status}
use Rattle.bl_top_commands.specs.declared.status.Status.TheVariants as status

module _ (c : Call) (source : Word) (faces : List Word) where
  pub face_told : (face : Face) (ended : Status) (line : List ℕ) → IsFaceOfFile c.left source faces face →
      WritesResult (λ text. text ≡ face_text face) c.out ended → line ≡ line_of ended → FaceEnds c source faces ended line
  face_told face ended line is writes same = rw same (told face is writes)

  stops_short : (ended : Status) (own : List ℕ) → ended ≡ status.NoMemory → FaceStops c source faces ended (chosen_line ended own)
  stops_short ended own none = rw none short

  part_stops : (fault : PartFault) (outcome : Outcome) → HasNoPart c.left source faces fault → IsEndAtPart fault outcome →
      FaceStops c source faces outcome.status (line_in outcome)
  part_stops (part.BadFace file) outcome bad by = elim by [
    | inl is ↦ rw (is.0, is.1) (bad_face file bad)
    | inr none ↦ stops_short outcome.status outcome.line.items none
  ]
  part_stops (part.Rule rule place also) outcome fails by = elim by [
    | inl is ↦ rw (is.0, is.1) (refused rule place also fails)
    | inr none ↦ stops_short outcome.status outcome.line.items none
  ]
  part_stops part.NoMemory outcome why by = stops_short outcome.status outcome.line.items by

  files_stop : (fault : FilesFault) (outcome : Outcome) →
      FilesStop c.left (λ name. (c.file name).before) (λ name. (c.file name).after) source faces fault → IsEndAtFiles fault outcome →
      FaceStops c source faces outcome.status (line_in outcome)
  files_stop files.Unread outcome why by = rw by (unread why)
  files_stop (files.NotFace file at) outcome why by = elim by [
    | inl is ↦ rw (is.0, is.1) (no_face file at why)
    | inr none ↦ stops_short outcome.status outcome.line.items none
  ]
  files_stop (files.NoPart fault) outcome why by = part_stops fault outcome why by
  files_stop files.NoMemory outcome why by = stops_short outcome.status outcome.line.items by

  pub face_stopped : (fault : FilesFault) (outcome : Outcome) →
      FilesStop c.left (λ name. (c.file name).before) (λ name. (c.file name).after) source faces fault → IsEndAtFiles fault outcome →
      IsKept c.out.before c.out.after → FaceEnds c source faces outcome.status (line_in outcome)
  face_stopped fault outcome why by kept = stopped (files_stop fault outcome why by) kept
