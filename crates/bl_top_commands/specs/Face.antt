-- How `face` ends.
use Rattle.std.specs.Prelude.{◌≡◌, ℕ, List}
use Rattle.bl_face.specs.declared.face.Face.{Face}
use Rattle.bl_face.specs.Text.{face_text}
use Rattle.bl_io.specs.Left.{IsKept}
use Rattle.bl_module_files.specs.Judged.{BadFaceBehind, FailsBehindFiles, IsFaceOfFile, NoFaceBehind, UnreadBehind}
use Rattle.bl_top_args.specs.Jobs.{Word}
use Rattle.bl_top_commands.specs.Calls.{Call}
use Rattle.bl_top_commands.specs.Notes.{bad_face_line, line_of, no_face_line}
use Rattle.bl_top_commands.specs.Refusals.{refusal_line}
use Rattle.bl_top_commands.specs.Results.{WritesResult}
use Rattle.bl_top_commands.specs.declared.status.Status.{Status}
use Rattle.bl_top_commands.specs.declared.status.Status.TheVariants as status
use Rattle.bl_tree.specs.declared.place.Place.{Place}
use Rattle.bl_tree.specs.declared.rule.Rule.{Rule}

-- why a source has no face behind interface files, with the status and the line
pub data FaceStops (c : Call) (source : Word) (faces : List Word) : Status → List ℕ → Type 0 where
  -- this interface file is the first that is no face
  no_face : (file at : ℕ) → NoFaceBehind c.left source faces file at → FaceStops c source faces status.NotFace (no_face_line file at)
  -- this is the first face that can't stand behind those before it
  bad_face : (file : ℕ) → BadFaceBehind c.left source faces file → FaceStops c source faces status.NotFace (bad_face_line file)
  -- this is the first rule that fails for the source, and all faces stand
  refused : (rule : Rule) (place : Place) (also : List Place) → FailsBehindFiles c.left source faces rule place also →
      FaceStops c source faces status.Refused (refusal_line rule place also)
  unread : UnreadBehind c.left (λ name. (c.file name).before) (λ name. (c.file name).after) source faces →
      FaceStops c source faces status.ReadFault (line_of status.ReadFault)
  short : FaceStops c source faces status.NoMemory (line_of status.NoMemory)

-- the status with which the face of a source is told, and the lines for `notes`
pub data FaceEnds (c : Call) (source : Word) (faces : List Word) : Status → List ℕ → Type 0 where
  told : {ended : Status} (face : Face) → IsFaceOfFile c.left source faces face → WritesResult (λ text. text ≡ face_text face) c.out ended →
      FaceEnds c source faces ended (line_of ended)
  stopped : {ended : Status} {line : List ℕ} → FaceStops c source faces ended line → IsKept c.out.before c.out.after →
      FaceEnds c source faces ended line
