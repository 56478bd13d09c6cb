-- Frames that are as the laws ask, and functions that keep them so.
use Rattle.std.specs.Prelude.{◌≡◌, List, [], ◌∷◌, All, Option, codes}
use Rattle.bl_tree.specs.declared.c.CFunc.{CFunc}
use Rattle.bl_tree.specs.declared.c.CStruct.{CStruct}
use Rattle.bl_tree.specs.declared.text.Text.{Text}
use Rattle.bl_ctext_places.specs.Names.{HasNames}
use Rattle.bl_simplify_laws_frames.specs.Reached.{Frame, FramesOfFile, KeepsFrames, framed_names}

-- a function keeps frames as they have to be, where a table has the names of those that take one first
abbrev pub KeepsWhereNamed : {V : Type 0} → (Text → Option V) → List Frame → CFunc → Type 0
KeepsWhereNamed table frames f = HasNames table (framed_names frames) → KeepsFrames frames f

-- two frames are those of the start and of the tick
pub record AreOfState (init ticking : Frame) : Type 0 where
  pub tick : ticking.struct ≡ codes "bl_state"
  pub parts : init.parts ≡ ticking.parts
  pub untold_init : init.reached ≡ [] ∷ []
  pub untold_tick : ticking.reached ≡ [] ∷ []

-- frames are as the laws ask in a file, and its functions keep them so
pub record AreFrames (structs : List CStruct) (frames : List Frame) (functions : List CFunc) : Type 0 where
  pub file : FramesOfFile structs frames
  pub kept : All (KeepsFrames frames) functions
