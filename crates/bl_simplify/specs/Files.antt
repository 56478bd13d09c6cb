-- Lists of functions, of which each stands for the one that stands there in another list.
use Rattle.std.specs.Prelude.{◌≡◌, true, List, [], ◌∷◌}
use Rattle.std.specs.List.{list_all}
use Rattle.bl_tree.specs.declared.c.CFunc.{CFunc}
use Rattle.bl_tree.specs.declared.c.CStruct.{CStruct}
use Rattle.bl_simplify.specs.Simplified.{OneInterface}
use Rattle.bl_simplify_laws_frames.specs.Reached.{Frame, KeepsFrames, SameFunctionIn, frame_fits}

-- a function has the interface of another one, and does the same where frames are as they have to be and that one keeps them so
pub record IsNewOf (frames : List Frame) (old new : CFunc) : Type 0 where
  pub interface : OneInterface old new
  pub same : (structs : List CStruct) → list_all (frame_fits structs frames) frames ≡ true → KeepsFrames frames old → SameFunctionIn frames old new

-- each function stands for the one that stands there in the first list
abbrev pub AreNewOf : List Frame → List CFunc → List CFunc → Type 0
AreNewOf frames [] [] = Unit {0}
AreNewOf frames (old ∷ olds) (new ∷ news) = IsNewOf frames old new × AreNewOf frames olds news
AreNewOf frames [] (new ∷ news) = ⊥
AreNewOf frames (old ∷ olds) [] = ⊥
