-- Functions with other bodies.
use Rattle.std.specs.Prelude.{◌≡◌, true, List}
use Rattle.std.specs.List.{list_all}
use Rattle.bl_tree.specs.declared.c.CFunc.{CFunc}
use Rattle.bl_tree.specs.declared.c.CStmt.{CStmt}
use Rattle.bl_tree.specs.declared.c.CStruct.{CStruct}
use Rattle.bl_simplify_laws.specs.Rules.{Facts}
use Rattle.bl_simplify_laws.specs.Tables.{has_name, owns}
use Rattle.bl_simplify_laws_frames.specs.Reached.{Frame, SameFunctionIn, frame_fits, frame_for, framed_names, takes_frame}

-- a function has this body, and the name, the parameters and the result of another one
pub record HasBody (old : CFunc) (made : List CStmt) (new : CFunc) : Type 0 where
  pub name : old.name ≡ new.name
  pub params : old.params ≡ new.params
  pub result : old.result ≡ new.result
  pub body : new.body ≡ made

-- a function takes a frame of which these facts are told, where frames are as they have to be
pub record TakesFrame (structs : List CStruct) (frames : List Frame) (reached : Facts) (f : CFunc) : Type 0 where
  pub fit : list_all (frame_fits structs frames) frames ≡ true
  pub own : owns (framed_names frames) f ≡ true
  pub named : has_name (framed_names frames) f.name ≡ true
  pub first : takes_frame (frame_for frames f.name) f.params ≡ true
  pub told : (frame_for frames f.name).reached ≡ reached

-- a function has the name, the parameters and the result of another one, and does the same where this takes a frame of which the facts are told
pub record DoesAs (reached : Facts) (old new : CFunc) : Type 0 where
  pub name : old.name ≡ new.name
  pub params : old.params ≡ new.params
  pub result : old.result ≡ new.result
  pub same : (structs : List CStruct) (frames : List Frame) → TakesFrame structs frames reached old → SameFunctionIn frames old new
