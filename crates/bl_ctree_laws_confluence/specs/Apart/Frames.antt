-- Whose frames and results the deeds of a body touch.
use Rattle.std.specs.Prelude.{◌≡◌, ◌⊎◌, ℕ, Contains}
use Rattle.bl_graph_nodes.specs.Plain.{Block}
use Rattle.bl_ctree.specs.Actions.{Effect}
use Rattle.bl_ctree.specs.Instances.{Setting}
use Rattle.bl_ctree_laws_confluence.specs.Deeds.Deeds.{effect_frames, effect_results}
use Rattle.bl_ctree_laws_confluence.specs.Apart.Owned.{HasEffect, IsInsideCall, SomeIn}
use Rattle.bl_ctree_laws_confluence.specs.Apart.Returns.{Returns}

-- an effect in a body changes, as a whole, only its own frame by a `return`, or the frame of a called instance
abbrev pub FramesAreOfCalls : Type 0
FramesAreOfCalls =
    (w : Setting) (i : ℕ) (body : Block) (effect : Effect) (frame : ℕ) → SomeIn (HasEffect w i effect) body → Contains (effect_frames i effect) frame →
    ((frame ≡ i) × SomeIn Returns body) ⊎ IsInsideCall w i body frame

-- a result that it looks at is that of one that it calls
abbrev pub ResultsAreOfCalls : Type 0
ResultsAreOfCalls =
    (w : Setting) (i : ℕ) (body : Block) (effect : Effect) (frame : ℕ) → SomeIn (HasEffect w i effect) body → Contains (effect_results effect) frame →
    IsInsideCall w i body frame
