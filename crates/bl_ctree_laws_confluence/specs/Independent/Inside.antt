-- The frames and results that deeds touch are of instances inside the deed's own.
use Rattle.std.specs.Prelude.{◌⊎◌, ℕ, Bool, Contains}
use Rattle.bl_graph_nodes.specs.Steps.{StepLabel}
use Rattle.bl_ctree.specs.Instances.{Setting}
use Rattle.bl_ctree_laws.specs.Pending.{Deed}
use Rattle.bl_ctree_laws.specs.Steps.{Anyway, Moves}
use Rattle.bl_ctree_laws.specs.Trees.{Tree}
use Rattle.bl_ctree_laws_confluence.specs.Deeds.Deeds.{effect_frames, effect_results}
use Rattle.bl_ctree_laws_confluence.specs.Deeds.Nesting.{Inside}
use Rattle.bl_ctree_laws_confluence.specs.Apart.Seen.{CallsMatchCallees}

-- where calls stand a frame that a deed changes as a whole, or whose result it looks at, is that of its instance or inside
abbrev pub FramesAreInside : Type 0
FramesAreInside =
    (w : Setting) (i : ℕ) (c : Tree) (d : Bool) (a : Deed) (n : StepLabel) (c' : Tree) (frame : ℕ) → CallsMatchCallees w i c → Moves Anyway w i c d a n c' →
    Contains (effect_frames a.instance a.effect) frame ⊎ Contains (effect_results a.effect) frame → Inside w a.instance frame
