-- What may be left of a body is kept by steps and by waking.
use Rattle.std.specs.Prelude.{ℕ, Bool, true}
use Rattle.bl_graph_nodes.specs.Plain.{Block}
use Rattle.bl_graph_nodes.specs.Steps.{StepLabel}
use Rattle.bl_ctree.specs.Instances.{Setting}
use Rattle.bl_ctree_laws.specs.Residual.{PlainResidual, PlainResidualTree}
use Rattle.bl_ctree_laws.specs.Pending.{Deed}
use Rattle.bl_ctree_laws.specs.Steps.{Anyway, Moves}
use Rattle.bl_ctree_laws.specs.Trees.{Tree, do_block, woken}

-- a block that begins is left of itself
abbrev pub BlocksArePlainResidual : Type 0
BlocksArePlainResidual = (w : Setting) (stood : Bool) (i : ℕ) (body : Block) → PlainResidual w stood i body (do_block body)

-- a step keeps what is left of a block, whatever stands beside
abbrev pub StepsKeepPlainResidual : Type 0
StepsKeepPlainResidual =
    (w : Setting) (stood : Bool) (i : ℕ) (body : Block) (c : Tree) (d : Bool) (a : Deed) (n : StepLabel) (c' : Tree) →
    PlainResidual w stood i body c → Moves Anyway w i c d a n c' → PlainResidual w stood i body c'

-- waking a whole residual tree leaves a residual in which everything has stood
abbrev pub WakingKeepsPlainResidual : Type 0
WakingKeepsPlainResidual = (w : Setting) (body : Block) (c : Tree) → PlainResidualTree w body c → PlainResidual w true 0 body (woken c)
