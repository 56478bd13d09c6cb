-- Steps of related trees: each step of the first is one of the second or a head that falls away.
use Rattle.std.specs.Prelude.{ℕ, Bool, ◌⊎◌, ◌≡◌}
use Rattle.bl_graph_nodes.specs.Nodes.{Node}
use Rattle.bl_graph_nodes.specs.Plain.{Block, Plain}
use Rattle.bl_graph_nodes.specs.Steps.{StepLabel}
use Rattle.bl_ctree.specs.Actions.{Silent}
use Rattle.bl_ctree.specs.Instances.{Setting}
use Rattle.bl_ctree_laws.specs.Pending.{Deed}
use Rattle.bl_ctree_laws.specs.Steps.{Moves, Unmet}
use Rattle.bl_ctree_laws.specs.Trees.{Tree, Idle, woken}
use Rattle.bl_ctree_laws_peeled.specs.Answers.{SameDeed}
use Rattle.bl_ctree_laws_peeled.specs.Lines.{Related}
use Rattle.bl_ctree_laws_peeled.specs.Settings.{SameProgram}
use Rattle.bl_ctree_laws_peeled.specs.Unrolls.{AnyHead, Unrolls}

-- a head falls away: the step does nothing, and what it leaves is related to the tree that doesn't move
pub record FallsAway (H : ℕ → Node → Plain → Type 0) (i : ℕ) (c' t : Tree) (d : Bool) (a : Deed) : Type 0 where
  pub answer : d ≡ Bool.true
  pub silent : a.effect ≡ Silent
  pub stays : Related H i c' t

-- the second tree takes the step too, with the same answer and deed, to a related tree
pub record StepsAlong (T : Bool → Type 0) (H : ℕ → Node → Plain → Type 0) (w' : Setting) (i : ℕ) (c' t : Tree) (d : Bool) (a : Deed) : Type 0 where
  pub deed : Deed
  pub label : StepLabel
  pub after : Tree
  pub moves : Moves T w' i t d deed label after
  pub same : SameDeed a deed
  pub stays : Related H i c' after

-- the first of two related trees can step: it does what the second does, or nothing
pub record StepsBack (w : Setting) (i : ℕ) (c : Tree) (d : Bool) (a : Deed) : Type 0 where
  pub answer : Bool
  pub deed : Deed
  pub label : StepLabel
  pub after : Tree
  pub moves : Moves Unmet w i c answer deed label after
  pub does : deed.effect ≡ Silent ⊎ SameDeed deed a

-- a step of a tree is one of each related tree, or a head that falls away
abbrev pub StepsAreRelated : Type 0
StepsAreRelated =
    (w w' : Setting) (i : ℕ) (c t : Tree) (d : Bool) (a : Deed) (n : StepLabel) (c' : Tree) → SameProgram AnyHead w w' → Related AnyHead i c t →
    Moves Unmet w i c d a n c' → FallsAway AnyHead i c' t d a ⊎ StepsAlong Unmet AnyHead w' i c' t d a

-- where the second of two related trees can step the first can
abbrev pub StillIsRelated : Type 0
StillIsRelated =
    (w w' : Setting) (i : ℕ) (c t : Tree) (d : Bool) (a : Deed) (n : StepLabel) (t' : Tree) → SameProgram AnyHead w w' → Related AnyHead i c t →
    Moves Unmet w' i t d a n t' → StepsBack w i c d a

-- whole trees that have not begun are related where their blocks are
abbrev pub IdleIsRelated : Type 0
IdleIsRelated = (i : ℕ) (body body' : Block) → Unrolls (AnyHead i) body body' → Related AnyHead i (Idle body) (Idle body')

-- related trees are woken to related trees
abbrev pub WakingIsRelated : Type 0
WakingIsRelated = (i : ℕ) (c t : Tree) → Related AnyHead i c t → Related AnyHead i (woken c) (woken t)
