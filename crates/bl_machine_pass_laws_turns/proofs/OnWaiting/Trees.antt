-- What waits and sleeps in trees that begin.
use Rattle.std.proofs.Common.{◌≡◌, inl, inr, ℕ, Bool, true, false, Option, Some, refl}
use Rattle.bl_tree.proofs.Basics.{and_first, and_second, true_false_any}
use Rattle.bl_graph_nodes.specs.Nodes.{Node, entry}
use Rattle.bl_graph_nodes.specs.Plain.{Block, Bodies, Body as BodyOf, Done, Last, Plain, Then}
use Rattle.bl_ctree.specs.Control.{Body, Check}
use Rattle.bl_ctree.specs.Instances.{Setting}
use Rattle.bl_ctree_laws.specs.Steps.{turn}
use Rattle.bl_ctree_laws.specs.Trees.{Tree, Trees, Nil, Wait, Test, Idle, Do, Seq, Par, Guard, Run, are_settled, beside, do_block, is_nil}
use Rattle.bl_ctree_laws.specs.Trees.{is_settled, no_tree, seq}
use Rattle.bl_ctree_laws_traces.specs.Progress.FitsGraph.{AllFitGraph, FitsGraph}
use Rattle.bl_ctree_laws_traces.specs.Progress.Places.{Place, in_branch}
use Rattle.bl_machine_laws.specs.Numbers.Waiting.{Is, SomeWaits, Waits, first_in}
use Rattle.bl_machine_laws.proofs.OnWaiting.Quiet.{quiet_branch}

-- ---- blocks

pub waits_block : (body : Block) (nx : Option Node) (y : Node) → Is (first_in body nx) y → Waits (do_block body) nx y
waits_block Done nx y h = h
waits_block (Then s Done) nx y h = h
waits_block (Then s (Then t rest)) nx y h = h

-- the first node of a turn of a loop
pub turn_first : (body : Block) (next : Plain) (nx : Option Node) → first_in body (Some (entry next)) ≡ first_in (turn body next) nx
turn_first Done next nx = refl
turn_first (Then s rest) next nx = refl

-- ---- what follows

-- what holds of a block that begins, and of a tree before it, holds of the tree that it follows
pub seq_by : (P : Tree → Tree → Type 0) (s : Plain) (rest : Block) → P Nil (do_block (Then s rest)) →
    ((c : Tree) → P c (Seq c (Then s rest))) → (c : Tree) →
    P c (seq c (Then s rest))
seq_by P s rest begins stands Nil = begins
seq_by P s rest begins stands (Wait p) = stands (Wait p)
seq_by P s rest begins stands (Test p) = stands (Test p)
seq_by P s rest begins stands (Idle body) = stands (Idle body)
seq_by P s rest begins stands (Do p) = stands (Do p)
seq_by P s rest begins stands (Seq c after) = stands (Seq c after)
seq_by P s rest begins stands (Par p stood branches) = stands (Par p stood branches)
seq_by P s rest begins stands (Guard p phase stood c) = stands (Guard p phase stood c)
seq_by P s rest begins stands (Run p callee phase stood c) = stands (Run p callee phase stood c)

pub waits_seq : (c : Tree) (s : Plain) (rest : Block) (nx : Option Node) (y : Node) → Waits c (Some (entry s)) y → Waits (seq c (Then s rest)) nx y
waits_seq c s rest nx y h =
    seq_by (λ t d. Waits t (Some (entry s)) y → Waits d nx y) s rest (λ k. waits_block (Then s rest) nx y k) (λ t k. k) c h

-- ---- what has not ended

-- it waits for nothing of what follows
pub unended_waits : (w : Setting) (i : ℕ) (g : Place) (c : Tree) (nx other : Option Node) (y : Node) → FitsGraph w i c g → is_nil c ≡ false →
    Waits c nx y →
    Waits c other y
unended_waits w i g Nil nx other y live unended h = true_false_any true refl unended
unended_waits w i g (Wait s) nx other y live unended h = h
unended_waits w i g (Test s) nx other y live unended h = h
unended_waits w i g (Idle body) nx other y live unended h = h
unended_waits w i g (Do s) nx other y live unended h = h
unended_waits w i g (Seq c Done) nx other y live unended h = absurd live
unended_waits w i g (Seq c (Then s rest)) nx other y live unended h = h
unended_waits w i g (Par s stood branches) nx other y live unended h = h
unended_waits w i g (Guard s Body stood c) nx other y live unended h = h
unended_waits w i g (Guard s Check stood c) nx other y live unended h = h
unended_waits w i g (Run s callee Body stood c) nx other y live unended h = h
unended_waits w i g (Run s callee Check stood c) nx other y live unended h = h

-- branches that are settled wait for nothing
pub branches_quiet : (w : Setting) (i : ℕ) (g : Place) (stood : Bool) (branches : Trees) (bodies : Bodies) (y : Node) →
    AllFitGraph w i branches bodies stood g →
    are_settled branches ≡ true → SomeWaits branches y → ⊥
branches_quiet w i g stood no_tree bodies y live settled h = h
branches_quiet w i g stood (beside weak c branches) Last y live settled h = live
branches_quiet w i g stood (beside weak c branches) (BodyOf weak' body rest) y live settled (inl h) =
    quiet_branch w i (in_branch stood body g) c y live.0 (and_first (is_settled c) (are_settled branches) settled) h
branches_quiet w i g stood (beside weak c branches) (BodyOf weak' body rest) y live settled (inr h) =
    branches_quiet w i g stood branches rest y live.2 (and_second (is_settled c) (are_settled branches) settled) h
