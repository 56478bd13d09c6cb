-- Trees that are left of a body as it is written: a statement that has begun, and behind it the statements that follow it in the body.
use Rattle.std.specs.Prelude.{◌≡◌, ◌⊎◌, ℕ, Bool, Some, ⊤}
use Rattle.bl_graph_nodes.specs.Plain.{Act, Again, Await, Block, Bodies, Body as BodyOf, Cobegin, Done, If, Label, Last, Plain, Repeat, Run as RunOf, Then}
use Rattle.bl_graph_nodes.specs.Plain.{Until, When, While}
use Rattle.bl_ctree.specs.Control.{Phase}
use Rattle.bl_ctree.specs.Instances.{Setting, callee_of}
use Rattle.bl_ctree_laws.specs.Steps.{call, fork, pause, watch}
use Rattle.bl_ctree_laws.specs.Trees.{Tree, Trees, Nil, Wait, Test, Idle, Do, Seq, Par, Guard, Run, before, beside, followed, no_tree}

-- ---- what is left of a body

abbrev mutual
  -- BegunResidual w i s c: the statement has begun in the instance, has not ended, and leaves the tree. After a turn of a loop its test or the loop follows; a
  -- `run` has begun the instance of its place
  pub BegunResidual : Setting → ℕ → Plain → Tree → Type 0
  BegunResidual w i (Act l s) c = ⊥
  BegunResidual w i (Await l at e) c = (c ≡ Wait (pause l at e)) ⊎ (c ≡ Test (pause l at e))
  BegunResidual w i (RunOf l at target a inputs outputs) c =
      (callee : ℕ) × (phase : Phase) × (stood : Bool) × (d : Tree) × (callee_of w i at ≡ Some callee)
      × (c ≡ Run (call l at target a inputs outputs) callee phase stood d)
  BegunResidual w i (If l at e body other) c = InstanceResidualIn w i body Done c ⊎ InstanceResidualIn w i other Done c
  BegunResidual w i (Cobegin l at bodies) c =
      (stood : Bool) × (branches : Trees) × (c ≡ Par (fork l at bodies) stood branches) × InstanceResidualEach w i bodies branches
  BegunResidual w i (When l at guard e body) c =
      (phase : Phase) × (stood : Bool) × (d : Tree) × (c ≡ Guard (watch l at guard e body) phase stood d) × ((d ≡ Nil) ⊎ InstanceResidualIn w i body Done d)
  BegunResidual w i (Repeat l at body) c = InstanceResidualIn w i body (Then (Repeat l at body) Done) c
  BegunResidual w i (Until l at body e) c = InstanceResidualIn w i body (Then (Again l at body e) Done) c ⊎ (c ≡ Do (Again l at body e))
  BegunResidual w i (While l at e body) c = InstanceResidualIn w i body (Then (While l at e body) Done) c
  BegunResidual w i (Again l at body e) c = InstanceResidualIn w i body (Then (Again l at body e) Done) c ⊎ (c ≡ Do (Until l at body e))

  -- InstanceResidualIn w i body after c: the tree is the residual of a statement of the block, begun or not, before the statements behind it and what follows
  -- the block
  pub InstanceResidualIn : Setting → ℕ → Block → Block → Tree → Type 0
  InstanceResidualIn w i Done after c = ⊥
  InstanceResidualIn w i (Then s rest) after c = ((part : Tree) × ((part ≡ Do s) ⊎ BegunResidual w i s part) × (c ≡ followed part (before rest after)))
      ⊎ InstanceResidualIn w i rest after c

  -- each branch has ended, or leaves the residual of its body
  pub InstanceResidualEach : Setting → ℕ → Bodies → Trees → Type 0
  InstanceResidualEach w i Last no_tree = ⊤
  InstanceResidualEach w i Last (beside weak c branches) = ⊥
  InstanceResidualEach w i (BodyOf weak body rest) no_tree = ⊥
  InstanceResidualEach w i (BodyOf weak body rest) (beside weak' c branches) =
      (weak ≡ weak') × ((c ≡ Nil) ⊎ InstanceResidualIn w i body Done c) × InstanceResidualEach w i rest branches

-- the statement is to begin, or the tree is its residual
abbrev pub InstanceResidualOf : Setting → ℕ → Plain → Tree → Type 0
InstanceResidualOf w i s c = (c ≡ Do s) ⊎ BegunResidual w i s c

-- the tree of an instance has ended, or is left of the body
abbrev pub InstanceResidual : Setting → ℕ → Block → Tree → Type 0
InstanceResidual w i body c = (c ≡ Nil) ⊎ InstanceResidualIn w i body Done c

-- ---- what is called

abbrev mutual
  -- Calls c l d: a `run` with the label stands in the tree, and d is what is left of the body that it has called
  pub Calls : Tree → Label → Tree → Type 0
  Calls Nil l d = ⊥
  Calls (Wait s) l d = ⊥
  Calls (Test s) l d = ⊥
  Calls (Idle body) l d = ⊥
  Calls (Do s) l d = ⊥
  Calls (Seq c rest) l d = Calls c l d
  Calls (Par s stood branches) l d = OneCalls branches l d
  Calls (Guard s phase stood c) l d = Calls c l d
  Calls (Run s callee phase stood c) l d = (s.label ≡ l) × (c ≡ d)

  -- OneCalls branches l d: a `run` with the label stands in a branch, and d is the residual of the body that it has called
  pub OneCalls : Trees → Label → Tree → Type 0
  OneCalls no_tree l d = ⊥
  OneCalls (beside weak c branches) l d = Calls c l d ⊎ OneCalls branches l d
