-- What holds of a tree, of all that is called in it, and of their frames, before each turn of a pass.
use Rattle.std.specs.Prelude.{◌≡◌, ◌⊎◌, ℕ, Bool, true, false, Some, ⊤}
use Rattle.bl_tree.specs.declared.place.Place.{Place}
use Rattle.bl_tree.specs.declared.tree.Unit.{Unit as UnitDef}
use Rattle.bl_graph_nodes.specs.Plain.{Bodies, Body as BodyOf, Last, plain_body}
use Rattle.bl_ctree.specs.Control.{Body, Check}
use Rattle.bl_ctree.specs.Instances.{Setting, unit_at}
use Rattle.bl_ctree_laws.specs.Trees.{Tree, Trees, Nil, Wait, Test, Idle, Do, Seq, Par, Guard, Run, beside, is_nil, is_settled, no_tree, woken}
use Rattle.bl_ctree_laws_confluence.specs.Apart.Forks.{EachFork, EachForkIn, EachForkInEach}
use Rattle.bl_ctree_laws_confluence.specs.Apart.Owned.{RunsAt, SomeIn, SomeInEach, SomeOf}
use Rattle.bl_ctree_laws_confluence.specs.Apart.Running.{RunApart}
use Rattle.bl_ctree_laws_traces.specs.Progress.FitsGraph.{FitsGraph}
use Rattle.bl_ctree_laws_traces.specs.Progress.Places.{whole}
use Rattle.bl_machine.specs.Uses.{Slots}
use Rattle.bl_machine_pass_laws_turns.specs.Turns.{FitsBody}
use Rattle.bl_machine_pass_laws_execution.specs.Frames.{CallsMatchTree, Frames}

-- ---- what is called

-- a tree of an instance of the unit that rested between two ticks
pub record Rested (w : Setting) (slots : ℕ → Slots) (i : ℕ) (unit : UnitDef) (c : Tree) : Type 0 where
  pub stood : Bool
  pub lives : FitsGraph w i c (whole stood (plain_body unit.body))
  pub stands : FitsBody (slots i) (plain_body unit.body) c
  pub settled : is_settled c ≡ true
  pub unended : is_nil c ≡ false

-- the tree of a callee is woken and rested before, if its inputs are still to be copied, and else stands in its body
pub record Woken (w : Setting) (slots : ℕ → Slots) (i : ℕ) (c : Tree) : Type 0 where
  pub unit : UnitDef
  pub is : unit_at w i ≡ Some unit
  pub before : Tree
  pub rested : Rested w slots i unit before
  pub wakes : c ≡ woken before

-- a tree of a called instance that has had its pass stands in the body of its unit
pub record Passed (w : Setting) (slots : ℕ → Slots) (i : ℕ) (c : Tree) : Type 0 where
  pub unit : UnitDef
  pub is : unit_at w i ≡ Some unit
  pub stands : FitsBody (slots i) (plain_body unit.body) c

abbrev mutual
  -- each `run` in the tree, at every depth of calls, has called a tree that is woken and rested before, or stands in its body
  pub CallsRest : Setting → (ℕ → Slots) → Tree → Type 0
  CallsRest w slots Nil = ⊤
  CallsRest w slots (Wait s) = ⊤
  CallsRest w slots (Test s) = ⊤
  CallsRest w slots (Idle body) = ⊤
  CallsRest w slots (Do s) = ⊤
  CallsRest w slots (Seq c rest) = CallsRest w slots c
  CallsRest w slots (Par s stood branches) = AllCallsRest w slots branches
  CallsRest w slots (Guard s phase stood c) = CallsRest w slots c
  CallsRest w slots (Run s callee Check stood c) = Woken w slots callee c × CallsRest w slots c
  CallsRest w slots (Run s callee Body stood c) = Passed w slots callee c × CallsRest w slots c

  -- each `run` in the branches, at every depth of calls, has called a tree that is woken and rested before, or stands in its body
  pub AllCallsRest : Setting → (ℕ → Slots) → Trees → Type 0
  AllCallsRest w slots no_tree = ⊤
  AllCallsRest w slots (beside weak c branches) = CallsRest w slots c × AllCallsRest w slots branches

-- ---- branches run apart

abbrev mutual
  -- a `run` at the place is left in the tree, be it begun or not, not counting what is called
  pub RunsIn : Place → Tree → Type 0
  RunsIn place Nil = ⊥
  RunsIn place (Wait s) = ⊥
  RunsIn place (Test s) = ⊥
  RunsIn place (Idle body) = SomeIn (RunsAt place) body
  RunsIn place (Do s) = SomeOf (RunsAt place) s
  RunsIn place (Seq c rest) = RunsIn place c ⊎ SomeIn (RunsAt place) rest
  RunsIn place (Par s stood branches) = SomeInEach (RunsAt place) s.bodies ⊎ OneRunsIn place branches
  RunsIn place (Guard s phase stood c) = SomeIn (RunsAt place) s.body ⊎ RunsIn place c
  RunsIn place (Run s callee phase stood c) = s.place ≡ place

  -- a `run` at the place is left in one of the branches, begun or not
  pub OneRunsIn : Place → Trees → Type 0
  OneRunsIn place no_tree = ⊥
  OneRunsIn place (beside weak c branches) = RunsIn place c ⊎ OneRunsIn place branches

abbrev mutual
  -- no two branches of a `cobegin` in the tree, or in what it calls, run at one place. Each branch runs only what its body does
  pub RunsApart : Tree → Type 0
  RunsApart Nil = ⊤
  RunsApart (Wait s) = ⊤
  RunsApart (Test s) = ⊤
  RunsApart (Idle body) = EachForkIn RunApart body
  RunsApart (Do s) = EachFork RunApart s
  RunsApart (Seq c rest) = RunsApart c × EachForkIn RunApart rest
  RunsApart (Par s stood branches) = RunApart s.bodies × EachForkInEach RunApart s.bodies × EachRunsApart s.bodies branches
  RunsApart (Guard s phase stood c) = EachForkIn RunApart s.body × RunsApart c
  RunsApart (Run s callee phase stood c) = RunsApart c

  -- each branch runs what its body does
  pub EachRunsApart : Bodies → Trees → Type 0
  EachRunsApart bodies no_tree = ⊤
  EachRunsApart Last (beside weak c branches) = ⊥
  EachRunsApart (BodyOf weak body rest) (beside weak' c branches) =
      ((place : Place) → RunsIn place c → SomeIn (RunsAt place) body) × RunsApart c × EachRunsApart rest branches

-- ---- together

-- a tree of an instance of the unit in a pass, with the frames of all that is called
pub record Standing (w : Setting) (slots : ℕ → Slots) (i : ℕ) (unit : UnitDef) (stood : Bool) (frames : Frames) (c : Tree) : Type 0 where
  pub lives : FitsGraph w i c (whole stood (plain_body unit.body))
  pub holds : CallsMatchTree slots frames c
  pub rests : CallsRest w slots c
  pub apart : RunsApart c
