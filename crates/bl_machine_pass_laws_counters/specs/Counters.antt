-- Where a run of an accepted program stands between ticks is told by the numbers of its counters.
use Rattle.std.specs.Prelude.{◌≡◌, ℕ, ℤ, List, ⊤}
use Rattle.bl_tree.specs.Program.{IsWellTyped}
use Rattle.bl_cause.specs.Accepted.{AcceptedProgram, IsAccepted}
use Rattle.bl_ctree.specs.Control.{Control, Idle, woken}
use Rattle.bl_ctree.specs.Instances.{setting_of}
use Rattle.bl_ctree.specs.Reaches.{Reaches}
use Rattle.bl_ctree.specs.Store.{Store}
use Rattle.bl_ctree_laws.specs.Bridge.{plain_tree}
use Rattle.bl_ctree_laws.specs.Trees.{Tree}
use Rattle.bl_machine.specs.declared.machine.Activity.{Activity}
use Rattle.bl_machine.specs.Machines.{AreActivitiesOf}
use Rattle.bl_machine.specs.Uses.{Slots}
use Rattle.bl_machine_pass_laws_execution.specs.Frames.{Frames, FramesMatchTree}
use Rattle.bl_machine_pass_laws_execution.specs.Machines.{slots_at}

-- One choice of numbers for the counters of all instances matches both trees of the entry. The counters of an instance that neither tree calls may hold any
-- numbers
pub record SameNumbers (slots : ℕ → Slots) (c d : Tree) : Type 0 where
  pub frames : Frames
  pub first : FramesMatchTree slots frames 0 c
  pub second : FramesMatchTree slots frames 0 d

-- the tree is that of a body that has begun: it is none from before the first tick
abbrev pub HasBegun : Control → Type 0
HasBegun (Idle items) = ⊥
HasBegun _ = ⊤

-- two trees that runs of an accepted program reach, once begun, are the same when woken if they have the same numbers in a machine of the program
abbrev pub NumbersTellTrees : Type 0
NumbersTellTrees =
    (accepted : AcceptedProgram) (machine : List Activity) (rows others : List (List ℤ)) (c d : Control) (store left : Store) →
    let program = accepted.program in
    let w = setting_of program.structs program.units program.entry in
    IsWellTyped program.structs program.units program.entry → IsAccepted accepted → AreActivitiesOf program.units machine →
    Reaches w rows c store → Reaches w others d left → HasBegun c → HasBegun d → SameNumbers (slots_at w machine) (plain_tree c) (plain_tree d) →
    woken c ≡ woken d
