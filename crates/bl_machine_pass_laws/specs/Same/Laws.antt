-- Where a program stands between ticks is told by its counters.
use Rattle.std.specs.Prelude.{◌≡◌, ℕ, Bool, true, false, List}
use Rattle.bl_tree.specs.declared.tree.Unit.{Unit as UnitDef}
use Rattle.bl_graph_nodes.specs.Nodes.{Node}
use Rattle.bl_graph_nodes.specs.Plain.{Block, Label, plain_body}
use Rattle.bl_ctree.specs.Instances.{Setting}
use Rattle.bl_ctree_laws.specs.Trees.{Tree, do_block, is_nil, is_settled, woken}
use Rattle.bl_ctree_laws_traces.specs.Progress.FitsGraph.{FitsGraph}
use Rattle.bl_ctree_laws_traces.specs.Progress.Places.{whole}
use Rattle.bl_machine.specs.Uses.{Slots}
use Rattle.bl_machine_laws.specs.Numbers.Numbers.{Over, numbers_of}
use Rattle.bl_machine_laws.specs.Numbers.Turns.{AnsweredDeed, Passes, Turns}
use Rattle.bl_machine_pass.specs.SlotLayout.{SlotsAreDistinct}
use Rattle.bl_machine_pass_laws.specs.Turns.Laws.{Placed}
use Rattle.bl_machine_pass_laws.specs.Same.Residual.{Calls, InstanceResidual}

-- ---- what is left of a body stays so

-- the tree with which a body begins is a residual of the body, and waking, turns and passes keep that
pub record StaysResidual : Type 0 where
  pub begins : (w : Setting) (i : ℕ) (body : Block) → InstanceResidual w i body (do_block body)
  pub wakes : (w : Setting) (i : ℕ) (body : Block) (c : Tree) → InstanceResidual w i body c → InstanceResidual w i body (woken c)
  pub turns : (w : Setting) (rank : ℕ → Node → ℕ) (i : ℕ) (body : Block) (c : Tree) (done : List AnsweredDeed) (n : Node) (c' : Tree) →
      Turns w rank i c done n c' → InstanceResidual w i body c → InstanceResidual w i body c'
  pub passes : (w : Setting) (rank : ℕ → Node → ℕ) (i k : ℕ) (body : Block) (c : Tree) (done : List AnsweredDeed) (c' : Tree) →
      Passes w rank i k c done c' → InstanceResidual w i body c → InstanceResidual w i body c'

-- ---- between ticks

-- the tree of a running instance between ticks: it is a residual of the body, has its rules and counters, and rests
pub record RestsBetweenTicks (w : Setting) (i : ℕ) (slots : Slots) (body : Block) (c : Tree) : Type 0 where
  pub left : InstanceResidual w i body c
  pub stood : Bool
  pub live : FitsGraph w i c (whole stood body)
  pub placed : Placed slots body c
  pub settled : is_settled c ≡ true
  pub unended : is_nil c ≡ false

-- the callees of a `run` that stands in both trees continue alike
abbrev pub CallAlike : Tree → Tree → Type 0
CallAlike c c' = (l : Label) (d d' : Tree) → Calls c l d → Calls c' l d' → woken d ≡ woken d'

-- two trees of an instance between ticks with the same numbers are the same once woken, if their callees' are
abbrev pub NumbersTell : Type 0
NumbersTell =
    (w : Setting) (i : ℕ) (slots : Slots) (unit : UnitDef) (c c' : Tree) → SlotsAreDistinct slots (plain_body unit.body) →
    RestsBetweenTicks w i slots (plain_body unit.body) c → RestsBetweenTicks w i slots (plain_body unit.body) c' →
    ((j : ℕ) → numbers_of slots c Over j ≡ numbers_of slots c' Over j) → CallAlike c c' → woken c ≡ woken c'

-- ---- whole programs

-- Agree w slots c c': two trees of one instance between ticks have the same numbers, and so have those of their callees
pub data Agree (w : Setting) (slots : UnitDef → Slots) : Tree → Tree → Type 0 where
  agree : {i : ℕ} {unit : UnitDef} {c c' : Tree} → SlotsAreDistinct (slots unit) (plain_body unit.body) → RestsBetweenTicks w i (slots unit) (plain_body unit.body) c →
      RestsBetweenTicks w i (slots unit) (plain_body unit.body) c' → ((j : ℕ) → numbers_of (slots unit) c Over j ≡ numbers_of (slots unit) c' Over j) →
      ((l : Label) (d d' : Tree) → Calls c l d → Calls c' l d' → Agree w slots d d') → Agree w slots c c'

-- two trees of one instance whose counters agree are the same once woken: counters determine the control state
abbrev pub CountersTell : Type 0
CountersTell = (w : Setting) (slots : UnitDef → Slots) (c c' : Tree) → Agree w slots c c' → woken c ≡ woken c'
