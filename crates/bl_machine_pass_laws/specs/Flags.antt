-- Which rules of a pass set the flag of a node.
use Rattle.std.specs.Prelude.{◌≡◌, ◌⊎◌, Contains}
use Rattle.bl_graph.specs.Edges.{EdgeAll}
use Rattle.bl_graph_nodes.specs.Nodes.{Node}
use Rattle.bl_graph_nodes.specs.Plain.{Block}
use Rattle.bl_machine.specs.Blocks.{CouldFollow}
use Rattle.bl_machine.specs.Uses.{Slots}
use Rattle.bl_machine_pass.specs.Transitions.{Change, ClearsBoth, ClearsCounter, EndsWhen, Finishes, Flagged, SetsCounter, SetsFlag, SetsMark, Transition, rules}

-- the change sets the flag of the node, or it may
abbrev pub MayFlag : Change → Node → Type 0
MayFlag (SetsFlag n) m = m ≡ n
MayFlag (SetsCounter slot) m = ⊥
MayFlag (ClearsCounter k) m = ⊥
MayFlag (ClearsBoth k) m = ⊥
MayFlag (SetsMark n) m = ⊥
MayFlag (EndsWhen start surface depth) m = (m ≡ surface) ⊎ (m ≡ depth)
MayFlag Finishes m = ⊥

-- the flag of a node that could stand in one block with the node before it is set only by the rule of that node
abbrev pub FlagsComeFromBefore : Type 0
FlagsComeFromBefore =
    (slots : Slots) (body : Block) (n m : Node) (rule : Transition) (change : Change) → CouldFollow body n m → Contains (rules slots body) rule →
    Contains rule.on_true change ⊎ Contains rule.on_false change → MayFlag change m → rule.node ≡ n

-- the rule of a node that could stand in one block with the node before it asks for its flag
abbrev pub FlagsAreAsked : Type 0
FlagsAreAsked =
    (slots : Slots) (body : Block) (n m : Node) (rule : Transition) → CouldFollow body n m → Contains (rules slots body) rule → rule.node ≡ m →
    rule.condition ≡ Flagged

-- wherever a rule may set the flag of a node, a control edge leads there
abbrev pub FlagsAreReached : Type 0
FlagsAreReached =
    (slots : Slots) (body : Block) (m : Node) (rule : Transition) (change : Change) → Contains (rules slots body) rule →
    Contains rule.on_true change ⊎ Contains rule.on_false change → MayFlag change m → (via : Node) × EdgeAll body via m
