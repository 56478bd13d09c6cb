-- Machines whose blocks are joined until no two neighbours could be one.
use Rattle.std.specs.Prelude.{◌≡◌, ℕ, suc, ◌-◌, List, [], ◌∷◌, Some, length, slice_get, ⊤}
use Rattle.bl_tree.specs.declared.tree.Unit.{Unit as UnitDef}
use Rattle.bl_tree.specs.Reduce.{joined}
use Rattle.bl_cause.specs.Activities.{activities}
use Rattle.bl_graph.specs.Graph.{EdgeBetween}
use Rattle.bl_machine.specs.Blocks.{CouldFollow}
use Rattle.bl_machine.specs.declared.machine.Activity.{Activity}
use Rattle.bl_graph_nodes.specs.Nodes.{nodes_in}
use Rattle.bl_graph_nodes.specs.Plain.{Block, plain_body}

-- no two neighbours could be one
abbrev pub NothingLeft : Block → List (List ℕ) → Type 0
NothingLeft body blocks =
    (k : ℕ) (one two : List ℕ) (i j : ℕ) → slice_get blocks k ≡ Some one → slice_get blocks (suc k) ≡ Some two →
    slice_get one (length one - 1) ≡ Some i → slice_get two 0 ≡ Some j → EdgeBetween (nodes_in body) (CouldFollow body) i j → ⊥

-- `to` has the nodes of `from` in the same order, with the same counters, and no two of its neighbouring blocks can be merged
pub record IsMergedFrom (unit : UnitDef) (from to : Activity) : Type 0 where
  pub nodes : joined to.blocks ≡ joined from.blocks
  pub slots : to.slots ≡ from.slots
  pub none_left : NothingLeft (plain_body unit.body) to.blocks

-- the three lists have as many elements, and those at one position are related
abbrev pub EachThree : {A B C : Type 0} → (A → B → C → Type 0) → List A → List B → List C → Type 0
EachThree R [] [] [] = ⊤
EachThree R (x ∷ xs) (y ∷ ys) (z ∷ zs) = R x y z × EachThree R xs ys zs
EachThree R _ _ _ = ⊥

-- each activity of the second list is merged from the one at its position in the first
abbrev pub AreMergedFrom : List UnitDef → List Activity → List Activity → Type 0
AreMergedFrom units from to = EachThree IsMergedFrom (activities units) from to
