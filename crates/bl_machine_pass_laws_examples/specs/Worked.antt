-- Worked examples: a body, the trees between its ticks, and what is told of them.
use Rattle.std.specs.List.{list_all}
use Rattle.std.specs.Prelude.{◌≡◌, ℕ, Bool, true, List, [], ◌∷◌, None, length, map, nat_lt, pos, slice_get, unwrap_or, ⊤}
use Rattle.bl_tree.specs.declared.scalar.Scalar.TheVariants.{Bool as OfBool}
use Rattle.bl_tree.specs.declared.tree.Expr.{Expr}
use Rattle.bl_tree.specs.declared.tree.ExprKind.TheOpen.{ExprKind-F}
use Rattle.bl_tree.specs.declared.tree.Stmt.{Stmt, out-Stmt}
use Rattle.bl_graph_nodes.specs.Nodes.{Node, nodes_in}
use Rattle.bl_graph_nodes.specs.Plain.{Block}
use Rattle.bl_ctree.specs.Actions.{Acts, Asks, Silent}
use Rattle.bl_ctree.specs.Instances.{Setting}
use Rattle.bl_ctree_laws.specs.Pending.{deed}
use Rattle.bl_ctree_laws.specs.Trees.{Tree, is_settled, woken}
use Rattle.bl_machine.specs.declared.slots.Slot.{Slot}
use Rattle.bl_machine.specs.Blocks.{up_to}
use Rattle.bl_machine.specs.Layout.{counters_in, width_in}
use Rattle.bl_machine.specs.Slots.{numbered_slots}
use Rattle.bl_machine_laws.specs.Numbers.Numbers.{Over, numbers_of}
use Rattle.bl_machine_laws.specs.Numbers.Turns.{AnsweredDeed, Passes, did}
use Rattle.bl_machine_pass.specs.Numbered.{position_where, same_node, slots_of}
use Rattle.bl_ctree_laws_examples.specs.Trees.Made.{at, expr}

-- `false`
abbrev pub never : Expr
never = expr (ExprKind-F.Literal (pos 0) OfBool)

-- a program with one instance and no other requirement
abbrev pub alone : Setting
alone = record { structs = []; units = []; instances = record { unit = 0; depth = 0; origin = None } ∷ [] }

-- ---- numbers

-- the numbers of a body's resting places, in source order
abbrev pub places : Block → List Slot
places body = numbered_slots (counters_in body 0)

-- the number of a resting place, by its counter and its value
abbrev pub slot : ℕ → ℕ → Slot
slot counter value = record { counter = counter; value = value }

-- what the counters of the body hold where the tree stands in it, in the order of counters
abbrev pub held : Block → Tree → List ℕ
held body c = map (numbers_of (slots_of body (places body)) c Over) (up_to (width_in body))

-- the resting places of a body have these numbers, and its counters hold these values in these trees, in which nothing is left to do
pub record WorkedExample (body : Block) (numbers : List Slot) (trees : List Tree) (values : List (List ℕ)) : Type 0 where
  pub slots : places body ≡ numbers
  pub counters : map (held body) trees ≡ values
  pub settled : map is_settled trees ≡ map (λ c. true) trees

-- ---- ticks

-- the numbers of nodes that stand in these orders, one for each instance
abbrev pub ranked : List (List Node) → ℕ → Node → ℕ
ranked orders i n = position_where (same_node n) (unwrap_or (slice_get orders i) [])

-- all nodes of the body stand in the order, and nothing else does
pub record Lists (order : List Node) (body : Block) : Type 0 where
  pub all : list_all (λ n. nat_lt (position_where (same_node n) order) (length order)) (nodes_in body) ≡ true
  pub as_many : length order ≡ length (nodes_in body)

-- one pass a tick leads from the tree to each of these trees in turn, with these deeds
abbrev pub Ticks : Setting → List (List Node) → Tree → List (List AnsweredDeed) → List Tree → Type 0
Ticks w orders c [] [] = ⊤
Ticks w orders c (done ∷ later) (after ∷ others) = Passes w (ranked orders) 0 0 (woken c) done after × Ticks w orders after later others
Ticks w orders c _ _ = ⊥

-- ---- deeds

-- the statement acts
abbrev pub act : ℕ → Stmt → List AnsweredDeed
act i s = did (deed i (out-Stmt s).place (Acts s)) true

-- the statement at the place begins, pauses or ends
abbrev pub still : ℕ → ℕ → List AnsweredDeed
still i place = did (deed i (at place) Silent) true

-- the condition of the statement at the place has this answer
abbrev pub asked : ℕ → ℕ → Expr → Bool → List AnsweredDeed
asked i place e answer = did (deed i (at place) (Asks e)) answer
