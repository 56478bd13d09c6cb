-- The deed of each point is that of its node.
use Rattle.std.proofs.Common.{◌≡◌, ℕ, Bool, true, false, refl}
use Rattle.bl_graph_nodes.specs.Nodes.{Node}
use Rattle.bl_graph_nodes.specs.Plain.{Label}
use Rattle.bl_tree.specs.declared.place.Place.{Place}
use Rattle.bl_graph_nodes.specs.Steps.{end_node, join_node}
use Rattle.bl_ctree.specs.Actions.{Silent}
use Rattle.bl_ctree.specs.Instances.{Setting}
use Rattle.bl_ctree_laws.specs.Pending.{Deed, deed}
use Rattle.bl_ctree_laws.specs.Trees.{Tree}
use Rattle.bl_machine_laws.specs.Numbers.Turns as turns
use Rattle.bl_machine_laws.specs.Numbers.Turns.{InstancePoint}
use Rattle.bl_machine_pass_laws_execution.specs.Executes.{IsPoint, deed_at}

end_of : (i : ℕ) (stood : Bool) (l : Label) (at : Place) → (deed i at Silent ≡ deed_at i (end_node stood l at)) × IsPoint (end_node stood l at)
end_of i true l at = (refl, tt)
end_of i false l at = (refl, tt)

join_of : (i : ℕ) (stood : Bool) (l : Label) (at : Place) → (deed i at Silent ≡ deed_at i (join_node stood l at))
    × IsPoint (join_node stood l at)
join_of i true l at = (refl, tt)
join_of i false l at = (refl, tt)

pub points_are_of_nodes : {w : Setting} {i : ℕ} {c : Tree} {d : Bool} {a : Deed} {n : Node} {c' : Tree} → InstancePoint w i c d a n c' →
    (a ≡ deed_at i n) × IsPoint n
points_are_of_nodes turns.acts = (refl, tt)
points_are_of_nodes turns.takes = (refl, tt)
points_are_of_nodes turns.passes = (refl, tt)
points_are_of_nodes turns.pauses = (refl, tt)
points_are_of_nodes turns.repeats = (refl, tt)
points_are_of_nodes turns.repeats_until = (refl, tt)
points_are_of_nodes turns.leaves = (refl, tt)
points_are_of_nodes turns.turns = (refl, tt)
points_are_of_nodes turns.enters = (refl, tt)
points_are_of_nodes turns.skips = (refl, tt)
points_are_of_nodes turns.forks = (refl, tt)
points_are_of_nodes turns.guards = (refl, tt)
points_are_of_nodes turns.goes_on = (refl, tt)
points_are_of_nodes turns.waits = (refl, tt)
points_are_of_nodes turns.lets = (refl, tt)
points_are_of_nodes (turns.aborts is) = (refl, tt)
points_are_of_nodes (turns.resets is) = (refl, tt)
points_are_of_nodes {i = i} (turns.guard_ends {s = s} {stood = stood}) = end_of i stood s.label s.place
points_are_of_nodes {i = i} (turns.joins {s = s} {stood = stood} settled done) = join_of i stood s.label s.place
