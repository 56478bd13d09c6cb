-- What tells the nodes and the resting places of a body apart, and the numbers of these by the labels of their statements, from a list in source
-- order.
use Rattle.std.specs.Prelude.{ℕ, suc, Bool, false, ◌&&◌, List, [], ◌∷◌, bytes_eq, map, nat_eq, slice_get, unwrap_or, if◌then◌else◌}
use Rattle.bl_tree.specs.Reduce.{greatest}
use Rattle.bl_graph_nodes.specs.Nodes.{ActAt, CheckAt, DepthEndAt, DepthJoinAt, EnterAt, ForkAt, HeadAt, Node, PauseAt, ResumeAt, StartAt, SurfaceEndAt}
use Rattle.bl_graph_nodes.specs.Nodes.{SurfaceJoinAt, TestAt, label_of}
use Rattle.bl_graph_nodes.specs.Plain.{Block, Label}
use Rattle.bl_machine.specs.declared.slots.Slot.{Slot}
use Rattle.bl_machine.specs.Blocks.{up_to}
use Rattle.bl_machine.specs.Slots.{counters_at, times}
use Rattle.bl_machine.specs.Uses.{Slots}
use Rattle.bl_machine_pass.specs.SlotLayout.{EndOf, RestOf, Spot, spots_in}

-- whether two labels are one
abbrev pub same_label : Label → Label → Bool
same_label l m = bytes_eq l.position m.position && nat_eq l.passed m.passed

-- ---- nodes

-- the number of a node's sort, its constructor
abbrev pub sort : Node → ℕ
sort (ActAt l s) = 0
sort (TestAt l at e) = 1
sort (PauseAt l at) = 2
sort (EnterAt l at arguments) = 3
sort (ResumeAt l at arguments) = 4
sort (HeadAt l at) = 5
sort (StartAt l at) = 6
sort (CheckAt l at e) = 7
sort (SurfaceEndAt l at) = 8
sort (DepthEndAt l at) = 9
sort (ForkAt l at) = 10
sort (SurfaceJoinAt l at) = 11
sort (DepthJoinAt l at) = 12

-- whether two nodes of a body are one: they have one label and are of one sort
abbrev pub same_node : Node → Node → Bool
same_node n m = same_label (label_of n) (label_of m) && nat_eq (sort n) (sort m)

-- ---- resting places

-- whether two resting places are one
abbrev pub same_spot : Spot → Spot → Bool
same_spot (RestOf l) (RestOf m) = same_label l m
same_spot (EndOf l j) (EndOf m k) = same_label l m && nat_eq j k
same_spot (RestOf l) (EndOf m k) = false
same_spot (EndOf l j) (RestOf m) = false

-- the position of the first element for which this is true; the length where there is none
abbrev pub position_where : {X : Type 0} → (X → Bool) → List X → ℕ
position_where test [] = 0
position_where test (x ∷ rest) = if test x then 0 else suc (position_where test rest)

-- the number of no place
abbrev pub no_slot : Slot
no_slot = record { counter = 0; value = 0 }

-- the number of a place in a list, by its position among the places
abbrev pub slot_for : List Slot → List Spot → Spot → Slot
slot_for list spots spot = unwrap_or (slice_get list (position_where (same_spot spot) spots)) no_slot

-- the numbers of a body's resting places, where the list has them in source order
abbrev pub slots_of : Block → List Slot → Slots
slots_of body list = record {
  rest = λ l. slot_for list (spots_in body) (RestOf l);
  ending = λ l k. slot_for list (spots_in body) (EndOf l k);
}

-- how many places there are at each counter, up to the greatest one
abbrev pub sizes_for : List ℕ → List ℕ
sizes_for [] = []
sizes_for (k ∷ rest) = map (λ j. times j (k ∷ rest)) (up_to (suc (greatest (k ∷ rest))))

-- how many values each counter has, up to the greatest one
abbrev pub sizes_of : List Slot → List ℕ
sizes_of list = sizes_for (counters_at list)
