-- When the rules Twice and Cycle fail for a tick graph.
use Rattle.std.specs.Prelude.{◌≡◌, ℕ, Bool, true, false, List, [], ◌∷◌, map, slice_index_or, ⊤}
use Rattle.bl_tree.specs.declared.graph.Edge.{Edge}
use Rattle.bl_graph.specs.declared.tick_graph.Graph.{Graph}
use Rattle.bl_tree.specs.declared.graph.Node.{Node}
use Rattle.bl_tree.specs.declared.graph.NodeKind.TheVariants.{Act}
use Rattle.bl_tree.specs.declared.place.Place.{Place}
use Rattle.bl_tree.specs.declared.rule.Refusal.{Refusal}
use Rattle.bl_tree.specs.declared.rule.Refusal.TheVariants as refusal
use Rattle.bl_tree.specs.declared.rule.Rule.{Rule}
use Rattle.bl_tree.specs.Rules.{AreNoLater}
use Rattle.bl_cause.specs.Walks.{ClosedWalk, controls}

-- the place of the node at the position, which is among the nodes
abbrev pub place_at : List Node → ℕ → Place
place_at nodes at = (slice_index_or nodes at (record { place = record { start = 0; end = 0 }; kind = Act })).place

-- the places of the nodes at which the edges begin
abbrev pub places_of : List Node → List Edge → List Place
places_of nodes walk = map (λ edge. place_at nodes edge.from) walk

-- a closed walk begins at the place with an edge of this kind, and the further places are those of its other nodes
pub record BeginsWalk (nodes : List Node) (edges : List Edge) (by_data : Bool) (at : Place) (also : List Place) : Type 0 where
  pub edge : Edge
  pub rest : List Edge
  pub kind : edge.by_data ≡ by_data
  pub closed : ClosedWalk edges (edge ∷ rest)
  pub at_place : at ≡ place_at nodes edge.from
  pub further : also ≡ places_of nodes rest

-- rule Twice fails for the graph: a closed walk of control edges begins at the place, and the further places are the rest of it
abbrev pub FailsTwice : Graph → Place → List Place → Type 0
FailsTwice graph = BeginsWalk graph.nodes (controls graph.edges) false

-- rule Cycle fails for the graph: a closed walk begins with a data edge, at the place of the writer
abbrev pub FailsCycle : Graph → Place → List Place → Type 0
FailsCycle graph = BeginsWalk graph.nodes graph.edges true

-- the rule fails nowhere
abbrev pub Never : (Place → List Place → Type 0) → Type 0
Never Fails = (at : Place) (also : List Place) → ¬ Fails at also

-- the rule fails at the place with the further places, and at no earlier place
abbrev pub IsFirst : (Place → List Place → Type 0) → Place → List Place → Type 0
IsFirst Fails at also = Fails at also × ((elsewhere : Place) (further : List Place) → Fails elsewhere further → AreNoLater (at ∷ []) (elsewhere ∷ []))

-- the refusal tells that this rule fails, at its first place; want of memory needs no cause
abbrev pub TellsFirst : Rule → (Place → List Place → Type 0) → Refusal → Type 0
TellsFirst rule Fails (refusal.Rule told at also) = (told ≡ rule) × IsFirst Fails at also
TellsFirst rule Fails refusal.NoMemory = ⊤
