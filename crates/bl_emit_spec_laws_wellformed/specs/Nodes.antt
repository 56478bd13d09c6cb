-- What the nodes of a typed program's activities do fits where it stands.
use Rattle.std.specs.Prelude.{◌≡◌, ℕ, Bool, true, ◌&&◌, List, [], ◌∷◌, take, Some, slice_get}
use Rattle.std.specs.List.{list_all}
use Rattle.bl_tree.specs.declared.tree.StructDef.{StructDef}
use Rattle.bl_tree.specs.declared.tree.Unit.{Unit as UnitDef}
use Rattle.bl_tree.specs.Program.{IsWellTyped}
use Rattle.bl_tree.specs.Typing.{TypingContext, site_of}
use Rattle.bl_graph_nodes.specs.Nodes.{Node, nodes_in}
use Rattle.bl_graph_nodes.specs.Plain.{plain_body}
use Rattle.bl_emit_spec.specs.Activities.{Activity, activity_view, body_of, callees_in, rules_at}
use Rattle.bl_emit_spec_laws_wellformed.specs.Spelled.{all_fit, node_fits, rule_fits}

-- whether what is done at each of these nodes fits where it stands, and is nested at most 200 deep, each with the activity that it calls
abbrev pub nodes_fit : TypingContext → List ℕ → List Node → Bool
nodes_fit site [] nodes = true
nodes_fit site callees [] = true
nodes_fit site (a ∷ callees) (n ∷ nodes) = node_fits site a n && nodes_fit site callees nodes

-- what is done at each node of a unit fits where it stands, in every typed program
abbrev pub NodesStand : List StructDef → List UnitDef → ℕ → Type 0
NodesStand structs units entry =
    (k : ℕ) (unit : UnitDef) → IsWellTyped structs units entry → slice_get units k ≡ Some unit →
    nodes_fit (site_of structs (take k units) unit) (callees_in (plain_body unit.body)) (nodes_in (plain_body unit.body)) ≡ true

-- the rules and nodes of an activity fit where the numbers of its resting places do
abbrev pub RulesFit : List StructDef → List UnitDef → ℕ → Type 0
RulesFit structs units entry =
    (k : ℕ) (a : Activity) → IsWellTyped structs units entry → a.structs ≡ structs → a.earlier ≡ take k units →
    slice_get units k ≡ Some a.unit →
    list_all (rule_fits a.sizes) (rules_at a) ≡ true →
    all_fit a.sizes (activity_view a).site (callees_in (body_of a)) (rules_at a) ≡ true
