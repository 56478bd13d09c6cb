-- Bodies name what their statements do, and declare what they declare.
use Rattle.std.specs.Prelude.{◌≡◌, ℕ, true, nat_eq, List, [], map}
use Rattle.std.specs.List.{list_any}
use Rattle.bl_tree.specs.declared.tree.Stmt.{Stmt}
use Rattle.bl_tree.specs.Apart.{Roots, naming_of, roots_in, target_roots, together}
use Rattle.bl_tree.specs.Reduce.{joined}
use Rattle.bl_graph_nodes.specs.Plain.{Position, plain_block}
use Rattle.bl_ctree.specs.Actions.{Effect, Silent, Acts, Asks, Copies, Gives}
use Rattle.bl_ctree.specs.Instances.{Setting}
use Rattle.bl_ctree_laws_confluence.specs.Apart.Owned.{HasEffect, SomeIn}

-- the variable is in the list
abbrev pub OneOf : ℕ → Roots → Type 0
OneOf k roots = list_any (nat_eq k) roots ≡ true

-- the variables of its own instance that an effect names
abbrev pub effect_roots : Effect → Roots
effect_roots Silent = []
effect_roots (Acts s) = (naming_of s).named
effect_roots (Asks e) = roots_in e
effect_roots (Copies callee inputs) = joined (map roots_in inputs)
effect_roots (Gives callee target) = target_roots target

-- what an effect of a statement in the body names the body names
abbrev pub BodiesNameWhatTheyDo : Type 0
BodiesNameWhatTheyDo =
    (w : Setting) (i : ℕ) (body : List Stmt) (at : Position) (effect : Effect) (k : ℕ) → SomeIn (HasEffect w i effect) (plain_block body at) →
    OneOf k (effect_roots effect) → OneOf k (together (map naming_of body)).named

-- the variables of its own instance that an effect declares
abbrev pub effect_declares : Effect → Roots
effect_declares (Acts s) = (naming_of s).declared
effect_declares _ = []

-- what an effect of a statement in the body declares the body declares
abbrev pub BodiesDeclareWhatTheyDo : Type 0
BodiesDeclareWhatTheyDo =
    (w : Setting) (i : ℕ) (body : List Stmt) (at : Position) (effect : Effect) (k : ℕ) → SomeIn (HasEffect w i effect) (plain_block body at) →
    OneOf k (effect_declares effect) → OneOf k (together (map naming_of body)).declared
