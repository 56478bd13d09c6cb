-- No `return` stands in a branch.
use Rattle.std.specs.Prelude.{◌≡◌, ℕ, true, List, Some}
use Rattle.bl_tree.specs.declared.tree.Stmt.{Stmt}
use Rattle.bl_tree.specs.declared.tree.StructDef.{StructDef}
use Rattle.bl_tree.specs.declared.tree.Unit.{Unit as UnitDef}
use Rattle.bl_tree.specs.Program.{IsWellTyped}
use Rattle.bl_tree.specs.Returns.{is_return, returns_last_alone}
use Rattle.bl_effects.specs.Rules.{Passes}
use Rattle.bl_graph_nodes.specs.Plain.{Bodies, Plain, Position, Act, plain_block, plain_body}
use Rattle.bl_ctree.specs.Instances.{setting_of, unit_at}
use Rattle.bl_ctree_laws_confluence.specs.Apart.Forks.{EachForkIn}
use Rattle.bl_ctree_laws_confluence.specs.Apart.Owned.{SomeInEach}

-- the statement is a `return`
abbrev pub Returns : Plain → Type 0
Returns (Act l s) = is_return s ≡ true
Returns _ = ⊥

-- no `return` stands in one of the branches, at any depth
abbrev pub NoneReturns : Bodies → Type 0
NoneReturns bodies = SomeInEach Returns bodies → ⊥

-- where only the last statement of a body may be a `return` none stands in a branch of a `cobegin`
abbrev pub NoBranchReturns : Type 0
NoBranchReturns = (body : List Stmt) (at : Position) → returns_last_alone body ≡ true → EachForkIn NoneReturns (plain_block body at)

-- in an accepted program no `return` stands in a branch of a unit that has an instance
abbrev pub AcceptedReturnsLast : Type 0
AcceptedReturnsLast =
    (structs : List StructDef) (units : List UnitDef) (entry i : ℕ) (unit : UnitDef) → IsWellTyped structs units entry → Passes units →
    unit_at (setting_of structs units entry) i ≡ Some unit → EachForkIn NoneReturns (plain_body unit.body)
