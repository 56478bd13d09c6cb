-- No two branches of one `cobegin` write paths that overlap.
use Rattle.std.specs.Prelude.{◌≡◌, ℕ, false, List, ◌++◌, map, Contains, Some, ⊤}
use Rattle.bl_tree.specs.declared.static_path.Static.{Static}
use Rattle.bl_tree.specs.declared.tree.StructDef.{StructDef}
use Rattle.bl_tree.specs.declared.tree.Unit.{Unit as UnitDef}
use Rattle.bl_tree.specs.Effects.{target_static, writes}
use Rattle.bl_tree.specs.Program.{IsWellTyped}
use Rattle.bl_tree.specs.Static.{overlaps, static_of}
use Rattle.bl_effects.specs.Rules.{Passes}
use Rattle.bl_graph_nodes.specs.Plain.{Bodies, Plain, Act, Body as BodyOf, Last, Run as RunOf, plain_body}
use Rattle.bl_ctree.specs.Instances.{setting_of, unit_at}
use Rattle.bl_ctree_laws_confluence.specs.Apart.Forks.{EachForkIn}
use Rattle.bl_ctree_laws_confluence.specs.Apart.Owned.{SomeIn, SomeInEach}

-- the statement writes the path: by an act or a declaration, or as an output or the target of a `run`
abbrev pub StatementWrites : Static → Plain → Type 0
StatementWrites path (Act l s) = Contains (writes s) path
StatementWrites path (RunOf l at target a inputs outputs) = Contains (target_static target ++ map static_of outputs) path
StatementWrites path _ = ⊥

-- no path that a branch writes overlaps one that another branch writes
abbrev pub WriteApart : Bodies → Type 0
WriteApart Last = ⊤
WriteApart (BodyOf weak body rest) =
    ((path other : Static) → SomeIn (StatementWrites path) body → SomeInEach (StatementWrites other) rest → overlaps path other ≡ false) × WriteApart rest

-- in an accepted program branches of a `cobegin` in a unit that has an instance write no overlapping paths
abbrev pub AcceptedWritesApart : Type 0
AcceptedWritesApart =
    (structs : List StructDef) (units : List UnitDef) (entry i : ℕ) (unit : UnitDef) → IsWellTyped structs units entry → Passes units →
    unit_at (setting_of structs units entry) i ≡ Some unit → EachForkIn WriteApart (plain_body unit.body)
