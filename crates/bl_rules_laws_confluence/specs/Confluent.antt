-- In accepted programs all interleavings of a tick end alike.
use Rattle.std.specs.Prelude.{◌≡◌, ℕ, ℤ, List}
use Rattle.bl_ctree.specs.Control.{Control}
use Rattle.bl_ctree.specs.Instances.{setting_of}
use Rattle.bl_ctree.specs.Reaches.{Reaches}
use Rattle.bl_ctree.specs.Store.{Store}
use Rattle.bl_ctree.specs.Ticks.{End, Tick}
use Rattle.bl_rules.specs.Accepted.{HasProgram, IsOfTree}
use Rattle.bl_tree.specs.declared.program.Program.{Program}
use Rattle.bl_tree.specs.declared.tree.StructDef.{StructDef}
use Rattle.bl_tree.specs.declared.tree.Unit.{Unit as UnitDef}

-- two ticks over one row, from a tree and a store that a run reaches, have one end: both trap, or both leave one tree and one store
abbrev pub TicksEndAlike : List StructDef → List UnitDef → ℕ → Type 0
TicksEndAlike structs units entry =
    let w = setting_of structs units entry in
    (rows : List (List ℤ)) (row : List ℤ) (c : Control) (store : Store) (end other : End) →
    Reaches w rows c store → Tick w row c store end → Tick w row c store other → end ≡ other

-- all interleavings of a tick end alike in the program of a tree in which no rule fails
abbrev pub ProgramsAreConfluent : Type 0
ProgramsAreConfluent = (program : Program) → IsOfTree program → TicksEndAlike program.structs program.units program.entry

-- all interleavings of a tick end alike in the program of a text in which no rule fails
abbrev pub TextsAreConfluent : Type 0
TextsAreConfluent = (text : List ℕ) (program : Program) → HasProgram text program →
    TicksEndAlike program.structs program.units program.entry
