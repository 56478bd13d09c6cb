-- Where ticks are bounded each of them comes to an end, and so there is a trace.
use Rattle.std.specs.Prelude.{◌≡◌, ℕ, ℤ, List}
use Rattle.bl_tree.specs.declared.row.Trace.{Trace}
use Rattle.bl_tree.specs.declared.tree.StructDef.{StructDef}
use Rattle.bl_tree.specs.declared.tree.Unit.{Unit as UnitDef}
use Rattle.bl_ctree.specs.Actions.{Action}
use Rattle.bl_ctree.specs.Control.{Control}
use Rattle.bl_ctree.specs.Instances.{Setting, setting_of}
use Rattle.bl_ctree.specs.Means.{Means, ShownTrace, shown_trace}
use Rattle.bl_ctree.specs.Reaches.{Bounded, NeverStuck, Reaches, ReachesInside}
use Rattle.bl_ctree.specs.Store.{Store}
use Rattle.bl_ctree.specs.Ticks.{End, Maximal, Rests, Tick}

-- a maximal list of steps from a tree and a store, and where it leads
pub record ExtendsToMaximal (w : Setting) (c : Control) (store : Store) : Type 0 where
  pub rest : List Action
  pub end : End
  pub maximal : Maximal w c store rest end

-- where ticks are bounded every list of steps that a run can take in a tick goes on to a maximal one
abbrev pub BoundedExtend : Type 0
BoundedExtend =
    (most : ℕ) (structs : List StructDef) (units : List UnitDef) (entry : ℕ) → Bounded most structs units entry →
    let w = setting_of structs units entry in
    (rows : List (List ℤ)) (row : List ℤ) (actions : List Action) (c : Control) (store : Store) →
    ReachesInside w rows row actions (Rests c store) → ExtendsToMaximal w c store

-- a tick over the row, and how it ends
pub record HasTick (w : Setting) (row : List ℤ) (c : Control) (store : Store) : Type 0 where
  pub end : End
  pub tick : Tick w row c store end

-- a program with bounded ticks has a tick over each row from each tree that a run reaches
abbrev pub BoundedHaveTicks : Type 0
BoundedHaveTicks =
    (most : ℕ) (structs : List StructDef) (units : List UnitDef) (entry : ℕ) → Bounded most structs units entry →
    let w = setting_of structs units entry in
    (rows : List (List ℤ)) (row : List ℤ) (c : Control) (store : Store) → Reaches w rows c store → HasTick w row c store

-- what the meaning of a program allows over the rows
pub record HasMeaning (structs : List StructDef) (units : List UnitDef) (entry : ℕ) (rows : List (List ℤ)) : Type 0 where
  pub shows : ShownTrace
  pub means : Means structs units entry rows shows

-- a program with bounded ticks has a trace over every list of rows
abbrev pub BoundedHaveMeanings : Type 0
BoundedHaveMeanings =
    (most : ℕ) (structs : List StructDef) (units : List UnitDef) (entry : ℕ) → Bounded most structs units entry →
    (rows : List (List ℤ)) → HasMeaning structs units entry rows

-- what is shown is a trace: none of its ticks is stuck
pub record IsTrace (shows : ShownTrace) : Type 0 where
  pub trace : Trace
  pub is : shows ≡ shown_trace trace

-- where no tick is stuck the meaning allows traces alone
abbrev pub UnstuckShowTraces : Type 0
UnstuckShowTraces =
    (structs : List StructDef) (units : List UnitDef) (entry : ℕ) → NeverStuck structs units entry →
    (rows : List (List ℤ)) (shows : ShownTrace) → Means structs units entry rows shows → IsTrace shows
