-- What the runs of a program reach, between ticks and inside them, and what is to hold of it in an accepted program.
use Rattle.std.specs.Prelude.{ℕ, ℤ, ◌≤◌, List, [], ◌∷◌, ◌++◌, length, true, ◌≡◌}
use Rattle.bl_tree.specs.declared.tree.StructDef.{StructDef}
use Rattle.bl_tree.specs.declared.tree.Unit.{Unit as UnitDef}
use Rattle.bl_ctree.specs.Actions.{Action}
use Rattle.bl_ctree.specs.Control.{Control, Idle, is_settled, woken}
use Rattle.bl_ctree.specs.Instances.{Setting, setting_of}
use Rattle.bl_ctree.specs.Means.{entry_items}
use Rattle.bl_ctree.specs.Steps.{IsStill}
use Rattle.bl_ctree.specs.Store.{Store, first_store, woken_store}
use Rattle.bl_ctree.specs.Ticks.{End, Rests, Steps, Tick, Paused, outcome_at}

-- a run over the rows can stand between ticks with this tree and store: each tick waited for the next one
pub data Reaches (w : Setting) : List (List ℤ) → Control → Store → Type 0 where
  at_first : Reaches w [] (Idle (entry_items w)) (first_store w)
  after_tick : {before : List (List ℤ)} {row : List ℤ} {c : Control} {store : Store} {c' : Control} {store' : Store} {rows : List (List ℤ)} →
      Reaches w before c store → Tick w row c store (Rests c' store') → outcome_at (Rests c' store') ≡ Paused → rows ≡ before ++ row ∷ [] →
      Reaches w rows c' store'

-- a run can take this list of steps, maximal or not, in the tick over the row after these rows
pub record ReachesInside (w : Setting) (rows : List (List ℤ)) (row : List ℤ) (actions : List Action) (end : End) : Type 0 where
  pub tree : Control
  pub store : Store
  pub before : Reaches w rows tree store
  pub steps : Steps w (woken tree) (woken_store row store) actions end

-- no list of steps within a tick is longer than this number: every tick ends
abbrev pub Bounded : ℕ → List StructDef → List UnitDef → ℕ → Type 0
Bounded most structs units entry =
    let w = setting_of structs units entry in
    (rows : List (List ℤ)) (row : List ℤ) (actions : List Action) (end : End) → ReachesInside w rows row actions end →
    length actions ≤ most

-- no tree that a run reaches inside a tick is stuck: where no point may act nothing is left to do
abbrev pub NeverStuck : List StructDef → List UnitDef → ℕ → Type 0
NeverStuck structs units entry =
    let w = setting_of structs units entry in
    (rows : List (List ℤ)) (row : List ℤ) (actions : List Action) (c : Control) (store : Store) →
    ReachesInside w rows row actions (Rests c store) → IsStill w c → is_settled c ≡ true
