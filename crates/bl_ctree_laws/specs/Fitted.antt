-- Trees of typed programs: what of them is to begin is typed, so each `if` has an arm.
use Rattle.std.specs.Prelude.{ℕ, ℤ, true, List, map, Some, ◌≡◌}
use Rattle.bl_tree.specs.declared.tree.Stmt.{Stmt}
use Rattle.bl_tree.specs.declared.tree.Unit.{Unit as UnitDef}
use Rattle.bl_tree.specs.Reduce.{all_of}
use Rattle.bl_tree.specs.Typing.{TypingContext, fits}
use Rattle.bl_ctree.specs.Actions.{Action}
use Rattle.bl_ctree.specs.Control.{Control}
use Rattle.bl_ctree.specs.Instances.{Setting, unit_at}
use Rattle.bl_ctree.specs.Reaches.{ReachesInside}
use Rattle.bl_ctree.specs.Store.{Store}
use Rattle.bl_ctree.specs.Ticks.{Rests}
use Rattle.bl_ctree_laws.specs.Laws.{Armed}

-- a site at which all statements of the block may stand
pub record BlockFits (body : List Stmt) : Type 0 where
  pub site : TypingContext
  pub each : all_of (map (fits site) body) ≡ true

-- the body of each unit that has an instance is typed
abbrev pub Fitted : Setting → Type 0
Fitted w = (i : ℕ) (unit : UnitDef) → unit_at w i ≡ Some unit → BlockFits unit.body

-- where bodies are typed runs reach trees alone in which each `if` that is to begin has an arm
abbrev pub ReachedIsArmed : Type 0
ReachedIsArmed =
    (w : Setting) (rows : List (List ℤ)) (row : List ℤ) (actions : List Action) (c : Control) (store : Store) → Fitted w →
    ReachesInside w rows row actions (Rests c store) → Armed c
