-- What holds of a tree, of a store and of the copies of an instance's variables before each turn of a pass.
use Rattle.std.specs.Prelude.{◌≡◌, ℕ, List, length, option_map, slice_get}
use Rattle.bl_tree.specs.declared.static_path.Static.{Static}
use Rattle.bl_tree.specs.declared.tree.Unit.{Unit as UnitDef}
use Rattle.bl_tree.specs.declared.value.Value.{Value}
use Rattle.bl_ctree.specs.Instances.{Setting}
use Rattle.bl_ctree.specs.Store.{Store, home, vars_at, view_at}
use Rattle.bl_ctree_laws.specs.Trees.{Tree}
use Rattle.bl_ctree_laws_confluence.specs.Deeds.Nesting.{Inside}
use Rattle.bl_ctree_laws_confluence.specs.Stores.{before_of}
use Rattle.bl_machine_pass_laws_execution.specs.Fresh.Asks.{Asks, DueIn, IsAmongVariables}
use Rattle.bl_machine_pass_laws_execution.specs.Fresh.Fresh.{Framed, Fresh, locals}

-- the copies hold what the known variables were before, and the tree asks for no others
pub record Senses (w : Setting) (i : ℕ) (unit : UnitDef) (known : List ℕ) (store : Store) (copies : List Value) (c : Tree) : Type 0 where
  pub framed : Framed w store
  pub behind : (x : ℕ) → IsAmongVariables known x → IsAmongVariables (locals unit) x
  pub hold : (x : ℕ) → IsAmongVariables known x → slice_get copies x ≡ slice_get (view_at w store i).before x
  pub long : length copies ≡ length (vars_at w i)
  pub asks : Asks w i unit known c
  -- calls whose inputs are still to be copied haven't been touched
  pub fresh : (j : ℕ) → DueIn w c j → Fresh w store j

-- what an instance does to a store
pub record InstanceChanges (w : Setting) (i : ℕ) (store left : Store) : Type 0 where
  -- frames are unchanged that are neither inside the instance nor hold a home of its paths
  pub apart : (j : ℕ) → (Inside w i j → ⊥) →
      ((path : Static) → (home w (record { instance = i; path = path })).instance ≡ j → ⊥) →
      slice_get left j ≡ slice_get store j
  -- values before the tick are unchanged in all frames that aren't inside the instance
  pub before : (j : ℕ) → (Inside w i j → ⊥) → option_map before_of (slice_get left j) ≡ option_map before_of (slice_get store j)
