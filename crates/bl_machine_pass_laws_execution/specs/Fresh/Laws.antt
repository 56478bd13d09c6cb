-- What deeds leave of what variables were, and what turns leave of what a tree asks for.
use Rattle.std.specs.Prelude.{◌≡◌, ◌≤◌, ℕ, ℤ, Bool, List, [], ◌++◌, length, option_map, slice_get, Some, ⊤}
use Rattle.bl_tree.specs.declared.place.Place.{Place}
use Rattle.bl_tree.specs.declared.static_path.Static.{Static}
use Rattle.bl_tree.specs.declared.tree.Stmt.{Stmt}
use Rattle.bl_tree.specs.declared.tree.StructDef.{StructDef}
use Rattle.bl_tree.specs.declared.tree.Unit.{Unit as UnitDef}
use Rattle.bl_tree.specs.Program.{IsWellTyped}
use Rattle.bl_graph_nodes.specs.Nodes.{Node}
use Rattle.bl_graph_nodes.specs.Plain.{Block, Plain, Then, plain_body}
use Rattle.bl_machine_prevs.specs.Declared.{FromText, declared_in, prevs_at}
use Rattle.bl_ctree.specs.Actions.{Acts, Copies, Effect}
use Rattle.bl_ctree.specs.Instances.{Setting, setting_of, unit_at}
use Rattle.bl_ctree.specs.Store.{Store, first_store, home, view_at, woken_store}
use Rattle.bl_ctree_laws.specs.Pending.{Deed, deed}
use Rattle.bl_ctree_laws.specs.Trees.{Tree, do_block, seq, woken}
use Rattle.bl_ctree_laws_confluence.specs.Stores.{before_of}
use Rattle.bl_machine_laws.specs.Numbers.Turns.{InstancePoint}
use Rattle.bl_machine_laws.specs.Passes.Follows.{DeedYields}
use Rattle.bl_machine_pass_laws_execution.specs.Fresh.Asks.{Asks, BlockAsks, DueIn, InputsFit, IsAmongVariables, declared_at, next_declared}
use Rattle.bl_machine_pass_laws_execution.specs.Fresh.Fresh.{Framed, Fresh, arity, locals}

-- ---- deeds

-- the effect copies inputs to the instance
abbrev pub CopiesTo : Effect → ℕ → Type 0
CopiesTo (Copies callee inputs) j = j ≡ callee
CopiesTo _ j = ⊥

-- the inputs that an effect copies fit before the variables that the callee's body declares
abbrev pub CopiesFit : Setting → Effect → Type 0
CopiesFit w (Copies callee inputs) = (other : UnitDef) → unit_at w callee ≡ Some other → InputsFit (length inputs) other
CopiesFit w _ = ⊤

-- the variables that the effect declares
abbrev pub effect_declared : Effect → List ℕ
effect_declared (Acts s) = declared_in s
effect_declared _ = []

-- a deed of an instance, done in a store
pub record DeedsAreSeen : Type 0 where
  -- the deed leaves all frames but its own, those with homes of its paths, and the one to which it copies inputs
  pub others : (w : Setting) (i j : ℕ) (at : Place) (effect : Effect) (store : Store) (d : Bool) (left : Store) →
      DeedYields w (deed i at effect) store d left → (j ≡ i → ⊥) → (CopiesTo effect j → ⊥) →
      ((path : Static) → (home w (record { instance = i; path = path })).instance ≡ j → ⊥) → slice_get left j ≡ slice_get store j
  -- the deed leaves the values before the tick in all frames but its own
  pub before : (w : Setting) (i j : ℕ) (at : Place) (effect : Effect) (store : Store) (d : Bool) (left : Store) →
      DeedYields w (deed i at effect) store d left → (j ≡ i → ⊥) →
      option_map before_of (slice_get left j) ≡ option_map before_of (slice_get store j)
  -- the deed leaves in its own frame the values before the tick of all variables that it doesn't declare
  pub own : (w : Setting) (i x : ℕ) (unit : UnitDef) (at : Place) (effect : Effect) (store : Store) (d : Bool) (left : Store) →
      unit_at w i ≡ Some unit → DeedYields w (deed i at effect) store d left → IsAmongVariables (locals unit) x →
      (IsAmongVariables (effect_declared effect) x → ⊥) →
      slice_get (view_at w left i).before x ≡ slice_get (view_at w store i).before x
  -- a variable that the deed declares has its new value as the value before the tick, too
  pub declared : (w : Setting) (i x : ℕ) (unit : UnitDef) (at : Place) (s : Stmt) (store : Store) (d : Bool) (left : Store) →
      unit_at w i ≡ Some unit → Framed w store → DeedYields w (deed i at (Acts s)) store d left → IsAmongVariables (locals unit) x →
      IsAmongVariables (declared_in s) x →
      slice_get (view_at w left i).before x ≡ slice_get (view_at w left i).now x
  -- the frame to which inputs are copied stays fresh
  pub copied : (w : Setting) (i callee : ℕ) (at : Place) (effect : Effect) (store : Store) (d : Bool) (left : Store) →
      DeedYields w (deed i at effect) store d left → CopiesTo effect callee → CopiesFit w effect → Fresh w store callee → Fresh w left callee
  pub framed : (w : Setting) (i : ℕ) (at : Place) (effect : Effect) (store : Store) (d : Bool) (left : Store) →
      DeedYields w (deed i at effect) store d left → CopiesFit w effect → Framed w store → Framed w left

-- what is seen of an instance's own variables
pub record OwnIsSeen : Type 0 where
  -- the own variables of a fresh frame have the values that they had before
  pub fresh : (w : Setting) (i x : ℕ) (unit : UnitDef) (store : Store) → unit_at w i ≡ Some unit → Fresh w store i →
      IsAmongVariables (locals unit) x →
      slice_get (view_at w store i).now x ≡ slice_get (view_at w store i).before x
  -- the values before the tick of an instance's own variables depend on its frame only
  pub before : (w : Setting) (i x : ℕ) (unit : UnitDef) (store left : Store) → unit_at w i ≡ Some unit →
      option_map before_of (slice_get left i) ≡ option_map before_of (slice_get store i) → IsAmongVariables (locals unit) x →
      slice_get (view_at w left i).before x ≡ slice_get (view_at w store i).before x

-- ---- trees

-- a point of a tree that asks only for known variables
pub record PointAsks (w : Setting) (i : ℕ) (unit : UnitDef) (known : List ℕ) (c : Tree) (n : Node) (c' : Tree) : Type 0 where
  -- the node asks for known variables only
  pub asked : (x : ℕ) → IsAmongVariables (prevs_at n) x → IsAmongVariables known x
  -- the variables that the node declares are declared by the body
  pub bound : (x : ℕ) → IsAmongVariables (declared_at n) x → IsAmongVariables (locals unit) x
  pub next : (x : ℕ) → IsAmongVariables (next_declared c) x → IsAmongVariables (declared_at n) x
  -- the next tree asks only for known variables and those that the node declares
  pub asks : Asks w i unit (declared_at n ++ known) c'
  -- no call becomes due in the next tree
  pub due : (j : ℕ) → DueIn w c' j → DueIn w c j

pub record TreesAsk : Type 0 where
  pub more : (w : Setting) (i : ℕ) (unit : UnitDef) (known wider : List ℕ) (c : Tree) → ((x : ℕ) → IsAmongVariables known x → IsAmongVariables wider x) →
      Asks w i unit known c → Asks w i unit wider c
  pub begins : (w : Setting) (i : ℕ) (unit : UnitDef) (known : List ℕ) (body : Block) → BlockAsks w i unit known body →
      Asks w i unit known (do_block body)
  pub none_due : (w : Setting) (body : Block) (j : ℕ) → DueIn w (do_block body) j → ⊥
  pub wakes : (w : Setting) (i : ℕ) (unit : UnitDef) (known : List ℕ) (c : Tree) → Asks w i unit known c → Asks w i unit known (woken c)
  pub points : (w : Setting) (i : ℕ) (unit : UnitDef) (known : List ℕ) (c : Tree) (d : Bool) (a : Deed) (n : Node) (c' : Tree) →
      InstancePoint w i c d a n c' → Asks w i unit known c → PointAsks w i unit known c n c'
  -- the next tree, before what follows it, asks for known variables only
  pub follows : (w : Setting) (i : ℕ) (unit : UnitDef) (known : List ℕ) (c : Tree) (n : Node) (c' : Tree) (s : Plain) (rest : Block) →
      ((x : ℕ) → IsAmongVariables (next_declared c) x → IsAmongVariables (declared_at n) x) → BlockAsks w i unit (next_declared c ++ known) (Then s rest) →
      Asks w i unit (declared_at n ++ known) c' → Asks w i unit (declared_at n ++ known) (seq c' (Then s rest))
  pub follows_due : (w : Setting) (c : Tree) (s : Plain) (rest : Block) (j : ℕ) → DueIn w (seq c (Then s rest)) j → DueIn w c j

-- the body of each unit with an instance asks for no variables before, in a typed program that is made of a source text
abbrev pub BodiesAsk : Type 0
BodiesAsk =
    (structs : List StructDef) (units : List UnitDef) (entry i : ℕ) (unit : UnitDef) → let w = setting_of structs units entry in
    IsWellTyped structs units entry → FromText units → unit_at w i ≡ Some unit → BlockAsks w i unit [] (plain_body unit.body)

-- ---- stores between ticks

-- the first store of a run has a value for each variable, and so has a woken store; each frame in them is fresh
pub record StoresAreFresh : Type 0 where
  pub first : (w : Setting) → Framed w (first_store w)
  pub woken : (w : Setting) (row : List ℤ) (store : Store) → ((unit : UnitDef) → unit_at w 0 ≡ Some unit → InputsFit (length row) unit) →
      Framed w store → Framed w (woken_store row store)
  pub fresh : (w : Setting) (row : List ℤ) (store : Store) →
      ((unit : UnitDef) → unit_at w 0 ≡ Some unit → length row ≤ arity unit) → (j : ℕ) →
      Fresh w (woken_store row store) j
