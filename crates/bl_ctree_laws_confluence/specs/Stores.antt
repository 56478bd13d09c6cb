-- What an instance makes of a store is told by the values at the homes of what it reads and writes.
use Rattle.std.specs.Prelude.{◌≡◌, ℕ, nat_eq, false, List, [], ◌∷◌, ◌++◌, map, ⊤}
use Rattle.bl_tree.specs.declared.static_path.Static.{Static}
use Rattle.bl_tree.specs.declared.tree.Expr.{Expr}
use Rattle.bl_tree.specs.declared.tree.Stmt.{Stmt}
use Rattle.bl_tree.specs.declared.value.Value.{Value}
use Rattle.bl_tree.specs.Apart.{roots_in}
use Rattle.bl_tree.specs.Effects.{reads, writes}
use Rattle.bl_tree.specs.Static.{mentions}
use Rattle.bl_ctree.specs.Actions.{outcome_there, result_at, value_there}
use Rattle.bl_ctree.specs.Instances.{Setting}
use Rattle.bl_ctree.specs.Store.{Frame, Location, Store, home, homes, overlap, put, remember, value_among, view_at, whole_of, with_frame}
use Rattle.bl_eval_laws.specs.Local.{Alike, LeftAlike, SameAt, named_by}

-- the values of a frame now
abbrev pub now_of : Frame → List Value
now_of frame = frame.now

-- the values of a frame before
abbrev pub before_of : Frame → List Value
before_of frame = frame.before

-- two stores have equal values at the homes in the list
abbrev pub SameThere : (Frame → List Value) → List Location → Store → Store → Type 0
SameThere values [] s t = ⊤
SameThere values (at ∷ rest) s t = (value_among values s at ≡ value_among values t at) × SameThere values rest s t

-- the homes of whole variables of an instance
abbrev pub homes_of : Setting → ℕ → List ℕ → List Location
homes_of w i variables = map (λ k. home w (whole_of i k)) variables

-- a path of an instance leads where its variable leads, and on by its fields
abbrev pub onward : Location → List ℕ → Location
onward at fields = record { instance = at.instance; path = record { root = at.path.root; fields = at.path.fields ++ fields } }

-- the home of a path is onward from that of its variable
abbrev pub HomesLeadOn : Type 0
HomesLeadOn = (w : Setting) (i : ℕ) (path : Static) → home w (record { instance = i; path = path }) ≡ onward (home w (whole_of i path.root)) path.fields

-- the view of an instance depends only on the store's values at the homes of the paths looked at
pub record ViewsAreLocal : Type 0 where
  pub now : (w : Setting) (s t : Store) (i : ℕ) (paths : List Static) → SameThere now_of (homes w i paths) s t →
      Alike paths (view_at w s i).now (view_at w t i).now
  pub before : (w : Setting) (s t : Store) (i : ℕ) (variables : List ℕ) → SameThere before_of (homes_of w i variables) s t →
      SameAt variables (view_at w s i).before (view_at w t i).before

-- the value of an expression depends only on the store's values at the homes of what it mentions and names
abbrev pub ValuesThereAreLocal : Type 0
ValuesThereAreLocal =
    (w : Setting) (s t : Store) (i : ℕ) (e : Expr) → SameThere now_of (homes w i (mentions e)) s t →
    SameThere before_of (homes_of w i (roots_in e)) s t →
    value_there w s i e ≡ value_there w t i e

-- an act's outcome depends only on the store's values at the homes of what it reads, writes and names
abbrev pub OutcomesThereAreLocal : Type 0
OutcomesThereAreLocal =
    (w : Setting) (s t : Store) (i : ℕ) (act : Stmt) → SameThere now_of (homes w i (reads act ++ writes act)) s t →
    SameThere before_of (homes_of w i (named_by act)) s t →
    LeftAlike (writes act) (outcome_there w s i act) (outcome_there w t i act)

-- ---- writing

-- values that are put at homes that don't overlap are put in either order
abbrev pub PutsCommute : Type 0
PutsCommute = (a b : Location) (v u : Value) (store : Store) → overlap a b ≡ false → put a v (put b u store) ≡ put b u (put a v store)

-- a value put at a home leaves values at homes apart, all former values, and all results
pub record PutsKeepOthers : Type 0 where
  pub now : (a b : Location) (v : Value) (store : Store) → overlap a b ≡ false → value_among now_of (put a v store) b ≡ value_among now_of store b
  pub before : (a b : Location) (v : Value) (store : Store) → value_among before_of (put a v store) b ≡ value_among before_of store b
  pub results : (a : Location) (v : Value) (store : Store) (i : ℕ) → result_at (put a v store) i ≡ result_at store i

-- a change of one instance's frame is done in either order with what is done to others, and leaves them
pub record FramesKeepOthers : Type 0 where
  pub puts : (i : ℕ) (change : Frame → Frame) (a : Location) (v : Value) (store : Store) → nat_eq i a.instance ≡ false →
      with_frame i change (put a v store) ≡ put a v (with_frame i change store)
  pub frames : (i j : ℕ) (change other : Frame → Frame) (store : Store) → nat_eq i j ≡ false →
      with_frame i change (with_frame j other store) ≡ with_frame j other (with_frame i change store)
  pub values : (values : Frame → List Value) (i : ℕ) (change : Frame → Frame) (b : Location) (store : Store) → nat_eq i b.instance ≡ false →
      value_among values (with_frame i change store) b ≡ value_among values store b
  pub results : (i j : ℕ) (change : Frame → Frame) (store : Store) → nat_eq i j ≡ false →
      result_at (with_frame i change store) j ≡ result_at store j

-- setting a declared variable's former value commutes with puts elsewhere and with other variables' former values, and keeps the rest
pub record RememberingKeepsOthers : Type 0 where
  pub puts : (i k : ℕ) (a : Location) (v : Value) (store : Store) → overlap a (whole_of i k) ≡ false →
      with_frame i (remember k) (put a v store) ≡ put a v (with_frame i (remember k) store)
  pub order : (i k j l : ℕ) (store : Store) → overlap (whole_of i k) (whole_of j l) ≡ false →
      with_frame i (remember k) (with_frame j (remember l) store) ≡ with_frame j (remember l) (with_frame i (remember k) store)
  pub now : (i k : ℕ) (b : Location) (store : Store) → value_among now_of (with_frame i (remember k) store) b ≡ value_among now_of store b
  pub before : (i k : ℕ) (b : Location) (store : Store) → overlap (whole_of i k) b ≡ false →
      value_among before_of (with_frame i (remember k) store) b ≡ value_among before_of store b
  pub results : (i k j : ℕ) (store : Store) → result_at (with_frame i (remember k) store) j ≡ result_at store j
