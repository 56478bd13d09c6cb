-- Points of a tree as the code lists them.
use Rattle.std.specs.Prelude.{ℕ, zero, suc, Bool, false, List, [], ◌∷◌, ◌++◌, map, Option, Some, None, option_and_then, option_map, if◌then◌else◌}
use Rattle.bl_tree.specs.Reduce.{joined}
use Rattle.bl_tree.specs.declared.place.Place.{Place}
use Rattle.bl_tree.specs.declared.tree.Arm.{Arm}
use Rattle.bl_tree.specs.declared.tree.Branch.{Branch as BranchOf, out-Branch}
use Rattle.bl_tree.specs.declared.tree.Expr.{Expr}
use Rattle.bl_tree.specs.declared.tree.Stmt.{Stmt}
use Rattle.bl_tree.specs.declared.static_path.Static.{Static}
use Rattle.bl_tree.specs.Effects.{reads}
use Rattle.bl_tree.specs.Static.{mentions}
use Rattle.bl_ctree.specs.Actions.{Effect, Silent, Acts, Asks, Copies, Gives}
use Rattle.bl_ctree.specs.Control.{Control, Branches, Nil, Wait, Test, Idle, Do, Turn, Seq, Par, Guard, Run, no_branch, branch, Check, Body, do_all, is_nil}
use Rattle.bl_ctree.specs.Control.{seq}
use Rattle.bl_ctree.specs.Instances.{Setting, callee_of, unit_at}
use Rattle.bl_ctree.specs.Nodes.{Seen}
use Rattle.bl_ctree.specs.Points.{Point, or_nothing, begins, checks, copying, giving, joining, passing, sure, tests, turns_on}
use Rattle.bl_ctree.specs.Positions.{Located, Position, body_items, items_from, kind_of, place_of}
use Rattle.bl_ctree.specs.Steps.{arm_items}
use Rattle.bl_ctree.specs.Store.{homes}
use Rattle.bl_ctree_store.specs.Seen.{UnitInstance, called_at}
use Rattle.bl_ctree_run.specs.declared.point.Act.{Act}
use Rattle.bl_ctree_enabled.specs.Spots.{Spot, effect_in}

-- ---- the point of a node itself

-- the static paths that an effect reads
abbrev pub effect_paths : Effect → List Static
effect_paths Silent = []
effect_paths (Acts s) = reads s
effect_paths (Asks e) = mentions e
effect_paths (Copies callee inputs) = joined (map mentions inputs)
effect_paths (Gives callee target) = []

-- what is told of the point of a node itself, with the static paths that it reads
pub record Told : Type 0 where
  pub place : Place
  pub instance : ℕ
  pub effect : Effect
  pub paths : List Static

-- what the code tells of the point of a node itself
abbrev pub told_of : Act → Told
told_of a = record { place = a.place; instance = a.instance; effect = effect_in a.effect; paths = a.reads }

-- the view by the code of an optional point
abbrev pub told_all : Option Act → List Told
told_all None = []
told_all (Some a) = told_of a ∷ []

-- the view of a point of the semantics
abbrev pub told_point : {A : Type 0} → Point A → Told
told_point p = record { place = p.action.place; instance = p.action.instance; effect = p.action.effect; paths = effect_paths p.action.effect }

-- the spot of a node's point with this path of branches and this view
abbrev pub spot_told : Setting → List ℕ → Told → Spot
spot_told w path t = record { place = t.place; instance = t.instance; effect = t.effect; reads = homes w t.instance t.paths; path = path }

-- the view of a point with the effect at the place
abbrev pub telling : Place → ℕ → Effect → List Told
telling place i effect = record { place = place; instance = i; effect = effect; paths = effect_paths effect } ∷ []

-- the view of a `run` statement at the place
abbrev pub told_run : Setting → ℕ → Place → List Expr → List Told
told_run w i place inputs =
    or_nothing (option_and_then (λ callee. option_map (λ unit. telling place i (Copies callee inputs)) (unit_at w callee)) (callee_of w i place))

-- the point of the node itself, where that may act
abbrev pub own : Setting → ℕ → Control → List (Point Control)
own w i Nil = []
own w i (Wait s) = []
own w i (Test s) = tests i s (kind_of s)
own w i (Idle items) = []
own w i (Do s) = begins w i s (kind_of s)
own w i (Turn s) = turns_on i s (kind_of s)
own w i (Seq c rest) = []
own w i (Par s stood branches) = joining i s branches
own w i (Guard s Check stood c) = checks i s stood c (kind_of s)
own w i (Guard s Body stood c) = if is_nil c then sure i s Silent Nil else []
own w i (Run s callee Check stood c) = copying i s callee stood c (kind_of s)
own w i (Run s callee Body stood c) = if is_nil c then giving i s callee (kind_of s) else []

-- what is told of a point but for what it reads
abbrev pub unread : Spot → Spot
unread spot = record spot { reads = [] }

-- ---- the tree after a point

-- what the first of the points leads to
abbrev pub first_after : List (Point Control) → Bool → Control
first_after [] d = Nil
first_after (p ∷ rest) d = p.after d

-- an `if` after its first test
abbrev pub chosen : Located → List Arm → List Stmt → Bool → Control
chosen s [] other d = Nil
chosen s (arm ∷ arms) other d = if d then do_all (arm_items s arm) else passing s arms other

-- the tree of a `run` that begins
abbrev pub begun_as : Located → Option UnitInstance → Control
begun_as s None = Nil
begun_as s (Some called) = Run s called.instance Body false (do_all (body_items called.unit.body))

-- the `run` of a statement in an instance that begins
abbrev pub run_begun : Setting → ℕ → Located → Control
run_begun w i s = begun_as s (called_at w i (place_of s))

-- the branches of a `cobegin` at the position as they begin, from the one with number k on
abbrev pub seen_begun : Position → ℕ → List BranchOf → List Seen
seen_begun position k [] = []
seen_begun position k (b ∷ rest) =
    record { weak = (out-Branch b).weak; tree = do_all (items_from (position ++ k ∷ []) 0 (out-Branch b).body) } ∷ seen_begun position (suc k) rest

abbrev mutual
  -- the tree after an answer of the point to which this path of branches leads
  pub after_by : Setting → ℕ → Control → List ℕ → Bool → Control
  after_by w i Nil path d = Nil
  after_by w i (Wait s) path d = Nil
  after_by w i (Test s) path d = first_after (tests i s (kind_of s)) d
  after_by w i (Idle items) path d = Nil
  after_by w i (Do s) path d = first_after (begins w i s (kind_of s)) d
  after_by w i (Turn s) path d = first_after (turns_on i s (kind_of s)) d
  after_by w i (Seq c rest) path d = seq (after_by w i c path d) rest
  after_by w i (Par s stood branches) [] d = Nil
  after_by w i (Par s stood branches) (k ∷ path) d = Par s stood (after_in w i branches k path d)
  after_by w i (Guard s Check stood c) path d = first_after (checks i s stood c (kind_of s)) d
  after_by w i (Guard s Body stood c) path d = if is_nil c then Nil else Guard s Body stood (after_by w i c path d)
  after_by w i (Run s callee Check stood c) path d = first_after (copying i s callee stood c (kind_of s)) d
  after_by w i (Run s callee Body stood c) path d = if is_nil c then Nil else Run s callee Body stood (after_by w callee c path d)

  -- branches after an answer of a point in the branch with this number
  pub after_in : Setting → ℕ → Branches → ℕ → List ℕ → Bool → Branches
  after_in w i no_branch k path d = no_branch
  after_in w i (branch weak c others) zero path d = branch weak (after_by w i c path d) others
  after_in w i (branch weak c others) (suc k) path d = branch weak c (after_in w i others k path d)
