-- The `run`s of a tree, and that those which stood in a tick are of the tree with which it began.
use Rattle.std.proofs.Common.{ℕ, Bool, true, false, List, [], ◌∷◌, ◌++◌, inl, refl}
use Rattle.std.specs.Prelude.{⊤}
use Rattle.bl_graph_nodes.specs.Plain.{Block, Bodies, Body as BodyOf, Done, Last, Then}
use Rattle.bl_graph_nodes.specs.Steps.{StepLabel}
use Rattle.bl_ctree.specs.Instances.{Setting}
use Rattle.bl_ctree_laws.specs.Pending.{Deed}
use Rattle.bl_ctree_laws.specs.Steps.{Anyway, Moves, OneMoves, acts, takes, passes, pauses, runs, repeats, repeats_until, leaves, turns, enters, skips, forks}
use Rattle.bl_ctree_laws.specs.Steps.{guards, goes_on, waits, lets, aborts, resets, guard_ends, copies, run_ends, joins, in_seq, in_par, in_guard, in_run}
use Rattle.bl_ctree_laws.specs.Steps.{first, later}
use Rattle.bl_ctree_laws.specs.Trees.{Call, Tree, Trees, Nil, Wait, Test, Idle, Do, Seq, Par, Guard, Run, all_woken, beside, do_block, no_tree, seq}
use Rattle.bl_ctree_laws.specs.Trees.{trees_begun, woken}
use Rattle.bl_tree.proofs.FirstLemmas.{In}
use Rattle.bl_ctree_laws_confluence.proofs.OnApart.Members.{in_left, in_right}

-- a `run`, and what is left of the body of its activity
pub record InnerTree : Type 0 where
  pub call : Call
  pub tree : Tree

abbrev pub inner_tree : Call → Tree → InnerTree
inner_tree s c = record { call = s; tree = c }

abbrev mutual
  -- the `run`s of a tree, but for those inside others
  pub runs_in_tree : Tree → List InnerTree
  runs_in_tree Nil = []
  runs_in_tree (Wait s) = []
  runs_in_tree (Test s) = []
  runs_in_tree (Idle body) = []
  runs_in_tree (Do s) = []
  runs_in_tree (Seq c rest) = runs_in_tree c
  runs_in_tree (Par s stood branches) = runs_in_trees branches
  runs_in_tree (Guard s phase stood c) = runs_in_tree c
  runs_in_tree (Run s callee phase stood c) = inner_tree s c ∷ []

  pub runs_in_trees : Trees → List InnerTree
  runs_in_trees no_tree = []
  runs_in_trees (beside weak c rest) = runs_in_tree c ++ runs_in_trees rest

abbrev mutual
  -- each `run` of the tree that stood is one of these, and so on inside it; nothing stood inside one that didn't
  pub Stood : List InnerTree → Tree → Type 0
  Stood old Nil = ⊤
  Stood old (Wait s) = ⊤
  Stood old (Test s) = ⊤
  Stood old (Idle body) = ⊤
  Stood old (Do s) = ⊤
  Stood old (Seq c rest) = Stood old c
  Stood old (Par s stood branches) = AllStood old branches
  Stood old (Guard s phase stood c) = Stood old c
  Stood old (Run s callee phase true c) = (t : Tree) × In (inner_tree s t) old × Stood (runs_in_tree t) c
  Stood old (Run s callee phase false c) = Stood [] c

  pub AllStood : List InnerTree → Trees → Type 0
  AllStood old no_tree = ⊤
  AllStood old (beside weak c rest) = Stood old c × AllStood old rest

-- ---- what begins hasn't stood

begun : (old : List InnerTree) (body : Block) → Stood old (do_block body)
begun old Done = tt
begun old (Then s Done) = tt
begun old (Then s (Then t rest)) = tt

all_begun : (old : List InnerTree) (bodies : Bodies) → AllStood old (trees_begun bodies)
all_begun old Last = tt
all_begun old (BodyOf weak body rest) = (begun old body, all_begun old rest)

followed_by : (old : List InnerTree) (c : Tree) (rest : Block) → Stood old c → Stood old (seq c rest)
followed_by old Nil rest stood = begun old rest
followed_by old c Done stood = stood
followed_by old c (Then s rest) stood = stood

-- ---- steps leave what stood, or less

module _ {w : Setting} where
  mutual
    pub steps_stood : {i : ℕ} {c : Tree} {d : Bool} {a : Deed} {n : StepLabel} {c' : Tree} → Moves Anyway w i c d a n c' → (old : List InnerTree) →
        Stood old c → Stood old c'
    steps_stood acts old stood = tt
    steps_stood (takes {body = body}) old stood = begun old body
    steps_stood (passes {other = other}) old stood = begun old other
    steps_stood pauses old stood = tt
    steps_stood (runs begins found) old stood = begun [] _
    steps_stood repeats old stood = begun old _
    steps_stood repeats_until old stood = begun old _
    steps_stood leaves old stood = tt
    steps_stood turns old stood = tt
    steps_stood enters old stood = begun old _
    steps_stood skips old stood = tt
    steps_stood (forks {bodies = bodies}) old stood = all_begun old bodies
    steps_stood (guards {body = body}) old stood = begun old body
    steps_stood goes_on old stood = tt
    steps_stood waits old stood = tt
    steps_stood lets old stood = stood
    steps_stood (aborts is) old stood = tt
    steps_stood (resets {s = s} is) old stood = begun old s.body
    steps_stood guard_ends old stood = tt
    steps_stood (copies {stood = true}) old stood = stood
    steps_stood (copies {stood = false}) old stood = stood
    steps_stood run_ends old stood = tt
    steps_stood (joins still done) old stood = tt
    steps_stood (in_seq {rest = rest} {c' = c'} move) old stood = followed_by old c' rest (steps_stood move old stood)
    steps_stood (in_par move) old stood = one_stood move old stood
    steps_stood (in_guard move) old stood = steps_stood move old stood
    steps_stood (in_run {stood = true} move) old stood = (stood.0, stood.1, steps_stood move (runs_in_tree stood.0) stood.2)
    steps_stood (in_run {stood = false} move) old stood = steps_stood move [] stood

    pub one_stood : {i : ℕ} {branches : Trees} {d : Bool} {a : Deed} {n : StepLabel} {branches' : Trees} → OneMoves Anyway w i branches d a n branches' →
        (old : List InnerTree) → AllStood old branches → AllStood old branches'
    one_stood (first move free) old stood = (steps_stood move old stood.0, stood.1)
    one_stood (later move free) old stood = (stood.0, one_stood move old stood.1)

-- ---- the tree with which a tick begins

mutual
  -- in a woken tree all stood
  pub woken_stood : (c : Tree) (old : List InnerTree) → ((r : InnerTree) → In r (runs_in_tree (woken c)) → In r old) → Stood old (woken c)
  woken_stood Nil old within = tt
  woken_stood (Wait s) old within = tt
  woken_stood (Test s) old within = tt
  woken_stood (Idle body) old within = begun old body
  woken_stood (Do s) old within = tt
  woken_stood (Seq c rest) old within = woken_stood c old within
  woken_stood (Par s stood branches) old within = all_woken_stood branches old within
  woken_stood (Guard s phase stood c) old within = woken_stood c old within
  woken_stood (Run s callee phase stood c) old within =
      (woken c, within (inner_tree s (woken c)) (inl refl), woken_stood c (runs_in_tree (woken c)) (λ r at. at))

  all_woken_stood : (branches : Trees) (old : List InnerTree) → ((r : InnerTree) → In r (runs_in_trees (all_woken branches)) → In r old) →
      AllStood old (all_woken branches)
  all_woken_stood no_tree old within = tt
  all_woken_stood (beside weak c rest) old within = (
    woken_stood c old (λ r at. within r (in_left r (runs_in_tree (woken c)) (runs_in_trees (all_woken rest)) at)),
    all_woken_stood rest old (λ r at. within r (in_right r (runs_in_tree (woken c)) (runs_in_trees (all_woken rest)) at)),
  )
