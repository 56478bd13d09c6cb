-- The points of a tree that may act, in source order.
use Rattle.std.specs.Prelude.{ℕ, suc, Bool, false, not, ◌&&◌, List, [], ◌∷◌, ◌++◌, map, filter, Option, Some, None, option_map, option_and_then, if◌then◌else◌}
use Rattle.bl_tree.specs.declared.tree.Arm.{Arm, out-Arm}
use Rattle.bl_tree.specs.declared.tree.Branch.{Branch}
use Rattle.bl_tree.specs.declared.tree.Guard.{Guard as GuardKind}
use Rattle.bl_tree.specs.declared.tree.Guard.TheVariants.{Abort, Reset}
use Rattle.bl_tree.specs.declared.tree.Stmt.{Stmt}
use Rattle.bl_tree.specs.declared.tree.StmtKind.{StmtKind}
use Rattle.bl_tree.specs.declared.tree.StmtKind.TheOpen.{StmtKind-F}
use Rattle.bl_tree.specs.declared.tree.Unit.{Unit as UnitDef}
use Rattle.bl_ctree.specs.Actions.{Action, Effect, action, Silent, Acts, Asks, Copies, Gives}
use Rattle.bl_ctree.specs.Control.{Control, Branches, Nil, Wait, Test, Idle, Do, Turn, Seq, Par, Guard, Run, no_branch, branch, Phase, Check, Body, do_all, seq}
use Rattle.bl_ctree.specs.Control.{branches_begun, are_settled, are_done, is_nil}
use Rattle.bl_ctree.specs.Instances.{Setting, callee_of, unit_at}
use Rattle.bl_ctree.specs.Pending.{meets, any_meets}
use Rattle.bl_ctree.specs.Positions.{Begin, Again, Located, kind_of, place_of, block_items, body_items, further}
use Rattle.bl_ctree.specs.Steps.{arm_items, else_items, turn_items}

-- a point: its action, the branch numbers that lead to it from the outermost Par inwards, and what each answer leads to
pub record Point (A : Type 0) : Type 0 where
  pub action : Action
  pub path : List ℕ
  pub after : Bool → A

-- a point inside, seen from around it
abbrev pub within : {A B : Type 0} → (A → B) → Point A → Point B
within around point = record { action = point.action; path = point.path; after = λ d. around (point.after d) }

-- a point of the first branch, and one of the branches behind it
abbrev pub in_first : (Control → Branches) → Point Control → Point Branches
in_first around point = record { action = point.action; path = 0 ∷ point.path; after = λ d. around (point.after d) }

-- a path of branch numbers, seen with one more branch before the outermost
abbrev pub one_on : List ℕ → List ℕ
one_on [] = []
one_on (k ∷ path) = suc k ∷ path

-- a point of the later branches, seen with one more branch before them
abbrev pub in_later : (Branches → Branches) → Point Branches → Point Branches
in_later around point = record { action = point.action; path = one_on point.path; after = λ d. around (point.after d) }

-- the point of an action whose only answer is true
abbrev pub sure : ℕ → Located → Effect → Control → List (Point Control)
sure i s effect after = record { action = action i s effect; path = []; after = λ d. after } ∷ []

-- a test, and what the tree becomes when it is true and when it is false
abbrev pub asking : ℕ → Located → Effect → Control → Control → List (Point Control)
asking i s effect if_true if_false = record { action = action i s effect; path = []; after = λ d. if d then if_true else if_false } ∷ []

-- what an `if` is whose first test is false
abbrev pub passing : Located → List Arm → List Stmt → Control
passing s [] other = do_all (else_items s other)
passing s (next ∷ arms) other = Do (further s next arms other)

-- a `run` whose inputs are to be copied begins its activity's body
abbrev pub run_begins : Setting → ℕ → Located → Effect → ℕ → UnitDef → List (Point Control)
run_begins w i s effect callee unit = sure i s effect (Run s callee Body false (do_all (body_items unit.body)))

-- the list, or the empty one where there is none
abbrev pub or_nothing : {A : Type 0} → Option (List A) → List A
or_nothing (Some xs) = xs
or_nothing None = []

-- the point of a statement that is to begin
abbrev pub begins : Setting → ℕ → Located → StmtKind-F StmtKind Arm Branch Stmt → List (Point Control)
begins w i s (StmtKind-F.Declare k initial) = sure i s (Acts s.stmt) Nil
begins w i s (StmtKind-F.Assign path e) = sure i s (Acts s.stmt) Nil
begins w i s (StmtKind-F.Call f inputs outputs) = sure i s (Acts s.stmt) Nil
begins w i s (StmtKind-F.Return e) = sure i s (Acts s.stmt) Nil
begins w i s (StmtKind-F.Await e) = sure i s Silent (Wait s)
begins w i s (StmtKind-F.Run target a inputs outputs) =
    or_nothing (option_and_then (λ callee. option_map (run_begins w i s (Copies callee inputs) callee) (unit_at w callee)) (callee_of w i (place_of s)))
begins w i s (StmtKind-F.If [] other) = []
begins w i s (StmtKind-F.If (arm ∷ arms) other) = asking i s (Asks (out-Arm arm).test) (do_all (arm_items s arm)) (passing s arms other)
begins w i s (StmtKind-F.Cobegin branches) = sure i s Silent (Par s false (branches_begun s 0 branches))
begins w i s (StmtKind-F.When guard e body) = sure i s Silent (Guard s Body false (do_all (block_items s 0 body)))
begins w i s (StmtKind-F.Repeat body) = sure i s Silent (do_all (turn_items s body (Begin s)))
begins w i s (StmtKind-F.Until body e) = sure i s Silent (do_all (turn_items s body (Again s)))
begins w i s (StmtKind-F.While e body) = asking i s (Asks e) (do_all (turn_items s body (Begin s))) Nil

-- the point of a woken `await`
abbrev pub tests : ℕ → Located → StmtKind-F StmtKind Arm Branch Stmt → List (Point Control)
tests i s (StmtKind-F.Await e) = asking i s (Asks e) Nil (Wait s)
tests i s _ = []

-- the point of the test of a `repeat .. until`
abbrev pub turns_on : ℕ → Located → StmtKind-F StmtKind Arm Branch Stmt → List (Point Control)
turns_on i s (StmtKind-F.Until body e) = asking i s (Asks e) Nil (Do s)
turns_on i s _ = []

-- what becomes of a `when` whose condition holds: `abort` ends it, `reset` begins its body anew
abbrev pub guard_strikes : GuardKind → Located → Bool → List Stmt → Control
guard_strikes Abort s stood body = Nil
guard_strikes Reset s stood body = Guard s Body stood (do_all (block_items s 0 body))

-- the point of a guard whose condition is still to be tested
abbrev pub checks : ℕ → Located → Bool → Control → StmtKind-F StmtKind Arm Branch Stmt → List (Point Control)
checks i s stood c (StmtKind-F.When guard e body) = asking i s (Asks e) (guard_strikes guard s stood body) (Guard s Body stood c)
checks i s stood c _ = []

-- the point of a woken `run`, which copies its inputs
abbrev pub copying : ℕ → Located → ℕ → Bool → Control → StmtKind-F StmtKind Arm Branch Stmt → List (Point Control)
copying i s callee stood c (StmtKind-F.Run target a inputs outputs) = sure i s (Copies callee inputs) (Run s callee Body stood c)
copying i s callee stood c _ = []

-- the point of a `run` whose body has ended, which gives its result
abbrev pub giving : ℕ → Located → ℕ → StmtKind-F StmtKind Arm Branch Stmt → List (Point Control)
giving i s callee (StmtKind-F.Run target a inputs outputs) = sure i s (Gives callee target) Nil
giving i s callee _ = []

-- the points of a guard that let its body go on: its own end where the body has ended, else the body's
abbrev pub guard_points : ℕ → Located → Bool → Control → List (Point Control) → List (Point Control)
guard_points i s stood c inner = if is_nil c then sure i s Silent Nil else map (within (Guard s Body stood)) inner

-- the points of a Run in phase body: that of its end, or those of its tree
abbrev pub run_points : ℕ → Located → ℕ → Bool → Control → List (Point Control) → List (Point Control)
run_points i s callee stood c inner = if is_nil c then giving i s callee (kind_of s) else map (within (Run s callee Body stood)) inner

-- the first points in phase check, the second ones in phase body
abbrev pub in_phase : Phase → List (Point Control) → List (Point Control) → List (Point Control)
in_phase Check checking inside = checking
in_phase Body checking inside = inside

-- a `cobegin` that is due ends; else its branches act
abbrev pub joining : ℕ → Located → Branches → List (Point Control)
joining i s branches = if are_settled branches && are_done branches then sure i s Silent Nil else []

-- the points of a list whose actions don't meet the trees beside them
abbrev pub free_of : {A : Type 0} → (Action → Bool) → List (Point A) → List (Point A)
free_of meets points = filter (λ point. not (meets point.action)) points

abbrev mutual
  -- the points of a tree that stands in the instance
  pub points : Setting → ℕ → Control → List (Point Control)
  points w i Nil = []
  points w i (Wait s) = []
  points w i (Test s) = tests i s (kind_of s)
  points w i (Idle items) = []
  points w i (Do s) = begins w i s (kind_of s)
  points w i (Turn s) = turns_on i s (kind_of s)
  points w i (Seq c rest) = map (within (λ c. seq c rest)) (points w i c)
  points w i (Par s stood branches) = joining i s branches ++ map (within (Par s stood)) (branch_points w i branches)
  points w i (Guard s phase stood c) = in_phase phase (checks i s stood c (kind_of s)) (guard_points i s stood c (points w i c))
  points w i (Run s callee phase stood c) =
      in_phase phase (copying i s callee stood c (kind_of s)) (run_points i s callee stood c (points w callee c))

  -- the points of branches, from left to right
  pub branch_points : Setting → ℕ → Branches → List (Point Branches)
  branch_points w i no_branch = []
  branch_points w i (branch weak c others) =
      map (in_first (λ c. branch weak c others)) (free_of (any_meets w i others) (points w i c))
      ++ map (in_later (branch weak c)) (free_of (meets w i c) (branch_points w i others))

-- an element of a list
pub data IsMember (A : Type 0) (x : A) : List A → Type 0 where
  here : {xs : List A} → IsMember A x (x ∷ xs)
  there : {y : A} {xs : List A} → IsMember A x xs → IsMember A x (y ∷ xs)
