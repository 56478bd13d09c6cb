-- What is listed of the parts of a body, from the innermost statements outwards.
use Rattle.std.specs.Prelude.{◌≡◌, ℕ, ◌+◌, Bool, true, false, ◌&&◌, List, [], ◌∷◌, ◌++◌, if◌then◌else◌}
use Rattle.bl_tree.specs.declared.place.Place.{Place}
use Rattle.bl_tree.specs.declared.tree.Arm.{Arm, fold-Arm}
use Rattle.bl_tree.specs.declared.tree.Branch.{Branch, fold-Branch}
use Rattle.bl_tree.specs.declared.tree.Expr.{Expr}
use Rattle.bl_tree.specs.declared.tree.Guard.{Guard}
use Rattle.bl_tree.specs.declared.tree.Stmt.{Stmt, fold-Stmt}
use Rattle.bl_tree.specs.declared.tree.StmtKind.TheOpen.{StmtKind-F, Arm-F, Branch-F, Stmt-F}
use Rattle.bl_graph_nodes.specs.Laws.{stmt}
use Rattle.bl_graph_nodes.specs.Nodes.{arguments_of}
use Rattle.bl_graph_nodes.specs.Plain.{never}
use Rattle.bl_machine.specs.declared.slots.Slot.{Slot}
use Rattle.bl_machine_transitions.specs.declared.transition.Change.{Change}
use Rattle.bl_machine_transitions.specs.declared.transition.Change.TheVariants.{SetCounter, SetFlag}
use Rattle.bl_machine_transitions.specs.declared.transition.Needed.{Needed}
use Rattle.bl_machine_transitions.specs.declared.size.Fork.{Fork}
use Rattle.bl_machine_transitions.specs.declared.size.Size.{Size}
use Rattle.bl_machine_transitions.specs.Listed.{Layout, flagged_rule, fork_nodes, guard_nodes, mark_change, tested_rule, when_body_end}
use Rattle.bl_machine_transitions.specs.declared.transition.Silent.TheVariants as silent
use Rattle.bl_machine_transitions.specs.Told.{Acts, Enters, Nothing, NumberedTransition, Resumes, Task, Tests}
use Rattle.bl_machine_transitions.specs.inner.Joined.{all_joined, enter_unless_empty, fork_instant, fork_of, fork_size, guarded_size, join_fork, no_fork}
use Rattle.bl_machine_transitions.specs.inner.Joined.{or_size, paused, sized, then_size, turned, watched}

-- what is computed of a block or statement. `rests` takes the position of its first place; `rules` takes those of its first node and place, and the change that
-- follows
pub record Part : Type 0 where
  pub empty : Bool
  pub size : Size
  pub rests : Layout → ℕ → List Slot
  pub rules : Layout → ℕ → ℕ → Change → List NumberedTransition

-- an arm of an `if`
pub record ArmPart : Type 0 where
  pub test : Expr
  pub body : Part

-- a branch of a `cobegin`
pub record BranchPart : Type 0 where
  pub weak : Bool
  pub body : Part

-- ---- blocks

-- a block without statements
abbrev pub nothing : Part
nothing = record {
  empty = true;
  size = record { nodes = 0; places = 0; instant = true };
  rests = λ layout p. [];
  rules = λ layout k p next. [];
}

-- a statement before others
abbrev pub follow : Part → Part → Part
follow s rest = record {
  empty = false;
  size = then_size s.size rest.size;
  rests = λ layout p. s.rests layout p ++ rest.rests layout (p + s.size.places);
  rules = λ layout k p next. s.rules layout k p (enter_unless_empty layout rest.empty (k + s.size.nodes) next)
      ++ rest.rules layout (k + s.size.nodes) (p + s.size.places) next;
}

-- the statements of a block
abbrev pub part_of_block : List Part → Part
part_of_block [] = nothing
part_of_block (s ∷ rest) = follow s (part_of_block rest)

-- ---- statements

-- an act
abbrev pub act : Stmt → Part
act s = record {
  empty = false;
  size = record { nodes = 1; places = 0; instant = true };
  rests = λ layout p. [];
  rules = λ layout k p next. flagged_rule layout k (Acts s) (next ∷ []) ∷ [];
}

-- a statement that rests at a place, with what is done at its two nodes
abbrev pub resting_part : Task → Task → Part
resting_part first second = record {
  empty = false;
  size = record { nodes = 2; places = 1; instant = false };
  rests = λ layout p. layout.slot p ∷ [];
  rules = λ layout k p next. paused layout k p first second next;
}

-- a condition with what is done where it is true, and what else
abbrev pub condition_part : Expr → Part → Part → Part
condition_part test body other = record {
  empty = false;
  size = or_size (sized 1 body.size.instant body.size) other.size;
  rests = λ layout p. body.rests layout p ++ other.rests layout (p + body.size.places);
  rules = λ layout k p next. tested_rule layout k (Tests test) (enter_unless_empty layout body.empty (k + 1) next ∷ [])
      (enter_unless_empty layout other.empty (k + 1 + body.size.nodes) next ∷ [])
      ∷ (body.rules layout (k + 1) p next ++ other.rules layout (k + 1 + body.size.nodes) (p + body.size.places) next);
}

-- the arms of an `if`, and what else
abbrev pub chain : List ArmPart → Part → Part
chain [] other = other
chain (arm ∷ rest) other = condition_part arm.test arm.body (chain rest other)

-- the arms rest at what was appended, whatever else there is, whose first place has the second position
abbrev pub ArmsRest : Layout → List ArmPart → ℕ → ℕ → List Slot → List Slot → Type 0
ArmsRest layout arms p next before after = (other : Part) →
    (next + other.size.places ≡ p + (chain arms other).size.places)
    × (after ++ other.rests layout next ≡ before ++ (chain arms other).rests layout p)

-- the arms' rules were appended, whatever else there is, which may be empty, and whose first node and place have the further positions
abbrev pub ArmsListed : Layout → List ArmPart → Bool → ℕ → ℕ → ℕ → ℕ → Change → List NumberedTransition → List NumberedTransition → Type 0
ArmsListed layout arms bare k p node place next before after = (other : Part) → bare ≡ other.empty →
    after ++ other.rules layout node place next ≡ before ++ (chain arms other).rules layout k p next

-- the part of an `if`. No program has one without an arm, which would do its `else` part
abbrev pub if_part : Place → List ArmPart → Part → Part
if_part place [] other = condition_part (never place) other other
if_part place (arm ∷ rest) other = chain (arm ∷ rest) other

-- a `when`
abbrev pub when_part : Guard → Expr → Part → Part
when_part guard e body = record {
  empty = false;
  size = guarded_size body.size;
  rests = body.rests;
  rules = λ layout k p next. watched layout k p guard (Tests e) body.empty body.size (body.rests layout p) next
      ++ body.rules layout (k + guard_nodes body.size.instant) p (when_body_end layout k body.size.instant);
}

-- a loop without end
abbrev pub endless : Part → Part
endless body = record {
  empty = false;
  size = sized 1 false body.size;
  rests = body.rests;
  rules = λ layout k p next. flagged_rule layout k (Nothing silent.Head) (enter_unless_empty layout body.empty (k + 1) (SetFlag (layout.number k)) ∷ [])
      ∷ body.rules layout (k + 1) p (SetFlag (layout.number k));
}

-- the part of a loop with its test at the end
abbrev pub until : Part → Expr → Part
until body e = record {
  empty = false;
  size = sized 2 body.size.instant body.size;
  rests = body.rests;
  rules = λ layout k p next. turned layout k (Tests e) body.empty next ++ body.rules layout (k + 2) p (SetFlag (layout.number (k + 1)));
}

-- the part of a loop with its test at the start
abbrev pub while : Expr → Part → Part
while e body = record {
  empty = false;
  size = sized 1 true body.size;
  rests = body.rests;
  rules = λ layout k p next. tested_rule layout k (Tests e) (enter_unless_empty layout body.empty (k + 1) (SetFlag (layout.number k)) ∷ []) (next ∷ [])
      ∷ body.rules layout (k + 1) p (SetFlag (layout.number k));
}

-- ---- branches

-- what stands in the branches of a `cobegin`
abbrev pub forked : List BranchPart → Fork
forked [] = no_fork
forked (branch ∷ rest) = join_fork (fork_of branch.weak branch.body.size) (forked rest)

-- how many places stand in a branch, with its end
abbrev pub places_in_branch : BranchPart → ℕ
places_in_branch branch = branch.body.size.places + 1

-- the numbers at which the first branch rests
abbrev pub first_rests : Layout → ℕ → List BranchPart → List Slot
first_rests layout p [] = []
first_rests layout p (branch ∷ rest) = layout.slot p ∷ branch.body.rests layout (p + 1)

-- the numbers of the ends of the branches, or of the strong ones alone
abbrev pub ends : Bool → Layout → ℕ → List BranchPart → List Slot
ends strong layout p [] = []
ends strong layout p (branch ∷ rest) =
    if strong && branch.weak
    then ends strong layout (p + places_in_branch branch) rest
    else layout.slot p ∷ ends strong layout (p + places_in_branch branch) rest

-- the ends for which a `cobegin` waits
abbrev pub needs : Layout → ℕ → List BranchPart → Needed
needs layout p branches = record { all = (forked branches).strong; slots = ends (forked branches).strong layout p branches }

-- the changes by which branches begin
abbrev pub entry_changes : Layout → ℕ → ℕ → List BranchPart → List Change
entry_changes layout k p [] = []
entry_changes layout k p (branch ∷ rest) =
    enter_unless_empty layout branch.body.empty k (SetCounter (layout.slot p))
    ∷ entry_changes layout (k + branch.body.size.nodes) (p + places_in_branch branch) rest

-- the rules of the nodes of branches, in their order, from these positions on
abbrev pub each : Layout → ℕ → ℕ → List BranchPart → List NumberedTransition
each layout k p [] = []
each layout k p (branch ∷ rest) =
    branch.body.rules layout k (p + 1) (SetCounter (layout.slot p)) ++ each layout (k + branch.body.size.nodes) (p + places_in_branch branch) rest

-- a `cobegin`
abbrev pub cobegin : List BranchPart → Part
cobegin branches = record {
  empty = false;
  size = fork_size (forked branches);
  rests = λ layout p. first_rests layout p branches;
  rules = λ layout k p next.
      let instant = fork_instant (forked branches) in
      let inner = k + fork_nodes instant in
      flagged_rule layout k (Nothing silent.Fork) (mark_change instant (layout.number k) (entry_changes layout inner p branches))
      ∷ (all_joined layout instant k p (forked branches).places (needs layout p branches) next ++ each layout inner p branches);
}

-- ---- the parts of statements

-- a kind of statement at a place, where its parts are
abbrev pub kind_part : StmtKind-F (Place → Part) ArmPart BranchPart Part → Place → Part
kind_part (StmtKind-F.Declare k initial) place = act (stmt place (StmtKind-F.Declare k initial))
kind_part (StmtKind-F.Assign path e) place = act (stmt place (StmtKind-F.Assign path e))
kind_part (StmtKind-F.Call f inputs outputs) place = act (stmt place (StmtKind-F.Call f inputs outputs))
kind_part (StmtKind-F.Await e) place = resting_part (Nothing silent.Pause) (Tests e)
kind_part (StmtKind-F.Run target a inputs outputs) place =
    resting_part (Enters place a (arguments_of target inputs outputs)) (Resumes place a (arguments_of target inputs outputs))
kind_part (StmtKind-F.If arms other) place = if_part place arms (part_of_block other)
kind_part (StmtKind-F.Cobegin branches) place = cobegin branches
kind_part (StmtKind-F.When guard e body) place = when_part guard e (part_of_block body)
kind_part (StmtKind-F.Repeat body) place = endless (part_of_block body)
kind_part (StmtKind-F.Until body e) place = until (part_of_block body) e
kind_part (StmtKind-F.While e body) place = while e (part_of_block body)
kind_part (StmtKind-F.Return e) place = act (stmt place (StmtKind-F.Return e))

-- an arm, from the parts in it
abbrev pub arm_of : Arm-F (Place → Part) ArmPart BranchPart Part → ArmPart
arm_of arm = record { test = arm.test; body = part_of_block arm.body }

-- a branch, from the parts in it
abbrev pub branch_of : Branch-F (Place → Part) ArmPart BranchPart Part → BranchPart
branch_of branch = record { weak = branch.weak; body = part_of_block branch.body }

-- the part of a statement is that of its kind, at its place
abbrev pub stmt_of : Stmt-F (Place → Part) ArmPart BranchPart Part → Part
stmt_of s = s.what s.place

-- the part of a statement
abbrev pub part : Stmt → Part
part = fold-Stmt (Place → Part) ArmPart BranchPart Part kind_part arm_of branch_of stmt_of

-- the part of an arm of an `if`
abbrev pub arm_part : Arm → ArmPart
arm_part = fold-Arm (Place → Part) ArmPart BranchPart Part kind_part arm_of branch_of stmt_of

-- the part of a branch of a `cobegin`
abbrev pub branch_part : Branch → BranchPart
branch_part = fold-Branch (Place → Part) ArmPart BranchPart Part kind_part arm_of branch_of stmt_of
