-- Rules of a pass by numbers, and what of them tells the rules of nodes.
use Rattle.std.specs.Prelude.{ℕ, List, [], ◌∷◌, map, option_map}
use Rattle.bl_tree.specs.declared.place.Place.{Place}
use Rattle.bl_tree.specs.declared.tree.Expr.{Expr}
use Rattle.bl_tree.specs.declared.tree.Stmt.{Stmt}
use Rattle.bl_graph_nodes.specs.Nodes.{ActAt, Arguments, CheckAt, DepthEndAt, DepthJoinAt, EnterAt, ForkAt, HeadAt, Node, PauseAt, ResumeAt, StartAt}
use Rattle.bl_graph_nodes.specs.Nodes.{SurfaceEndAt, SurfaceJoinAt, TestAt}
use Rattle.bl_machine_pass.specs.Transitions as nodes
use Rattle.bl_machine_pass.specs.Transitions.{ClearsBoth, ClearsCounter, Ended, EndsWhen, Finishes, Flagged, IsAny, IsNew, IsOld, Rested, RestedIn, SetsCounter, SetsFlag, SetsMark}
use Rattle.bl_machine_transitions.specs.declared.transition.Age.{Age}
use Rattle.bl_machine_transitions.specs.declared.transition.Age.TheVariants as age
use Rattle.bl_machine_transitions.specs.declared.transition.Condition.{Condition}
use Rattle.bl_machine_transitions.specs.declared.transition.Condition.TheVariants as condition
use Rattle.bl_machine_transitions.specs.declared.transition.Change.{Change}
use Rattle.bl_machine_transitions.specs.declared.transition.Change.TheVariants as change
use Rattle.bl_machine_transitions.specs.declared.transition.Needed.{Needed}
use Rattle.bl_machine_transitions.specs.declared.transition.Transition.{Transition as Kept}
use Rattle.bl_machine_transitions.specs.declared.transition.Run.{Run as KeptRun}
use Rattle.bl_machine_transitions.specs.declared.transition.Silent.{Silent}
use Rattle.bl_machine_transitions.specs.declared.transition.Silent.TheVariants as silent
use Rattle.bl_machine_transitions.specs.declared.transition.Task.{Task as KeptTask}
use Rattle.bl_machine_transitions.specs.declared.transition.Task.TheVariants as task

-- ---- rules

-- what is done at a node: of a `run` with its place, and the position of the activity that it calls
pub data Task : Type 0 where
  Nothing : Silent → Task
  Acts : Stmt → Task
  Tests : Expr → Task
  Enters : Place → ℕ → Arguments → Task
  Resumes : Place → ℕ → Arguments → Task

-- the rule of a node, by numbers
pub record NumberedTransition : Type 0 where
  pub number : ℕ
  pub condition : Condition
  pub task : Task
  pub on_true : List Change
  pub on_false : List Change

-- ---- as the code has them

-- the arguments of a `run`
abbrev pub arguments_in : KeptRun → Arguments
arguments_in run = record { target = option_map (λ path. path.now) run.target; inputs = run.inputs.now; outputs = run.outputs.now }

-- what is done
abbrev pub task_in : KeptTask → Task
task_in (task.Nothing kind) = Nothing kind
task_in (task.Act s) = Acts s.now
task_in (task.Test e) = Tests e.now
task_in (task.Enter run) = Enters run.place run.unit (arguments_in run)
task_in (task.Resume run) = Resumes run.place run.unit (arguments_in run)

-- the rule
abbrev pub rule_in : Kept → NumberedTransition
rule_in rule = record { number = rule.number; condition = rule.condition; task = task_in rule.task; on_true = rule.on_true; on_false = rule.on_false }

-- ---- from the rules of nodes

-- a change, where nodes have these numbers
abbrev pub told_change : (Node → ℕ) → nodes.Change → Change
told_change number (SetsFlag n) = change.SetFlag (number n)
told_change number (SetsCounter slot) = change.SetCounter slot
told_change number (ClearsCounter k) = change.ClearCounter k
told_change number (ClearsBoth k) = change.ClearBoth k
told_change number (SetsMark n) = change.SetMark (number n)
told_change number (EndsWhen start surface depth) = change.EndWhen (number start) (number surface) (number depth)
told_change number Finishes = change.Finish

-- the age of a `cobegin`
abbrev pub told_age : (Node → ℕ) → nodes.Age → Age
told_age number (IsNew n) = age.New (number n)
told_age number (IsOld n) = age.Old (number n)
told_age number IsAny = age.Any

-- the ends that a `cobegin` waits for
abbrev pub told_needed : nodes.Needed → Needed
told_needed needed = record { all = needed.all; slots = needed.slots }

-- a condition, where nodes have these numbers
abbrev pub told_condition : (Node → ℕ) → nodes.Condition → Condition
told_condition number Flagged = condition.Flagged
told_condition number (Rested slot) = condition.Rested slot
told_condition number (RestedIn slots) = condition.RestedIn slots
told_condition number (Ended age needed) = condition.Ended (told_age number age) (told_needed needed)

-- what is done at a node, which calls this activity where it is one of a `run`
abbrev pub task_at : (Node → ℕ) → ℕ → Node → Task
task_at number unit (ActAt l s) = Acts s
task_at number unit (TestAt l at e) = Tests e
task_at number unit (CheckAt l at e) = Tests e
task_at number unit (EnterAt l at arguments) = Enters at unit arguments
task_at number unit (ResumeAt l at arguments) = Resumes at unit arguments
task_at number unit (PauseAt l at) = Nothing silent.Pause
task_at number unit (HeadAt l at) = Nothing silent.Head
task_at number unit (StartAt l at) = Nothing silent.Start
task_at number unit (SurfaceEndAt l at) = Nothing silent.End
task_at number unit (DepthEndAt l at) = Nothing silent.End
task_at number unit (ForkAt l at) = Nothing silent.Fork
task_at number unit (SurfaceJoinAt l at) = Nothing silent.Join
task_at number unit (DepthJoinAt l at) = Nothing silent.Join

-- the rule of a node
abbrev pub told_rule : (Node → ℕ) → ℕ → nodes.Transition → NumberedTransition
told_rule number unit rule = record {
  number = number rule.node;
  condition = told_condition number rule.condition;
  task = task_at number unit rule.node;
  on_true = map (told_change number) rule.on_true;
  on_false = map (told_change number) rule.on_false;
}

-- the rules of nodes, each with the activity that its node calls
abbrev pub all_told : (Node → ℕ) → List ℕ → List nodes.Transition → List NumberedTransition
all_told number [] rules = []
all_told number units [] = []
all_told number (unit ∷ units) (rule ∷ rules) = told_rule number unit rule ∷ all_told number units rules
