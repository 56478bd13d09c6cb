-- A reset beside a loop: `cobegin when c reset a = 1 repeat await true a = a + 1 end end with b = 1 repeat await true b = b + 1 end end`, where
-- c is an input, and a and b are outputs; and what is left of it where a later tick begins.
use Rattle.std.specs.Prelude.{[], ◌∷◌, false, true, None, ℕ}
use Rattle.bl_tree.specs.declared.scalar.Op.TheVariants.{Add}
use Rattle.bl_tree.specs.declared.tree.Guard.TheVariants.{Reset}
use Rattle.bl_tree.specs.declared.tree.Stmt.{Stmt}
use Rattle.bl_graph_nodes.specs.Nodes.{CheckAt, TestAt}
use Rattle.bl_graph_nodes.specs.Plain.{Act, Await, Block, Bodies, Body as BodyOf, Done, Label, Last, Plain, Repeat, Then, When, label_at}
use Rattle.bl_graph_nodes.specs.Steps.{Here, StepLabel}
use Rattle.bl_ctree.specs.Actions.{Asks}
use Rattle.bl_ctree.specs.Control.{Check, Body}
use Rattle.bl_ctree.specs.Instances.{Setting}
use Rattle.bl_ctree_laws.specs.Pending.{Deed, deed}
use Rattle.bl_ctree_laws.specs.Steps.{fork, pause, watch}
use Rattle.bl_ctree_laws.specs.Trees.{Do, Guard, Par, Seq, Test, Tree, beside, no_tree}
use Rattle.bl_ctree_laws_examples.specs.Trees.Made.{always, at, flag, number, set, two, value}

-- the input of the example
abbrev pub c : ℕ
c = 0

-- the variable that the first branch writes
abbrev pub a : ℕ
a = 1

-- the variable that the second branch writes
abbrev pub b : ℕ
b = 2

-- `a = 1`
abbrev pub begins_a : Stmt
begins_a = set 1 a (number 1)

-- `a = a + 1`
abbrev pub raises_a : Stmt
raises_a = set 3 a (two Add (value a) (number 1))

-- `b = b + 1`
abbrev pub raises_b : Stmt
raises_b = set 6 b (two Add (value b) (number 1))

-- the label of the `when`
abbrev pub guard_label : Label
guard_label = label_at (0 ∷ 0 ∷ 0 ∷ [])

-- the loop in the body of the `when`
abbrev pub loop_a : Plain
loop_a = Repeat (label_at (0 ∷ 0 ∷ 0 ∷ 0 ∷ 1 ∷ [])) (at 7)
    (Then (Await (label_at (0 ∷ 0 ∷ 0 ∷ 0 ∷ 1 ∷ 0 ∷ 0 ∷ [])) (at 2) always)
    (Then (Act (label_at (0 ∷ 0 ∷ 0 ∷ 0 ∷ 1 ∷ 0 ∷ 1 ∷ [])) raises_a) Done))

-- the body of the `when`
abbrev pub guarded_body : Block
guarded_body = Then (Act (label_at (0 ∷ 0 ∷ 0 ∷ 0 ∷ 0 ∷ [])) begins_a) (Then loop_a Done)

-- what follows the pause in the loop of the first branch
abbrev pub rest_a : Block
rest_a = Then (Act (label_at (0 ∷ 0 ∷ 0 ∷ 0 ∷ 1 ∷ 0 ∷ 1 ∷ [])) raises_a) (Then loop_a Done)

-- the loop of the second branch
abbrev pub loop_b : Plain
loop_b = Repeat (label_at (0 ∷ 1 ∷ 1 ∷ [])) (at 8)
    (Then (Await (label_at (0 ∷ 1 ∷ 1 ∷ 0 ∷ 0 ∷ [])) (at 5) always) (Then (Act (label_at (0 ∷ 1 ∷ 1 ∷ 0 ∷ 1 ∷ [])) raises_b) Done))

-- what follows the pause in the second branch
abbrev pub rest_b : Block
rest_b = Then (Act (label_at (0 ∷ 1 ∷ 1 ∷ 0 ∷ 1 ∷ [])) raises_b) (Then loop_b Done)

-- the branches as they are written
abbrev pub branches : Bodies
branches =
    BodyOf false (Then (When guard_label (at 9) Reset (flag c) guarded_body) Done)
    (BodyOf false (Then (Act (label_at (0 ∷ 1 ∷ 0 ∷ [])) (set 4 b (number 1))) (Then loop_b Done)) Last)

-- ---- trees

-- the program, of which nothing is asked but that it has one instance
abbrev pub program : Setting
program = record { structs = []; units = []; instances = record { unit = 0; depth = 0; origin = None } ∷ [] }

-- the first branch where a later tick begins: the guard is to be tested
abbrev pub to_check : Tree
to_check = Guard (watch guard_label (at 9) Reset (flag c) guarded_body) Check true
    (Seq (Test (pause (label_at (0 ∷ 0 ∷ 0 ∷ 0 ∷ 1 ∷ 0 ∷ 0 ∷ [])) (at 2) always)) rest_a)

-- the first branch after a test that was true: its body begins anew
abbrev pub begun_anew : Tree
begun_anew = Guard (watch guard_label (at 9) Reset (flag c) guarded_body) Body true
    (Seq (Do (Act (label_at (0 ∷ 0 ∷ 0 ∷ 0 ∷ 0 ∷ [])) begins_a)) (Then loop_a Done))

-- the second branch where the tick begins
abbrev pub to_wake : Tree
to_wake = Seq (Test (pause (label_at (0 ∷ 1 ∷ 1 ∷ 0 ∷ 0 ∷ [])) (at 5) always)) rest_b

-- the second branch after its `await`
abbrev pub woken_up : Tree
woken_up = Seq (Do (Act (label_at (0 ∷ 1 ∷ 1 ∷ 0 ∷ 1 ∷ [])) raises_b)) (Then loop_b Done)

-- the two branches
abbrev pub both : Tree → Tree → Tree
both one other = Par (fork (label_at (0 ∷ [])) (at 10) branches) true (beside false one (beside false other no_tree))

-- the test of the guard
abbrev pub tests_guard : Deed
tests_guard = deed 0 (at 9) (Asks (flag c))

-- the `await` of the second branch
abbrev pub wakes : Deed
wakes = deed 0 (at 5) (Asks always)

-- the label of the guard's check
abbrev pub at_guard : StepLabel
at_guard = Here (CheckAt guard_label (at 9) (flag c))

-- the label of the `await`'s test in the second branch
abbrev pub at_await : StepLabel
at_await = Here (TestAt (label_at (0 ∷ 1 ∷ 1 ∷ 0 ∷ 0 ∷ [])) (at 5) always)
