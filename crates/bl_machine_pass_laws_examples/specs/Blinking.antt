-- A loop that pauses twice a turn: `repeat on = true await true on = false await true end`, where on is an output.
use Rattle.std.specs.Prelude.{ℕ, true, List, [], ◌∷◌, ◌++◌}
use Rattle.bl_tree.specs.declared.tree.Expr.{Expr}
use Rattle.bl_tree.specs.declared.tree.Stmt.{Stmt}
use Rattle.bl_tree.specs.declared.tree.StmtKind.TheOpen.{StmtKind-F}
use Rattle.bl_graph_nodes.specs.Nodes.{ActAt, HeadAt, Node, PauseAt, TestAt}
use Rattle.bl_graph_nodes.specs.Plain.{Act, Await, Block, Done, Label, Plain, Repeat, Then, label_at}
use Rattle.bl_ctree_laws.specs.Steps.{pause}
use Rattle.bl_ctree_laws.specs.Trees.{Seq, Tree, Wait}
use Rattle.bl_machine_laws.specs.Numbers.Turns.{AnsweredDeed}
use Rattle.bl_ctree_laws_examples.specs.Trees.Made.{always, at, flag_path, stmt}
use Rattle.bl_machine_pass_laws_examples.specs.Worked.{act, asked, never, still}

-- `on = true`, or `on = false`
abbrev pub sets_on : ℕ → Expr → Stmt
sets_on place e = stmt place (StmtKind-F.Assign (flag_path 0) e)

-- the statement with the number in the loop
abbrev pub label_in_loop : ℕ → Label
label_in_loop k = label_at (0 ∷ 0 ∷ k ∷ [])

-- the loop
abbrev pub loop : Plain
loop = Repeat (label_at (0 ∷ [])) (at 1)
    (Then (Act (label_in_loop 0) (sets_on 2 always))
    (Then (Await (label_in_loop 1) (at 3) always)
    (Then (Act (label_in_loop 2) (sets_on 4 never))
    (Then (Await (label_in_loop 3) (at 5) always) Done))))

-- the body
abbrev pub body : Block
body = Then loop Done

-- what follows the first pause
abbrev pub rest : Block
rest = Then (Act (label_in_loop 2) (sets_on 4 never)) (Then (Await (label_in_loop 3) (at 5) always) (Then loop Done))

-- between ticks, where on is true
abbrev pub lit : Tree
lit = Seq (Wait (pause (label_in_loop 1) (at 3) always)) rest

-- between ticks, where on is false
abbrev pub dark : Tree
dark = Seq (Wait (pause (label_in_loop 3) (at 5) always)) (Then loop Done)

-- the nodes in an order
abbrev pub order : List Node
order =
    TestAt (label_in_loop 1) (at 3) always ∷ ActAt (label_in_loop 2) (sets_on 4 never) ∷ PauseAt (label_in_loop 3) (at 5)
    ∷ TestAt (label_in_loop 3) (at 5) always ∷ HeadAt (label_at (0 ∷ [])) (at 1) ∷ ActAt (label_in_loop 0) (sets_on 2 always)
    ∷ PauseAt (label_in_loop 1) (at 3) ∷ []

-- a turn begins, up to its first pause
abbrev pub first_half : List AnsweredDeed
first_half = still 0 1 ++ (act 0 (sets_on 2 always) ++ still 0 3)

-- a turn goes on to its second pause
abbrev pub second_half : List AnsweredDeed
second_half = asked 0 3 always true ++ (act 0 (sets_on 4 never) ++ still 0 5)

-- a turn ends, and the next one begins
abbrev pub again : List AnsweredDeed
again = asked 0 5 always true ++ first_half
