-- Control trees over located statements, seen as control trees over plain ones.
use Rattle.std.specs.Prelude.{ℕ, Bool, List, [], ◌∷◌, map}
use Rattle.bl_tree.specs.declared.place.Place.{Place}
use Rattle.bl_tree.specs.declared.tree.Arm.{Arm, out-Arm}
use Rattle.bl_tree.specs.declared.tree.Branch.{Branch}
use Rattle.bl_tree.specs.declared.tree.Stmt.{Stmt}
use Rattle.bl_tree.specs.declared.tree.StmtKind.{StmtKind}
use Rattle.bl_tree.specs.declared.tree.StmtKind.TheOpen.{StmtKind-F}
use Rattle.bl_graph_nodes.specs.Laws.{plain_arm, plain_branch}
use Rattle.bl_graph_nodes.specs.Plain.{Block, Label, Plain, Act, Again as AgainOf, Await, Cobegin, Done, If, Repeat, Run as RunOf, Then, Until, When, While}
use Rattle.bl_graph_nodes.specs.Plain.{bodies_from, else_at, inside, never, passed_one, plain_block}
use Rattle.bl_ctree.specs.Actions.{Action}
use Rattle.bl_ctree.specs.Control as control
use Rattle.bl_ctree.specs.Positions.{Item, Begin, Again, Located, kind_of, place_of}
use Rattle.bl_ctree_laws.specs.Pending.{Deed, deed}
use Rattle.bl_ctree_laws.specs.Steps.{call, fork, pause, watch}
use Rattle.bl_ctree_laws.specs.Trees.{Tree, Trees, Nil, Wait, Test, Idle, Do, Seq, Par, Guard, Run, no_tree, beside}

-- ---- statements

-- the label of a located statement
abbrev pub label_of : Located → Label
label_of s = record { position = s.position; passed = s.passed }

-- the plain statement with this label and place of a statement of this kind
abbrev pub plain_kind : Stmt → Label → Place → StmtKind-F StmtKind Arm Branch Stmt → Plain
plain_kind s l at (StmtKind-F.Declare k initial) = Act l s
plain_kind s l at (StmtKind-F.Assign path e) = Act l s
plain_kind s l at (StmtKind-F.Call f inputs outputs) = Act l s
plain_kind s l at (StmtKind-F.Return e) = Act l s
plain_kind s l at (StmtKind-F.Await e) = Await l at e
plain_kind s l at (StmtKind-F.Run target a inputs outputs) = RunOf l at target a inputs outputs
plain_kind s l at (StmtKind-F.If [] other) = If l at (never at) (plain_block other (inside l 0)) (plain_block other (inside l 1))
plain_kind s l at (StmtKind-F.If (arm ∷ arms) other) =
    If l at (out-Arm arm).test (plain_block (out-Arm arm).body (inside l l.passed)) (else_at (passed_one l) (map plain_arm arms) (plain_block other))
plain_kind s l at (StmtKind-F.Cobegin branches) = Cobegin l at (bodies_from (map plain_branch branches) 0 l)
plain_kind s l at (StmtKind-F.When guard e body) = When l at guard e (plain_block body (inside l 0))
plain_kind s l at (StmtKind-F.Repeat body) = Repeat l at (plain_block body (inside l 0))
plain_kind s l at (StmtKind-F.Until body e) = Until l at (plain_block body (inside l 0)) e
plain_kind s l at (StmtKind-F.While e body) = While l at e (plain_block body (inside l 0))

-- the plain statement of a located one; of an `if` whose first arms are passed the one that is left
abbrev pub plain_at : Located → Plain
plain_at s = plain_kind s.stmt (label_of s) (place_of s) (kind_of s)

-- the test at the end of a turn of a loop
abbrev pub again : Plain → Plain
again (Until l at body e) = AgainOf l at body e
again s = s

-- a statement that is to begin, or the test at the end of a turn
abbrev pub plain_item : Item → Plain
plain_item (Begin s) = plain_at s
plain_item (Again s) = again (plain_at s)

-- the plain block of a list of items
abbrev pub plain_items : List Item → Block
plain_items [] = Done
plain_items (item ∷ rest) = Then (plain_item item) (plain_items rest)

-- ---- trees. Each node stands for one of its own statement; over a statement of another kind no reached tree has it

-- the plain tree of an `await` at which it pauses
abbrev pub waiting : Plain → Tree
waiting (Await l at e) = Wait (pause l at e)
waiting s = Do s

-- an `await` that was woken
abbrev pub testing : Plain → Tree
testing (Await l at e) = Test (pause l at e)
testing s = Do s

-- the branches of a `cobegin`
abbrev pub parallel : Bool → Trees → Plain → Tree
parallel stood branches (Cobegin l at bodies) = Par (fork l at bodies) stood branches
parallel stood branches s = Do s

-- a `when` over what of its body is left
abbrev pub guarded : control.Phase → Bool → Tree → Plain → Tree
guarded phase stood c (When l at guard e body) = Guard (watch l at guard e body) phase stood c
guarded phase stood c s = Do s

-- a `run` with what is left of the body of its instance
abbrev pub running : ℕ → control.Phase → Bool → Tree → Plain → Tree
running callee phase stood c (RunOf l at target a inputs outputs) = Run (call l at target a inputs outputs) callee phase stood c
running callee phase stood c s = Do s

abbrev mutual
  -- the tree over plain statements
  pub plain_tree : control.Control → Tree
  plain_tree control.Nil = Nil
  plain_tree (control.Wait s) = waiting (plain_at s)
  plain_tree (control.Test s) = testing (plain_at s)
  plain_tree (control.Idle items) = Idle (plain_items items)
  plain_tree (control.Do s) = Do (plain_at s)
  plain_tree (control.Turn s) = Do (again (plain_at s))
  plain_tree (control.Seq c rest) = Seq (plain_tree c) (plain_items rest)
  plain_tree (control.Par s stood branches) = parallel stood (plain_trees branches) (plain_at s)
  plain_tree (control.Guard s phase stood c) = guarded phase stood (plain_tree c) (plain_at s)
  plain_tree (control.Run s callee phase stood c) = running callee phase stood (plain_tree c) (plain_at s)

  -- the branches over plain statements
  pub plain_trees : control.Branches → Trees
  plain_trees control.no_branch = no_tree
  plain_trees (control.branch weak c rest) = beside weak (plain_tree c) (plain_trees rest)

-- ---- actions

-- an action without its statement's position
abbrev pub deed_of : Action → Deed
deed_of a = deed a.instance a.place a.effect
