-- What steps and waking leave of a body: the trees that a run can reach.
use Rattle.std.specs.Prelude.{ℕ, Bool, true, false, List, Option, Some, ◌≡◌}
use Rattle.bl_tree.specs.declared.place.Place.{Place}
use Rattle.bl_tree.specs.declared.tree.Expr.{Expr}
use Rattle.bl_tree.specs.declared.tree.Guard.{Guard as GuardKind}
use Rattle.bl_tree.specs.declared.tree.Path.{Path}
use Rattle.bl_tree.specs.declared.tree.Unit.{Unit as UnitDef}
use Rattle.bl_graph_nodes.specs.Plain.{Block, Bodies, Label, Plain, Again, Await, Body as BodyOf, Cobegin, Done, If, Last, Repeat, Run as RunOf, Then, Until}
use Rattle.bl_graph_nodes.specs.Plain.{When, While, plain_body}
use Rattle.bl_ctree.specs.Control.{Phase, Check}
use Rattle.bl_ctree.specs.Instances.{Setting, callee_of, unit_at}
use Rattle.bl_ctree_laws.specs.Steps.{call, fork, pause, turn, watch}
use Rattle.bl_ctree_laws.specs.Trees.{Tree, Trees, Nil, Wait, Test, Idle, Do, Seq, Par, Guard, Run, beside, is_nil, no_tree}

-- the statement stands in the block, and this is what follows it there
pub data BlockSplitsAt (s : Plain) (rest : Block) : Block → Type 0 where
  here : BlockSplitsAt s rest (Then s rest)
  there : {t : Plain} {body : Block} → BlockSplitsAt s rest body → BlockSplitsAt s rest (Then t body)

mutual
  -- a plain tree is a residual of a block in an instance; nothing stands below what has not stood
  pub data PlainResidual (w : Setting) : (stood : Bool) → ℕ → Block → Tree → Type 0 where
    nothing : {stood : Bool} {i : ℕ} {body : Block} → PlainResidual w stood i body Nil
    -- a residual of the block's last statement
    of_last : {stood : Bool} {i : ℕ} {s : Plain} {body : Block} {c : Tree} → BlockSplitsAt s Done body → PlainResidualOf w stood i s c → PlainResidual w stood i body c
    -- what is left of a statement, and what follows it
    of_one : {stood : Bool} {i : ℕ} {s next : Plain} {rest body : Block} {c : Tree} →
        BlockSplitsAt s (Then next rest) body → PlainResidualOf w stood i s c → is_nil c ≡ false → PlainResidual w stood i body (Seq c (Then next rest))

  -- a plain tree is a residual of a statement
  pub data PlainResidualOf (w : Setting) : (stood : Bool) → ℕ → Plain → Tree → Type 0 where
    to_begin : {stood : Bool} {i : ℕ} {s : Plain} → PlainResidualOf w stood i s (Do s)
    ended : {stood : Bool} {i : ℕ} {s : Plain} → PlainResidualOf w stood i s Nil
    paused : {stood : Bool} {i : ℕ} {l : Label} {at : Place} {e : Expr} → PlainResidualOf w stood i (Await l at e) (Wait (pause l at e))
    -- a woken `await`, which only a part that stood has
    tested : {i : ℕ} {l : Label} {at : Place} {e : Expr} → PlainResidualOf w true i (Await l at e) (Test (pause l at e))
    of_then : {stood : Bool} {i : ℕ} {l : Label} {at : Place} {e : Expr} {body other : Block} {c : Tree} →
        PlainResidual w stood i body c → PlainResidualOf w stood i (If l at e body other) c
    of_else : {stood : Bool} {i : ℕ} {l : Label} {at : Place} {e : Expr} {body other : Block} {c : Tree} →
        PlainResidual w stood i other c → PlainResidualOf w stood i (If l at e body other) c
    -- the body of a loop, with what ends its turn
    of_repeat : {stood : Bool} {i : ℕ} {l : Label} {at : Place} {body : Block} {c : Tree} →
        PlainResidual w stood i (turn body (Repeat l at body)) c → PlainResidualOf w stood i (Repeat l at body) c
    of_until : {stood : Bool} {i : ℕ} {l : Label} {at : Place} {body : Block} {e : Expr} {c : Tree} →
        PlainResidual w stood i (turn body (Again l at body e)) c → PlainResidualOf w stood i (Until l at body e) c
    of_while : {stood : Bool} {i : ℕ} {l : Label} {at : Place} {e : Expr} {body : Block} {c : Tree} →
        PlainResidual w stood i (turn body (While l at e body)) c → PlainResidualOf w stood i (While l at e body) c
    -- a loop that begins again after the test at the end of a turn
    of_again : {stood : Bool} {i : ℕ} {l : Label} {at : Place} {body : Block} {e : Expr} {c : Tree} →
        PlainResidualOf w stood i (Until l at body e) c → PlainResidualOf w stood i (Again l at body e) c
    of_par : {around stood : Bool} {i : ℕ} {l : Label} {at : Place} {bodies : Bodies} {branches : Trees} → (stood ≡ true → around ≡ true) →
        PlainResidualEach w stood i bodies branches → PlainResidualOf w around i (Cobegin l at bodies) (Par (fork l at bodies) stood branches)
    -- a guard, which is still to be checked only where it stood
    of_guard : {around stood : Bool} {i : ℕ} {l : Label} {at : Place} {guard : GuardKind} {e : Expr} {body : Block} {phase : Phase} {c : Tree} →
        (stood ≡ true → around ≡ true) → (phase ≡ Check → stood ≡ true) → PlainResidual w stood i body c →
        PlainResidualOf w around i (When l at guard e body) (Guard (watch l at guard e body) phase stood c)
    -- a Run over the instance that the `run` begins, with a residual of its body
    of_run : {around stood : Bool} {i : ℕ} {l : Label} {at : Place} {target : Option Path} {a : ℕ} {inputs : List Expr} {outputs : List Path}
        {callee : ℕ} {unit : UnitDef} {phase : Phase} {c : Tree} → callee_of w i at ≡ Some callee → unit_at w callee ≡ Some unit →
        (stood ≡ true → around ≡ true) → (phase ≡ Check → stood ≡ true) → PlainResidual w stood callee (plain_body unit.body) c →
        PlainResidualOf w around i (RunOf l at target a inputs outputs) (Run (call l at target a inputs outputs) callee phase stood c)

  -- branch by branch, each weak where its branch is
  pub data PlainResidualEach (w : Setting) : (stood : Bool) → ℕ → Bodies → Trees → Type 0 where
    none_left : {stood : Bool} {i : ℕ} → PlainResidualEach w stood i Last no_tree
    one_left : {stood weak : Bool} {i : ℕ} {body : Block} {bodies : Bodies} {c : Tree} {branches : Trees} →
        PlainResidual w stood i body c → PlainResidualEach w stood i bodies branches → PlainResidualEach w stood i (BodyOf weak body bodies) (beside weak c branches)

-- a whole tree, before the first tick or later
pub data PlainResidualTree (w : Setting) (body : Block) : Tree → Type 0 where
  not_begun : PlainResidualTree w body (Idle body)
  has_begun : {stood : Bool} {c : Tree} → PlainResidual w stood 0 body c → PlainResidualTree w body c
