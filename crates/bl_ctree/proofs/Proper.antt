-- Proper trees: each node fits its statement, and the equalities on sequences are taken. What may be left of items is a proper tree.
use Rattle.std.proofs.Common.{◌≡◌, ℕ, Bool, false, List, [], ◌∷◌, Option, Some, refl}
use Rattle.bl_tree.specs.declared.tree.Branch.{Branch, out-Branch}
use Rattle.bl_tree.specs.declared.tree.Expr.{Expr}
use Rattle.bl_tree.specs.declared.tree.Guard.{Guard as GuardKind}
use Rattle.bl_tree.specs.declared.tree.Path.{Path}
use Rattle.bl_tree.specs.declared.tree.Stmt.{Stmt}
use Rattle.bl_tree.specs.declared.tree.StmtKind.TheOpen.{StmtKind-F}
use Rattle.bl_tree.specs.declared.tree.Unit.{Unit as UnitDef}
use Rattle.bl_ctree.specs.Control.{Control, Branches, Nil, Wait, Test, Do, Turn, Seq, Par, Guard, Run, no_branch, branch, Phase, is_nil}
use Rattle.bl_ctree.specs.Instances.{Setting, callee_of, unit_at}
use Rattle.bl_ctree.specs.Residual.{Residual, ResidualEach, ResidualOf, TestsFit, ended, no_branch_left, nothing, of_again, of_arm, of_else, of_further}
use Rattle.bl_ctree.specs.Residual.{of_guard, of_last, of_one, of_par, of_repeat, of_run, of_until, of_while, one_branch_left, paused, tested, to_begin}
use Rattle.bl_ctree.specs.Residual.{to_turn}
use Rattle.bl_ctree.specs.Positions.{Item, Located, kind_of, none_left, place_of}

mutual
  -- a tree that stands in the instance. There is no Idle in it, since that is only a whole tree
  pub data Proper (w : Setting) : ℕ → Control → Type 0 where
    a_nil : {i : ℕ} → Proper w i Nil
    a_wait : {i : ℕ} {s : Located} {e : Expr} → kind_of s ≡ StmtKind-F.Await e → Proper w i (Wait s)
    a_test : {i : ℕ} {s : Located} {e : Expr} → kind_of s ≡ StmtKind-F.Await e → Proper w i (Test s)
    a_do : {i : ℕ} {s : Located} → Proper w i (Do s)
    a_turn : {i : ℕ} {s : Located} {body : List Stmt} {e : Expr} → kind_of s ≡ StmtKind-F.Until body e → Proper w i (Turn s)
    -- something has still to end, and something follows it
    a_seq : {i : ℕ} {c : Control} {rest : List Item} →
        is_nil c ≡ false → none_left rest ≡ false → Proper w i c → TestsFit rest → Proper w i (Seq c rest)
    a_par : {i : ℕ} {s : Located} {stood : Bool} {written : List Branch} {branches : Branches} →
        kind_of s ≡ StmtKind-F.Cobegin written → BranchesProper w i written branches → Proper w i (Par s stood branches)
    a_guard : {i : ℕ} {s : Located} {phase : Phase} {stood : Bool} {c : Control} {guard : GuardKind} {e : Expr} {body : List Stmt} →
        kind_of s ≡ StmtKind-F.When guard e body → Proper w i c → Proper w i (Guard s phase stood c)
    -- the instance is the one that the `run` begins, and what is left of its body stands there
    a_run : {i : ℕ} {s : Located} {callee : ℕ} {phase : Phase} {stood : Bool} {c : Control} {target : Option Path} {a : ℕ}
        {inputs : List Expr} {outputs : List Path} {unit : UnitDef} →
        kind_of s ≡ StmtKind-F.Run target a inputs outputs → callee_of w i (place_of s) ≡ Some callee → unit_at w callee ≡ Some unit →
        Proper w callee c → Proper w i (Run s callee phase stood c)

  -- as many branches as the `cobegin` has, each weak where its branch is
  pub data BranchesProper (w : Setting) : ℕ → List Branch → Branches → Type 0 where
    no_more : {i : ℕ} → BranchesProper w i [] no_branch
    a_branch : {i : ℕ} {b : Branch} {c : Control} {written : List Branch} {others : Branches} →
        Proper w i c → BranchesProper w i written others → BranchesProper w i (b ∷ written) (branch (out-Branch b).weak c others)

mutual
  pub left_proper : {w : Setting} {stood : Bool} {i : ℕ} {items : List Item} {c : Control} → Residual w stood i items c → Proper w i c
  left_proper nothing = a_nil
  left_proper (of_last stands of) = of_proper of
  left_proper (of_one stands fit of busy) = a_seq busy refl (of_proper of) fit

  of_proper : {w : Setting} {stood : Bool} {i : ℕ} {item : Item} {c : Control} → ResidualOf w stood i item c → Proper w i c
  of_proper to_begin = a_do
  of_proper (to_turn e) = a_turn e
  of_proper ended = a_nil
  of_proper (paused e) = a_wait e
  of_proper (tested e) = a_test e
  of_proper (of_arm e left) = left_proper left
  of_proper (of_further e of) = of_proper of
  of_proper (of_else e left) = left_proper left
  of_proper (of_repeat e left) = left_proper left
  of_proper (of_until e left) = left_proper left
  of_proper (of_while e left) = left_proper left
  of_proper (of_again e of) = of_proper of
  of_proper (of_par e around each) = a_par e (each_proper each)
  of_proper (of_guard e around check left) = a_guard e (left_proper left)
  of_proper (of_run e at is around check left) = a_run e at is (left_proper left)

  pub each_proper : {w : Setting} {stood : Bool} {i : ℕ} {s : Located} {k : ℕ} {written : List Branch} {branches : Branches} →
      ResidualEach w stood i s k written branches → BranchesProper w i written branches
  each_proper no_branch_left = no_more
  each_proper (one_branch_left left each) = a_branch (left_proper left) (each_proper each)
