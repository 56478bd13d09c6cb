-- The counters of statements as they are made, from the innermost statements outwards.
use Rattle.std.specs.Prelude.{ℕ, ◌+◌, max, List, [], ◌∷◌, ◌++◌, map}
use Rattle.bl_tree.specs.declared.tree.Arm.{Arm, fold-Arm}
use Rattle.bl_tree.specs.declared.tree.Branch.{Branch, fold-Branch}
use Rattle.bl_tree.specs.declared.tree.Stmt.{Stmt, fold-Stmt}
use Rattle.bl_tree.specs.declared.tree.StmtKind.{StmtKind, fold-StmtKind}
use Rattle.bl_tree.specs.declared.tree.StmtKind.TheOpen.{StmtKind-F, Arm-F, Branch-F, Stmt-F}
use Rattle.bl_tree.specs.Reduce.{greatest, joined, total}

-- how many counters a part takes, and the counters of its places where it is laid out from a counter on
pub record Laid : Type 0 where
  pub width : ℕ
  pub counters : ℕ → List ℕ

-- a part without a place to rest
abbrev pub none_laid : Laid
none_laid = record { width = 0; counters = λ low. [] }

-- a part with one place to rest
abbrev pub one_laid : Laid
one_laid = record { width = 1; counters = λ low. low ∷ [] }

-- the widths of some parts
abbrev pub widths : List Laid → List ℕ
widths all = map (λ laid. laid.width) all

-- the counters of parts that are laid out from one counter on
abbrev pub counters_from : ℕ → List Laid → List ℕ
counters_from low all = joined (map (λ laid. laid.counters low) all)

-- the layout of a block from those of its parts: it takes as many counters as the widest
abbrev pub block_laid : List Laid → Laid
block_laid all = record { width = greatest (widths all); counters = λ low. counters_from low all }

-- two blocks that take the same counters
abbrev pub either_laid : List Laid → List Laid → Laid
either_laid some others = record {
  width = max (greatest (widths some)) (greatest (widths others));
  counters = λ low. counters_from low some ++ counters_from low others;
}

-- the layout of an `if`. No `if` of a program is without an arm, which would do its `else` part
abbrev pub arms_laid : List Laid → List Laid → List Laid
arms_laid [] other = other
arms_laid (arm ∷ rest) other = arm ∷ rest

-- the counters of branches, each with its end, behind those of the branches before it
abbrev pub branch_counters : List Laid → ℕ → List ℕ
branch_counters [] low = []
branch_counters (branch ∷ rest) low = low ∷ (branch.counters low ++ branch_counters rest (low + branch.width))

-- how a kind of statement is laid out, from its laid-out parts
abbrev pub kind_laid : StmtKind-F Laid Laid Laid Laid → Laid
kind_laid (StmtKind-F.Declare k initial) = none_laid
kind_laid (StmtKind-F.Assign path e) = none_laid
kind_laid (StmtKind-F.Call f inputs outputs) = none_laid
kind_laid (StmtKind-F.Await e) = one_laid
kind_laid (StmtKind-F.Run target a inputs outputs) = one_laid
kind_laid (StmtKind-F.If arms other) = either_laid (arms_laid arms other) other
kind_laid (StmtKind-F.Cobegin branches) = record { width = total (widths branches); counters = branch_counters branches }
kind_laid (StmtKind-F.When guard e body) = block_laid body
kind_laid (StmtKind-F.Repeat body) = block_laid body
kind_laid (StmtKind-F.Until body e) = block_laid body
kind_laid (StmtKind-F.While e body) = block_laid body
kind_laid (StmtKind-F.Return e) = none_laid

-- how an arm is laid out, from its laid-out statements
abbrev pub arm_laid : Arm-F Laid Laid Laid Laid → Laid
arm_laid arm = block_laid arm.body

-- how a branch is laid out: its end takes a counter where nothing else in it does
abbrev pub branch_laid : Branch-F Laid Laid Laid Laid → Laid
branch_laid branch = record { width = max 1 (greatest (widths branch.body)); counters = λ low. counters_from low branch.body }

-- how a statement is laid out: as its kind is
abbrev pub stmt_laid : Stmt-F Laid Laid Laid Laid → Laid
stmt_laid s = s.what

-- how a statement is laid out
abbrev pub laid : Stmt → Laid
laid = fold-Stmt Laid Laid Laid Laid kind_laid arm_laid branch_laid stmt_laid

-- how a kind of statement is laid out
abbrev pub laid_kind : StmtKind → Laid
laid_kind = fold-StmtKind Laid Laid Laid Laid kind_laid arm_laid branch_laid stmt_laid

-- how an arm is laid out
abbrev pub laid_arm : Arm → Laid
laid_arm = fold-Arm Laid Laid Laid Laid kind_laid arm_laid branch_laid stmt_laid

-- how a branch is laid out
abbrev pub laid_branch : Branch → Laid
laid_branch = fold-Branch Laid Laid Laid Laid kind_laid arm_laid branch_laid stmt_laid

-- the layout of a block
abbrev pub laid_block : List Stmt → Laid
laid_block body = block_laid (map laid body)
