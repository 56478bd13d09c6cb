-- Variables of one branch: what is declared in a branch of a `cobegin` is named in no other branch of it.
use Rattle.std.specs.Prelude.{ℕ, Bool, true, not, ◌&&◌, nat_eq, List, [], ◌∷◌, ◌++◌, map, Option, Some, None}
use Rattle.std.specs.List.{list_all, list_any}
use Rattle.bl_tree.specs.declared.tree.Expr.{Expr, fold-Expr}
use Rattle.bl_tree.specs.declared.tree.ExprKind.TheOpen.{ExprKind-F, Part-F, Path-F, Expr-F}
use Rattle.bl_tree.specs.declared.tree.Path.{Path, fold-Path}
use Rattle.bl_tree.specs.declared.tree.Stmt.{Stmt, fold-Stmt}
use Rattle.bl_tree.specs.declared.tree.StmtKind.TheOpen.{StmtKind-F, Arm-F, Branch-F, Stmt-F}
use Rattle.bl_tree.specs.Reduce.{all_of, joined}

-- variables by their positions in their unit
abbrev pub Roots : Type 0
Roots = List ℕ

-- the variables that one layer of an expression names, from those of its operands
abbrev pub kind_roots : ExprKind-F Roots Roots Roots Roots → Roots
kind_roots (ExprKind-F.Literal n s) = []
kind_roots (ExprKind-F.Read path) = path
kind_roots (ExprKind-F.Prev k) = k ∷ []
kind_roots (ExprKind-F.One op a) = a
kind_roots (ExprKind-F.Two op a b) = a ++ b
kind_roots (ExprKind-F.Cast target a) = a
kind_roots (ExprKind-F.Call f inputs) = joined inputs

-- the variables that a part of a path names: none for a field, those of its expression for an index
abbrev pub part_roots : Part-F Roots Roots Roots Roots → Roots
part_roots (Part-F.Field k) = []
part_roots (Part-F.Index e) = e

-- an expression names what its kind names, wherever it stands
abbrev pub expr_layer_roots : Expr-F Roots Roots Roots Roots → Roots
expr_layer_roots e = e.what

-- a path names its root, and what its indices name
abbrev pub path_layer_roots : Path-F Roots Roots Roots Roots → Roots
path_layer_roots path = path.root ∷ joined path.parts

-- the variables that an expression names
abbrev pub roots_in : Expr → Roots
roots_in = fold-Expr Roots Roots Roots Roots kind_roots part_roots expr_layer_roots path_layer_roots

-- the variables that a path names, its indices included
abbrev pub roots_in_path : Path → Roots
roots_in_path = fold-Path Roots Roots Roots Roots kind_roots part_roots expr_layer_roots path_layer_roots

-- the variables that a statement declares, those that it names, and whether its branches keep apart
pub record Naming : Type 0 where
  pub declared : Roots
  pub named : Roots
  pub apart : Bool

-- the naming of a part that declares nothing and names the given variables
abbrev pub naming : Roots → Naming
naming roots = record { declared = []; named = roots; apart = true }

-- several parts as one: what any of them declares, what any of them names, and whether all keep apart
abbrev pub together : List Naming → Naming
together namings = record {
  declared = joined (map (λ n. n.declared) namings);
  named = joined (map (λ n. n.named) namings);
  apart = all_of (map (λ n. n.apart) namings);
}

-- several parts and an expression beside them, such as the condition of a loop, as one part
abbrev pub and_naming : Roots → List Naming → Naming
and_naming roots namings = together (naming roots ∷ namings)

-- whether none of the declared variables is among the named ones
abbrev pub is_foreign : Roots → Roots → Bool
is_foreign declared named = not (list_any (λ k. list_any (nat_eq k) named) declared)

-- whether neither of two branches names what the other declares
abbrev pub keep_apart : Naming → Naming → Bool
keep_apart a b = is_foreign a.declared b.named && is_foreign b.declared a.named

-- whether each two of the branches keep apart
abbrev pub all_apart : List Naming → Bool
all_apart [] = true
all_apart (branch ∷ rest) = list_all (keep_apart branch) rest && all_apart rest

-- the branches of one `cobegin` as one part, which keeps apart where each of them does and each two of them do
abbrev pub of_branches : List Naming → Naming
of_branches branches = let all = together branches in
    record { declared = all.declared; named = all.named; apart = all.apart && all_apart branches }

-- the variables that an expression names, where there is one
abbrev pub optional_roots : Option Expr → Roots
optional_roots (Some e) = roots_in e
optional_roots None = []

-- the variables that the target of a `run` names, where there is one
abbrev pub target_roots : Option Path → Roots
target_roots (Some path) = roots_in_path path
target_roots None = []

-- the variables that the inputs and outputs of a call or `run` name
abbrev pub argument_roots : List Expr → List Path → Roots
argument_roots inputs outputs = joined (map roots_in inputs) ++ joined (map roots_in_path outputs)

-- the naming of a declaration of one variable, from the variables that its initial value names
abbrev pub declares : ℕ → Roots → Naming
declares k roots = record { declared = k ∷ []; named = k ∷ roots; apart = true }

-- the naming of one layer of a statement, from the namings of its arms, branches and blocks
abbrev pub stmt_kind_naming : StmtKind-F Naming Naming Naming Naming → Naming
stmt_kind_naming (StmtKind-F.Declare k initial) = declares k (optional_roots initial)
stmt_kind_naming (StmtKind-F.Assign path e) = naming (roots_in_path path ++ roots_in e)
stmt_kind_naming (StmtKind-F.Call f inputs outputs) = naming (argument_roots inputs outputs)
stmt_kind_naming (StmtKind-F.Await e) = naming (roots_in e)
stmt_kind_naming (StmtKind-F.Run target a inputs outputs) = naming (target_roots target ++ argument_roots inputs outputs)
stmt_kind_naming (StmtKind-F.If arms other) = together (arms ++ other)
stmt_kind_naming (StmtKind-F.Cobegin branches) = of_branches branches
stmt_kind_naming (StmtKind-F.When guard e body) = and_naming (roots_in e) body
stmt_kind_naming (StmtKind-F.Repeat body) = together body
stmt_kind_naming (StmtKind-F.Until body e) = and_naming (roots_in e) body
stmt_kind_naming (StmtKind-F.While e body) = and_naming (roots_in e) body
stmt_kind_naming (StmtKind-F.Return e) = naming (optional_roots e)

-- an arm of an `if` names what its condition and its block name
abbrev pub arm_naming : Arm-F Naming Naming Naming Naming → Naming
arm_naming arm = and_naming (roots_in arm.test) arm.body

-- a branch declares and names what its block does
abbrev pub branch_naming : Branch-F Naming Naming Naming Naming → Naming
branch_naming branch = together branch.body

-- a statement declares and names what its kind does, wherever it stands
abbrev pub stmt_layer_naming : Stmt-F Naming Naming Naming Naming → Naming
stmt_layer_naming s = s.what

-- what a statement declares and names, all that stands in it included, and whether its branches keep apart
abbrev pub naming_of : Stmt → Naming
naming_of = fold-Stmt Naming Naming Naming Naming stmt_kind_naming arm_naming branch_naming stmt_layer_naming

-- whether the branches of every `cobegin` of the statement keep apart
abbrev pub is_apart : Stmt → Bool
is_apart s = (naming_of s).apart
