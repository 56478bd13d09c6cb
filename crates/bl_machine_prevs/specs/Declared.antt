-- Where a body asks what a variable was: behind the variable's declaration.
use Rattle.std.specs.Prelude.{◌≡◌, ℕ, Bool, true, ◌&&◌, List, [], ◌∷◌, ◌++◌, map, nat_eq, Contains}
use Rattle.std.specs.List.{list_all, list_any}
use Rattle.bl_tree.specs.declared.tree.Expr.{Expr}
use Rattle.bl_tree.specs.declared.tree.Stmt.{Stmt, out-Stmt}
use Rattle.bl_tree.specs.declared.tree.StmtKind.{out-StmtKind}
use Rattle.bl_tree.specs.declared.tree.StmtKind.TheOpen.{StmtKind-F}
use Rattle.bl_tree.specs.declared.tree.Unit.{Unit as UnitDef}
use Rattle.bl_tree.specs.Reduce.{joined}
use Rattle.bl_graph_nodes.specs.Nodes.{ActAt, CheckAt, EnterAt, Node, ResumeAt, TestAt}
use Rattle.bl_graph_nodes.specs.Plain.{Act, Again, Await, Block, Bodies, Body as BodyOf, Cobegin, Done, If, Last, Plain, Repeat, Run as RunOf, Then, Until}
use Rattle.bl_graph_nodes.specs.Plain.{When, While, plain_body}
use Rattle.bl_machine_prevs.specs.Prevs.{prevs_in, prevs_in_expr}

-- ---- nodes

-- the variables under a `prev` in expressions
abbrev pub prevs_in_inputs : List Expr → List ℕ
prevs_in_inputs inputs = joined (map prevs_in_expr inputs)

-- the variables under a `prev` of a node; outputs and target of a `run` have no index for one
abbrev pub prevs_at : Node → List ℕ
prevs_at (ActAt l s) = prevs_in s
prevs_at (TestAt l at e) = prevs_in_expr e
prevs_at (CheckAt l at e) = prevs_in_expr e
prevs_at (EnterAt l at arguments) = prevs_in_inputs arguments.inputs
prevs_at (ResumeAt l at arguments) = prevs_in_inputs arguments.inputs
prevs_at n = []

-- ---- declarations

-- the variable that a kind of statement declares
abbrev pub declared_kind : {A B C D : Type 0} → StmtKind-F A B C D → List ℕ
declared_kind (StmtKind-F.Declare k initial) = k ∷ []
declared_kind _ = []

-- the variable that an act declares
abbrev pub declared_in : Stmt → List ℕ
declared_in s = declared_kind (out-StmtKind (out-Stmt s).what)

-- what a statement declares for those that follow it in its block
abbrev pub declared_by : Plain → List ℕ
declared_by (Act l s) = declared_in s
declared_by _ = []

-- whether the variables are all among the declared ones
abbrev pub are_known : List ℕ → List ℕ → Bool
are_known known ks = list_all (λ k. list_any (nat_eq k) known) ks

abbrev mutual
  -- whether each variable under a `prev` in a statement is declared before it, or before its statement in one of its blocks
  pub prevs_stand : List ℕ → Plain → Bool
  prevs_stand known (Act l s) = are_known known (prevs_in s)
  prevs_stand known (Await l at e) = are_known known (prevs_in_expr e)
  prevs_stand known (RunOf l at target a inputs outputs) = are_known known (prevs_in_inputs inputs)
  prevs_stand known (If l at e body other) = are_known known (prevs_in_expr e) && (prevs_stand_in known body && prevs_stand_in known other)
  prevs_stand known (Cobegin l at bodies) = prevs_stand_in_each known bodies
  prevs_stand known (When l at guard e body) = are_known known (prevs_in_expr e) && prevs_stand_in known body
  prevs_stand known (Repeat l at body) = prevs_stand_in known body
  prevs_stand known (Until l at body e) = are_known known (prevs_in_expr e) && prevs_stand_in known body
  prevs_stand known (While l at e body) = are_known known (prevs_in_expr e) && prevs_stand_in known body
  prevs_stand known (Again l at body e) = are_known known (prevs_in_expr e) && prevs_stand_in known body

  -- whether each variable under a `prev` in a block is declared before its statement
  pub prevs_stand_in : List ℕ → Block → Bool
  prevs_stand_in known Done = true
  prevs_stand_in known (Then s rest) = prevs_stand known s && prevs_stand_in (declared_by s ++ known) rest

  -- whether each variable under a `prev` in branches is declared before its statement
  pub prevs_stand_in_each : List ℕ → Bodies → Bool
  prevs_stand_in_each known Last = true
  prevs_stand_in_each known (BodyOf weak body rest) = prevs_stand_in known body && prevs_stand_in_each known rest

-- whether a unit asks what a variable was only behind its declaration. Parameters are never asked for
abbrev pub prevs_are_declared : UnitDef → Bool
prevs_are_declared unit = prevs_stand_in [] (plain_body unit.body)

-- ---- together

-- what holds of the units of a program that is made of a source text, beside what each typed program keeps
pub record FromText (units : List UnitDef) : Type 0 where
  pub declared : (unit : UnitDef) → Contains units unit → prevs_are_declared unit ≡ true
