-- What the definitions on loops come to at an arm, a branch and a statement.
use Rattle.std.proofs.Common.{◌≡◌, List, map, Option, ap, sym, ◌∙◌}
use Rattle.bl_tree.specs.declared.place.Place.{Place}
use Rattle.bl_tree.specs.declared.tree.Arm.{Arm, fold_out-Arm, out-Arm}
use Rattle.bl_tree.specs.declared.tree.Branch.{Branch, fold_out-Branch, out-Branch}
use Rattle.bl_tree.specs.declared.tree.Stmt.{Stmt, fold_out-Stmt, out-Stmt}
use Rattle.bl_tree.specs.declared.tree.Expr.{Expr}
use Rattle.bl_tree.specs.declared.tree.StmtKind.{StmtKind, fold-StmtKind, fold_out-StmtKind, map-StmtKind, out-StmtKind}
use Rattle.bl_tree.specs.declared.tree.StmtKind.TheOpen.{StmtKind-F}
use Rattle.bl_tree.specs.declared.tree.StmtKind.TheVariants.{If, Repeat, Until, While, outs-If, outs-Repeat, outs-Until, outs-While}
use Rattle.bl_tree.specs.declared.rule.Failure.{Failure}
use Rattle.bl_conflict.proofs.FirstLemmas.{least-append}
use Rattle.bl_effects.specs.Rules.{BranchLoops, Loops, arm_loops, block_ends, block_loops, branch_loops, kind_loops, loop_places, loops_in, stmt_loops}
use Rattle.bl_conflict.specs.inner.Failures.{least_by, loops_of_arm, loops_of_branch, of_loop}

pub arm_out : (arm : Arm) → loops_of_arm arm ≡ record {
  instant = block_ends (map loops_in (out-Arm arm).body);
  places =
      block_loops (map loops_in (out-Arm arm).body);
}
arm_out arm = fold_out-Arm (Place → Loops) Loops BranchLoops Loops kind_loops arm_loops branch_loops stmt_loops arm

pub branch_out : (branch : Branch) → loops_of_branch branch ≡ record {
  ends = record { weak = (out-Branch branch).weak; instant = block_ends (map loops_in (out-Branch branch).body) };
  places = block_loops (map loops_in (out-Branch branch).body);
}
branch_out branch = fold_out-Branch (Place → Loops) Loops BranchLoops Loops kind_loops arm_loops branch_loops stmt_loops branch

abbrev pub kind : StmtKind → Place → Loops
kind = fold-StmtKind (Place → Loops) Loops BranchLoops Loops kind_loops arm_loops branch_loops stmt_loops

abbrev pub done : StmtKind-F StmtKind Arm Branch Stmt → StmtKind-F (Place → Loops) Loops BranchLoops Loops
done = map-StmtKind StmtKind Arm Branch Stmt (Place → Loops) Loops BranchLoops Loops kind loops_of_arm loops_of_branch loops_in

pub loops_at : (s : Stmt) (layer : StmtKind-F StmtKind Arm Branch Stmt) → out-StmtKind (out-Stmt s).what ≡ layer →
    loops_in s ≡ kind_loops (done layer) (out-Stmt s).place
loops_at s layer is =
    fold_out-Stmt (Place → Loops) Loops BranchLoops Loops kind_loops arm_loops branch_loops stmt_loops s
    ∙ ap (λ f. f (out-Stmt s).place) (fold_out-StmtKind
    (Place → Loops) Loops BranchLoops Loops kind_loops arm_loops branch_loops stmt_loops (out-Stmt s).what)
    ∙ ap (λ layer. kind_loops (done layer) (out-Stmt s).place) is

module _ (s : Stmt) (best : Option Failure) where
  pub repeat_is : (made body : List Stmt) → (out-Stmt s).what ≡ Repeat body → made ≡ body →
      least_by of_loop best (loop_places (out-Stmt s).place (map loops_in made)) ≡ least_by of_loop best (loops_in s).places
  repeat_is made body is same =
      ap (λ body. least_by of_loop best (loop_places (out-Stmt s).place (map loops_in body))) same
      ∙ sym (ap (λ l. least_by of_loop best l.places) (loops_at s (StmtKind-F.Repeat body) (ap out-StmtKind is ∙ outs-Repeat body)))

  pub until_is : (made body : List Stmt) (e : Expr) → (out-Stmt s).what ≡ Until body e → made ≡ body →
      least_by of_loop best (loop_places (out-Stmt s).place (map loops_in made)) ≡ least_by of_loop best (loops_in s).places
  until_is made body e is same =
      ap (λ body. least_by of_loop best (loop_places (out-Stmt s).place (map loops_in body))) same
      ∙ sym (ap (λ l. least_by of_loop best l.places) (loops_at s (StmtKind-F.Until body e) (ap out-StmtKind is ∙ outs-Until body e)))

  pub while_is : (made body : List Stmt) (e : Expr) → (out-Stmt s).what ≡ While e body → made ≡ body →
      least_by of_loop best (loop_places (out-Stmt s).place (map loops_in made)) ≡ least_by of_loop best (loops_in s).places
  while_is made body e is same =
      ap (λ body. least_by of_loop best (loop_places (out-Stmt s).place (map loops_in body))) same
      ∙ sym (ap (λ l. least_by of_loop best l.places) (loops_at s (StmtKind-F.While e body) (ap out-StmtKind is ∙ outs-While e body)))

  pub if_is : (made arms : List Arm) (rest other : List Stmt) → (out-Stmt s).what ≡ If arms other → made ≡ arms → rest ≡ other
      → least_by of_loop (least_by of_loop best (block_loops (map loops_of_arm made))) (block_loops (map loops_in rest))
      ≡ least_by of_loop best (loops_in s).places
  if_is made arms rest other is same same_rest =
      ap (λ arms. least_by of_loop (least_by of_loop best (block_loops (map loops_of_arm arms))) (block_loops (map loops_in rest))) same
      ∙ ap (λ rest. least_by of_loop (least_by of_loop best (block_loops (map loops_of_arm arms))) (block_loops (map loops_in rest))) same_rest
      ∙ sym (least-append of_loop best (block_loops (map loops_of_arm arms)) (block_loops (map loops_in other)))
      ∙ sym (ap (λ l. least_by of_loop best l.places) (loops_at s (StmtKind-F.If arms other) (ap out-StmtKind is ∙ outs-If arms other)))
