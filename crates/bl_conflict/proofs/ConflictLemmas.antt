-- What the definitions on acts come to at an arm, a branch and an `if`, and one more branch beside those before it.
use Rattle.std.proofs.Common.{◌≡◌, ℕ, zero, suc, ◌≤◌, List, [], ◌∷◌, ◌++◌, map, length, take, drop, Option, refl, ap, sym, ◌∙◌, arith, length-append}
use Rattle.std.proofs.Common.{length-drop, ◌-◌}
use Rattle.bl_tree.specs.declared.place.Place.{Place}
use Rattle.bl_tree.specs.declared.tree.Arm.{Arm, fold_out-Arm, out-Arm}
use Rattle.bl_tree.specs.declared.tree.Branch.{Branch, fold_out-Branch, out-Branch}
use Rattle.bl_tree.specs.declared.tree.Stmt.{Stmt, fold_out-Stmt, out-Stmt}
use Rattle.bl_tree.specs.declared.tree.StmtKind.{StmtKind, fold-StmtKind, fold_out-StmtKind, map-StmtKind, out-StmtKind}
use Rattle.bl_tree.specs.declared.tree.StmtKind.TheOpen.{StmtKind-F}
use Rattle.bl_tree.specs.declared.tree.StmtKind.TheVariants.{If, outs-If}
use Rattle.bl_tree.specs.declared.tree.Var.{Var}
use Rattle.bl_effects.specs.declared.marked.Marked.{Marked}
use Rattle.bl_effects.specs.Rules.{Parallel, arm_parallel, branch_parallel, kind_parallel, parallel_of, splits_after, stmt_parallel, together}
use Rattle.bl_tree.specs.declared.rule.Failure.{Failure}
use Rattle.bl_tree.specs.Rules.{first_of}
use Rattle.bl_conflict.specs.inner.Failures.{all_clashes, clashes, parallel_of_arm, parallel_of_branch}
use Rattle.bl_conflict.proofs.FirstLemmas.{first-append, branch-next, clashes-append}

pub arm_out : (arm : Arm) → parallel_of_arm arm ≡ together (map parallel_of (out-Arm arm).body)
arm_out arm = fold_out-Arm (Place → Parallel) Parallel Parallel Parallel kind_parallel arm_parallel branch_parallel stmt_parallel arm

pub branch_out : (branch : Branch) → parallel_of_branch branch ≡ together (map parallel_of (out-Branch branch).body)
branch_out branch = fold_out-Branch (Place → Parallel) Parallel Parallel Parallel kind_parallel arm_parallel branch_parallel stmt_parallel branch

abbrev kind : StmtKind → Place → Parallel
kind = fold-StmtKind (Place → Parallel) Parallel Parallel Parallel kind_parallel arm_parallel branch_parallel stmt_parallel

abbrev done : StmtKind-F StmtKind Arm Branch Stmt → StmtKind-F (Place → Parallel) Parallel Parallel Parallel
done = map-StmtKind StmtKind Arm Branch Stmt (Place → Parallel) Parallel Parallel Parallel kind parallel_of_arm parallel_of_branch parallel_of

parallel_at : (s : Stmt) (layer : StmtKind-F StmtKind Arm Branch Stmt) → out-StmtKind (out-Stmt s).what ≡ layer →
    parallel_of s ≡ kind_parallel (done layer) (out-Stmt s).place
parallel_at s layer is =
    fold_out-Stmt (Place → Parallel) Parallel Parallel Parallel kind_parallel arm_parallel branch_parallel stmt_parallel s
    ∙ ap (λ f. f (out-Stmt s).place) (fold_out-StmtKind
    (Place → Parallel) Parallel Parallel Parallel kind_parallel arm_parallel branch_parallel stmt_parallel (out-Stmt s).what)
    ∙ ap (λ layer. kind_parallel (done layer) (out-Stmt s).place) is

pub if_is : (vars : List Var) (s : Stmt) (best : Option Failure) (made arms : List Arm) (rest other : List Stmt) →
    (out-Stmt s).what ≡ If arms other → made ≡ arms → rest ≡ other
    → first_of (first_of best (all_clashes vars (together (map parallel_of_arm made)).splits)) (all_clashes vars (together (map parallel_of rest)).splits)
    ≡ first_of best (all_clashes vars (parallel_of s).splits)
if_is vars s best made arms rest other is same same_rest =
    let one = (together (map parallel_of_arm arms)).splits in
    let two = (together (map parallel_of other)).splits in
    ap (λ arms. first_of (first_of best (all_clashes vars (together (map parallel_of_arm arms)).splits))
    (all_clashes vars (together (map parallel_of rest)).splits)) same
    ∙ ap (λ rest. first_of (first_of best (all_clashes vars one)) (all_clashes vars (together (map parallel_of rest)).splits)) same_rest
    ∙ sym (first-append best (all_clashes vars one) (all_clashes vars two))
    ∙ ap (first_of best) (sym (clashes-append vars one two))
    ∙ sym (ap (λ p. first_of best (all_clashes vars p.splits)) (parallel_at s (StmtKind-F.If arms other) (ap out-StmtKind is ∙ outs-If arms other)))

-- ---- branches

take_front : (xs ys : List Marked) → take (length xs) (xs ++ ys) ≡ xs
take_front [] ys = refl
take_front (x ∷ xs) ys = ap (λ rest. x ∷ rest) (take_front xs ys)

drop_front : (xs ys : List Marked) → drop (length xs) (xs ++ ys) ≡ ys
drop_front [] ys = refl
drop_front (x ∷ xs) ys = drop_front xs ys

drop_within : (xs ys : List Marked) (k : ℕ) → k ≤ length xs → drop k (xs ++ ys) ≡ drop k xs ++ ys
drop_within [] ys zero within = refl
drop_within [] ys (suc k) within = absurd (omega arith)
drop_within (x ∷ xs) ys zero within = refl
drop_within (x ∷ xs) ys (suc k) within = drop_within xs ys k (omega arith)

-- what was written before a branch, what the branch wrote, and both
pub front_is : (writes more seen written : List Marked) (start mark : ℕ) → more ≡ writes ++ written → seen ≡ more →
    mark ≡ length writes → drop start (take mark seen) ≡ drop start writes
front_is writes more seen written start mark grew same at =
    ap (λ k. drop start (take k seen)) at ∙ ap (λ l. drop start (take (length writes) l)) (same ∙ grew) ∙ ap (drop start) (take_front writes written)

pub behind_is : (writes more seen written : List Marked) (mark : ℕ) → more ≡ writes ++ written → seen ≡ more →
    mark ≡ length writes → drop mark seen ≡ written
behind_is writes more seen written mark grew same at = ap (λ k. drop k seen) at ∙ ap (drop (length writes)) (same ∙ grew) ∙ drop_front writes written

take_whole : (xs : List Marked) → take (length xs) xs ≡ xs
take_whole [] = refl
take_whole (x ∷ xs) = ap (λ rest. x ∷ rest) (take_whole xs)

pub rest_is : (seen written : List Marked) (mark : ℕ) → drop mark seen ≡ written → take (length seen - mark) (drop mark seen) ≡ written
rest_is seen written mark is = ap (λ n. take n (drop mark seen)) (sym (length-drop mark seen)) ∙ take_whole (drop mark seen) ∙ is

pub grown_is : (writes more written : List Marked) (start : ℕ) → more ≡ writes ++ written → start ≤ length writes →
    drop start more ≡ drop start writes ++ written
grown_is writes more written start grew within = ap (drop start) grew ∙ drop_within writes written start within

-- one more branch, which wrote behind what was written
pub branch_step : (vars : List Var) (writes more seen : List Marked) (start mark : ℕ) (all rest : List Parallel) (x : Parallel)
    (best inner clash found : Option Failure)
    → all ≡ x ∷ rest → more ≡ writes ++ x.writes → seen ≡ more → mark ≡ length writes → start ≤ length writes
    → inner ≡ first_of best (all_clashes vars x.splits)
    → clash ≡ first_of inner (clashes vars (record { earlier = drop start (take mark seen); writes = drop mark seen }))
    → first_of best (all_clashes vars (splits_after (drop start writes) all)) ≡ found
    → first_of clash (all_clashes vars (splits_after (drop start more) rest)) ≡ found
branch_step vars writes more seen start mark all rest x best inner clash found is grew same at within first second h =
    let seen_is : seen ≡ writes ++ x.writes = same ∙ grew in
    let front : drop start (take mark seen) ≡ drop start writes =
    ap (λ k. drop start (take k seen)) at ∙ ap (λ l. drop start (take (length writes) l)) seen_is ∙ ap (drop start) (take_front writes x.writes) in
    let behind : drop mark seen ≡ x.writes = ap (λ k. drop k seen) at ∙ ap (drop (length writes)) seen_is ∙ drop_front writes x.writes in
    let grown : drop start more ≡ drop start writes ++ x.writes = ap (drop start) grew ∙ drop_within writes x.writes start within in
    let this : clash ≡ first_of (first_of best (all_clashes vars x.splits)) (clashes vars (record { earlier = drop start writes; writes = x.writes })) =
    second ∙ ap (λ b. first_of b (clashes vars (record { earlier = drop start (take mark seen); writes = drop mark seen }))) first
    ∙ ap (λ e. first_of (first_of best (all_clashes vars x.splits)) (clashes vars (record { earlier = e; writes = drop mark seen }))) front
    ∙ ap (λ w. first_of (first_of best (all_clashes vars x.splits)) (clashes vars (record { earlier = drop start writes; writes = w }))) behind in
    ap (λ b. first_of b (all_clashes vars (splits_after (drop start more) rest))) this
    ∙ ap (λ l. first_of (first_of (first_of best (all_clashes vars x.splits))
    (clashes vars (record { earlier = drop start writes; writes = x.writes }))) (all_clashes vars (splits_after l rest))) grown
    ∙ branch-next vars (drop start writes) all rest x best found is h

-- what was written reaches as far as before
pub still_within : (writes more written : List Marked) (start : ℕ) → more ≡ writes ++ written → start ≤ length writes → start ≤ length more
still_within writes more written start grew within = let e = ap length grew in omega (arith, e, length-append writes written)
