-- A plain statement may end in the tick in which it begins exactly where its statement may.
use Rattle.std.proofs.Common.{◌≡◌, ℕ, suc, Bool, true, false, not, ◌&&◌, ◌||◌, cond, List, [], ◌∷◌, ◌++◌, map, refl, ap, sym, ◌∙◌}
use Rattle.std.proofs.lemmas.List.Elements.{All-head, All-tail}
use Rattle.bl_tree.proofs.Basics.{and_true, or_assoc}
use Rattle.bl_tree.specs.declared.place.Place.{Place}
use Rattle.bl_tree.specs.declared.tree.Arm.{Arm, out-Arm, fold-Arm, fold_out-Arm}
use Rattle.bl_tree.specs.declared.tree.Branch.{Branch, out-Branch, fold-Branch, fold_out-Branch}
use Rattle.bl_tree.specs.declared.tree.Stmt.{Stmt, fold-roll-Stmt}
use Rattle.bl_tree.specs.declared.tree.StmtKind.{fold-roll-StmtKind}
use Rattle.bl_tree.specs.declared.tree.StmtKind.TheOpen.{StmtKind-F}
use Rattle.bl_tree.specs.Instant.{BranchInstant, arm_instant, branch_ends, branches_instant, instant, is_instant_block, kind_instant, stmt_instant}
use Rattle.bl_tree.specs.Reduce.{all_of, any_of}
use Rattle.bl_tree.proofs.StmtInduction.{Cases, Each, EachArm, EachBranch, induct, stmt}
use Rattle.bl_graph_nodes.specs.Nodes.{are_instant, is_instant, some_instant, some_strong, strong_instant}
use Rattle.bl_graph_nodes.specs.Plain.{Label, Position, block_from, bodies_from, else_at, inside, label_at, passed_one, plain_block, plain_stmt}
use Rattle.bl_graph_nodes.specs.Laws.{plain_arm, plain_branch}
use Rattle.bl_graph_nodes.proofs.Equations.{plain_statements}

abbrev Same : Stmt → Type 0
Same s = (at : Position) → is_instant (plain_stmt s at) ≡ instant s

-- ---- blocks

block_same : (body : List Stmt) (k : ℕ) (block : Position) → Each Same body →
    are_instant (block_from (map plain_stmt body) k block) ≡ all_of (map instant body)
block_same [] k block each = refl
block_same (s ∷ rest) k block each =
    ap (λ first. first && are_instant (block_from (map plain_stmt rest) (suc k) block)) (All-head Same s rest each (block ++ k ∷ []))
    ∙ ap (λ others. instant s && others) (block_same rest (suc k) block (All-tail Same s rest each))

abbrev body_instant : Arm → Bool
body_instant arm = all_of (map instant (out-Arm arm).body)

pub or_same : (a : Bool) → (a || a) ≡ a
or_same true = refl
or_same false = refl

arms_same : (at : Label) (arms : List Arm) (other : List Stmt) → EachArm Same arms → Each Same other →
    are_instant (else_at at (map plain_arm arms) (plain_block other)) ≡ (any_of (map body_instant arms) || all_of (map instant other))
arms_same at [] other each others = block_same other 0 (inside at at.passed) others
arms_same at (arm ∷ rest) other each others =
    and_true _
    ∙ ap (λ first. first || are_instant (else_at (passed_one at) (map plain_arm rest) (plain_block other)))
    (block_same (out-Arm arm).body 0 (inside at at.passed) (All-head (λ arm. Each Same (out-Arm arm).body) arm rest each))
    ∙ ap (λ last. body_instant arm || last) (arms_same (passed_one at) rest other (All-tail (λ arm. Each Same (out-Arm arm).body) arm rest each) others)
    ∙ sym (or_assoc (body_instant arm) (any_of (map body_instant rest)) (all_of (map instant other)))

abbrev folded_arm : Arm → Bool
folded_arm = fold-Arm Bool Bool BranchInstant Bool kind_instant arm_instant branch_ends stmt_instant

abbrev folded_branch : Branch → BranchInstant
folded_branch = fold-Branch Bool Bool BranchInstant Bool kind_instant arm_instant branch_ends stmt_instant

arms_are : (arms : List Arm) → map folded_arm arms ≡ map body_instant arms
arms_are [] = refl
arms_are (arm ∷ rest) = λ i. fold_out-Arm Bool Bool BranchInstant Bool kind_instant arm_instant branch_ends stmt_instant arm i ∷ arms_are rest i

abbrev ends_of : Branch → BranchInstant
ends_of branch = record { weak = (out-Branch branch).weak; instant = all_of (map instant (out-Branch branch).body) }

branches_are : (branches : List Branch) → map folded_branch branches ≡ map ends_of branches
branches_are [] = refl
branches_are (branch ∷ rest) = λ i. fold_out-Branch Bool Bool BranchInstant Bool kind_instant arm_instant branch_ends stmt_instant branch i ∷ branches_are rest i

-- ---- branches

strong_same : (branches : List Branch) (k : ℕ) (at : Label) →
    some_strong (bodies_from (map plain_branch branches) k at) ≡ any_of (map (λ e. not e.weak) (map ends_of branches))
strong_same [] k at = refl
strong_same (b ∷ rest) k at = ap (λ others. not (out-Branch b).weak || others) (strong_same rest (suc k) at)

all_same : (branches : List Branch) (k : ℕ) (at : Label) → EachBranch Same branches →
    strong_instant (bodies_from (map plain_branch branches) k at) ≡ all_of (map (λ e. e.weak || e.instant) (map ends_of branches))
all_same [] k at each = refl
all_same (b ∷ rest) k at each =
    ap (λ body. ((out-Branch b).weak || body) && strong_instant (bodies_from (map plain_branch rest) (suc k) at))
    (block_same (out-Branch b).body 0 (inside at k) (All-head (λ b. Each Same (out-Branch b).body) b rest each))
    ∙ ap (λ others. ((out-Branch b).weak || all_of (map instant (out-Branch b).body)) && others)
    (all_same rest (suc k) at (All-tail (λ b. Each Same (out-Branch b).body) b rest each))

some_same : (branches : List Branch) (k : ℕ) (at : Label) → EachBranch Same branches →
    some_instant (bodies_from (map plain_branch branches) k at) ≡ any_of (map (λ e. e.instant) (map ends_of branches))
some_same [] k at each = refl
some_same (b ∷ rest) k at each =
    ap (λ body. body || some_instant (bodies_from (map plain_branch rest) (suc k) at))
    (block_same (out-Branch b).body 0 (inside at k) (All-head (λ b. Each Same (out-Branch b).body) b rest each))
    ∙ ap (λ others. all_of (map instant (out-Branch b).body) || others)
    (some_same rest (suc k) at (All-tail (λ b. Each Same (out-Branch b).body) b rest each))

bodies_same : (branches : List Branch) (at : Label) → EachBranch Same branches →
    cond (some_strong (bodies_from (map plain_branch branches) 0 at)) (strong_instant (bodies_from (map plain_branch branches) 0 at))
    (some_instant (bodies_from (map plain_branch branches) 0 at)) ≡ branches_instant (map ends_of branches)
bodies_same branches at each =
    ap (λ strong. cond strong (strong_instant (bodies_from (map plain_branch branches) 0 at)) (some_instant (bodies_from (map plain_branch branches) 0 at)))
    (strong_same branches 0 at)
    ∙ ap (λ all. cond (any_of (map (λ e. not e.weak) (map ends_of branches))) all (some_instant (bodies_from (map plain_branch branches) 0 at)))
    (all_same branches 0 at each)
    ∙ ap (λ some. cond (any_of (map (λ e. not e.weak) (map ends_of branches))) (all_of (map (λ e. e.weak || e.instant) (map ends_of branches))) some)
    (some_same branches 0 at each)

-- ---- statements

branching_same : (place : Place) (arms : List Arm) (other : List Stmt) → EachArm Same arms → Each Same other →
    Same (stmt place (StmtKind-F.If arms other))
branching_same place [] other each others at = rw (fold-roll-Stmt, fold-roll-StmtKind, fold-roll-Stmt, fold-roll-StmtKind)
    (ap (λ a. a || are_instant (plain_block other (inside (label_at at) 1))) (block_same other 0 (inside (label_at at) 0) others)
    ∙ ap (λ a. all_of (map instant other) || a) (block_same other 0 (inside (label_at at) 1) others) ∙ or_same (all_of (map instant other)))
branching_same place (arm ∷ rest) other each others at =
    ap is_instant (plain_statements.branching place at arm rest other)
    ∙ ap (λ first. first || are_instant (else_at (passed_one (label_at at)) (map plain_arm rest) (plain_block other)))
    (block_same (out-Arm arm).body 0 (inside (label_at at) 0) (All-head (λ arm. Each Same (out-Arm arm).body) arm rest each))
    ∙ ap (λ last. body_instant arm || last) (arms_same (passed_one (label_at at)) rest other
    (All-tail (λ arm. Each Same (out-Arm arm).body) arm rest each) others)
    ∙ sym (or_assoc (body_instant arm) (any_of (map body_instant rest)) (all_of (map instant other)))
    ∙ ap (λ all. any_of all || all_of (map instant other)) (sym (arms_are (arm ∷ rest)))
    ∙ sym (rw (fold-roll-Stmt, fold-roll-StmtKind) refl)

cobegin_same : (place : Place) (branches : List Branch) → EachBranch Same branches → Same (stmt place (StmtKind-F.Cobegin branches))
cobegin_same place branches each at =
    ap is_instant (plain_statements.parallel place at branches)
    ∙ bodies_same branches (label_at at) each
    ∙ ap branches_instant (sym (branches_are branches))
    ∙ sym (rw (fold-roll-Stmt, fold-roll-StmtKind) refl)

cases : Cases Same
cases = record {
  declare = λ place k initial at. rw (fold-roll-Stmt, fold-roll-StmtKind, fold-roll-Stmt, fold-roll-StmtKind) refl;
  assign = λ place path e at. rw (fold-roll-Stmt, fold-roll-StmtKind, fold-roll-Stmt, fold-roll-StmtKind) refl;
  call = λ place f inputs outputs at. rw (fold-roll-Stmt, fold-roll-StmtKind, fold-roll-Stmt, fold-roll-StmtKind) refl;
  await = λ place e at. rw (fold-roll-Stmt, fold-roll-StmtKind, fold-roll-Stmt, fold-roll-StmtKind) refl;
  run = λ place target a inputs outputs at. rw (fold-roll-Stmt, fold-roll-StmtKind, fold-roll-Stmt, fold-roll-StmtKind) refl;
  branching = branching_same;
  cobegin = cobegin_same;
  guarded = λ place guard e body each at. rw (fold-roll-Stmt, fold-roll-StmtKind, fold-roll-Stmt, fold-roll-StmtKind) (block_same body 0 _ each);
  repeat = λ place body each at. rw (fold-roll-Stmt, fold-roll-StmtKind, fold-roll-Stmt, fold-roll-StmtKind) refl;
  until = λ place body e each at. rw (fold-roll-Stmt, fold-roll-StmtKind, fold-roll-Stmt, fold-roll-StmtKind) (block_same body 0 _ each);
  while = λ place e body each at. rw (fold-roll-Stmt, fold-roll-StmtKind, fold-roll-Stmt, fold-roll-StmtKind) refl;
  returns = λ place e at. rw (fold-roll-Stmt, fold-roll-StmtKind, fold-roll-Stmt, fold-roll-StmtKind) refl;
}

pub instant_is : (s : Stmt) (at : Position) → is_instant (plain_stmt s at) ≡ instant s
instant_is = induct Same cases

each_same : (body : List Stmt) → Each Same body
each_same body k s lt = instant_is _

pub blocks_are_instant : (body : List Stmt) (at : Position) → are_instant (plain_block body at) ≡ is_instant_block body
blocks_are_instant body at = block_same body 0 at (each_same body)
