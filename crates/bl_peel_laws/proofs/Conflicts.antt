-- What is peeled has the writes of its source, and each of its branches those of a branch of the source.
use Rattle.std.proofs.Common.{◌≡◌, Bool, List, [], ◌∷◌, ◌++◌, map, refl, ap, sym, ◌∙◌}
use Rattle.std.specs.Prelude.{⊤}
use Rattle.std.proofs.lemmas.List.{append-nil}
use Rattle.bl_tree.specs.declared.place.Place.{Place}
use Rattle.bl_tree.specs.declared.tree.Arm.{Arm, fold-Arm, fold_out-Arm, out-Arm}
use Rattle.bl_tree.specs.declared.tree.Branch.{Branch, fold-Branch, fold_out-Branch, out-Branch}
use Rattle.bl_tree.specs.declared.tree.Stmt.{Stmt, fold-roll-Stmt}
use Rattle.bl_tree.specs.declared.tree.StmtKind.{StmtKind, fold-StmtKind, fold-roll-StmtKind}
use Rattle.bl_tree.specs.declared.tree.StmtKind.TheFolds.{map-StmtKind}
use Rattle.bl_tree.specs.declared.tree.StmtKind.TheOpen.{StmtKind-F}
use Rattle.bl_tree.specs.Reduce.{joined}
use Rattle.bl_effects.specs.declared.marked.Marked.{Marked}
use Rattle.bl_effects.specs.Rules.{Parallel, Split, arm_parallel, beside, branch_parallel, kind_parallel, parallel_of, splits_after, stmt_parallel, together}
use Rattle.bl_peel.specs.Peeled.{made_stmt, peeled}
use Rattle.bl_peel_laws.proofs.Inheriting.{BranchesBelow, Inherits, inherited, more_branches, no_branches}
use Rattle.bl_peel_laws.proofs.Lists.{Both, Covers, Has, Listed, anything, cobegin_covered, covers_beside, covers_by, covers_itself, covers_none, covers_one}
use Rattle.bl_peel_laws.proofs.Lists.{fuse, with_listed}

abbrev parallel_of_kind : StmtKind → Place → Parallel
parallel_of_kind = fold-StmtKind (Place → Parallel) Parallel Parallel Parallel kind_parallel arm_parallel branch_parallel stmt_parallel

abbrev parallel_of_arm : Arm → Parallel
parallel_of_arm = fold-Arm (Place → Parallel) Parallel Parallel Parallel kind_parallel arm_parallel branch_parallel stmt_parallel

abbrev parallel_of_branch : Branch → Parallel
parallel_of_branch = fold-Branch (Place → Parallel) Parallel Parallel Parallel kind_parallel arm_parallel branch_parallel stmt_parallel

abbrev parallel_parts : StmtKind-F StmtKind Arm Branch Stmt → StmtKind-F (Place → Parallel) Parallel Parallel Parallel
parallel_parts =
    map-StmtKind StmtKind Arm Branch Stmt (Place → Parallel) Parallel Parallel Parallel parallel_of_kind parallel_of_arm parallel_of_branch parallel_of

parallel_at : (place : Place) (layer : StmtKind-F StmtKind Arm Branch Stmt) → parallel_of (made_stmt place layer) ≡ kind_parallel (parallel_parts layer) place
parallel_at place layer = rw (fold-roll-Stmt, fold-roll-StmtKind) refl

arm_is : (arm : Arm) → parallel_of_arm arm ≡ together (map parallel_of (out-Arm arm).body)
arm_is = fold_out-Arm (Place → Parallel) Parallel Parallel Parallel kind_parallel arm_parallel branch_parallel stmt_parallel

branch_is : (branch : Branch) → parallel_of_branch branch ≡ together (map parallel_of (out-Branch branch).body)
branch_is = fold_out-Branch (Place → Parallel) Parallel Parallel Parallel kind_parallel arm_parallel branch_parallel stmt_parallel

-- ---- a part of what stands in a statement: its writes, or its branches

module _ {A : Type 0} (part : Parallel → List A) (of_together : (parts : List Parallel) → part (together parts) ≡ joined (map part parts))
    (of_beside : (one other : Parallel) → part (beside one other) ≡ part one ++ part other) where
  abbrev part_of : Stmt → List A
  part_of s = part (parallel_of s)

  -- loops have none of their own
  abbrev no_own : Place → Bool → List A
  no_own place ends = []

  part_at : (place : Place) (layer : StmtKind-F StmtKind Arm Branch Stmt) → part_of (made_stmt place layer) ≡ part (kind_parallel (parallel_parts layer) place)
  part_at place layer = ap part (parallel_at place layer)

  of_block : (body : List Stmt) → part (together (map parallel_of body)) ≡ joined (map part_of body)
  of_block body = of_together (map parallel_of body) ∙ ap joined (fuse part parallel_of body)

  of_loop : (body : List Stmt) → part (together (map parallel_of body)) ≡ joined (map part_of body) ++ []
  of_loop body = of_block body ∙ sym (append-nil (joined (map part_of body)))

  of_arms : (arms : List Arm) → part (together (map parallel_of_arm arms)) ≡ joined (map (λ arm. joined (map part_of (out-Arm arm).body)) arms)
  of_arms arms =
      of_together (map parallel_of_arm arms) ∙ ap joined (fuse part parallel_of_arm arms)
      ∙ (λ i. joined (map (λ arm. (ap part (arm_is arm) ∙ of_block (out-Arm arm).body) i) arms))

  part_listed : Listed part_of no_own
  part_listed = record {
    if_is = λ place arms other. part_at place (StmtKind-F.If arms other) ∙ of_beside (together (map parallel_of_arm arms)) (together (map parallel_of other))
        ∙ (λ i. of_arms arms i ++ of_block other i);
    when_is = λ place guard e body. part_at place (StmtKind-F.When guard e body) ∙ of_block body;
    repeat_is = λ place body. part_at place (StmtKind-F.Repeat body) ∙ of_loop body;
    until_is = λ place body e. part_at place (StmtKind-F.Until body e) ∙ of_loop body;
    while_is = λ place e body. part_at place (StmtKind-F.While e body) ∙ of_loop body;
  }

-- ---- writes

-- what the acts in a statement write
abbrev pub writes_in : Stmt → List Marked
writes_in s = (parallel_of s).writes

abbrev no_writes : Place → Bool → List Marked
no_writes place ends = []

writes_listed : Listed writes_in no_writes
writes_listed = part_listed (λ (parts : Parallel). parts.writes) (λ parts. refl) (λ one other. refl)

branch_writes : (branch : Branch) → (parallel_of_branch branch).writes ≡ joined (map writes_in (out-Branch branch).body)
branch_writes branch =
    ap (λ (parts : Parallel). parts.writes) (branch_is branch) ∙ ap joined (fuse (λ (parts : Parallel). parts.writes) parallel_of (out-Branch branch).body)

cobegin_writes : (place : Place) (branches : List Branch) → writes_in (made_stmt place (StmtKind-F.Cobegin branches))
    ≡ joined (map (λ branch. joined (map writes_in (out-Branch branch).body)) branches)
cobegin_writes place branches =
    ap (λ (parts : Parallel). parts.writes) (parallel_at place (StmtKind-F.Cobegin branches))
    ∙ ap joined (fuse (λ (parts : Parallel). parts.writes) parallel_of_branch branches)
    ∙ (λ i. joined (map (λ branch. branch_writes branch i) branches))

abbrev Same : Marked → Marked → Type 0
Same x y = x ≡ y

abbrev Written : List Stmt → List Stmt → Type 0
Written = Both (λ body made. ⊤) Same writes_in

writes_inherit : Inherits Written
writes_inherit =
    with_listed (λ body made. ⊤) Same writes_in (λ x. refl) no_writes writes_listed anything
    (λ place branches others each. cobegin_covered (λ body made. ⊤) Same writes_in cobegin_writes place branches others each)

-- ---- branches

-- a branch writes no more than another, and those before it write no more than those before the other
pub record SplitWithin (made source : Split) : Type 0 where
  pub earlier : Has source.earlier made.earlier
  pub writes : Has source.writes made.writes

pub split_itself : (split : Split) → SplitWithin split split
split_itself split = record { earlier = covers_itself Same (λ x. refl) split.earlier; writes = covers_itself Same (λ x. refl) split.writes }

-- the branches in a statement
abbrev pub splits_in : Stmt → List Split
splits_in s = (parallel_of s).splits

abbrev no_splits : Place → Bool → List Split
no_splits place ends = []

splits_listed : Listed splits_in no_splits
splits_listed = part_listed (λ (parts : Parallel). parts.splits) (λ parts. refl) (λ one other. refl)

branch_splits : (branch : Branch) → (parallel_of_branch branch).splits ≡ joined (map splits_in (out-Branch branch).body)
branch_splits branch =
    ap (λ (parts : Parallel). parts.splits) (branch_is branch) ∙ ap joined (fuse (λ (parts : Parallel). parts.splits) parallel_of (out-Branch branch).body)

splits_covered : (branches others : List Branch) → BranchesBelow (Both Written SplitWithin splits_in) branches others → (before before' : List Marked) →
    Has before before' →
    Covers SplitWithin (splits_after before (map parallel_of_branch branches)) (splits_after before' (map parallel_of_branch others))
splits_covered branches others no_branches before before' has = covers_none SplitWithin []
splits_covered whole made_whole (more_branches {branch} {made} {branches} {others} weak inner rest) before before' has =
    let own : Has (parallel_of_branch branch).writes (parallel_of_branch made).writes =
    covers_by Same (parallel_of_branch branch).writes (joined (map writes_in (out-Branch branch).body)) (parallel_of_branch made).writes
    (joined (map writes_in (out-Branch made).body)) (branch_writes branch) (branch_writes made) inner.0.1 in
    covers_beside SplitWithin (parallel_of_branch branch).splits (parallel_of_branch made).splits
    (record { earlier = before; writes = (parallel_of_branch branch).writes }
    ∷ splits_after (before ++ (parallel_of_branch branch).writes) (map parallel_of_branch branches))
    (record { earlier = before'; writes = (parallel_of_branch made).writes }
    ∷ splits_after (before' ++ (parallel_of_branch made).writes) (map parallel_of_branch others))
    (covers_by SplitWithin (parallel_of_branch branch).splits (joined (map splits_in (out-Branch branch).body)) (parallel_of_branch made).splits
    (joined (map splits_in (out-Branch made).body)) (branch_splits branch) (branch_splits made) inner.1)
    (covers_beside SplitWithin (record { earlier = before; writes = (parallel_of_branch branch).writes } ∷ [])
    (record { earlier = before'; writes = (parallel_of_branch made).writes } ∷ [])
    (splits_after (before ++ (parallel_of_branch branch).writes) (map parallel_of_branch branches))
    (splits_after (before' ++ (parallel_of_branch made).writes) (map parallel_of_branch others))
    (covers_one SplitWithin (record { earlier = before; writes = (parallel_of_branch branch).writes })
    (record { earlier = before'; writes = (parallel_of_branch made).writes }) (record { earlier = has; writes = own }))
    (splits_covered branches others rest (before ++ (parallel_of_branch branch).writes) (before' ++ (parallel_of_branch made).writes)
    (covers_beside Same before before' (parallel_of_branch branch).writes (parallel_of_branch made).writes has own)))

cobegin_splits : (place : Place) (branches others : List Branch) → BranchesBelow (Both Written SplitWithin splits_in) branches others →
    Covers SplitWithin (splits_in (made_stmt place (StmtKind-F.Cobegin branches))) (splits_in (made_stmt place (StmtKind-F.Cobegin others)))
cobegin_splits place branches others each =
    covers_by SplitWithin (splits_in (made_stmt place (StmtKind-F.Cobegin branches))) (splits_after [] (map parallel_of_branch branches))
    (splits_in (made_stmt place (StmtKind-F.Cobegin others))) (splits_after [] (map parallel_of_branch others))
    (ap (λ (parts : Parallel). parts.splits) (parallel_at place (StmtKind-F.Cobegin branches)))
    (ap (λ (parts : Parallel). parts.splits) (parallel_at place (StmtKind-F.Cobegin others)))
    (splits_covered branches others each [] [] (covers_none Same []))

pub splits_inherited : (body : List Stmt) → Covers SplitWithin (joined (map splits_in body)) (joined (map splits_in (peeled body)))
splits_inherited body =
    (inherited (Both Written SplitWithin splits_in)
    (with_listed Written SplitWithin splits_in split_itself no_splits splits_listed writes_inherit cobegin_splits) body).1

-- the branches of a block, one statement after another
pub of_body : (body : List Stmt) → (together (map parallel_of body)).splits ≡ joined (map splits_in body)
of_body body = ap joined (fuse (λ (parts : Parallel). parts.splits) parallel_of body)
