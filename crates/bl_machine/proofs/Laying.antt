-- The counters that are made of statements are those of their plain statements.
use Rattle.std.proofs.Common.{◌≡◌, ℕ, suc, ◌+◌, max, List, [], ◌∷◌, ◌++◌, map, refl, ap, sym, ◌∙◌, append_assoc, arith}
use Rattle.std.proofs.lemmas.List.{append-nil}
use Rattle.std.proofs.lemmas.List.Elements.{All-head, All-tail}
use Rattle.bl_tree.specs.declared.place.Place.{Place}
use Rattle.bl_tree.specs.declared.tree.Arm.{Arm, out-Arm, fold_out-Arm}
use Rattle.bl_tree.specs.declared.tree.Branch.{Branch, out-Branch, fold_out-Branch}
use Rattle.bl_tree.specs.declared.tree.Stmt.{Stmt, fold-roll-Stmt}
use Rattle.bl_tree.specs.declared.tree.StmtKind.{fold-roll-StmtKind}
use Rattle.bl_tree.specs.declared.tree.StmtKind.TheOpen.{StmtKind-F}
use Rattle.bl_tree.specs.Reduce.{greatest, total}
use Rattle.bl_tree.proofs.StmtInduction.{Cases, Each, EachArm, EachBranch, induct, stmt}
use Rattle.bl_graph_nodes.specs.Plain.{Label, Plain, Position, block_from, bodies_from, else_at, inside, label_at, passed_one, plain_block, plain_stmt}
use Rattle.bl_graph_nodes.specs.Laws.{PlainStatements, plain_arm, plain_branch}
use Rattle.bl_machine.specs.Layout.{counters_in, counters_in_each, counters_of, width_in, width_in_each, width_of}
use Rattle.bl_machine.specs.inner.Laid.{Laid, arm_laid, branch_counters, branch_laid, counters_from, kind_laid, laid, laid_arm, laid_block, laid_branch}
use Rattle.bl_machine.specs.inner.Laid.{stmt_laid, widths}

-- what is made of the statement is what its plain statement takes
abbrev Alike : Plain → Laid → Type 0
Alike p l = (width_of p ≡ l.width) × ((low : ℕ) → counters_of p low ≡ l.counters low)

abbrev Same : Stmt → Type 0
Same s = (at : Position) → Alike (plain_stmt s at) (laid s)

-- ---- numbers

pub max_none : (n : ℕ) → max n 0 ≡ n
max_none n = omega arith

pub max_apart : (a b c : ℕ) → max (max a b) c ≡ max a (max b c)
max_apart a b c = omega arith

-- ---- blocks

block_width : (body : List Stmt) (k : ℕ) (block : Position) → Each Same body →
    width_in (block_from (map plain_stmt body) k block) ≡ greatest (widths (map laid body))
block_width [] k block each = refl
block_width (s ∷ rest) k block each =
    ap (λ first. max first (width_in (block_from (map plain_stmt rest) (suc k) block))) (All-head Same s rest each (block ++ k ∷ [])).0
    ∙ ap (λ others. max (laid s).width others) (block_width rest (suc k) block (All-tail Same s rest each))

block_counters : (body : List Stmt) (k : ℕ) (block : Position) (low : ℕ) → Each Same body →
    counters_in (block_from (map plain_stmt body) k block) low ≡ counters_from low (map laid body)
block_counters [] k block low each = refl
block_counters (s ∷ rest) k block low each =
    ap (λ first. first ++ counters_in (block_from (map plain_stmt rest) (suc k) block) low) ((All-head Same s rest each (block ++ k ∷ [])).1 low)
    ∙ ap (λ others. (laid s).counters low ++ others) (block_counters rest (suc k) block low (All-tail Same s rest each))

-- ---- arms

abbrev body_laid : Arm → Laid
body_laid arm = laid_block (out-Arm arm).body

arms_width : (at : Label) (arms : List Arm) (other : List Stmt) → EachArm Same arms → Each Same other →
    width_in (else_at at (map plain_arm arms) (plain_block other)) ≡ max (greatest (widths (map body_laid arms))) (greatest (widths (map laid other)))
arms_width at [] other each others = block_width other 0 (inside at at.passed) others ∙ sym (omega arith)
arms_width at (arm ∷ rest) other each others =
    max_none _
    ∙ ap (λ first. max first (width_in (else_at (passed_one at) (map plain_arm rest) (plain_block other))))
    (block_width (out-Arm arm).body 0 (inside at at.passed) (All-head (λ arm. Each Same (out-Arm arm).body) arm rest each))
    ∙ ap (λ last. max (body_laid arm).width last)
    (arms_width (passed_one at) rest other (All-tail (λ arm. Each Same (out-Arm arm).body) arm rest each) others)
    ∙ sym (max_apart (body_laid arm).width (greatest (widths (map body_laid rest))) (greatest (widths (map laid other))))

arms_counters : (at : Label) (arms : List Arm) (other : List Stmt) (low : ℕ) → EachArm Same arms → Each Same other →
    counters_in (else_at at (map plain_arm arms) (plain_block other)) low ≡ counters_from low (map body_laid arms) ++ counters_from low (map laid other)
arms_counters at [] other low each others = block_counters other 0 (inside at at.passed) low others
arms_counters at (arm ∷ rest) other low each others =
    append-nil _
    ∙ ap (λ first. first ++ counters_in (else_at (passed_one at) (map plain_arm rest) (plain_block other)) low)
    (block_counters (out-Arm arm).body 0 (inside at at.passed) low (All-head (λ arm. Each Same (out-Arm arm).body) arm rest each))
    ∙ ap (λ last. (body_laid arm).counters low ++ last)
    (arms_counters (passed_one at) rest other low (All-tail (λ arm. Each Same (out-Arm arm).body) arm rest each) others)
    ∙ sym (append_assoc ((body_laid arm).counters low) (counters_from low (map body_laid rest)) (counters_from low (map laid other)))

arms_are : (arms : List Arm) → map laid_arm arms ≡ map body_laid arms
arms_are [] = refl
arms_are (arm ∷ rest) = λ i. fold_out-Arm Laid Laid Laid Laid kind_laid arm_laid branch_laid stmt_laid arm i ∷ arms_are rest i

-- ---- branches

abbrev branch_of : Branch → Laid
branch_of branch = record {
  width = max 1 (greatest (widths (map laid (out-Branch branch).body)));
  counters = λ low. counters_from low (map laid (out-Branch branch).body);
}

branches_are : (branches : List Branch) → map laid_branch branches ≡ map branch_of branches
branches_are [] = refl
branches_are (branch ∷ rest) = λ i. fold_out-Branch Laid Laid Laid Laid kind_laid arm_laid branch_laid stmt_laid branch i ∷ branches_are rest i

branches_width : (branches : List Branch) (k : ℕ) (at : Label) → EachBranch Same branches →
    width_in_each (bodies_from (map plain_branch branches) k at) ≡ total (widths (map branch_of branches))
branches_width [] k at each = refl
branches_width (b ∷ rest) k at each =
    ap (λ body. max 1 body + width_in_each (bodies_from (map plain_branch rest) (suc k) at))
    (block_width (out-Branch b).body 0 (inside at k) (All-head (λ b. Each Same (out-Branch b).body) b rest each))
    ∙ ap (λ others. (branch_of b).width + others) (branches_width rest (suc k) at (All-tail (λ b. Each Same (out-Branch b).body) b rest each))

branches_counters : (branches : List Branch) (k : ℕ) (at : Label) (low : ℕ) → EachBranch Same branches →
    counters_in_each (bodies_from (map plain_branch branches) k at) low ≡ branch_counters (map branch_of branches) low
branches_counters [] k at low each = refl
branches_counters (b ∷ rest) k at low each =
    let body : Each Same (out-Branch b).body = All-head (λ b. Each Same (out-Branch b).body) b rest each in
    ap (λ inner. low ∷ (inner ++ counters_in_each (bodies_from (map plain_branch rest) (suc k) at)
    (low + max 1 (width_in (plain_block (out-Branch b).body (inside at k))))))
    (block_counters (out-Branch b).body 0 (inside at k) low body)
    ∙ ap (λ width. low ∷ ((branch_of b).counters low ++ counters_in_each (bodies_from (map plain_branch rest) (suc k) at) (low + max 1 width)))
    (block_width (out-Branch b).body 0 (inside at k) body)
    ∙ ap (λ others. low ∷ ((branch_of b).counters low ++ others))
    (branches_counters rest (suc k) at (low + (branch_of b).width) (All-tail (λ b. Each Same (out-Branch b).body) b rest each))

-- ---- statements

module _ (laws : PlainStatements) where
  branching_same : (place : Place) (arms : List Arm) (other : List Stmt) → EachArm Same arms → Each Same other →
      Same (stmt place (StmtKind-F.If arms other))
  branching_same place [] other each others at = rw (fold-roll-Stmt, fold-roll-StmtKind, fold-roll-Stmt, fold-roll-StmtKind) (
    ap (λ a. max a (width_in (plain_block other (inside (label_at at) 1)))) (block_width other 0 (inside (label_at at) 0) others)
        ∙ ap (λ a. max (greatest (widths (map laid other))) a) (block_width other 0 (inside (label_at at) 1) others),
    λ low.
        ap (λ a. a ++ counters_in (plain_block other (inside (label_at at) 1)) low) (block_counters other 0 (inside (label_at at) 0) low others)
        ∙ ap (λ a. counters_from low (map laid other) ++ a) (block_counters other 0 (inside (label_at at) 1) low others),
  )
  branching_same place (arm ∷ rest) other each others at = (
    ap width_of (laws.branching place at arm rest other)
        ∙ ap (λ first. max first (width_in (else_at (passed_one (label_at at)) (map plain_arm rest) (plain_block other))))
        (block_width (out-Arm arm).body 0 (inside (label_at at) 0) (All-head (λ arm. Each Same (out-Arm arm).body) arm rest each))
        ∙ ap (λ last. max (body_laid arm).width last) (arms_width (passed_one (label_at at)) rest other
        (All-tail (λ arm. Each Same (out-Arm arm).body) arm rest each) others)
        ∙ sym (max_apart (body_laid arm).width (greatest (widths (map body_laid rest))) (greatest (widths (map laid other))))
        ∙ ap (λ all. max (greatest (widths all)) (greatest (widths (map laid other)))) (sym (arms_are (arm ∷ rest)))
        ∙ sym (rw (fold-roll-Stmt, fold-roll-StmtKind) refl),
    λ low.
        ap (λ p. counters_of p low) (laws.branching place at arm rest other)
        ∙ ap (λ first. first ++ counters_in (else_at (passed_one (label_at at)) (map plain_arm rest) (plain_block other)) low)
        (block_counters (out-Arm arm).body 0 (inside (label_at at) 0) low (All-head (λ arm. Each Same (out-Arm arm).body) arm rest each))
        ∙ ap (λ last. (body_laid arm).counters low ++ last) (arms_counters (passed_one (label_at at)) rest other low
        (All-tail (λ arm. Each Same (out-Arm arm).body) arm rest each) others)
        ∙ sym (append_assoc ((body_laid arm).counters low) (counters_from low (map body_laid rest)) (counters_from low (map laid other)))
        ∙ ap (λ all. counters_from low all ++ counters_from low (map laid other)) (sym (arms_are (arm ∷ rest)))
        ∙ sym (rw (fold-roll-Stmt, fold-roll-StmtKind) refl),
  )

  cobegin_same : (place : Place) (branches : List Branch) → EachBranch Same branches → Same (stmt place (StmtKind-F.Cobegin branches))
  cobegin_same place branches each at = (
    ap width_of (laws.parallel place at branches)
        ∙ branches_width branches 0 (label_at at) each
        ∙ ap (λ all. total (widths all)) (sym (branches_are branches))
        ∙ sym (rw (fold-roll-Stmt, fold-roll-StmtKind) refl),
    λ low.
        ap (λ p. counters_of p low) (laws.parallel place at branches)
        ∙ branches_counters branches 0 (label_at at) low each
        ∙ ap (λ all. branch_counters all low) (sym (branches_are branches))
        ∙ sym (rw (fold-roll-Stmt, fold-roll-StmtKind) refl),
  )

  cases : Cases Same
  cases = record {
    declare = λ place k initial at. rw (fold-roll-Stmt, fold-roll-StmtKind, fold-roll-Stmt, fold-roll-StmtKind) (refl, λ low. refl);
    assign = λ place path e at. rw (fold-roll-Stmt, fold-roll-StmtKind, fold-roll-Stmt, fold-roll-StmtKind) (refl, λ low. refl);
    call = λ place f inputs outputs at. rw (fold-roll-Stmt, fold-roll-StmtKind, fold-roll-Stmt, fold-roll-StmtKind) (refl, λ low. refl);
    await = λ place e at. rw (fold-roll-Stmt, fold-roll-StmtKind, fold-roll-Stmt, fold-roll-StmtKind) (refl, λ low. refl);
    run = λ place target a inputs outputs at. rw (fold-roll-Stmt, fold-roll-StmtKind, fold-roll-Stmt, fold-roll-StmtKind) (refl, λ low. refl);
    branching = branching_same;
    cobegin = cobegin_same;
    guarded = λ place guard e body each at. rw (fold-roll-Stmt, fold-roll-StmtKind, fold-roll-Stmt, fold-roll-StmtKind)
        (block_width body 0 _ each, λ low. block_counters body 0 _ low each);
    repeat = λ place body each at. rw (fold-roll-Stmt, fold-roll-StmtKind, fold-roll-Stmt, fold-roll-StmtKind)
        (block_width body 0 _ each, λ low. block_counters body 0 _ low each);
    until = λ place body e each at. rw (fold-roll-Stmt, fold-roll-StmtKind, fold-roll-Stmt, fold-roll-StmtKind)
        (block_width body 0 _ each, λ low. block_counters body 0 _ low each);
    while = λ place e body each at. rw (fold-roll-Stmt, fold-roll-StmtKind, fold-roll-Stmt, fold-roll-StmtKind)
        (block_width body 0 _ each, λ low. block_counters body 0 _ low each);
    returns = λ place e at. rw (fold-roll-Stmt, fold-roll-StmtKind, fold-roll-Stmt, fold-roll-StmtKind) (refl, λ low. refl);
  }

  each_same : (body : List Stmt) → Each Same body
  each_same body k s lt = induct Same cases _

  -- the same of a block
  pub laid_width : (body : List Stmt) (at : Position) → width_in (plain_block body at) ≡ greatest (widths (map laid body))
  laid_width body at = block_width body 0 at (each_same body)

  pub laid_counters : (body : List Stmt) (at : Position) (low : ℕ) → counters_in (plain_block body at) low ≡ counters_from low (map laid body)
  laid_counters body at low = block_counters body 0 at low (each_same body)
