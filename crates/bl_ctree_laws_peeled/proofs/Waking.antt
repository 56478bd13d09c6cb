-- Related trees are woken to related trees.
use Rattle.std.proofs.Common.{◌≡◌, ℕ, true, refl}
use Rattle.std.proofs.lemmas.Bool.{and_from}
use Rattle.bl_tree.proofs.Basics.{and_first, and_second}
use Rattle.bl_graph_nodes.specs.Nodes.{Node}
use Rattle.bl_graph_nodes.specs.Plain.{Block, Plain, Done}
use Rattle.bl_ctree_laws.specs.Trees.{Tree, Trees, Nil, Wait, Test, Idle, Do, Seq, Par, Guard, Run, all_woken, woken}
use Rattle.bl_ctree_laws_peeled.specs.Lines.{Line, Lined, Related, RelatedEach, Standing, both_begin, both_fork, both_guard, both_idle, both_over, both_run}
use Rattle.bl_ctree_laws_peeled.specs.Lines.{both_stand, both_test, both_wait, is_chain, is_under_way, line, no_branches, one_branch, related}
use Rattle.bl_ctree_laws_peeled.specs.Steps.{IdleIsRelated, WakingIsRelated}
use Rattle.bl_ctree_laws_peeled.specs.Unrolls.{Unrolls, no_more}
use Rattle.bl_ctree_laws_peeled.proofs.Lining.{begun_block, line_woken, lined_begins, relined, woken_line}

still_under_way : (c : Tree) → is_under_way c ≡ true → is_under_way (woken c) ≡ true
still_under_way Nil going = absurd cc
still_under_way (Wait p) going = refl
still_under_way (Test p) going = refl
still_under_way (Idle p) going = absurd cc
still_under_way (Do p) going = refl
still_under_way (Seq c rest) going = refl
still_under_way (Par p stood branches) going = refl
still_under_way (Guard p phase stood c) going = refl
still_under_way (Run p callee phase stood c) going = refl

woken_chain : (c : Tree) → is_chain c ≡ true → is_chain (woken c) ≡ true
woken_chain Nil chain = refl
woken_chain (Wait p) chain = refl
woken_chain (Test p) chain = refl
woken_chain (Idle body) chain = (begun_block body).chain
woken_chain (Do p) chain = refl
woken_chain (Seq c rest) chain =
    and_from (is_under_way (woken c)) (is_chain (woken c)) (still_under_way c (and_first (is_under_way c) (is_chain c) chain))
    (woken_chain c (and_second (is_under_way c) (is_chain c) chain))
woken_chain (Par p stood branches) chain = refl
woken_chain (Guard p phase stood c) chain = refl
woken_chain (Run p callee phase stood c) chain = refl

module _ {H : ℕ → Node → Plain → Type 0} where
  mutual
    wake_lined : {i : ℕ} {L L' : Line} → Lined H i L L' → Lined H i (woken_line L) (woken_line L')
    wake_lined both_over = both_over
    wake_lined (both_begin unrolls) = both_begin unrolls
    wake_lined (both_stand stands rest) = wake_standing stands rest

    wake_standing : {i : ℕ} {c t : Tree} {k k' : Block} → Standing H i c t → Unrolls (H i) k k' → Lined H i (line (woken c) k) (line (woken t) k')
    wake_standing (both_wait is) rest = both_stand (both_test is) rest
    wake_standing (both_test is) rest = both_stand (both_test is) rest
    wake_standing (both_idle body) rest = lined_begins body rest
    wake_standing (both_fork each) rest = both_stand (both_fork (wake_each each)) rest
    wake_standing (both_guard kind is body inner) rest = both_stand (both_guard kind is body (wake_related inner)) rest
    wake_standing (both_run is inner) rest = both_stand (both_run is (wake_related inner)) rest

    pub wake_related : {i : ℕ} {c t : Tree} → Related H i c t → Related H i (woken c) (woken t)
    wake_related (related {c} {t} chain chain' lined) =
        related (woken_chain c chain) (woken_chain t chain') (relined (line_woken c Done) (line_woken t Done) (wake_lined lined))

    wake_each : {i : ℕ} {branches branches' : Trees} → RelatedEach H i branches branches' → RelatedEach H i (all_woken branches) (all_woken branches')
    wake_each no_branches = no_branches
    wake_each (one_branch inner others) = one_branch (wake_related inner) (wake_each others)

pub waking_is_related : WakingIsRelated
waking_is_related i c t inner = wake_related inner

pub related_idle : {H : ℕ → Node → Plain → Type 0} {i : ℕ} {body body' : Block} → Unrolls (H i) body body' → Related H i (Idle body) (Idle body')
related_idle unrolls = related refl refl (both_stand (both_idle unrolls) no_more)

pub idle_is_related : IdleIsRelated
idle_is_related i body body' unrolls = related_idle unrolls
