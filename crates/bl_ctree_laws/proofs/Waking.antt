-- Sequences and waking, seen on plain trees.
use Rattle.std.proofs.Common.{◌≡◌, ℕ, true, false, List, [], ◌∷◌, refl, ap, sym, ◌∙◌}
use Rattle.bl_tree.specs.declared.tree.Branch.{Branch, out-Branch}
use Rattle.bl_graph_nodes.specs.Plain.{Block, Then}
use Rattle.bl_ctree.specs.Control as control
use Rattle.bl_ctree.specs.Instances.{Setting}
use Rattle.bl_ctree.specs.Residual.{ResidualTree, has_begun, not_begun}
use Rattle.bl_ctree.specs.Means.{entry_items}
use Rattle.bl_ctree.specs.Positions.{Item, Begin, Again, none_left}
use Rattle.bl_ctree.proofs.Proper.{Proper, a_nil, a_wait, a_test, a_do, a_turn, a_seq, a_par, a_guard, a_run, BranchesProper, no_more, a_branch, left_proper}
use Rattle.bl_ctree_laws.specs.Bridge.{guarded, parallel, plain_at, plain_item, plain_items, plain_tree, plain_trees, running}
use Rattle.bl_ctree_laws.specs.Laws.{WakingIsPlain}
use Rattle.bl_ctree_laws.specs.Trees.{Tree, Nil, Wait, Test, Idle, Do, Seq, Par, Guard, Run, all_woken, beside, do_block, followed, is_nil, seq, woken}
use Rattle.bl_ctree_laws.proofs.Answering.{ended, guard_is, par_is, run_is, test_is, wait_is}

pub followed_is : (c : control.Control) (rest : List Item) → plain_tree (control.followed c rest) ≡ followed (plain_tree c) (plain_items rest)
followed_is c [] = refl
followed_is c (item ∷ rest) = refl

pub begins_is : (items : List Item) → plain_tree (control.do_all items) ≡ do_block (plain_items items)
begins_is [] = refl
begins_is (Begin s ∷ rest) = followed_is (control.Do s) rest
begins_is (Again s ∷ rest) = followed_is (control.Turn s) rest

pub seq_busy : (c : Tree) (rest : Block) → is_nil c ≡ false → seq c rest ≡ followed c rest
seq_busy Nil rest e = absurd cc
seq_busy (Wait s) rest e = refl
seq_busy (Test s) rest e = refl
seq_busy (Idle body) rest e = refl
seq_busy (Do s) rest e = refl
seq_busy (Seq c after) rest e = refl
seq_busy (Par s stood branches) rest e = refl
seq_busy (Guard s phase stood c) rest e = refl
seq_busy (Run s callee phase stood c) rest e = refl

follows : (c : control.Control) (rest : List Item) → control.is_nil c ≡ false → control.seq c rest ≡ control.followed c rest →
    plain_tree (control.seq c rest) ≡ seq (plain_tree c) (plain_items rest)
follows c rest busy is = ap plain_tree is ∙ followed_is c rest ∙ sym (seq_busy (plain_tree c) (plain_items rest) (ended c ∙ busy))

pub seq_is : (c : control.Control) (rest : List Item) → plain_tree (control.seq c rest) ≡ seq (plain_tree c) (plain_items rest)
seq_is control.Nil rest = begins_is rest
seq_is (control.Wait s) rest = follows (control.Wait s) rest refl refl
seq_is (control.Test s) rest = follows (control.Test s) rest refl refl
seq_is (control.Idle items) rest = follows (control.Idle items) rest refl refl
seq_is (control.Do s) rest = follows (control.Do s) rest refl refl
seq_is (control.Turn s) rest = follows (control.Turn s) rest refl refl
seq_is (control.Seq c after) rest = follows (control.Seq c after) rest refl refl
seq_is (control.Par s stood branches) rest = follows (control.Par s stood branches) rest refl refl
seq_is (control.Guard s phase stood c) rest = follows (control.Guard s phase stood c) rest refl refl
seq_is (control.Run s callee phase stood c) rest = follows (control.Run s callee phase stood c) rest refl refl

-- ---- waking

-- no proper tree ends by waking
still_busy : {w : Setting} {i : ℕ} {c : control.Control} → Proper w i c → control.is_nil c ≡ false → is_nil (woken (plain_tree c)) ≡ false
still_busy a_nil e = absurd cc
still_busy (a_wait {s = s} is) e = ap (λ c. is_nil (woken c)) (wait_is s is)
still_busy (a_test {s = s} is) e = ap (λ c. is_nil (woken c)) (test_is s is)
still_busy a_do e = refl
still_busy (a_turn is) e = refl
still_busy (a_seq busy more inner items) e = refl
still_busy (a_par {s = s} {stood} {branches = branches} is all) e = ap (λ c. is_nil (woken c)) (par_is s stood (plain_trees branches) is)
still_busy (a_guard {s = s} {phase} {stood} {c} is inner) e = ap (λ c. is_nil (woken c)) (guard_is s phase stood (plain_tree c) is)
still_busy (a_run {s = s} {callee} {phase} {stood} {c} is at there inner) e =
    ap (λ c. is_nil (woken c)) (run_is s callee phase stood (plain_tree c) is)

woken_seq : (c : Tree) (rest : List Item) → is_nil c ≡ false → none_left rest ≡ false → seq c (plain_items rest) ≡ Seq c (plain_items rest)
woken_seq c [] busy more = absurd cc
woken_seq c (item ∷ rest) busy more = seq_busy c (Then (plain_item item) (plain_items rest)) busy

mutual
  wakes : {w : Setting} {i : ℕ} {c : control.Control} → Proper w i c → plain_tree (control.woken c) ≡ woken (plain_tree c)
  wakes a_nil = refl
  wakes (a_wait {s = s} is) = test_is s is ∙ sym (ap woken (wait_is s is))
  wakes (a_test {s = s} is) = test_is s is ∙ sym (ap woken (test_is s is))
  wakes a_do = refl
  wakes (a_turn is) = refl
  wakes (a_seq {c = c} {rest} busy more inner items) =
      seq_is (control.woken c) rest ∙ ap (λ c. seq c (plain_items rest)) (wakes inner)
      ∙ woken_seq (woken (plain_tree c)) rest (still_busy inner busy) more
  wakes (a_par {s = s} {stood} {branches = branches} is all) =
      ap (λ all. parallel true all (plain_at s)) (all_wake all) ∙ par_is s true (all_woken (plain_trees branches)) is
      ∙ sym (ap woken (par_is s stood (plain_trees branches) is))
  wakes (a_guard {s = s} {phase} {stood} {c} is inner) =
      ap (λ c. guarded control.Check true c (plain_at s)) (wakes inner) ∙ guard_is s control.Check true (woken (plain_tree c)) is
      ∙ sym (ap woken (guard_is s phase stood (plain_tree c) is))
  wakes (a_run {s = s} {callee} {phase} {stood} {c} is at there inner) =
      ap (λ c. running callee control.Check true c (plain_at s)) (wakes inner) ∙ run_is s callee control.Check true (woken (plain_tree c)) is
      ∙ sym (ap woken (run_is s callee phase stood (plain_tree c) is))

  all_wake : {w : Setting} {i : ℕ} {written : List Branch} {branches : control.Branches} → BranchesProper w i written branches →
      plain_trees (control.all_woken branches) ≡ all_woken (plain_trees branches)
  all_wake no_more = refl
  all_wake (a_branch {b = b} inner others) = λ i. beside (out-Branch b).weak (wakes inner i) (all_wake others i)

tree_wakes : {w : Setting} {c : control.Control} → ResidualTree w c → plain_tree (control.woken c) ≡ woken (plain_tree c)
tree_wakes {w} not_begun = begins_is (entry_items w)
tree_wakes (has_begun left) = wakes (left_proper left)

pub waking_is_plain : WakingIsPlain
waking_is_plain w c left = tree_wakes left
