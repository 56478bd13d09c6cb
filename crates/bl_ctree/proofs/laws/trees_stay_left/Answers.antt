use Rattle.bl_ctree.proofs.Leaving.{blocks_fit, items_begin_left, moves_keep_left, reached_inside_is_left, reached_is_left, seq_is_left, waking_keeps_left}
use Rattle.bl_ctree.proofs.Leaving.{woken_tree_is_left}
use Rattle.bl_ctree.proofs.laws.trees_stay_left.Goals as goal

pub returns : goal.returns
returns c = record {
  blocks = blocks_fit;
  items = items_begin_left;
  seq = seq_is_left;
  steps = moves_keep_left;
  waking = waking_keeps_left;
  whole = woken_tree_is_left;
  reached = reached_is_left;
  inside = reached_inside_is_left;
}
