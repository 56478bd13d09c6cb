use Rattle.std.proofs.Common.{◌≡◌, ◌≤◌, ℕ, true, ◌++◌, get_or, length, map, take, drop}
use Rattle.bl_ctree.specs.Nodes.{branches_of, seen_of}
use Rattle.bl_ctree.specs.declared.node.Branch.{Branch}
use Rattle.bl_ctree_run.specs.inner.Wakings.{are_light, wake_seen}
use Rattle.bl_ctree_run.proofs.waking.+waking.Given as goal

-- the branches before the next one are woken, and it and those behind it are as they were
abbrev pub invariant-wake_all-loop-k : goal.invariant-wake_all-loop-k
invariant-wake_all-loop-k l = record {
  woken : are_light (branches_of (map seen_of l.fn.branches)) ≡ true →
      map seen_of l.branches ≡ map wake_seen (take l.k (map seen_of l.fn.branches)) ++ drop l.k (map seen_of l.fn.branches);
  many : length l.branches ≡ length l.fn.branches;
  rest : (n : ℕ) (d : Branch) → l.k ≤ n → get_or l.branches n d ≡ get_or l.fn.branches n d;
}
