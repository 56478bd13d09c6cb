use Rattle.std.proofs.Common.{◌≡◌, ◌++◌, ◌&&◌, ◌||◌, not, map, drop}
use Rattle.bl_tree.specs.Reduce.{all_of, any_of, joined}
use Rattle.bl_effects.specs.Surface.{block_instant, block_surface, surface_of}
use Rattle.bl_ctree_pending.specs.inner.Surfaces.{surface_of_arm, surface_of_branch}
use Rattle.bl_ctree_pending.proofs.surface.+surfaces.Given as goal

abbrev pub invariant-block-loop-s : goal.invariant-block-loop-s
invariant-block-loop-s l = record {
  ends : block_instant (map surface_of (drop l.s-index l.body)) ≡ block_instant (map surface_of l.body);
  writes : l.into ++ block_surface (map surface_of (drop l.s-index l.body)) ≡ l.initial.into ++ block_surface (map surface_of l.body);
}

abbrev pub invariant-arms-loop-arm : goal.invariant-arms-loop-arm
invariant-arms-loop-arm l = record {
  ends : (l.some || any_of (map (λ arm. arm.instant) (map surface_of_arm (drop l.arm-index l.all))))
      ≡ any_of (map (λ arm. arm.instant) (map surface_of_arm l.all));
  writes : l.into ++ joined (map (λ arm. arm.writes) (map surface_of_arm (drop l.arm-index l.all))) ≡ l.initial.into
      ++ joined (map (λ arm. arm.writes) (map surface_of_arm l.all));
}

abbrev pub invariant-branches-loop-branch : goal.invariant-branches-loop-branch
invariant-branches-loop-branch l = record {
  strong_one : (l.is_strong || any_of (map (λ e. not e.weak)
      (map (λ branch. branch.ends) (map surface_of_branch (drop l.branch-index l.all)))))
      ≡ any_of (map (λ e. not e.weak) (map (λ branch. branch.ends) (map surface_of_branch l.all)));
  strong : (l.strong && all_of (map (λ e. e.weak || e.instant)
      (map (λ branch. branch.ends) (map surface_of_branch (drop l.branch-index l.all)))))
      ≡ all_of (map (λ e. e.weak || e.instant) (map (λ branch. branch.ends) (map surface_of_branch l.all)));
  some : (l.some || any_of (map (λ e. e.instant) (map (λ branch. branch.ends) (map surface_of_branch (drop l.branch-index l.all)))))
      ≡ any_of (map (λ e. e.instant) (map (λ branch. branch.ends) (map surface_of_branch l.all)));
  writes : l.into ++ joined (map (λ branch. branch.writes) (map surface_of_branch (drop l.branch-index l.all))) ≡ l.initial.into
      ++ joined (map (λ branch. branch.writes) (map surface_of_branch l.all));
}
