use Rattle.std.proofs.Common.{◌≡◌, ◌&&◌, ◌||◌, not, drop, map}
use Rattle.bl_tree.specs.Reduce.{all_of, any_of}
use Rattle.bl_conflict.specs.inner.Failures.{branches_loops, least_by, loops_of_arm, loops_of_branch, of_loop}
use Rattle.bl_effects.specs.Rules.{block_ends, block_loops, loops_in}
use Rattle.bl_conflict.proofs.instant.+loops.Given as goal

abbrev pub invariant-block-loop-s : goal.invariant-block-loop-s
invariant-block-loop-s l =
    ((l.all && block_ends (map loops_in (drop l.s-index l.body))) ≡ block_ends (map loops_in l.body))
    × (least_by of_loop l.best (block_loops (map loops_in (drop l.s-index l.body))) ≡ least_by of_loop l.initial.best (block_loops (map loops_in l.body)))

abbrev pub invariant-arms-loop-arm : goal.invariant-arms-loop-arm
invariant-arms-loop-arm l =
    ((l.some || any_of (map (λ arm. arm.instant) (map loops_of_arm (drop l.arm-index l.all)))) ≡ any_of (map (λ arm. arm.instant) (map loops_of_arm l.all)))
    × (least_by of_loop l.best (block_loops (map loops_of_arm (drop l.arm-index l.all)))
    ≡ least_by of_loop l.initial.best (block_loops (map loops_of_arm l.all)))

abbrev pub invariant-branches-loop-branch : goal.invariant-branches-loop-branch
invariant-branches-loop-branch l =
    ((l.is_strong || any_of (map (λ e. not e.weak) (map (λ branch. branch.ends) (map loops_of_branch (drop l.branch-index l.all)))))
    ≡ any_of (map (λ e. not e.weak) (map (λ branch. branch.ends) (map loops_of_branch l.all))))
    × (((l.strong && all_of (map (λ e. e.weak || e.instant)
    (map (λ branch. branch.ends) (map loops_of_branch (drop l.branch-index l.all)))))
    ≡ all_of (map (λ e. e.weak || e.instant) (map (λ branch. branch.ends) (map loops_of_branch l.all))))
    × (((l.some || any_of (map (λ e. e.instant) (map (λ branch. branch.ends) (map loops_of_branch (drop l.branch-index l.all)))))
    ≡ any_of (map (λ e. e.instant) (map (λ branch. branch.ends) (map loops_of_branch l.all))))
    × (least_by of_loop l.best (branches_loops (map loops_of_branch (drop l.branch-index l.all)))
    ≡ least_by of_loop l.initial.best (branches_loops (map loops_of_branch l.all)))))
