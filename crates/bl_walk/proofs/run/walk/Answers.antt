use Rattle.std.proofs.Common.{rules, refl, sym, ◌∙◌, ◌+◌, subst, drop, arith}
use Rattle.std.proofs.lemmas.List.{drop_all}
use Rattle.bl_tree.proofs.Basics.{drop_next}
use Rattle.bl_ctree_run.specs.Running.{setting, state}
use Rattle.bl_walk.proofs.Walking.{Onward, between_first, onward_first, steady_at, walked_closed, walked_open, going_on}
use Rattle.bl_walk.proofs.run.walk.Goals as goal

pub rows-init : goal.rows-init
rows-init g c = record {
  same = refl;
  between = between_first (setting c.in_ok-tree.tree) (state c.in_ok-tree.tree) c.in_ok-tree.ensures.state;
  onward =
      subst (λ outs. Onward (setting c.in_ok-tree.tree) c.by_seed-choice.result c.args.rows.now (state c.in_ok-tree.tree) c.args.steps.now
      c.by_seed-choice.result c.args.rows.now (state c.in_ok-tree.tree) outs c.args.steps.now) (sym c.new-outs.ensures)
      (onward_first (setting c.in_ok-tree.tree) c.by_seed-choice.result c.args.rows.now (state c.in_ok-tree.tree) c.args.steps.now);
}

pub tick-requires : goal.tick-requires
tick-requires g c = (
  steady_at g.most c.args.program.now.structs c.args.program.now.units c.args.program.now.entry c.requires.1.0 c.requires.1.1
      (setting c.rows.tree) (c.rows.invariant.same ∙ c.in_ok-tree.ensures.setting),
  (search rules, search rules),
)

pub rows-preserved : goal.rows-preserved
rows-preserved g c =
    let next = drop_next c.args.rows.now c.rows.row-index c.row-item.result c.rows-test.true c.row-item.is in
    let on = going_on (setting c.in_ok-tree.tree) (setting c.rows.tree) c.rows.invariant.same c.by_seed-choice.result c.args.rows.now
    (state c.in_ok-tree.tree) c.args.steps.now c.rows.choice c.tick.new.choice c.row-item.result (drop c.rows.row-index c.args.rows.now)
    (drop (c.rows.row-index + 1) c.args.rows.now) (state c.rows.tree) (state c.tick.new.tree) c.rows.outs c.tick.new.outs c.rows.steps
    c.tick.new.steps c.rows.invariant.onward c.rows.invariant.between next c.in_ok-last.last c.in-Open.is c.in_ok-last.ensures.ticked in
    record { same = c.tick.ensures.setting ∙ c.rows.invariant.same; between = on.0; onward = on.1 }

pub returns-in_default-clause-walked : goal.returns-in_default-clause-walked
returns-in_default-clause-walked g c =
    let next = drop_next c.args.rows.now c.rows.row-index c.row-item.result c.rows-test.true c.row-item.is in
    walked_closed (setting c.in_ok-tree.tree) (setting c.rows.tree) c.rows.invariant.same c.by_seed-choice.result c.args.rows.now
    (state c.in_ok-tree.tree) c.args.steps.now c.rows.choice c.tick.new.choice c.row-item.result (drop c.rows.row-index c.args.rows.now)
    (drop (c.rows.row-index + 1) c.args.rows.now) (state c.rows.tree) (state c.tick.new.tree) c.rows.outs c.tick.new.outs c.rows.steps
    c.tick.new.steps c.rows.invariant.onward c.args.program.now.structs c.args.program.now.units c.args.program.now.entry c.args.seed
    c.in_ok-tree.ensures.setting c.in_ok-tree.ensures.state c.by_seed-choice.ensures next c.in_ok-last.last c.in_default.not-Open
    c.in_ok-last.ensures.ticked

pub returns-in_default-clause-means : goal.returns-in_default-clause-means
returns-in_default-clause-means g c =
    let next = drop_next c.args.rows.now c.rows.row-index c.row-item.result c.rows-test.true c.row-item.is in
    let all = walked_closed (setting c.in_ok-tree.tree) (setting c.rows.tree) c.rows.invariant.same c.by_seed-choice.result c.args.rows.now
    (state c.in_ok-tree.tree) c.args.steps.now c.rows.choice c.tick.new.choice c.row-item.result (drop c.rows.row-index c.args.rows.now)
    (drop (c.rows.row-index + 1) c.args.rows.now) (state c.rows.tree) (state c.tick.new.tree) c.rows.outs c.tick.new.outs c.rows.steps
    c.tick.new.steps c.rows.invariant.onward c.args.program.now.structs c.args.program.now.units c.args.program.now.entry c.args.seed
    c.in_ok-tree.ensures.setting c.in_ok-tree.ensures.state c.by_seed-choice.ensures next c.in_ok-last.last c.in_default.not-Open
    c.in_ok-last.ensures.ticked in
    c.walks_are_allowed.ensures.means _ _ _ _ _ _ all.lists all.walked

pub returns-clause-walked : goal.returns-clause-walked
returns-clause-walked g c =
    walked_open (setting c.in_ok-tree.tree) c.by_seed-choice.result c.args.rows.now (state c.in_ok-tree.tree) c.args.steps.now c.rows.choice
    (drop c.rows.row-index c.args.rows.now) (state c.rows.tree) c.rows.outs c.rows.steps c.rows.invariant.onward
    c.args.program.now.structs c.args.program.now.units c.args.program.now.entry c.args.seed
    c.in_ok-tree.ensures.setting c.in_ok-tree.ensures.state c.by_seed-choice.ensures
    (drop_all c.rows.row-index c.args.rows.now (omega arith))

pub returns-clause-means : goal.returns-clause-means
returns-clause-means g c =
    let all = walked_open (setting c.in_ok-tree.tree) c.by_seed-choice.result c.args.rows.now (state c.in_ok-tree.tree) c.args.steps.now c.rows.choice
    (drop c.rows.row-index c.args.rows.now) (state c.rows.tree) c.rows.outs c.rows.steps c.rows.invariant.onward
    c.args.program.now.structs c.args.program.now.units c.args.program.now.entry c.args.seed
    c.in_ok-tree.ensures.setting c.in_ok-tree.ensures.state c.by_seed-choice.ensures
    (drop_all c.rows.row-index c.args.rows.now (omega arith)) in
    c.walks_are_allowed.ensures.means _ _ _ _ _ _ all.lists all.walked
