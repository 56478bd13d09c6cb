use Rattle.std.proofs.Common.{◌≡◌, ◌++◌, drop, map}
use Rattle.bl_types.specs.inner.States.{passed}
use Rattle.bl_types.specs.Statements.{arm_walked, branch_walked, in_order, walked_stmt}
use Rattle.bl_types.proofs.stmt.+statements.Given as goal

abbrev pub invariant-block-loop-s : goal.invariant-block-loop-s
invariant-block-loop-s l =
    let parts = map (walked_stmt l.source.constants.now l.source.vars.now) (drop l.s-index l.body) in
    let all = map (walked_stmt l.source.constants.now l.source.vars.now) l.body in
    (l.made ++ (in_order parts l.state.env).made ≡ (in_order all l.initial.state.env).made)
    × (passed l.state (in_order parts l.state.env).env (in_order parts l.state.env).failures
    ≡ passed l.initial.state (in_order all l.initial.state.env).env (in_order all l.initial.state.env).failures)

abbrev pub invariant-arms-loop-one : goal.invariant-arms-loop-one
invariant-arms-loop-one l =
    let parts = map (arm_walked l.source.constants.now l.source.vars.now) (drop l.one-index l.all) in
    let all = map (arm_walked l.source.constants.now l.source.vars.now) l.all in
    (l.made ++ (in_order parts l.state.env).made ≡ (in_order all l.initial.state.env).made)
    × (passed l.state (in_order parts l.state.env).env (in_order parts l.state.env).failures
    ≡ passed l.initial.state (in_order all l.initial.state.env).env (in_order all l.initial.state.env).failures)

abbrev pub invariant-branches-loop-one : goal.invariant-branches-loop-one
invariant-branches-loop-one l =
    let parts = map (branch_walked l.source.constants.now l.source.vars.now) (drop l.one-index l.all) in
    let all = map (branch_walked l.source.constants.now l.source.vars.now) l.all in
    (l.made ++ (in_order parts l.state.env).made ≡ (in_order all l.initial.state.env).made)
    × (passed l.state (in_order parts l.state.env).env (in_order parts l.state.env).failures
    ≡ passed l.initial.state (in_order all l.initial.state.env).env (in_order all l.initial.state.env).failures)
