use Rattle.std.proofs.Common.{◌≡◌, IfOk, ap, subst}
use Rattle.bl_types.specs.inner.States.{passed}
use Rattle.bl_types.specs.Statements.{condition, misplaced}
use Rattle.bl_types.proofs.NoteLemmas.{on_ok}
use Rattle.bl_types.proofs.StateLemmas.{passed_then}
use Rattle.bl_types.proofs.stmt.guarded.Goals as goal

pub returns-clause-made : goal.returns-clause-made
returns-clause-made c =
    subst (λ env. IfOk c.condition.result (λ made. made ≡ (condition env c.args.e.now).made))
    (ap (λ s. s.env) c.in_activity.ensures) c.condition.ensures.made

pub returns-clause-state : goal.returns-clause-state
returns-clause-state c =
    let old = c.args.state.now in
    let middle = c.in_activity.new.state in
    let e = c.args.e.now in
    on_ok (c.condition.new.state ≡ passed middle middle.env (condition middle.env e).failures) _ c.condition.result
    (λ h. passed_then old middle c.condition.new.state old.env (misplaced old.env.kind c.args.at) (λ env. env)
    (λ env. (condition env e).failures) c.in_activity.ensures h) c.condition.ensures.state
