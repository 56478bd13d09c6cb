use Rattle.std.proofs.Common.{◌≡◌, ◌∙◌, ◌++◌, ap, append_assoc}
use Rattle.bl_tree.specs.declared.tree.Stmt.{Stmt}
use Rattle.bl_types.specs.declared.environment.State.{State}
use Rattle.bl_types.specs.Returns.{return_failures}
use Rattle.bl_types.specs.inner.States.{passed}
use Rattle.bl_types.specs.Statements.{Block, walked_block}
use Rattle.bl_types.specs.Units.{after_head, environment_after}
use Rattle.bl_types.proofs.NoteLemmas.{on_ok}
use Rattle.bl_types.proofs.StateLemmas.{passed_then}
use Rattle.bl_types.proofs.unit.unit.Goals as goal

pub returns : goal.returns
returns c =
    let constants = c.args.constants.now in
    let unit = c.args.unit.now in
    let old = c.args.state.now in
    let head = after_head unit old.env in
    let vars = c.deref.result.now in
    let body = c.deref-2.result.now in
    let inside = walked_block constants vars body head.env in
    let returned = return_failures unit in
    let made = c.in_ok-body.ensures.made ∙ ap (λ (state : State). (walked_block constants vars body state.env).made) c.in_ok-begin.ensures in
    let within =
    passed_then old c.begin.new.state c.block.new.state head.env head.failures (λ env. (walked_block constants vars body env).env)
    (λ env. (walked_block constants vars body env).failures) c.in_ok-begin.ensures
    c.in_ok-body.ensures.state in
    on_ok (c.end.new.state ≡ passed c.block.new.state (environment_after unit c.in_ok-body.body c.block.new.state.env) returned) _ c.end.result
    (λ h.
    passed_then old c.block.new.state c.end.new.state inside.env (head.failures ++ inside.failures)
    (λ env. environment_after unit c.in_ok-body.body env) (λ env. returned) within h
    ∙ ap (λ l. passed old (environment_after unit c.in_ok-body.body inside.env) l) (append_assoc head.failures inside.failures returned)
    ∙ ap (λ b. passed old (environment_after unit b inside.env) (head.failures ++ (inside.failures ++ returned))) made
    ∙ (λ i.
    let there : Block Stmt = walked_block constants (c.deref.ensures i) (c.deref-2.ensures i) head.env in
    passed old (environment_after unit there.made there.env) (head.failures ++ (there.failures ++ returned))))
    c.end.ensures
