use Rattle.std.proofs.Common.{◌∙◌, ◌++◌, ap}
use Rattle.bl_types.specs.Programs.{after_items, begun, globals_of}
use Rattle.bl_types.specs.inner.States.{after}
use Rattle.bl_types.proofs.program.all_items.Goals as goal

pub returns-clause-state : goal.returns-clause-state
returns-clause-state c = c.in_ok-items.ensures.state ∙ ap (λ order. after (begun c.args.env) (after_items c.args.named.now order)) c.deref.ensures

pub returns-clause-globals : goal.returns-clause-globals
returns-clause-globals c =
    c.in_ok-items.ensures.globals
    ∙ (λ i. c.in_ok-globals.ensures i ++ globals_of c.args.named.now (c.deref.ensures i) c.args.env)
