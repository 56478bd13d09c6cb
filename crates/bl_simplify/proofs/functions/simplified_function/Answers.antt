use Rattle.std.proofs.lemmas.Result.{IfOk-weaker}
use Rattle.bl_simplify_facts.specs.Entries.{facts_of}
use Rattle.bl_simplify.proofs.OnFunctions.{does_chain}
use Rattle.bl_simplify.proofs.functions.simplified_function.Goals as goal

pub returns : goal.returns
returns c =
    let reached = facts_of c.args.reached.now in
    let rule = c.frame_rules.ensures.same in
    let f = c.args.function.now in
    IfOk-weaker c.shortened-3.result _ _
    (λ new does. does_chain rule reached f c.in_ok-second.second new
    (does_chain rule reached f c.in_ok-first.first c.in_ok-second.second c.in_ok-first.ensures c.in_ok-second.ensures) does) c.shortened-3.ensures
