use Rattle.std.proofs.lemmas.Result.{IfOk-weaker}
use Rattle.bl_simplify_facts.specs.Entries.{facts_of}
use Rattle.bl_simplify.proofs.OnFunctions.{does_itself}
use Rattle.bl_simplify.proofs.functions.shortened.Goals as goal

pub returns-then-weight_of_block : goal.returns-then-weight_of_block
returns-then-weight_of_block c =
    IfOk-weaker c.copied_function.result _ _
    (λ new is. does_itself c.frame_rules.ensures.same c.same_functions.ensures (facts_of c.args.reached.now) c.args.function.now new is)
    c.copied_function.ensures
