use Rattle.std.proofs.Common.{[], ◌∷◌, rules}
use Rattle.std.proofs.lemmas.Result.{IfOk-weaker}
use Rattle.bl_simplify_facts.specs.Entries.{facts_of, valuation}
use Rattle.bl_simplify_steps.specs.Entry.{known_from}
use Rattle.bl_simplify_frames.proofs.OnBodies.{after-looser}
use Rattle.bl_simplify_frames.proofs.reached.is_left.Goals as goal

pub returns : goal.returns
returns c =
    IfOk-weaker c.are_reached.result _ _
    (λ all looser. λ is. after-looser (known_from (valuation c.args.case.now ∷ []) c.args.function.now) (facts_of c.in_ok-exits.exits)
    (facts_of c.args.reached.now) c.args.function.now.body c.in_ok-exits.ensures (search rules)) c.are_reached.ensures
