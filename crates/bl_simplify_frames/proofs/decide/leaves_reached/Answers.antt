use Rattle.std.proofs.Common.{List, rules, subst}
use Rattle.std.proofs.lemmas.Result.{IfOk-weaker}
use Rattle.bl_simplify_laws.specs.Rules.{AfterBlock}
use Rattle.bl_simplify_laws_frames.specs.Reached.LeavesReached.{told}
use Rattle.bl_simplify_facts.specs.declared.entries.Entry.{Entry}
use Rattle.bl_simplify_facts.specs.Entries.{facts_of}
use Rattle.bl_simplify_steps.specs.Entry.{known_from}
use Rattle.bl_simplify_frames.proofs.decide.leaves_reached.Goals as goal

pub returns : goal.returns
returns c =
    let f = c.args.function.now in
    IfOk-weaker c.are_left.result _ _
    (λ leaves left. λ is. told (search rules)
    (subst (λ (cases : List (List Entry)). AfterBlock (known_from (facts_of cases) f) f.body (facts_of cases)) c.deref-3.ensures (left is))) c.are_left.ensures
