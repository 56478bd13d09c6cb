use Rattle.bl_eval.proofs.PartLemmas.{single_none, single_some}
use Rattle.bl_eval.proofs.steps.single.Goals as goal

pub returns-then-is_none : goal.returns-then-is_none
returns-then-is_none c =
    single_none (λ found. found.now) c.find.result c.args.root c.args.positions c.deref.result.now c.args.value c.args.now.now c.is_none.result
    c.find.ensures c.deref.ensures c.is_none.ensures c.if-is_none.true

pub returns : goal.returns
returns c =
    single_some (λ found. found.now) c.find.result c.args.root c.args.positions c.deref.result.now c.args.value c.args.now.now c.is_none.result
    c.new-changes.result c.push.new.self c.find.ensures c.deref.ensures c.is_none.ensures c.if-is_none.false c.new-changes.ensures c.in_ok-push.ensures.ok
