use Rattle.std.proofs.Common.{◌≡◌, OnOk, subst}
use Rattle.bl_types.specs.Expressions.{beside, operands_made, two_of, type_of_two}
use Rattle.bl_types.specs.Failures.{noted}
use Rattle.bl_types.proofs.NoteLemmas.{three_noted_ok}
use Rattle.bl_types.proofs.operators.settled_two.Goals as goal

pub returns-clause-notes : goal.returns-clause-notes
returns-clause-notes c =
    let int32 = c.int32-int32.result in
    let first = beside c.args.op int32 c.args.a.now in
    let second = beside c.args.op int32 c.args.b.now in
    subst (λ ty. OnOk c.operands_made.result (c.operands_made.new.notes ≡ noted c.args.notes.now
    (two_of c.args.at c.args.op (type_of_two c.args.op ty ty) (beside c.args.op ty c.args.a.now)
    (beside c.args.op ty c.args.b.now)).failures)) c.int32-int32.ensures
    (three_noted_ok c.operands_made.result c.args.notes.now c.beside.new.notes c.beside-2.new.notes c.operands_made.new.notes first.failures second.failures
    (operands_made c.args.at c.args.op (type_of_two c.args.op int32 int32) first.made second.made).failures
    (operands_made c.args.at c.args.op c.type_of_two.result c.in_ok-a.a c.in_ok-b.b).failures
    c.in_ok-a.ensures.notes c.in_ok-b.ensures.notes
    (λ i. (operands_made c.args.at c.args.op (c.type_of_two.ensures i) (c.in_ok-a.ensures.made i) (c.in_ok-b.ensures.made i)).failures)
    c.operands_made.ensures.notes)
