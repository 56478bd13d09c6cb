use Rattle.std.proofs.Common.{◌∙◌, ◌++◌, ap, sym}
use Rattle.bl_tree.specs.declared.tree.Expr.{out-Expr}
use Rattle.bl_types.specs.Failures.{noted}
use Rattle.bl_types.specs.Settled.{one_made, settled, two_made}
use Rattle.bl_types.proofs.NoteLemmas.{noted-append, then_noted_ok}
use Rattle.bl_types.proofs.SettleLemmas.{one_settled, two_settled}
use Rattle.bl_types.proofs.settle.+settle.Goals as goal

pub returns-in_ok-a-in-One-clause-notes : goal.returns-in_ok-a-in-One-clause-notes
returns-in_ok-a-in-One-clause-notes t c =
    then_noted_ok c.one_made.result c.args.notes.now c.settle.new.notes c.one_made.new.notes (settled c.args.s c.deref.result.now).failures
    (one_made c.args.s (out-Expr c.args.e.now).place c.in-One.op c.in_ok-a-in-One.a).failures (settled c.args.s c.args.e.now).failures
    c.in_ok-a-in-One.ensures.notes
    (one_settled c.args.s c.args.e.now c.in-One.op c.in-One.a c.deref.result.now c.in_ok-a-in-One.a c.in-One.is c.deref.ensures c.in_ok-a-in-One.ensures.made)
    c.one_made.ensures.notes

pub returns-in_ok-b-in-Two-clause-notes : goal.returns-in_ok-b-in-Two-clause-notes
returns-in_ok-b-in-Two-clause-notes t c =
    let first = (settled c.args.s c.deref-in-Two.result.now).failures in
    let second = (settled c.args.s c.deref-in-Two-2.result.now).failures in
    then_noted_ok c.two_made.result c.args.notes.now c.settle-in-Two-2.new.notes c.two_made.new.notes (first ++ second)
    (two_made c.args.s (out-Expr c.args.e.now).place c.in-Two.op c.in_ok-a-in-Two.a c.in_ok-b-in-Two.b).failures (settled c.args.s c.args.e.now).failures
    (c.in_ok-b-in-Two.ensures.notes ∙ ap (λ n. noted n second) c.in_ok-a-in-Two.ensures.notes ∙ sym (noted-append c.args.notes.now first second))
    (two_settled c.args.s c.args.e.now c.in-Two.op c.in-Two.a c.in-Two.b c.deref-in-Two.result.now c.deref-in-Two-2.result.now
    c.in_ok-a-in-Two.a c.in_ok-b-in-Two.b c.in-Two.is
    c.deref-in-Two.ensures c.deref-in-Two-2.ensures c.in_ok-a-in-Two.ensures.made c.in_ok-b-in-Two.ensures.made)
    c.two_made.ensures.notes
