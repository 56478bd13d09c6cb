use Rattle.std.proofs.Common.{[], ◌∷◌, subst}
use Rattle.std.proofs.lemmas.Result.{IfOk-weaker}
use Rattle.bl_simplify_laws.specs.Joins.{SameBlocks}
use Rattle.bl_simplify_laws.specs.Splits.{if_stmt}
use Rattle.bl_simplify_walk.specs.Forms.{else_of}
use Rattle.bl_simplify_walk.proofs.made.split_of.Goals as goal

pub returns : goal.returns
returns c =
    let forms = c.split_forms.ensures in
    IfOk-weaker c.if_before.result _ _
    (λ made same. forms.same c.args.test c.args.new c.args.others (if_stmt c.args.place c.args.test c.args.new (else_of c.args.others) ∷ []) made
    (forms.split c.args.place c.args.test c.args.new c.args.others)
    (subst (λ l. SameBlocks (if_stmt c.args.place c.args.test c.args.new (else_of c.args.others) ∷ l) made) c.new.ensures same))
    c.if_before.ensures
