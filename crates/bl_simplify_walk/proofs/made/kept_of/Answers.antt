use Rattle.std.proofs.lemmas.Result.{IfOk-weaker}
use Rattle.bl_simplify_laws.specs.Splits.{if_stmt}
use Rattle.bl_simplify_walk.specs.Forms.{else_of}
use Rattle.bl_simplify_walk.proofs.made.kept_of.Goals as goal
use Rattle.std.proofs.Common.{◌∷◌}

pub returns : goal.returns
returns c =
    let forms = c.kept_forms.ensures in
    IfOk-weaker c.if_before.result _ _
    (λ made same. forms.same c.args.test c.args.new c.args.others c.args.following
    (if_stmt c.args.place c.args.test c.args.new (else_of c.args.others) ∷ c.args.following) made
    (forms.kept c.args.place c.args.test c.args.new c.args.others c.args.following) same)
    c.if_before.ensures
