use Rattle.bl_simplify_walk.proofs.OnForms.{form-kept, form-kept-same}
use Rattle.bl_simplify_walk.proofs.rules.kept_forms.Goals as goal

pub returns : goal.returns
returns c =
    let b = c.block_rules.ensures in
    record { kept = form-kept b.replaced c.stmt_rules.ensures.branches c.tested_stmts.ensures; same = form-kept-same b.chain }
