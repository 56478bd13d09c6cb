use Rattle.bl_simplify_walk.proofs.OnForms.{form-split, form-split-same}
use Rattle.bl_simplify_walk.proofs.rules.split_forms.Goals as goal

pub returns : goal.returns
returns c =
    let b = c.block_rules.ensures in
    record {
      split = form-split b.split b.replaced b.chain b.empty c.stmt_rules.ensures.branches c.step_rules.ensures.forget c.tested_stmts.ensures;
      same = form-split-same b.chain;
    }
