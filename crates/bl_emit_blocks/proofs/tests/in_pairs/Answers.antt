use Rattle.std.proofs.Common.{◌≡◌, ◌∙◌, List, ap, subst}
use Rattle.std.specs.Prelude.{IfOk}
use Rattle.bl_tree.specs.declared.c.CExpr.{CExpr}
use Rattle.bl_emit_blocks.specs.Pairs.{finished}
use Rattle.bl_emit_blocks.proofs.Trees.{pairs_all}
use Rattle.bl_emit_blocks.proofs.tests.in_pairs.Goals as goal

pub returns : goal.returns
returns c =
    subst (λ (made : List CExpr). IfOk c.finished.result (λ code. code ≡ made))
    (ap finished c.in_ok-paired_all.ensures ∙ pairs_all c.args.op c.args.tests) c.finished.ensures
