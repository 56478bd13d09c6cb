use Rattle.std.proofs.Common.{◌≡◌, ◌||◌, false, map, rules, ap, sym, ◌∙◌}
use Rattle.bl_tree.proofs.Basics.{or_false}
use Rattle.bl_tree.specs.declared.c.CStmtKind.{the_lemmas}
use Rattle.bl_simplify_laws_frames.specs.Reached.{ends_in, none_ends}
use Rattle.bl_simplify_frames.proofs.OnEnds.{some_return}
use Rattle.bl_simplify_frames.proofs.OnLists.{any_done, any_next}
use Rattle.bl_simplify_frames.proofs.ends.+returning.Goals as goal

pub have_return-loop-stmt-preserved : goal.have_return-loop-stmt-preserved
have_return-loop-stmt-preserved t c =
    any_next (λ s. (ends_in s).returns) c.args.block.now c.loop-stmt.stmt-index c.stmt-item.result c.loop-stmt.some _ _ c.loop-stmt-test.true
    c.stmt-item.is c.has_return-some.ensures c.loop-stmt.invariant

pub have_return-returns : goal.have_return-returns
have_return-returns t c =
    any_done (λ s. (ends_in s).returns) c.args.block.now c.loop-stmt.stmt-index c.loop-stmt.some _ c.loop-stmt-test.false c.loop-stmt.invariant
    ∙ some_return c.args.block.now
