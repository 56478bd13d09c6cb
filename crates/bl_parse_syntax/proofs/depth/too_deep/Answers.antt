use Rattle.std.proofs.Common.{refl, inl, inr, ⊎_elim, arith}
use Rattle.bl_parse_syntax.proofs.Depths.{passes_none, blocks_next, run_then, kind_next, passes_then, fails_here}
use Rattle.bl_parse_syntax.proofs.depth.too_deep.Goals as goal

pub loop-token-init : goal.loop-token-init
loop-token-init c = record { blocks = refl; run = refl; before = refl; few = omega arith; short = omega arith; each = passes_none }

pub returns-then-blocks-gt-MOST_BLOCKS : goal.returns-then-blocks-gt-MOST_BLOCKS
returns-then-blocks-gt-MOST_BLOCKS c =
    let i = c.loop-token.invariant in
    fails_here _ _ _ c.loop-token-test.true _ _ _ _ _ i.blocks i.run i.before c.blocks_after-blocks.ensures c.run_with-run.ensures i.each
    (⊎_elim (λ h. inl h) (λ h. inr h.1) c.then-blocks-gt-MOST_BLOCKS.either)

pub loop-token-preserved : goal.loop-token-preserved
loop-token-preserved c =
    let i = c.loop-token.invariant in
    let b = c.blocks_after-blocks.ensures in
    let r = c.run_with-run.ensures in
    let few = c.if-blocks-gt-MOST_BLOCKS.false in
    let short = c.if-run-gt-MOST_IN_A_RUN.false in
    record {
      blocks = blocks_next _ _ _ c.loop-token-test.true _ _ _ _ _ i.blocks i.run i.before b r i.each;
      run = run_then _ _ _ c.loop-token-test.true _ _ _ _ _ i.blocks i.run i.before b r i.each;
      before = kind_next _ _ _ c.loop-token-test.true _ _ _ _ _ i.blocks i.run i.before b r i.each;
      few = few;
      short = short;
      each = passes_then _ _ _ c.loop-token-test.true _ _ _ _ _ i.blocks i.run i.before b r i.each few short;
    }
