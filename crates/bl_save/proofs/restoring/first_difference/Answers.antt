use Rattle.std.proofs.Common.{arith, ◌≡◌, ◌∙◌, ◌<◌, length}
use Rattle.std.specs.Prelude.{slice_index}
use Rattle.bl_save.proofs.Walks.{header-end, none-at, other-at, same-at}
use Rattle.bl_save.proofs.restoring.first_difference.Goals as goal

pub loop-k-preserved : goal.loop-k-preserved
loop-k-preserved c =
    let wanted = c.args.wanted.now in
    let bytes = c.args.bytes.now in
    let inside : c.loop-k.k < length wanted = omega arith in
    let within : c.loop-k.k < length bytes = omega (arith, c.loop-k.invariant.within) in
    let is : slice_index bytes c.loop-k.k ≡ slice_index wanted c.loop-k.k = omega arith in
    record {
      within = omega arith;
      left = λ shape. c.loop-k.invariant.left shape ∙ same-at wanted shape bytes c.loop-k.k inside within is;
    }

pub returns-then-k-bytes-clause-place : goal.returns-then-k-bytes-clause-place
returns-then-k-bytes-clause-place c = λ shape.
    c.loop-k.invariant.left shape ∙ none-at c.args.wanted.now shape c.args.bytes.now c.loop-k.k (omega arith) (omega arith)

pub returns-then-bytes-k-clause-place : goal.returns-then-bytes-k-clause-place
returns-then-bytes-k-clause-place c = λ shape.
    c.loop-k.invariant.left shape
    ∙ other-at c.args.wanted.now shape c.args.bytes.now c.loop-k.k (omega arith) (omega (arith, c.loop-k.invariant.within)) (λ is. c.if-bytes-k.true is)

pub returns-clause-place : goal.returns-clause-place
returns-clause-place c = λ shape.
    c.loop-k.invariant.left shape ∙ header-end c.args.wanted.now shape c.args.bytes.now c.loop-k.k (omega arith)
