use Rattle.std.proofs.Common.{arith, ◌≡◌, ◌∙◌, ap, sym, List, ℕ, ◌+◌, ◌<◌, drop, length, take, Some, None}
use Rattle.std.proofs.lemmas.List.{take_rest}
use Rattle.bl_crun_ports.specs.Layout.{kinds_of}
use Rattle.bl_save.specs.Bytes.{size_of}
use Rattle.bl_save.specs.inner.Shapes.{cell_shape, misfit}
use Rattle.bl_save.proofs.Faults.{count-kinds}
use Rattle.bl_save.proofs.Walks.{cells-end-none, cells-end-some, fits-long, later, left_at, misfit-here, misfit-later, misfit-within-bytes}
use Rattle.bl_save.proofs.restoring.cells_misfit.Goals as goal

pub returns-in-Some-clause-place : goal.returns-in-Some-clause-place
returns-in-Some-clause-place c =
    let kinds = kinds_of c.args.runner.now.parts in
    let bytes = c.args.bytes.now in
    let kind = c.kind-kind.result in
    let leaves : misfit (cell_shape c.kind-kind.result) (take (size_of c.kind-kind.result) (drop c.loop-k.at bytes)) ≡ Some c.in-Some.inside =
    ap (λ (s : List ℕ). misfit (cell_shape c.kind-kind.result) (take (size_of c.kind-kind.result) s)) (sym (take_rest bytes c.loop-k.at))
    ∙ sym c.in-Some.ensures in
    sym (c.loop-k.invariant.left ∙ misfit-here kinds bytes c.loop-k.k c.loop-k.at kind c.in-Some.inside c.kind-kind.ensures leaves)

pub returns-in-Some-clause-within : goal.returns-in-Some-clause-within
returns-in-Some-clause-within c =
    let bytes = c.args.bytes.now in
    let leaves : misfit (cell_shape c.kind-kind.result) (take (size_of c.kind-kind.result) (drop c.loop-k.at bytes)) ≡ Some c.in-Some.inside =
    ap (λ (s : List ℕ). misfit (cell_shape c.kind-kind.result) (take (size_of c.kind-kind.result) s)) (sym (take_rest bytes c.loop-k.at))
    ∙ sym c.in-Some.ensures in
    misfit-within-bytes bytes c.loop-k.at c.kind-kind.result c.in-Some.inside leaves c.loop-k.invariant.within

pub loop-k-preserved : goal.loop-k-preserved
loop-k-preserved c =
    let kinds = kinds_of c.args.runner.now.parts in
    let bytes = c.args.bytes.now in
    let kind = c.kind-kind.result in
    let fits : misfit (cell_shape c.kind-kind.result) (take (size_of c.kind-kind.result) (drop c.loop-k.at bytes)) ≡ None =
    ap (λ (s : List ℕ). misfit (cell_shape c.kind-kind.result) (take (size_of c.kind-kind.result) s)) (sym (take_rest bytes c.loop-k.at))
    ∙ sym c.in-None.ensures in
    let long = fits-long bytes c.loop-k.at kind fits in
    let size : c.size_of-at.result ≡ size_of c.kind-kind.result = c.size_of-at.ensures in
    record {
      within = omega arith;
      left = c.loop-k.invariant.left ∙ misfit-later kinds bytes c.loop-k.k c.loop-k.at kind c.kind-kind.ensures fits
          ∙ ap (λ (s : ℕ). later (c.loop-k.at + s) (left_at kinds bytes (c.loop-k.k + 1) (c.loop-k.at + s))) (sym size);
    }

pub returns-then-at-bytes-clause-place : goal.returns-then-at-bytes-clause-place
returns-then-at-bytes-clause-place c =
    let count = count-kinds c.args.runner.now.parts in
    let end = c.cells-k-end.ensures.count in
    sym (c.loop-k.invariant.left
    ∙ cells-end-none (kinds_of c.args.runner.now.parts) c.args.bytes.now c.loop-k.k c.loop-k.at (omega arith) (omega arith))

pub returns-else-at-bytes-clause-place : goal.returns-else-at-bytes-clause-place
returns-else-at-bytes-clause-place c =
    let count = count-kinds c.args.runner.now.parts in
    let end = c.cells-k-end.ensures.count in
    let within = c.loop-k.invariant.within in
    let few : c.loop-k.at < length c.args.bytes.now = grind arith in
    sym (c.loop-k.invariant.left
    ∙ cells-end-some (kinds_of c.args.runner.now.parts) c.args.bytes.now c.loop-k.k c.loop-k.at (omega arith) few)
