use Rattle.std.proofs.Common.{rules, arith, ◌≡◌, ◌∙◌, ap, sym, ◌++◌, ◌+◌, List, ℕ, ℤ, drop, length, take, to_z, of_z, Some}
use Rattle.std.proofs.Common.{None, subst, ◌-◌, ◌<◌}
use Rattle.std.specs.Prelude.{slice_get, slice_set}
use Rattle.std.specs.Int.{w128}
use Rattle.std.proofs.lemmas.List.{length-set, take_rest}
use Rattle.std.proofs.lemmas.Int.{to_z-of_z}
use Rattle.bl_crun_ports.specs.Layout.{kinds_of}
use Rattle.bl_tree.specs.declared.scalar.Scalar.{Scalar}
use Rattle.bl_tree.specs.Scalar.{in_range}
use Rattle.bl_crun.specs.Running.{Running}
use Rattle.bl_save.specs.Bytes.{size_of, cell_bytes}
use Rattle.bl_save.specs.States.{with_numbers}
use Rattle.bl_save.specs.inner.Shapes.{cell_shape, misfit}
use Rattle.bl_save.proofs.Faults.{count-kinds}
use Rattle.bl_save.proofs.States.{are-cells, numbers_in}
use Rattle.bl_save.proofs.Walks.{fits-from, fits-long, left_at, number-is, put-end, put-step, puts}
use Rattle.bl_save.proofs.restoring.put_cells.Goals as goal

pub loop-k-preserved : goal.loop-k-preserved
loop-k-preserved c =
    let first = c.args.runner.now in
    let kinds = kinds_of c.args.runner.now.parts in
    let bytes = c.args.bytes.now in
    let k : ℕ = c.loop-k.k in
    let at : ℕ = c.loop-k.at in
    let inv = c.loop-k.invariant in
    let kind : slice_get kinds k ≡ Some c.kind-kind.result = ap (λ (r : Running). slice_get (kinds_of r.parts) k) (sym inv.same) ∙ c.kind-kind.ensures in
    let fits = fits-from kinds bytes k at c.kind-kind.result kind inv.fits in
    let long = fits-long bytes at c.kind-kind.result fits.front in
    let size : c.size_of-at.result ≡ size_of c.kind-kind.result = c.size_of-at.ensures in
    let rest : take (length bytes - at) (drop at bytes) ≡ drop at bytes = take_rest bytes at in
    let written : cell_bytes c.kind-kind.result c.number.result ≡ take (size_of c.kind-kind.result) (drop at bytes) =
    c.number.ensures.written ∙ ap (take (size_of c.kind-kind.result)) rest in
    let number = number-is c.kind-kind.result c.number.result (drop at bytes) c.number.ensures.range written in
    let passed : to_z w128 (of_z w128 c.number.result) ≡ c.number.result = to_z-of_z w128 _ (search rules) in
    let put = puts first c.loop-k.runner c.put.new.self k c.number.result _ inv.same passed c.put.ensures in
    let within : k < length c.loop-k.runner.cells = omega (arith, inv.whole, c.cells-k-end.ensures.count) in
    record {
      same = put.same;
      whole = ap length put.cells ∙ length-set c.loop-k.runner.cells k c.number.result ∙ inv.whole;
      within = omega arith;
      fits = subst (λ (s : ℕ). left_at kinds bytes (k + 1) (at + s) ≡ None) (sym size) fits.back;
      numbers = ap (λ (cells : List ℤ). take (k + 1) cells ++ numbers_in (drop (k + 1) kinds) (drop (at + c.size_of-at.result) bytes)) put.cells
          ∙ ap (λ (s : ℕ). take (k + 1) (slice_set c.loop-k.runner.cells k c.number.result) ++ numbers_in (drop (k + 1) kinds) (drop (at + s) bytes)) size
          ∙ put-step kinds bytes c.loop-k.runner.cells k at c.kind-kind.result c.number.result kind within number ∙ inv.numbers;
    }

pub number-requires : goal.number-requires
number-requires c =
    let kinds = kinds_of c.args.runner.now.parts in
    let bytes = c.args.bytes.now in
    let inv = c.loop-k.invariant in
    let kind : slice_get kinds c.loop-k.k ≡ Some c.kind-kind.result =
    ap (λ (r : Running). slice_get (kinds_of r.parts) c.loop-k.k) (sym inv.same) ∙ c.kind-kind.ensures in
    ap (λ (s : List ℕ). misfit (cell_shape c.kind-kind.result) (take (size_of c.kind-kind.result) s)) (take_rest bytes c.loop-k.at)
    ∙ (fits-from kinds bytes c.loop-k.k c.loop-k.at c.kind-kind.result kind inv.fits).front

pub put-requires-clause-range : goal.put-requires-clause-range
put-requires-clause-range c other is =
    let passed : to_z w128 (of_z w128 c.number.result) ≡ c.number.result = to_z-of_z w128 _ (search rules) in
    let same : c.kind-kind.result ≡ other = cc (c.kind-kind.ensures, is) in
    ap (in_range other) passed ∙ ap (λ (kind : Scalar). in_range kind c.number.result) (sym same) ∙ c.number.ensures.range

pub returns : goal.returns
returns c =
    let kinds = kinds_of c.args.runner.now.parts in
    let bytes = c.args.bytes.now in
    let inv = c.loop-k.invariant in
    let behind = drop 10 bytes in
    let all = are-cells kinds behind c.requires.fits in
    let count = count-kinds c.args.runner.now.parts in
    let end = c.cells-k-end.ensures.count in
    record {
      numbers = numbers_in kinds behind;
      fit = all.range;
      written = sym all.written;
      runner = inv.same ∙ ap (with_numbers c.args.runner.now)
          (put-end kinds bytes c.loop-k.runner.cells (numbers_in kinds behind) c.loop-k.k c.loop-k.at (omega arith) (omega (arith, inv.whole)) inv.numbers);
    }
