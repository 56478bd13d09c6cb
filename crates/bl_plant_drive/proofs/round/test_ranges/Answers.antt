use Rattle.std.proofs.Common.{◌≡◌, ◌+◌, ◌<◌, true, Some, add-one, ap, arith, drop, get_or, length, rules, subst, sym, take, ◌∙◌}
use Rattle.std.proofs.lemmas.Int.{to_z-of_z}
use Rattle.std.proofs.lemmas.Option.{slice_get-get_or}
use Rattle.std.specs.Int.{w128}
use Rattle.bl_tree.specs.declared.row.Column.{Column}
use Rattle.bl_tree.specs.Ports.{in_ranges, types_of}
use Rattle.bl_tree.specs.Scalar.{in_range}
use Rattle.bl_plant_drive.proofs.Ranges.{get-drop, ranges-more}
use Rattle.bl_plant_drive.proofs.round.test_ranges.Goals as goal

pub loop-k-preserved : goal.loop-k-preserved
loop-k-preserved c =
    let test = c.loop-k-test.true in
    let end = c.len-k-end.ensures in
    let wide = c.requires.wide in
    let within : c.args.first + c.loop-k.k < length c.args.inputs.now = omega (arith, test, end, wide) in
    let there =
    slice_get-get_or c.args.inputs.now (c.args.first + c.loop-k.k) c.index-inputs-first.result within ∙ ap Some (sym c.index-inputs-first.is) in
    let judged : in_range c.index-inputs-first.result.ty c.at-number.result ≡ c.fits.result =
    ap (λ (q : Column). in_range q.ty c.at-number.result) c.index-inputs-first.is
    ∙ ap (in_range (get_or c.args.inputs.now (c.args.first + c.loop-k.k) c.index-inputs-first.result).ty)
    (sym (to_z-of_z w128 c.at-number.result (search rules)))
    ∙ sym c.fits.ensures in
    subst (λ m. in_ranges (types_of (take m (drop c.args.first c.args.inputs.now))) (take m c.args.numbers.now) ≡ true) (sym (add-one c.loop-k.k))
    (ranges-more c.loop-k.k (drop c.args.first c.args.inputs.now) c.args.numbers.now c.index-inputs-first.result c.at-number.result
    (get-drop c.args.first c.loop-k.k c.args.inputs.now ∙ there) c.at-number.ensures (judged ∙ c.if-not-fits.false) c.loop-k.invariant)
