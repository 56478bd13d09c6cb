use Rattle.std.proofs.Common.{◌≡◌, ◌<◌, length, get_or, ap, sym, ◌∙◌, arith, rules}
use Rattle.std.proofs.lemmas.Int.{to_z-of_z}
use Rattle.std.specs.Int.{w128}
use Rattle.bl_tree.specs.declared.row.Column.{Column}
use Rattle.bl_tree.specs.Scalar.{in_range}
use Rattle.bl_tree.specs.Ports.{in_ranges, types_of}
use Rattle.bl_crun.proofs.Loops.{column-there, ranges-fail, ranges-long, ranges-step}
use Rattle.bl_crun.proofs.fits.fit_all.Goals as goal

pub returns-then-columns-len : goal.returns-then-columns-len
returns-then-columns-len c = sym (ranges-long c.args.columns.now c.args.row.now (λ e. c.if-columns-len.true (e ∙ sym c.len.ensures)))

pub returns-then-not-fits : goal.returns-then-not-fits
returns-then-not-fits c =
    let test = c.loop-k-test.true in
    let end = c.len-k-end.ensures in
    let first = c.len.ensures in
    let same = c.if-columns-len.false in
    let within : c.loop-k.k < length c.args.columns.now = omega arith in
    let there = column-there c.args.columns.now c.loop-k.k c.index-columns-k.result within c.index-columns-k.is in
    let judged : in_range c.index-columns-k.result.ty c.at.result ≡ c.fits.result =
    ap (λ (q : Column). in_range q.ty c.at.result) c.index-columns-k.is
    ∙ ap (in_range (get_or c.args.columns.now c.loop-k.k c.index-columns-k.result).ty)
    (sym (to_z-of_z w128 c.at.result (search rules))) ∙ sym c.fits.ensures in
    sym (ranges-fail c.loop-k.k c.args.columns.now c.args.row.now c.index-columns-k.result c.at.result (in_ranges (types_of c.args.columns.now) c.args.row.now)
    there c.at.ensures (judged ∙ c.if-not-fits.true) c.loop-k.invariant)

pub loop-k-preserved : goal.loop-k-preserved
loop-k-preserved c =
    let test = c.loop-k-test.true in
    let end = c.len-k-end.ensures in
    let first = c.len.ensures in
    let same = c.if-columns-len.false in
    let within : c.loop-k.k < length c.args.columns.now = omega arith in
    let there = column-there c.args.columns.now c.loop-k.k c.index-columns-k.result within c.index-columns-k.is in
    let judged : in_range c.index-columns-k.result.ty c.at.result ≡ c.fits.result =
    ap (λ (q : Column). in_range q.ty c.at.result) c.index-columns-k.is
    ∙ ap (in_range (get_or c.args.columns.now c.loop-k.k c.index-columns-k.result).ty)
    (sym (to_z-of_z w128 c.at.result (search rules))) ∙ sym c.fits.ensures in
    ranges-step c.loop-k.k c.args.columns.now c.args.row.now c.index-columns-k.result c.at.result (in_ranges (types_of c.args.columns.now) c.args.row.now)
    there c.at.ensures (judged ∙ c.if-not-fits.false) c.loop-k.invariant
