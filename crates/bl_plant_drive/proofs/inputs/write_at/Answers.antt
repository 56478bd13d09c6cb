use Rattle.std.proofs.Common.{◌+◌, ◌<◌, ◌≤◌, ◌∙◌, ap, arith, length, rules, set}
use Rattle.std.proofs.lemmas.Int.{to_z-of_z}
use Rattle.std.specs.Int.{w128}
use Rattle.bl_plant_drive.proofs.Filling.{written-all, written-more, written-none}
use Rattle.bl_plant_drive.proofs.inputs.write_at.Goals as goal

pub loop-k-init : goal.loop-k-init
loop-k-init c = written-none c.args.first c.args.numbers.now c.args.into.now

pub loop-k-preserved : goal.loop-k-preserved
loop-k-preserved c =
    let test = c.loop-k-test.true in
    let end = c.len-k-end.ensures in
    let low : c.loop-k.k < length c.args.numbers.now = omega (arith, test, end) in
    c.set.ensures
    ∙ ap (set c.loop-k.into (c.args.first + c.loop-k.k)) (to_z-of_z w128 c.at.result (search rules))
    ∙ written-more c.args.first c.loop-k.k c.args.numbers.now c.args.into.now c.loop-k.into c.at.result c.requires.wide low c.at.ensures
    c.loop-k.invariant

pub returns : goal.returns
returns c =
    let test = c.loop-k-test.false in
    let end = c.len-k-end.ensures in
    let past : length c.args.numbers.now ≤ c.loop-k.k = omega (arith, test, end) in
    written-all c.args.first c.loop-k.k c.args.numbers.now c.args.into.now c.loop-k.into past c.loop-k.invariant
