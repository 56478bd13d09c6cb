use Rattle.std.proofs.Common.{◌+◌, ◌-◌, ◌<◌, ◌≤◌, ◌^◌, ◌∙◌, ap, arith, rules, drop, get_or, length, min, slice_set, pos, ℤ}
use Rattle.std.specs.Int.{w128}
use Rattle.std.proofs.lemmas.Int.{to_z-of_z}
use Rattle.bl_ctext_semantics_laws.specs.Flat.{with_args}
use Rattle.bl_crun_code_vm.proofs.Frames.{put-last, put-more}
use Rattle.bl_crun_code_vm.proofs.frame.put.Goals as goal

pub loop-k-preserved : goal.loop-k-preserved
loop-k-preserved c =
    let low : c.args.at ≤ c.loop-k.k = omega arith in
    let less : c.loop-k.k < c.args.at + length c.args.args.now = omega arith in
    let n : ℤ = get_or c.args.args.now (c.loop-k.k - c.args.at) (pos 0) in
    ap (λ (x : ℤ). with_args (c.loop-k.k + 1) (drop (c.loop-k.k + 1 - c.args.at) c.args.args.now) (slice_set c.loop-k.cells c.loop-k.k x))
    (to_z-of_z w128 n (search rules))
    ∙ put-more c.args.at c.loop-k.k c.args.args.now c.loop-k.cells (with_args c.args.at c.args.args.now c.args.cells.now) low less c.loop-k.invariant

pub returns : goal.returns
returns c =
    let low : c.args.at ≤ c.loop-k.k = omega arith in
    let small : length c.loop-k.cells < 2 ^ 64 = omega arith in
    let end : min (min (c.args.at + length c.args.args.now) (2 ^ 64 - 1)) (length c.loop-k.cells) ≤ c.loop-k.k = omega arith in
    put-last c.args.at c.loop-k.k c.args.args.now c.loop-k.cells (with_args c.args.at c.args.args.now c.args.cells.now) end small low c.loop-k.invariant
