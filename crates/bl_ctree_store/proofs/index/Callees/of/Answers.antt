use Rattle.std.proofs.Common.{◌≤◌, Some, None, ap, arith, cond, length, refl, sym, ◌∙◌}
use Rattle.std.specs.Option.{option_or}
use Rattle.std.proofs.lemmas.Option.{slice_get_read}
use Rattle.bl_ctree.specs.Instances.{begins_at}
use Rattle.bl_ctree_store.specs.Callees.{kept_callee}
use Rattle.bl_ctree_store.proofs.PositionLemmas.{position_more}
use Rattle.bl_ctree_store.proofs.index.Callees.of.Goals as goal

pub loop-k-preserved : goal.loop-k-preserved
loop-k-preserved c caller place =
    let xs = c.args.instances.now in
    let k = c.loop-k.k in
    let instance = c.index-instances-k.result in
    let within : k ≤ length xs = omega (arith, c.loop-k-test.true) in
    position_more (λ instance. begins_at caller place instance.origin) xs instance k (kept_callee c.loop-k.callees caller place)
    (kept_callee c.add.new.self caller place) within
    (slice_get_read xs (length xs) k instance refl c.loop-k-test.true c.index-instances-k.is) (c.loop-k.invariant caller place)
    (c.in_ok-add.ensures caller place
    ∙ ap (λ instance. option_or (kept_callee c.loop-k.callees caller place) (cond (begins_at caller place instance.origin) (Some k) None))
    (sym c.index-instances-k.is))
