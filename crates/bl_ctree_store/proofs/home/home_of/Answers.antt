use Rattle.std.proofs.Common.{ap, sym, ◌∙◌}
use Rattle.std.specs.Prelude.{option_map}
use Rattle.bl_ctree_store.specs.Seen.{location_of, setting_in}
use Rattle.bl_ctree_store.proofs.HomeLemmas.{within_next}
use Rattle.bl_ctree_store.proofs.home.home_of.Goals as goal

pub loop-preserved : goal.loop-preserved
loop-preserved c =
    sym (within_next (setting_in c.args.w.now) c.depth_at-depth.result c.loop.counter (location_of c.loop.at) (location_of c.in-Some.next) c.loop-test.true
    (sym c.in_ok-next.ensures ∙ ap (option_map location_of) c.in-Some.is))
    ∙ c.loop.invariant
