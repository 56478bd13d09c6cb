use Rattle.std.proofs.Common.{◌∙◌}
use Rattle.std.specs.Prelude.{option_map}
use Rattle.bl_ctree_store.specs.Seen.{seen_by, setting_in, store_of}
use Rattle.bl_ctree_store.proofs.GlimpseLemmas.{left_by}
use Rattle.bl_ctree_store.proofs.perform.outcome.Goals as goal

pub returns : goal.returns
returns c =
    left_by (setting_in c.args.w.now) (store_of c.args.frames.now) c.args.i c.args.s.now c.deref.result.now (option_map seen_by c.in_ok-seen.seen)
    c.outcome_seen.result (c.deref.ensures ∙ c.in_ok-asked.ensures) c.in_ok-seen.ensures c.outcome_seen.ensures
