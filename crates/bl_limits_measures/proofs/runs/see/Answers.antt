use Rattle.bl_limits_measures.specs.inner.Seen.{place_key}
use Rattle.bl_limits_measures.proofs.SeenLemmas.{place_added}
use Rattle.bl_limits_measures.proofs.runs.see.Goals as goal

pub returns-in-Ok-clause-seen : goal.returns-in-Ok-clause-seen
returns-in-Ok-clause-seen c q = place_added c.args.seen.now c.insert.new.self c.args.place q (c.in-Ok.ensures.updates.0 (place_key q))
