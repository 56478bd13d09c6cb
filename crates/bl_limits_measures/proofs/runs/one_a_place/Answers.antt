use Rattle.std.proofs.Common.{◌++◌, ◌∷◌, [], ap, sym, cond, ◌∙◌}
use Rattle.std.specs.List.{list_any}
use Rattle.bl_limits_measures.specs.inner.Seen.{starts_at}
use Rattle.bl_limits_measures.proofs.SeenLemmas.{one_more}
use Rattle.bl_limits_measures.proofs.runs.one_a_place.Goals as goal

pub loop-run-preserved : goal.loop-run-preserved
loop-run-preserved c = let run = c.in-Some.run' in record {
  kept = c.in_ok-add.ensures.kept ∙ ap (λ kept. cond (list_any (starts_at run.place) kept) kept (kept ++ run ∷ []))
      c.loop-run.invariant.kept ∙ sym (one_more c.loop-run.yielded run);
  seen = c.in_ok-add.ensures.seen;
}
