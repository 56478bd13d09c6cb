use Rattle.std.proofs.Common.{◌++◌, ◌∷◌, [], false, true, ◌∙◌}
use Rattle.bl_emit.specs.inner.Seen.{has_run_place}
use Rattle.bl_emit.proofs.SeenLemmas.{seen_decides, sees_more, sees_still, was_new, was_there}
use Rattle.bl_emit.proofs.runs.add.Goals as goal

pub returns-then-not-fresh : goal.returns-then-not-fresh
returns-then-not-fresh c =
    let run = c.args.run in
    let seen = c.args.seen.now in
    let kept = c.args.into.now in
    let there = was_there (has_run_place seen run.place) c.in_ok-fresh.fresh c.in_ok-fresh.ensures.fresh c.if-not-fresh.true in
    record {
      kept = seen_decides seen run.place kept true kept (kept ++ run ∷ []) there c.requires;
      seen = sees_still seen c.see.new.seen run.place kept there c.in_ok-fresh.ensures.seen c.requires;
    }

pub returns : goal.returns
returns c =
    let run = c.args.run in
    let seen = c.args.seen.now in
    let kept = c.args.into.now in
    let new = was_new (has_run_place seen run.place) c.in_ok-fresh.fresh c.in_ok-fresh.ensures.fresh c.if-not-fresh.false in
    record {
      kept = c.in_ok-push.ensures.ok ∙ seen_decides seen run.place kept false kept (kept ++ run ∷ []) new c.requires;
      seen = sees_more seen c.see.new.seen run kept c.push.new.self c.in_ok-fresh.ensures.seen c.in_ok-push.ensures.ok c.requires;
    }
