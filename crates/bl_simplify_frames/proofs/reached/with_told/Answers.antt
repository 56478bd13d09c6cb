use Rattle.std.proofs.Common.{rules}
use Rattle.bl_simplify_facts.specs.Entries.{valuation}
use Rattle.bl_simplify_frames.proofs.OnBodies.{number-before}
use Rattle.bl_simplify_frames.proofs.reached.with_told.Goals as goal

pub returns-in_ok-before-in-Some : goal.returns-in_ok-before-in-Some
returns-in_ok-before-in-Some c =
    number-before (valuation c.args.case.now) (valuation c.args.told.now) (valuation c.in_ok-before-in-Some.field-0) c.args.counter.now c.in-Some.n
    (search rules) (search rules) c.requires
