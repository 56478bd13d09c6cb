use Rattle.std.proofs.Common.{ap, ◌∙◌, arith}
use Rattle.std.specs.Prelude.{slice_get}
use Rattle.bl_tree.specs.declared.rule.Rule.TheVariants as rule
use Rattle.bl_tree.specs.Rules.{first_of}
use Rattle.bl_limits_measures.specs.Units.{instances_at}
use Rattle.bl_limits.specs.inner.Failures.{at_unit}
use Rattle.bl_limits.proofs.Lists.{unit-saturated}
use Rattle.bl_limits.proofs.frames.of_entry.Goals as goal

pub returns : goal.returns
returns c =
    let unit = slice_get c.args.units.now c.args.entry in
    c.judge_unit.ensures
    ∙ ap (λ n. first_of c.args.first (at_unit rule.Frames 4_096 n unit)) (c.instances.ensures c.args.structs.now c.args.units.now c.requires.tells)
    ∙ ap (first_of c.args.first) (unit-saturated rule.Frames 4_096 (instances_at c.args.units.now c.args.entry) unit (omega arith))
