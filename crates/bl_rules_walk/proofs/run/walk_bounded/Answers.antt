-- What is walked is the program of the source.
use Rattle.std.proofs.Common.{◌<◌, ◌^◌, length, subst, sym}
use Rattle.std.proofs.lemmas.Result.{IfOk-weaker}
use Rattle.bl_ctree.specs.Instances.{instances_of}
use Rattle.bl_ctree.specs.Means.{Means, shown_trace}
use Rattle.bl_ctree.specs.Reaches.{Bounded, NeverStuck}
use Rattle.bl_tree.specs.declared.program.Program.{Program}
use Rattle.bl_walk.specs.Walks.{Appended}
use Rattle.bl_rules_walk.proofs.run.walk_bounded.Goals as goal

pub walk-requires : goal.walk-requires
walk-requires g c =
    let same = sym c.program.ensures in (
      subst (λ (p : Program). length (instances_of p.units p.entry) < 2 ^ 32) same c.requires.0,
      (
        subst (λ (p : Program). Bounded g.most p.structs p.units p.entry) same c.requires.1.0,
        subst (λ (p : Program). NeverStuck p.structs p.units p.entry) same c.requires.1.1,
      ),
    )

pub returns-clause-means : goal.returns-clause-means
returns-clause-means g c =
    IfOk-weaker c.walk.result _ _
    (λ trace. subst (λ (p : Program). Means p.structs p.units p.entry c.args.rows.now (shown_trace trace)) c.program.ensures) c.walk.ensures.means

pub returns-clause-walked : goal.returns-clause-walked
returns-clause-walked g c =
    IfOk-weaker c.walk.result _ _
    (λ trace. subst (λ (p : Program). Appended p.structs p.units p.entry c.args.seed c.args.rows.now trace c.args.steps.now c.walk.new.steps)
    c.program.ensures) c.walk.ensures.walked
