use Rattle.std.proofs.Common.{◌++◌, ap, ◌∙◌}
use Rattle.bl_conflict.proofs.AliasLemmas.{aliased_is}
use Rattle.bl_conflict.specs.inner.Failures.{added}
use Rattle.bl_conflict.proofs.alias.aliased_with.Goals as goal

pub returns : goal.returns
returns c =
    c.add.ensures ∙ ap (added c.args.best c.args.one.now.place) c.first_of_all.ensures
    ∙ aliased_is c.args.best (c.args.others.now ++ c.args.more.now) c.args.one.now
