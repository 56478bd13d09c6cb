use Rattle.std.proofs.Common.{sym}
use Rattle.bl_ctree.specs.Nodes.{items_then}
use Rattle.bl_ctree.proofs.ItemLemmas.{some_left}
use Rattle.bl_ctree_run.proofs.spine.is_over.Goals as goal

pub returns-then-rest : goal.returns-then-rest
returns-then-rest c =
    sym (some_left c.args.rest.now.block c.args.rest.now.next c.args.rest.now.next c.args.rest.now.body.now (items_then c.args.rest.now.then) (c.if-rest.true))
