use Rattle.std.proofs.Common.{map, ap, ◌∙◌}
use Rattle.bl_ctree.specs.Nodes.{seen_of}
use Rattle.bl_ctree.specs.inner.Wakings.{wake_seen}
use Rattle.bl_ctree.proofs.WakeLemmas.{par_woken}
use Rattle.bl_ctree.proofs.waking.+waking.Goals as goal

pub woken-returns-in_ok-at-in-Par : goal.woken-returns-in_ok-at-in-Par
woken-returns-in_ok-at-in-Par t c =
    par_woken c.args.node.now c.in-Par.s c.in_ok-at-in-Par.field-0 c.in-Par.field-1 c.in-Par.branches c.in_ok-branches-in-Par.branches
    c.in-Par.is c.in_ok-at-in-Par.ensures
    (c.in_ok-branches-in-Par.ensures ∙ ap (λ all. map wake_seen (map seen_of all)) c.deref-in-Par.ensures)
