use Rattle.std.proofs.Common.{ap, map, ◌∙◌}
use Rattle.bl_tree.specs.declared.tree.StmtKind.{out-StmtKind}
use Rattle.bl_tree.specs.declared.tree.StmtKind.TheVariants.{outs-Call}
use Rattle.bl_tree.specs.Static.{set_of, static_of}
use Rattle.bl_ctree.specs.Positions.{stmt_kind}
use Rattle.bl_ctree_store.proofs.GlimpseLemmas.{covers_outputs}
use Rattle.bl_ctree_store.proofs.perform.acts.Goals as goal

pub writes-requires-in-Call : goal.writes-requires-in-Call
writes-requires-in-Call c =
    covers_outputs (stmt_kind c.args.s.now) c.in-Call.field-0 c.in-Call.field-1 c.in-Call.outputs c.deref-in-Call-2.result.now
    (ap out-StmtKind c.in-Call.is ∙ outs-Call c.in-Call.field-0 c.in-Call.field-1 c.in-Call.outputs)
    (c.deref-in-Call-2.ensures ∙ c.set_of-paths.ensures ∙ ap set_of (c.in_ok-statics_of-in-Call.ensures ∙ ap (map static_of) c.deref-in-Call.ensures))
