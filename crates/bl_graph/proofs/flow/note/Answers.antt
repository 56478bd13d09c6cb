use Rattle.std.proofs.Common.{sym, ◌∙◌}
use Rattle.std.proofs.lemmas.Result.{on_ok_weaker}
use Rattle.bl_graph.specs.inner.Found.{is_reached, notes_of}
use Rattle.bl_graph.proofs.NoteLemmas.{noted_elsewhere, noted_where, paths_end}
use Rattle.bl_graph.proofs.flow.note.Goals as goal

pub returns-then-is_reached : goal.returns-then-is_reached
returns-then-is_reached c =
    on_ok_weaker c.note_all.result (λ noted. noted_where c.args.accesses.now c.note_all.new.accesses c.args.notes.now c.note_all.new.self
    (is_reached c.args.deep c.args.node.now.mark) (notes_of c.args.i c.args.node.now.writes) (sym c.is_reached.ensures ∙ c.if-is_reached.true)
    (paths_end c.args.accesses.now c.note_all.new.accesses c.args.notes.now c.note_all.new.self c.args.i c.deref.result.now c.args.node.now.writes
    c.deref.ensures noted)) c.note_all.ensures

pub returns : goal.returns
returns c =
    noted_elsewhere c.args.accesses.now c.args.notes.now (is_reached c.args.deep c.args.node.now.mark) (notes_of c.args.i c.args.node.now.writes)
    (sym c.is_reached.ensures ∙ c.if-is_reached.false)
