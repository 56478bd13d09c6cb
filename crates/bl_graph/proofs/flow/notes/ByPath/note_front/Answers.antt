use Rattle.std.proofs.lemmas.Result.{on_ok_weaker}
use Rattle.bl_graph.specs.inner.Noted.{front}
use Rattle.bl_graph.proofs.NoteLemmas.{noting_at}
use Rattle.bl_graph.proofs.flow.notes.ByPath.note_front.Goals as goal

pub returns : goal.returns
returns c =
    on_ok_weaker c.note.result (noting_at c.args.accesses.now c.note.new.accesses c.args.self.now c.note.new.self c.args.node c.in_ok-front.front
    (front c.args.path.now c.args.count) c.in_ok-front.ensures) c.note.ensures
