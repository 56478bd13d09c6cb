use Rattle.std.proofs.lemmas.Result.{on_ok_weaker}
use Rattle.bl_graph.proofs.NoteLemmas.{noting_at, noting_both}
use Rattle.bl_graph.proofs.flow.notes.Notes.note.Goals as goal

pub returns : goal.returns
returns c =
    on_ok_weaker c.note-2.result (λ noted. noting_both c.args.accesses.now c.note_fronts.new.accesses c.note.new.accesses c.note-2.new.accesses
    c.args.self.now (record { within = c.note.new.self; exactly = c.note-2.new.self }) c.note_fronts.new.self c.args.node c.args.path.now
    c.in_ok-note_fronts.ensures
    (noting_at c.note_fronts.new.accesses c.note.new.accesses c.note_fronts.new.self c.note.new.self c.args.node c.in_ok-copy_of.field-0 c.args.path.now
    c.in_ok-copy_of.ensures c.in_ok-note.ensures)
    (noting_at c.note.new.accesses c.note-2.new.accesses c.args.self.now.exactly c.note-2.new.self c.args.node c.in_ok-copy_of-2.field-0 c.args.path.now
    c.in_ok-copy_of-2.ensures noted)) c.note-2.ensures
