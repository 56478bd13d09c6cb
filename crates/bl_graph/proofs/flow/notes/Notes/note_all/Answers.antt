use Rattle.std.proofs.Common.{take, take_all}
use Rattle.bl_graph.proofs.NoteLemmas.{all_noted_none, paths_end, paths_step}
use Rattle.bl_graph.proofs.flow.notes.Notes.note_all.Goals as goal

pub loop-path-init : goal.loop-path-init
loop-path-init c = all_noted_none c.args.accesses.now c.args.self.now

pub loop-path-preserved : goal.loop-path-preserved
loop-path-preserved c =
    paths_step c.args.accesses.now c.loop-path.accesses c.note.new.accesses c.args.self.now c.loop-path.self c.note.new.self c.args.node c.args.paths.now
    c.loop-path.path-index c.path-item.result c.loop-path-test.true c.path-item.is c.loop-path.invariant c.in_ok-note.ensures

pub returns : goal.returns
returns c =
    paths_end c.args.accesses.now c.loop-path.accesses c.args.self.now c.loop-path.self c.args.node (take c.loop-path.path-index c.args.paths.now)
    c.args.paths.now (take_all c.loop-path.path-index c.args.paths.now c.loop-path-test.false) c.loop-path.invariant
