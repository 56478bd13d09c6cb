use Rattle.std.proofs.Common.{◌≡◌, ◌-◌, arith}
use Rattle.bl_graph.proofs.FoundLemmas.{noted_end, noted_step}
use Rattle.bl_graph.proofs.NoteLemmas.{all_noted_none}
use Rattle.bl_graph.proofs.flow.note_all.Goals as goal

pub loop-i-init : goal.loop-i-init
loop-i-init c =
    let none : 0 ≡ c.args.span.first - c.args.span.first = omega arith in
    noted_end c.args.accesses.now c.args.accesses.now c.args.notes.now c.args.notes.now c.args.nodes.now c.args.deep c.args.span.first 0
    (c.args.span.first - c.args.span.first) none (all_noted_none c.args.accesses.now c.args.notes.now)

pub loop-i-preserved : goal.loop-i-preserved
loop-i-preserved c =
    noted_step c.args.accesses.now c.loop-i.accesses c.note.new.accesses c.args.notes.now c.loop-i.notes c.note.new.notes c.args.nodes.now c.args.deep
    c.args.span.first c.loop-i.i c.index-nodes-i.result c.loop-i.auto.i (omega arith) c.index-nodes-i.is c.loop-i.invariant c.in_ok-note.ensures

pub returns : goal.returns
returns c =
    let last : c.loop-i.i - c.args.span.first ≡ c.args.span.end - c.args.span.first = omega arith in
    noted_end c.args.accesses.now c.loop-i.accesses c.args.notes.now c.loop-i.notes c.args.nodes.now c.args.deep c.args.span.first
    (c.loop-i.i - c.args.span.first) (c.args.span.end - c.args.span.first) last c.loop-i.invariant
