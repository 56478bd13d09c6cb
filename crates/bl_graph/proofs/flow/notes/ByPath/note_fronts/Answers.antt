use Rattle.std.proofs.Common.{◌≡◌, ◌+◌, suc, arith, length}
use Rattle.bl_graph.proofs.NoteLemmas.{fronts_more, fronts_noted, noting_none}
use Rattle.bl_graph.proofs.flow.notes.ByPath.note_fronts.Goals as goal

pub loop-k-init : goal.loop-k-init
loop-k-init c = noting_none c.args.accesses.now c.args.self.now

pub loop-k-preserved : goal.loop-k-preserved
loop-k-preserved c =
    let next : c.loop-k.k + 1 ≡ suc c.loop-k.k = omega arith in
    fronts_more c.args.accesses.now c.loop-k.accesses c.note_front.new.accesses c.args.self.now c.loop-k.self c.note_front.new.self c.args.node
    c.args.path.now c.loop-k.k (c.loop-k.k + 1) next c.loop-k.invariant c.in_ok-note_front.ensures

pub returns : goal.returns
returns c =
    let last : c.loop-k.k ≡ length c.args.path.now.fields = omega arith in
    fronts_noted c.args.accesses.now c.loop-k.accesses c.args.self.now c.loop-k.self c.args.node c.args.path.now c.loop-k.k
    (length c.args.path.now.fields) last c.loop-k.invariant
