use Rattle.std.proofs.Common.{◌≡◌, arith, suc, ◌+◌, length}
use Rattle.bl_graph.proofs.AccessLemmas.{gains_none}
use Rattle.bl_graph.proofs.FoundLemmas.{fronts_end, fronts_step}
use Rattle.bl_graph.proofs.NoteLemmas.{tables_kept}
use Rattle.bl_graph.proofs.flow.found.link_fronts.Goals as goal

pub loop-k-init : goal.loop-k-init
loop-k-init c ns tells = gains_none c.args.accesses.now

pub loop-k-preserved : goal.loop-k-preserved
loop-k-preserved c ns tells =
    let next : c.loop-k.k + 1 ≡ suc c.loop-k.k = omega arith in
    fronts_step c.args.accesses.now c.loop-k.accesses c.link_front.new.accesses c.args.to ns c.args.path.now c.loop-k.k (c.loop-k.k + 1) next
    (c.loop-k.invariant ns tells)
    (c.in_ok-link_front.ensures ns (tables_kept c.args.accesses.now c.loop-k.accesses _ (c.loop-k.invariant ns tells) c.args.notes.now ns tells))

pub returns : goal.returns
returns c ns tells =
    let last : c.loop-k.k ≡ length c.args.path.now.fields = omega arith in
    fronts_end c.args.accesses.now c.loop-k.accesses c.args.to ns c.args.path.now c.loop-k.k (length c.args.path.now.fields) last
    (c.loop-k.invariant ns tells)
