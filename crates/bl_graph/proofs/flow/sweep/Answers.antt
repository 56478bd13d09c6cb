use Rattle.std.proofs.Common.{◌≡◌, arith, length}
use Rattle.bl_graph.specs.Accesses.{writers_of}
use Rattle.bl_graph.specs.inner.Found.{writes_before}
use Rattle.bl_graph.proofs.AccessLemmas.{gains_none}
use Rattle.bl_graph.proofs.NoteLemmas.{tables_kept}
use Rattle.bl_graph.proofs.FoundLemmas.{branch_found, branch_noted, ends_by, swept_end}
use Rattle.bl_graph.proofs.flow.sweep.Goals as goal

pub find_all-requires-clause-in_order : goal.find_all-requires-clause-in_order
find_all-requires-clause-in_order c =
    (ends_by c.args.branches.now (length c.args.nodes.now) c.loop-span.span-index _ c.loop-span-test.true c.requires).0

pub find_all-requires-clause-within : goal.find_all-requires-clause-within
find_all-requires-clause-within c =
    (ends_by c.args.branches.now (length c.args.nodes.now) c.loop-span.span-index _ c.loop-span-test.true c.requires).1

pub note_all-requires-clause-in_order : goal.note_all-requires-clause-in_order
note_all-requires-clause-in_order c =
    (ends_by c.args.branches.now (length c.args.nodes.now) c.loop-span.span-index _ c.loop-span-test.true c.requires).0

pub note_all-requires-clause-within : goal.note_all-requires-clause-within
note_all-requires-clause-within c =
    (ends_by c.args.branches.now (length c.args.nodes.now) c.loop-span.span-index _ c.loop-span-test.true c.requires).1

pub loop-span-init : goal.loop-span-init
loop-span-init c = record { tells = c.new-notes.ensures (writers_of c.args.accesses.now); gains = gains_none c.args.accesses.now }

pub loop-span-preserved : goal.loop-span-preserved
loop-span-preserved c =
    let before = writes_before c.args.nodes.now c.args.deep c.args.branches.now c.loop-span.span-index in
    let found = c.in_ok-find_all.ensures before c.loop-span.invariant.tells in
    record {
      tells = branch_noted c.find_all.new.accesses c.note_all.new.accesses c.loop-span.notes c.note_all.new.notes c.args.nodes.now c.args.deep
          c.args.branches.now c.loop-span.span-index _ c.loop-span-test.true
          (tables_kept c.loop-span.accesses c.find_all.new.accesses _ found c.loop-span.notes before c.loop-span.invariant.tells) c.in_ok-note_all.ensures;
      gains = branch_found c.args.accesses.now c.loop-span.accesses c.find_all.new.accesses c.note_all.new.accesses c.loop-span.notes c.note_all.new.notes
          c.args.nodes.now c.args.deep c.args.branches.now c.loop-span.span-index _ c.loop-span-test.true c.loop-span.invariant.gains found
          c.in_ok-note_all.ensures.gains;
    }

pub returns : goal.returns
returns c =
    let last : c.loop-span.span-index ≡ length c.args.branches.now = omega arith in
    swept_end c.args.accesses.now c.loop-span.accesses c.args.nodes.now c.args.deep c.args.branches.now c.loop-span.span-index
    (length c.args.branches.now) last c.loop-span.invariant.gains
