use Rattle.std.proofs.Common.{Some, subst}
use Rattle.std.specs.Prelude.{Contains}
use Rattle.bl_tree.proofs.Basics.{same_number}
use Rattle.bl_graph.specs.Accesses.{writers_at, writers_of}
use Rattle.bl_cause.proofs.WalkedLemmas.{writer_told}
use Rattle.bl_cause.proofs.walked.writes.Goals as goal

pub returns-in-Some : goal.returns-in-Some
returns-in-Some c is =
    subst (Contains (writers_at (writers_of c.args.accesses.now) (Some c.args.at))) (same_number c.in-Some.writer c.args.node is)
    (writer_told c.args.accesses.now c.args.at c.in-Some.writer _ c.in-Some.ensures)
