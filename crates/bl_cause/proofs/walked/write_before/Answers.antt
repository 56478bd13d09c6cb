use Rattle.std.proofs.Common.{arith, ◌≤◌, subst, sym}
use Rattle.std.specs.Prelude.{Contains}
use Rattle.bl_tree.proofs.Basics.{contains_none}
use Rattle.bl_graph.specs.Accesses.{writers_at, writers_of}
use Rattle.bl_cause.specs.inner.Walked.{up_to}
use Rattle.bl_cause.proofs.WalkedLemmas.{before_told, earlier_less}
use Rattle.bl_cause.proofs.walked.write_before.Goals as goal

pub returns-in-Some-clause-earlier : goal.returns-in-Some-clause-earlier
returns-in-Some-clause-earlier c =
    let less = earlier_less c.in-Some.before c.args.at in
    subst (λ found. up_to found ≤ c.args.at) (sym c.step_back.ensures) (omega (arith, less))

pub returns-in-Some-clause-stays : goal.returns-in-Some-clause-stays
returns-in-Some-clause-stays c = λ node there.
    before_told c.args.accesses.now c.args.at _ c.in-Some.before node c.in-Some.ensures
    (subst (λ found. Contains (writers_at (writers_of c.args.accesses.now) found) node) c.step_back.ensures there)

pub returns-in-None-clause-stays : goal.returns-in-None-clause-stays
returns-in-None-clause-stays c = λ node there. absurd (contains_none node there)
