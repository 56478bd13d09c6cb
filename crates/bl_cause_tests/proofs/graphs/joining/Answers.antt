use Rattle.std.proofs.Common.{◌&&◌, nat_lt, subst, sym}
use Rattle.std.specs.Prelude.{IsTrue}
use Rattle.std.specs.List.{list_all}
use Rattle.bl_tree.proofs.Basics.{all_append}
use Rattle.bl_cause_tests.proofs.graphs.joining.Goals as goal

pub returns : goal.returns
returns c =
    subst (λ edges. IsTrue (list_all (λ edge. nat_lt edge.from c.args.count && nat_lt edge.to c.args.count) edges)) (sym c.new.ensures)
    (all_append (λ edge. nat_lt edge.from c.args.count && nat_lt edge.to c.args.count) c.in_ok-control.control c.in_ok-by_data.by_data
    c.in_ok-control.ensures c.in_ok-by_data.ensures)
