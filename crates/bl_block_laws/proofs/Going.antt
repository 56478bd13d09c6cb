-- Passes go by merged blocks as they went by the blocks handed in.
use Rattle.std.proofs.Common.{◌≡◌, ℕ, zero, suc, List, [], ◌∷◌, Some, refl, ap, sym, ◌∙◌}
use Rattle.std.specs.Prelude.{ℤ, slice_get}
use Rattle.std.proofs.lemmas.Option.{none-some, same_Some}
use Rattle.bl_tree.specs.declared.program.Program.{Program}
use Rattle.bl_tree.specs.declared.row.Trace.{Trace}
use Rattle.bl_tree.specs.declared.tree.Unit.{Unit as UnitDef}
use Rattle.bl_tree.specs.Reduce.{joined}
use Rattle.bl_graph_nodes.specs.Nodes.{Node}
use Rattle.bl_cause.specs.Activities.{activities}
use Rattle.bl_machine.specs.declared.machine.Activity.{Activity}
use Rattle.bl_machine_laws.specs.Traces.Positions.{GoBy}
use Rattle.bl_block.specs.Merged.{AreMergedFrom, EachThree, IsMergedFrom}
use Rattle.bl_block_laws.specs.Laws.{MergedShowTheSame, ShowsTrace, setting}

-- at the position the list has an activity with the same nodes in the same order
record Alike (list : List Activity) (k : ℕ) (activity : Activity) : Type 0 where
  pub other : Activity
  pub stands : slice_get list k ≡ Some other
  pub same : joined other.blocks ≡ joined activity.blocks

before : (units : List UnitDef) (from to : List Activity) → EachThree IsMergedFrom units from to → (k : ℕ) (activity : Activity) →
    slice_get to k ≡ Some activity → Alike from k activity
before [] [] [] each k activity is = absurd (none-some activity is)
before [] [] (t ∷ to) each k activity is = absurd each
before [] (f ∷ from) to each k activity is = absurd each
before (u ∷ units) [] to each k activity is = absurd each
before (u ∷ units) (f ∷ from) [] each k activity is = absurd each
before (u ∷ units) (f ∷ from) (t ∷ to) each zero activity is = record {
  other = f;
  stands = refl;
  same = sym each.0.nodes ∙ ap (λ one. joined one.blocks) (same_Some t activity is);
}
before (u ∷ units) (f ∷ from) (t ∷ to) each (suc k) activity is =
    let rest = before units from to each.1 k activity is in record { other = rest.other; stands = rest.stands; same = rest.same }

after : (units : List UnitDef) (from to : List Activity) → EachThree IsMergedFrom units from to → (k : ℕ) (activity : Activity) →
    slice_get from k ≡ Some activity → Alike to k activity
after [] [] [] each k activity is = absurd (none-some activity is)
after [] [] (t ∷ to) each k activity is = absurd each
after [] (f ∷ from) to each k activity is = absurd each
after (u ∷ units) [] to each k activity is = absurd each
after (u ∷ units) (f ∷ from) [] each k activity is = absurd each
after (u ∷ units) (f ∷ from) (t ∷ to) each zero activity is = record {
  other = t;
  stands = refl;
  same = each.0.nodes ∙ ap (λ one. joined one.blocks) (same_Some f activity is);
}
after (u ∷ units) (f ∷ from) (t ∷ to) each (suc k) activity is =
    let rest = after units from to each.1 k activity is in record { other = rest.other; stands = rest.stands; same = rest.same }

module _ (program : Program) (from to : List Activity) (merged : AreMergedFrom program.units from to) where
  forth : (rank : ℕ → Node → ℕ) → GoBy (setting program) from rank → GoBy (setting program) to rank
  forth rank go i instance unit activity n k at_instance at_unit at_activity at_node =
      let one = before (activities program.units) from to merged _ activity at_activity in
      ap (λ nodes. slice_get nodes (rank i n)) (sym one.same) ∙ go i instance unit one.other n k at_instance at_unit one.stands at_node

  back : (rank : ℕ → Node → ℕ) → GoBy (setting program) to rank → GoBy (setting program) from rank
  back rank go i instance unit activity n k at_instance at_unit at_activity at_node =
      let one = after (activities program.units) from to merged _ activity at_activity in
      ap (λ nodes. slice_get nodes (rank i n)) (sym one.same) ∙ go i instance unit one.other n k at_instance at_unit one.stands at_node

pub show_the_same : MergedShowTheSame
show_the_same = record {
  numbers = λ program from to merged rank. (forth program from to merged rank, back program from to merged rank);
  traces = λ program from to merged rows trace. (
    λ shows. record { rank = shows.rank; go_by = forth program from to merged shows.rank shows.go_by; runs = shows.runs },
    λ shows. record { rank = shows.rank; go_by = back program from to merged shows.rank shows.go_by; runs = shows.runs },
  );
}
