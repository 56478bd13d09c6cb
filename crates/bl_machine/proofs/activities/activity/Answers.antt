use Rattle.std.proofs.Common.{◌≡◌, List, [], ◌++◌, ℕ, map, ap, sym, subst, ◌∙◌}
use Rattle.std.specs.Prelude.{Contains, IsPermutation}
use Rattle.bl_tree.specs.declared.tree.Stmt.{Stmt}
use Rattle.bl_tree.specs.Reduce.{greatest}
use Rattle.bl_graph_nodes.specs.Plain.{plain_body}
use Rattle.bl_machine.specs.Blocks.{Ordered, up_to}
use Rattle.bl_machine.specs.inner.Laid.{counters_from, laid, widths}
use Rattle.bl_machine.specs.Layout.{counters_in}
use Rattle.bl_machine.specs.Slots.{numbered_slots}
use Rattle.bl_machine.proofs.ActivityLemmas.{counters_keep, laid_within, slots_are}
use Rattle.bl_machine.proofs.OrderLemmas.{one_each, ordered_by_rank, single_blocks}
use Rattle.bl_machine.proofs.activities.activity.Goals as goal

-- the counters that were made of a body
counters_of_body : (seen into new : List ℕ) (slice body : List Stmt) → seen ≡ into → into ≡ new ++ counters_from 0 (map laid slice) → new ≡ [] →
    slice ≡ body → seen ≡ counters_from 0 (map laid body)
counters_of_body seen into new slice body e f g h =
    e ∙ f ∙ ap (λ front. front ++ counters_from 0 (map laid slice)) g ∙ ap (λ block. counters_from 0 (map laid block)) h

pub numbered-requires : goal.numbered-requires
numbered-requires c =
    laid_within c.plain_statements.ensures c.args.unit.now.body c.in_ok-width.width c.deref-2.result.now
    (c.in_ok-width.ensures.width ∙ ap (λ block. greatest (widths (map laid block))) c.deref.ensures)
    (counters_of_body c.deref-2.result.now _ _ c.deref.result.now c.args.unit.now.body c.deref-2.ensures c.in_ok-width.ensures.counters
    c.new-counters.ensures c.deref.ensures)

pub returns-clause-agrees : goal.returns-clause-agrees
returns-clause-agrees c =
    let body = c.args.unit.now.body in
    let nodes = c.in_ok-nodes.nodes.items in
    let blocks : c.in_ok-blocks.blocks ≡ one_each nodes = c.in_ok-blocks.ensures ∙ ap one_each c.deref-3.ensures.value in record {
      order = subst (Ordered (plain_body body)) (sym blocks)
          (ordered_by_rank (plain_body body) c.args.graph.now.nodes c.args.graph.now.edges c.in_ok-nodes.ensures.ordered.ranks nodes
          c.requires.graph c.in_ok-nodes.ensures.ordered.rise c.in_ok-nodes.ensures.all c.in_ok-nodes.ensures.ordered.sorted);
      counters = counters_keep (plain_body body) c.in_ok-slots.slots are_numbered;
      slots = are_numbered;
    }
  where
    are_numbered : c.in_ok-slots.slots ≡ numbered_slots (counters_in (plain_body c.args.unit.now.body) 0)
    are_numbered =
        slots_are c.plain_statements.ensures c.args.unit.now.body c.deref-2.result.now c.in_ok-slots.slots
        (counters_of_body c.deref-2.result.now _ _ c.deref.result.now c.args.unit.now.body c.deref-2.ensures c.in_ok-width.ensures.counters
        c.new-counters.ensures c.deref.ensures) c.in_ok-slots.ensures

pub returns-clause-plain : goal.returns-clause-plain
returns-clause-plain c =
    let nodes = c.in_ok-nodes.nodes.items in
    let blocks : c.in_ok-blocks.blocks ≡ one_each nodes = c.in_ok-blocks.ensures ∙ ap one_each c.deref-3.ensures.value in record {
      single = λ block there. single_blocks nodes block (subst (λ (all : List (List ℕ)). Contains all block) blocks there);
    }
