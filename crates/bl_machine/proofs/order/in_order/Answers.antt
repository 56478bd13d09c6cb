use Rattle.std.proofs.Common.{rules}
use Rattle.std.specs.Prelude.{slice_index}
use Rattle.std.proofs.lemmas.List.Sorted.{IsNonDecreasingBy-from_sort_by_key}
use Rattle.bl_machine.proofs.order.in_order.Goals as goal

pub returns-clause-ordered : goal.returns-clause-ordered
returns-clause-ordered c = record {
  ranks = c.args.order.now.ranks;
  rise = c.requires;
  sorted = IsNonDecreasingBy-from_sort_by_key (slice_index c.args.order.now.ranks) _ c.in_ok-sort_by_key.ensures.sorted (λ a r q k. search rules);
}
