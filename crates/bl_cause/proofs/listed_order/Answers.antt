use Rattle.std.proofs.Common.{IfOk, List, subst, sym, ◌∙◌}
use Rattle.bl_tree.specs.declared.graph.Edge.{Edge}
use Rattle.bl_cause.specs.Ranks.{Ranks}
use Rattle.bl_cause.specs.Walks.{ClosedWalk}
use Rattle.bl_cause.specs.declared.order.Order.{Order}
use Rattle.bl_cause.proofs.listed_order.Goals as goal

pub order_of-requires : goal.order_of-requires
order_of-requires c =
    subst (λ (edges : List Edge). (walk : List Edge) → ClosedWalk edges walk → ⊥)
    (sym (c.deref.ensures ∙ c.in_ok-edges.ensures ∙ c.kept.ensures)) c.requires

pub returns : goal.returns
returns c =
    subst (λ (edges : List Edge). IfOk c.order_of.result (λ (order : Order). Ranks edges order.ranks))
    (c.deref.ensures ∙ c.in_ok-edges.ensures ∙ c.kept.ensures) c.order_of.ensures
