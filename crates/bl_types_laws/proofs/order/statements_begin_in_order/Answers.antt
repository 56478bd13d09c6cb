use Rattle.bl_types_laws.proofs.InOrder.{begin_in_order}
use Rattle.bl_types_laws.proofs.order.statements_begin_in_order.Goals as goal

pub returns : goal.returns
returns c = begin_in_order c.what_is_named_keeps.ensures.keeps c.what_is_named_suits.ensures.units c.what_is_named_suits.ensures.constants
    c.what_is_made_keeps_shape.ensures.shallow c.what_is_made_keeps_shape.ensures.apart
