use Rattle.bl_parse_laws.proofs.InOrder.{starts_ascend}
use Rattle.bl_parse_laws.proofs.Keeps.{what_keeps}
use Rattle.bl_parse_laws.proofs.Nested.{what_is_shallow}
use Rattle.bl_parse_laws.proofs.Stands.{what_stands}
use Rattle.bl_parse_laws.proofs.kept.what_is_spelled_keeps.Goals as goal

pub returns-clause-stand : goal.returns-clause-stand
returns-clause-stand c = what_stands

pub returns-clause-shallow : goal.returns-clause-shallow
returns-clause-shallow c = what_is_shallow

pub returns-clause-in_order : goal.returns-clause-in_order
returns-clause-in_order c = starts_ascend

pub returns-clause-keeps : goal.returns-clause-keeps
returns-clause-keeps c = what_keeps
