use Rattle.std.proofs.Common.{sym, ◌∙◌}
use Rattle.bl_cparse.proofs.ItemOpening.{function_name_stands}
use Rattle.bl_grammar.proofs.Predictive.{not_both}
use Rattle.bl_cparse.proofs.parser.name.function_name.Goals as goal

pub returns-then-is_function_name-clause-follows : goal.returns-then-is_function_name-clause-follows
returns-then-is_function_name-clause-follows c = λ room rest e. let o = function_name_stands e in c.copy.ensures.follows o.class rest o.expects

pub returns-else-is_function_name-clause-follows : goal.returns-else-is_function_name-clause-follows
returns-else-is_function_name-clause-follows c = λ room rest e. absurd
    (not_both _ (function_name_stands e).is (rw c.piece.ensures at (sym c.is_function_name.ensures ∙ c.if-is_function_name.false)))
