use Rattle.std.proofs.Common.{sym, ◌∙◌}
use Rattle.bl_cparse.proofs.ItemOpening.{struct_name_stands}
use Rattle.bl_grammar.proofs.Predictive.{not_both}
use Rattle.bl_cparse.proofs.parser.name.struct_name.Goals as goal

pub returns-then-is_struct_name-clause-follows : goal.returns-then-is_struct_name-clause-follows
returns-then-is_struct_name-clause-follows c = λ room rest e. let o = struct_name_stands e in c.copy.ensures.follows o.class rest o.expects

pub returns-else-is_struct_name-clause-follows : goal.returns-else-is_struct_name-clause-follows
returns-else-is_struct_name-clause-follows c = λ room rest e. absurd
    (not_both _ (struct_name_stands e).is (rw c.piece.ensures at (sym c.is_struct_name.ensures ∙ c.if-is_struct_name.false)))
