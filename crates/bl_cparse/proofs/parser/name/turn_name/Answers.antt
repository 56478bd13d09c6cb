use Rattle.bl_ctext.specs.Token.{Token}
use Rattle.bl_ctext.specs.Names.{is_turn_name}
use Rattle.bl_grammar.proofs.Predictive.{not_both}
use Rattle.bl_cparse.proofs.ReadLemmas.{sign_next}
use Rattle.std.proofs.Common.{subst, sym, true, ◌∙◌, ◌≡◌}
use Rattle.bl_cparse.proofs.StmtOpening.{turn_read, turns_open}
use Rattle.bl_cparse.proofs.parser.name.turn_name.Goals as goal

pub returns-then-is_turn_name-clause-follows : goal.returns-then-is_turn_name-clause-follows
returns-then-is_turn_name-clause-follows c = λ room rest e. let t = turns_open e in
    turn_read room rest _ _ t.0 c.copy.result (sign_next t.1.1) c.copy.ensures.read (c.copy.ensures.follows _ _ t.1.1)

pub returns-else-is_turn_name-clause-follows : goal.returns-else-is_turn_name-clause-follows
returns-else-is_turn_name-clause-follows c = λ room rest e. let t = turns_open e in
    absurd (not_both _ (subst (λ (u : Token). is_turn_name u ≡ true) (sym (sign_next t.1.1)) t.1.0)
    (rw c.piece.ensures at (sym c.is_turn_name.ensures ∙ c.if-is_turn_name.false)))
