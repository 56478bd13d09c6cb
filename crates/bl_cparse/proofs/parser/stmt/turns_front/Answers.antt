use Rattle.bl_cparse_syntax.specs.Expects.{Expects}
use Rattle.bl_cparse_syntax.specs.declared.grammar.Part.TheVariants.{Stmts}
use Rattle.bl_ctext.specs.Token.{Token}
use Rattle.std.specs.Prelude.{codes}
use Rattle.bl_cparse.specs.inner.Reading.{part, sign, turn_wanted}
use Rattle.std.proofs.Common.{subst, sym, ◌++◌, ◌-◌, ◌∷◌}
use Rattle.bl_cparse.proofs.ReadLemmas.{wanting}
use Rattle.bl_cparse.proofs.parser.stmt.turns_front.Goals as goal

pub returns-in_err-counted_turn-clause-follows : goal.returns-in_err-counted_turn-clause-follows
returns-in_err-counted_turn-clause-follows c = λ rest e. wanting _ _ _ c.from_residual-in_err-counted_turn.ensures.1
    (c.in_err-counted_turn.ensures.follows _ (subst (λ (t : Token). Expects
    (turn_wanted t ++ part Stmts (c.args.room - 2) ∷ sign (codes "}") ∷ sign (codes "}") ∷ rest) c.condition.new.r)
    (sym c.as_str.ensures) (c.in_ok-test.ensures.follows _ (c.in_ok-turn.ensures.follows c.args.room rest e))))

pub returns-clause-follows : goal.returns-clause-follows
returns-clause-follows c = λ rest e. c.in_ok-counted_turn.ensures.follows _
    (subst (λ (t : Token). Expects (turn_wanted t ++ part Stmts (c.args.room - 2) ∷ sign (codes "}") ∷ sign (codes "}") ∷ rest)
    c.condition.new.r) (sym c.as_str.ensures) (c.in_ok-test.ensures.follows _ (c.in_ok-turn.ensures.follows c.args.room rest e)))
