use Rattle.bl_cparse_syntax.specs.Expects.{Expects}
use Rattle.bl_cparse_syntax.specs.declared.grammar.Part.TheVariants.{Stmts}
use Rattle.std.specs.Prelude.{codes}
use Rattle.bl_cparse.specs.inner.Awaiting.{outside}
use Rattle.bl_cparse.specs.inner.Reading.{part, sign}
use Rattle.std.proofs.Common.{subst, sym, ℕ, ◌++◌, ◌∷◌}
use Rattle.bl_cparse.proofs.ReadLemmas.{wanting}
use Rattle.bl_cparse.proofs.parser.stmt.reopened.Goals as goal

pub returns-in_err-next-clause-follows : goal.returns-in_err-next-clause-follows
returns-in_err-next-clause-follows c = λ rest e. wanting _ _ _ c.from_residual-in_err-next.ensures.1
    (c.in_err-next.ensures.awaits rest _ (subst (λ (n : ℕ). Expects
    (part Stmts n ∷ sign (codes "}") ∷ part Stmts c.args.place.room ∷ sign (codes "}") ∷ (outside c.args.outer.items ++ rest))
    c.take.new.self) (sym c.one_less-room.ensures) (c.in_ok-take.ensures.follows _ e)))

pub returns-clause-follows : goal.returns-clause-follows
returns-clause-follows c = λ rest e. c.in_ok-next.ensures.awaits rest _
    (subst (λ (n : ℕ). Expects (part Stmts n ∷ sign (codes "}") ∷ part Stmts c.args.place.room ∷ sign (codes "}")
    ∷ (outside c.args.outer.items ++ rest)) c.take.new.self) (sym c.one_less-room.ensures) (c.in_ok-take.ensures.follows _ e))
