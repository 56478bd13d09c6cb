use Rattle.bl_cparse_syntax.specs.Expects.{Expects}
use Rattle.bl_cparse.specs.declared.parser.expr.Held.{Held}
use Rattle.bl_cparse_syntax.specs.declared.grammar.Part.TheVariants.{Inside}
use Rattle.std.specs.Prelude.{List}
use Rattle.bl_cparse.specs.inner.Awaiting.{behind}
use Rattle.bl_cparse.specs.inner.Reading.{part}
use Rattle.std.proofs.Common.{subst, sym, ◌++◌, ◌∷◌}
use Rattle.bl_cparse.proofs.ReadLemmas.{wanting}
use Rattle.bl_cparse.proofs.parser.expr.bracketed.Goals as goal

pub returns-in_err-partial-clause-follows : goal.returns-in_err-partial-clause-follows
returns-in_err-partial-clause-follows c = λ rest e. wanting _ _ _ c.from_residual.ensures.1
    (c.in_err-partial.ensures.follows rest (subst (λ (items : List Held). Expects
    (part Inside c.args.room ∷ (behind items ++ rest)) c.args.r.now) (sym c.new-outer.ensures.items) e))
