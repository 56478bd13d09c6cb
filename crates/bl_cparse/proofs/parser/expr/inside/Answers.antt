use Rattle.std.proofs.Common.{[], ◌∷◌, ◌++◌, List, refl, sym, subst}
use Rattle.std.proofs.lemmas.Bool.{and_from}
use Rattle.bl_cparse_syntax.specs.declared.grammar.Part.TheVariants.{Expr}
use Rattle.bl_cparse_syntax.specs.Grammar.{Wanted}
use Rattle.bl_cparse_syntax.specs.Expects.{Expects}
use Rattle.bl_cparse.specs.inner.Reading.{part}
use Rattle.bl_cparse.specs.inner.Partial.{held_tokens, spells_held}
use Rattle.bl_cparse.specs.inner.Awaiting.{held_wanted}
use Rattle.bl_cparse.proofs.NestLemmas.{pushed, all_with}
use Rattle.bl_cparse.proofs.AwaitLemmas.{unwound_one}
use Rattle.bl_cparse.proofs.parser.expr.inside.Goals as goal

pub returns-in-Ok-clause-tokens : goal.returns-in-Ok-clause-tokens
returns-in-Ok-clause-tokens c = (
  pushed held_tokens c.args.outer.items c.push.new.self.items c.args.held [] c.in-Ok.ensures.items refl,
  and_from _ _ (all_with spells_held c.args.outer.items c.push.new.self.items c.args.held c.in-Ok.ensures.items c.requires.outer c.requires.held) refl,
)

pub returns-in-Ok-clause-awaits : goal.returns-in-Ok-clause-awaits
returns-in-Ok-clause-awaits c = λ rest pieces e. subst (λ (w : List Wanted). Expects (part Expr c.args.room ∷ (w ++ rest)) pieces)
    (sym (unwound_one held_wanted c.args.outer.items c.push.new.self.items c.args.held c.in-Ok.ensures.items)) e
