use Rattle.bl_ctext.specs.Spelling.{stmt_tokens}
use Rattle.bl_tree.specs.Reduce.{all_of, joined}
use Rattle.bl_ctext.specs.Spellable.{spells_stmt}
use Rattle.std.proofs.Common.{List, ◌∷◌, ◌++◌, codes, ap, sym, subst, map}
use Rattle.std.proofs.lemmas.Bool.{and_from}
use Rattle.bl_cparse_syntax.specs.declared.grammar.Part.TheVariants.{Stmts}
use Rattle.bl_cparse_syntax.specs.Grammar.{Wanted}
use Rattle.bl_cparse_syntax.specs.Expects.{Expects}
use Rattle.bl_cparse.specs.inner.Nest.{frame_tokens, spells_frame}
use Rattle.bl_cparse.specs.inner.Reading.{sign, part}
use Rattle.bl_cparse.specs.inner.Awaiting.{frame_wanted}
use Rattle.bl_cparse.proofs.NestLemmas.{pushed, all_with}
use Rattle.bl_cparse.proofs.AwaitLemmas.{unwound_one}
use Rattle.bl_cparse.proofs.parser.stmt.inside.Goals as goal

pub returns-in-Ok-clause-read : goal.returns-in-Ok-clause-read
returns-in-Ok-clause-read c = (
  pushed frame_tokens c.args.outer.items c.push.new.self.items c.args.frame _ c.in-Ok.ensures.items (ap (λ xs. joined (map stmt_tokens xs)) c.new.ensures),
  and_from _ _ (all_with spells_frame c.args.outer.items c.push.new.self.items c.args.frame c.in-Ok.ensures.items c.requires.outer
      c.requires.frame) (ap (λ xs. all_of (map spells_stmt xs)) c.new.ensures),
)

pub returns-in-Ok-clause-awaits : goal.returns-in-Ok-clause-awaits
returns-in-Ok-clause-awaits c = λ rest pieces e. subst (λ (w : List Wanted). Expects
    (part Stmts c.args.room ∷ sign (codes "}") ∷ (w ++ rest)) pieces)
    (sym (unwound_one frame_wanted c.args.outer.items c.push.new.self.items c.args.frame c.in-Ok.ensures.items)) e
