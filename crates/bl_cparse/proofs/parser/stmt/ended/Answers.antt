use Rattle.std.proofs.Common.{ap, map, ◌++◌, ◌∙◌}
use Rattle.std.proofs.lemmas.Bool.{and_from}
use Rattle.bl_tree.specs.Reduce.{joined}
use Rattle.bl_ctext.specs.Spelling.{stmt_tokens, stmt_kind_tokens}
use Rattle.bl_ctext.specs.Spellable.{spells_stmt}
use Rattle.bl_cparse.specs.inner.Nest.{frame_tokens}
use Rattle.bl_cparse.proofs.NestLemmas.{one_more, all_with}
use Rattle.bl_cparse.proofs.parser.stmt.ended.Goals as goal

pub returns-clause-read : goal.returns-clause-read
returns-clause-read c = (
  ap (λ ts. joined (map frame_tokens c.args.outer.items) ++ ts)
      (one_more stmt_tokens c.args.place.before c.in_ok-body.body c.stmt-stmt.result
      (stmt_kind_tokens c.args.what) c.in_ok-body.ensures.read c.stmt-stmt.ensures.tokens),
  and_from _ _ c.requires.outer (all_with spells_stmt c.args.place.before c.in_ok-body.body c.stmt-stmt.result c.in_ok-body.ensures.read
      c.requires.before (c.stmt-stmt.ensures.spells ∙ c.requires.what)),
)
