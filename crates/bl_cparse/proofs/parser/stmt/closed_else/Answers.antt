use Rattle.std.proofs.Common.{map, [], ◌∷◌, ◌∙◌}
use Rattle.std.specs.Prelude.{codes}
use Rattle.bl_tree.specs.Reduce.{joined}
use Rattle.bl_ctext.specs.Spelling.{stmt_tokens, stmt_kind_tokens, condition_tokens, braced}
use Rattle.bl_cparse.specs.declared.parser.stmt.Opened.TheVariants.{Else}
use Rattle.bl_cparse.specs.inner.Nest.{frame_tokens, opened_tokens, nest_tokens}
use Rattle.bl_cparse.proofs.NestLemmas.{whole, else_whole}
use Rattle.bl_cparse.proofs.parser.stmt.closed_else.Goals as goal

pub returns-clause-read : goal.returns-clause-read
returns-clause-read c = (
  whole (joined (map frame_tokens c.args.outer.items)) (joined (map stmt_tokens c.args.place.before))
      (opened_tokens (Else c.args.parts.test c.args.parts.then_part)) (joined (map stmt_tokens c.args.body)) (codes "}" ∷ [])
      (stmt_kind_tokens c.branches-what.result) (nest_tokens c.in_ok-next.next) _ _
      c.in_ok-next.ensures.read.0 (c.branches-what.ensures.tokens
      ∙ else_whole (condition_tokens c.args.parts.test) (braced (map stmt_tokens c.args.parts.then_part))
      (joined (map stmt_tokens c.args.body))) c.in_ok-take.ensures.read,
  c.in_ok-next.ensures.read.1,
)
