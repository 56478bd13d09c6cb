use Rattle.std.proofs.Common.{map, ◌∙◌}
use Rattle.std.proofs.lemmas.Bool.{and_from}
use Rattle.bl_tree.proofs.Basics.{and_first, and_second}
use Rattle.bl_tree.specs.Reduce.{joined}
use Rattle.bl_ctext.specs.Spelling.{stmt_tokens, stmt_kind_tokens}
use Rattle.bl_ctext.specs.Spellable.{spells_stmt}
use Rattle.bl_cparse.specs.inner.Nest.{frame_tokens}
use Rattle.bl_cparse.proofs.ListLemmas.{shorter}
use Rattle.bl_cparse.proofs.StmtLemmas.{kind_some}
use Rattle.bl_cparse.proofs.NestLemmas.{read_one, one_more, all_with}
use Rattle.bl_cparse.proofs.parser.stmt.one.Goals as goal

pub returns-clause-read : goal.returns-clause-read
returns-clause-read c = (
  read_one (joined (map frame_tokens c.args.nest.outer.items)) (joined (map stmt_tokens c.args.nest.body))
      (joined (map stmt_tokens c.in_ok-body.body)) (stmt_kind_tokens c.in_ok-what.what) _ _
      (one_more stmt_tokens c.args.nest.body c.in_ok-body.body c.stmt.result
      (stmt_kind_tokens c.in_ok-what.what) c.in_ok-body.ensures.read c.stmt.ensures.tokens) c.in_ok-what.ensures.read.0,
  and_from _ _ (and_first _ _ c.requires) (all_with spells_stmt c.args.nest.body c.in_ok-body.body c.stmt.result c.in_ok-body.ensures.read
      (and_second _ _ c.requires) (c.stmt.ensures.spells ∙ c.in_ok-what.ensures.read.1)),
)

pub returns-clause-shorter : goal.returns-clause-shorter
returns-clause-shorter c = shorter _ (stmt_kind_tokens c.in_ok-what.what) _ c.in_ok-what.ensures.read.0 (kind_some c.in_ok-what.what)
