use Rattle.std.proofs.Common.{map, arith}
use Rattle.bl_tree.specs.Reduce.{joined}
use Rattle.bl_ctext.specs.Spelling.{stmt_tokens}
use Rattle.bl_cparse.specs.declared.parser.stmt.Opened.TheVariants.{Then}
use Rattle.bl_cparse.specs.inner.Nest.{frame_tokens, opened_tokens, nest_tokens}
use Rattle.bl_cparse.proofs.ListLemmas.{shorter}
use Rattle.bl_cparse.proofs.NestLemmas.{read_open}
use Rattle.bl_cparse.proofs.parser.stmt.opened_branch.Goals as goal

pub returns-clause-read : goal.returns-clause-read
returns-clause-read c = (
  read_open (joined (map frame_tokens c.args.nest.outer.items)) (joined (map stmt_tokens c.args.nest.body))
      (opened_tokens (Then c.in_ok-test.test)) (nest_tokens c.in_ok-next.next) _ _ c.in_ok-next.ensures.read.0 c.in_ok-test.ensures.read.0,
  c.in_ok-next.ensures.read.1,
)

pub returns-clause-shorter : goal.returns-clause-shorter
returns-clause-shorter c = shorter _ (opened_tokens (Then c.in_ok-test.test)) _ c.in_ok-test.ensures.read.0 (omega arith)
