use Rattle.std.proofs.Common.{ap, map, [], ◌∷◌, ◌∙◌}
use Rattle.std.specs.Prelude.{codes}
use Rattle.bl_tree.specs.Reduce.{joined}
use Rattle.bl_ctext.specs.Spelling.{stmt_tokens, stmt_kind_tokens, condition_tokens, turn_declared, turn_counted}
use Rattle.bl_cparse.specs.declared.parser.stmt.Opened.TheVariants.{Turns}
use Rattle.bl_cparse.specs.inner.Nest.{frame_tokens, opened_tokens, nest_tokens}
use Rattle.bl_cparse.proofs.NestLemmas.{whole, turns_whole}
use Rattle.bl_cparse.proofs.parser.stmt.closed_turns.Goals as goal

pub returns-clause-read : goal.returns-clause-read
returns-clause-read c = (
  whole (joined (map frame_tokens c.args.outer.items)) (joined (map stmt_tokens c.args.place.before))
      (opened_tokens (Turns c.args.front.turn c.args.front.test)) (joined (map stmt_tokens c.args.body))
      (codes "}" ∷ codes "}" ∷ []) (stmt_kind_tokens c.turns-what.result) (nest_tokens c.in_ok-next.next) _ _
      c.in_ok-next.ensures.read.0 (c.turns-what.ensures.tokens
      ∙ turns_whole (turn_declared c.args.front.turn) (condition_tokens c.args.front.test) (turn_counted c.args.front.turn)
      (joined (map stmt_tokens c.args.body))) (c.in_ok-take.ensures.read ∙ ap (λ ts. codes "}" ∷ ts) c.in_ok-take-2.ensures.read),
  c.in_ok-next.ensures.read.1,
)
