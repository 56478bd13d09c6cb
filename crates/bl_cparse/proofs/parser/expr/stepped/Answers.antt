use Rattle.std.proofs.lemmas.Bool.{and_from}
use Rattle.bl_tree.proofs.Basics.{and_first, and_second}
use Rattle.bl_ctext.specs.Spelling.{root_tokens, step_tokens}
use Rattle.bl_ctext.specs.Spellable.{spells_step}
use Rattle.bl_cparse.proofs.NestLemmas.{all_with}
use Rattle.bl_cparse.proofs.PartialLemmas.{place_with}
use Rattle.bl_cparse.proofs.parser.expr.stepped.Goals as goal

pub returns-clause-read : goal.returns-clause-read
returns-clause-read c = (
  place_with step_tokens (root_tokens c.args.place.through c.args.place.name) c.args.place.steps c.push.new.list c.args.step c.in_ok-push.ensures.ok,
  and_from _ _ (and_first _ _ c.requires.place) (all_with spells_step c.args.place.steps c.push.new.list c.args.step
      c.in_ok-push.ensures.ok (and_second _ _ c.requires.place) c.requires.step),
)
