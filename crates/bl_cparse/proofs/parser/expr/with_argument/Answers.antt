use Rattle.std.proofs.Common.{ap, ◌∷◌, ◌∙◌, List}
use Rattle.std.specs.Prelude.{codes}
use Rattle.std.proofs.lemmas.Bool.{and_from}
use Rattle.bl_tree.proofs.Basics.{and_first, and_second}
use Rattle.bl_ctext.specs.Token.{Token}
use Rattle.bl_ctext.specs.Spellable.{has_any, spells_arg}
use Rattle.bl_cparse.proofs.ListLemmas.{any_more}
use Rattle.bl_cparse.proofs.NestLemmas.{all_with}
use Rattle.bl_cparse.proofs.PartialLemmas.{args_with}
use Rattle.bl_cparse.proofs.parser.expr.with_argument.Goals as goal

pub returns-clause-tokens : goal.returns-clause-tokens
returns-clause-tokens c =
    ap (λ (ts : List Token). c.args.call.name ∷ codes "(" ∷ ts) (args_with c.args.call.args c.push.new.list c.args.arg c.in_ok-push.ensures.ok)

pub returns-clause-spells : goal.returns-clause-spells
returns-clause-spells c = (
  and_from _ _ (and_first _ _ c.requires.call) (all_with spells_arg c.args.call.args c.push.new.list c.args.arg c.in_ok-push.ensures.ok
      (and_second _ _ c.requires.call) c.requires.arg),
  ap has_any c.in_ok-push.ensures.ok ∙ any_more c.args.call.args c.args.arg,
)
