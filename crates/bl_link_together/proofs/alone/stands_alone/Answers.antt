-- The text has one tree.
use Rattle.bl_link_together.proofs.Trees.{stands}
use Rattle.bl_link_together.proofs.alone.stands_alone.Goals as goal

pub returns-in-Some : goal.returns-in-Some
returns-in-Some c = λ yes.
    stands c.tokens_are_one.ensures c.a_text_has_one_tree.ensures c.args.text.now c.in-Some.raw c.args.last c.in-Some.ensures (c.may_stand.ensures yes)
