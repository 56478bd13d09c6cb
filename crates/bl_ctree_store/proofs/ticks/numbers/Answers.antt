use Rattle.std.proofs.Common.{◌++◌, ◌∷◌, [], ap, ◌∙◌, rules}
use Rattle.std.specs.Int.{w128}
use Rattle.std.proofs.lemmas.Int.{to_z-of_z}
use Rattle.bl_tree.specs.declared.value.Value.TheVariants.{Number}
use Rattle.bl_ctree_store.proofs.ElementLemmas.{one_more}
use Rattle.bl_ctree_store.proofs.ticks.numbers.Goals as goal

pub loop-k-preserved : goal.loop-k-preserved
loop-k-preserved c =
    one_more Number c.loop-k.k c.args.row.now c.at.result c.loop-k.made c.push.new.self c.loop-k.invariant c.at.ensures
    (c.in_ok-push.ensures.ok ∙ ap (λ n. c.loop-k.made ++ Number n ∷ []) (to_z-of_z w128 c.at.result (search rules)))
