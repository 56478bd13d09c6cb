-- The joined texts are read, and short enough for a small tree.
use Rattle.bl_link.proofs.Linking.{fault_stops, of_small, readable}
use Rattle.bl_link.specs.Fits.{part_texts}
use Rattle.bl_link.proofs.linked.link_files.Goals as goal

pub tree_of-requires : goal.tree_of-requires
tree_of-requires c =
    readable c.joined_texts_have_joined_tokens.ensures c.joined_tokens_pass.ensures c.tokens_are_one.ensures c.args.parts.now c.in-Ok.joined
    c.in-Ok.ensures.joined c.in-Ok.ensures.parts c.in-Ok.ensures.short

pub returns-in-Ok-accept_raw-clause-of_small_tree : goal.returns-in-Ok-accept_raw-clause-of_small_tree
returns-in-Ok-accept_raw-clause-of_small_tree c =
    of_small c.programs_of_texts_are_small.ensures.spelled c.in-Ok.joined c.in-Ok-tree_of.tree.raw c.in-Ok-accept_raw.accepted.program
    c.in-Ok.ensures.short c.in-Ok-tree_of.ensures c.in-Ok-accept_raw.ensures.passes c.in-Ok-accept_raw.ensures.program

pub returns-clause-fault : goal.returns-clause-fault
returns-clause-fault c =
    fault_stops c.files_are_the_whole.ensures.good c.args.parts.now c.in-Ok.joined c.in-Ok-tree_of.tree.raw c.in-Err-accept_raw.refusal c.fault_of.result
    c.in-Ok.ensures.parts c.requires.fit c.requires.some c.in-Ok.ensures.joined c.in-Ok-tree_of.ensures c.in-Err-accept_raw.ensures.cause
    (λ some. c.fault_of.ensures (part_texts c.args.parts.now) some c.in-Ok.ensures.joined)
