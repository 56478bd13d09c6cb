use Rattle.std.proofs.lemmas.List.Elements.{Contains-get_or}
use Rattle.bl_tree.specs.Effects.{reads, writes}
use Rattle.bl_effects.proofs.UnionLemmas.{reads_within, writes_within}
use Rattle.bl_effects.proofs.laws.statements_have_the_union.Goals as goal

pub returns-clause-reads : goal.returns-clause-reads
returns-clause-reads c s outer within k d below = reads_within s outer within _ (Contains-get_or (reads s) k d below)

pub returns-clause-writes : goal.returns-clause-writes
returns-clause-writes c s outer within k d below = writes_within s outer within _ (Contains-get_or (writes s) k d below)
