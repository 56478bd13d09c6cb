use Rattle.bl_joined_laws.proofs.Trees.{joined_spells}
use Rattle.bl_joined_laws.proofs.items.joined_tokens_spell_joined_items.Goals as goal

pub returns : goal.returns
returns c = joined_spells
