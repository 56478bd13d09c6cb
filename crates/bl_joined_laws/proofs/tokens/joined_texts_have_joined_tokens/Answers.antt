use Rattle.bl_joined_laws.proofs.Joining.{joined_lexes}
use Rattle.bl_joined_laws.proofs.tokens.joined_texts_have_joined_tokens.Goals as goal

pub returns : goal.returns
returns c = joined_lexes
