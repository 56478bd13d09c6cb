use Rattle.bl_ctext.proofs.Cutting.{tokens_in-token}
use Rattle.bl_ctext.proofs.Words.{are_tokens-one}
use Rattle.bl_ctext.proofs.writer.Writer.token.Goals as goal

pub write-requires : goal.write-requires
write-requires c = are_tokens-one c.args.text.now c.requires

pub returns : goal.returns
returns c = rw (tokens_in-token c.args.text.now c.requires) at c.write.ensures
