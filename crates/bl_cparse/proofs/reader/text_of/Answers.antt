use Rattle.bl_cparse.proofs.TokenLemmas.{word_text}
use Rattle.bl_cparse.proofs.reader.text_of.Goals as goal

pub unreachable-requires : goal.unreachable-requires
unreachable-requires c = c.in-Err.ensures.cases.0 (word_text c.args.bytes.now c.requires)
