use Rattle.bl_parse.proofs.LexLemmas.{names_stand}
use Rattle.bl_parse.proofs.program.parse.Goals as goal

pub read-requires-clause-names : goal.read-requires-clause-names
read-requires-clause-names c = names_stand c.args.text.now c.args.tokens.now c.requires.tokens

pub read-requires-clause-program : goal.read-requires-clause-program
read-requires-clause-program c = c.in-Ok.ensures.passes.syntax
