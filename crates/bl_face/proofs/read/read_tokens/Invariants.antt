use Rattle.std.proofs.Common.{◌≡◌, take}
use Rattle.std.specs.Prelude.{Some}
use Rattle.bl_face.specs.Lexemes.{lexemes}
use Rattle.bl_face.specs.inner.Reader.{nothing_read, run}
use Rattle.bl_face.proofs.read.read_tokens.Given as goal

abbrev pub invariant-loop-token : goal.invariant-loop-token
invariant-loop-token l = run (Some nothing_read) (lexemes l.text (take l.token-index l.tokens)) ≡ Some l.reader
