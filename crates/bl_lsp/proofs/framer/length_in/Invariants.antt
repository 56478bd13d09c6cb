use Rattle.std.proofs.Common.{◌≡◌, drop}
use Rattle.bl_lsp.specs.Framing.{read_all}
use Rattle.bl_lsp.specs.declared.framer.Digits.TheVariants as digits
use Rattle.bl_lsp.proofs.framer.length_in.Given as goal

abbrev pub invariant-loop-byte : goal.invariant-loop-byte
invariant-loop-byte l = read_all l.digits (drop l.byte-index l.value) ≡ read_all digits.Blank l.value
