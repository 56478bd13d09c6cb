use Rattle.std.proofs.Common.{◌≡◌, map, drop}
use Rattle.bl_tree.specs.Reduce.{all_of}
use Rattle.bl_ctext.specs.Token.{is_word_byte}
use Rattle.bl_cparse_syntax.proofs.words.are_word_bytes.Given as goal

abbrev pub invariant-loop-byte : goal.invariant-loop-byte
invariant-loop-byte l = all_of (map is_word_byte (drop l.byte-index l.bytes)) ≡ all_of (map is_word_byte l.bytes)
