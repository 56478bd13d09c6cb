use Rattle.std.proofs.Common.{◌≡◌, map, drop}
use Rattle.bl_tree.specs.Reduce.{all_of}
use Rattle.std.specs.Char.{is_ascii_digit}
use Rattle.bl_cparse_syntax.proofs.words.are_digits.Given as goal

abbrev pub invariant-loop-byte : goal.invariant-loop-byte
invariant-loop-byte l = all_of (map is_ascii_digit (drop l.byte-index l.bytes)) ≡ all_of (map is_ascii_digit l.bytes)
