use Rattle.std.proofs.Common.{◌≡◌, true, map, drop}
use Rattle.std.specs.Char.{is_ascii_digit}
use Rattle.std.specs.Str.Parse.{digits_value, digits_value_after}
use Rattle.bl_tree.specs.Reduce.{all_of}
use Rattle.bl_cparse_syntax.proofs.classes.value_of.Given as goal

abbrev pub invariant-loop-digit : goal.invariant-loop-digit
invariant-loop-digit l = record {
  digits : all_of (map is_ascii_digit (drop l.digit-index l.piece)) ≡ true;
  value : digits_value_after 10 l.value (drop l.digit-index l.piece) ≡ digits_value 10 l.piece;
}
