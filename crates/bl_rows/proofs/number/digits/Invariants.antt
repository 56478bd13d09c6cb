use Rattle.std.proofs.Common.{◌≡◌, drop}
use Rattle.std.specs.Str.{all_ascii_digits}
use Rattle.std.specs.Str.Parse.{digits_value_after, digits_value}
use Rattle.bl_rows.proofs.number.digits.Given as goal

abbrev pub invariant-digits : goal.invariant-digits
invariant-digits l = record {
  value : digits_value_after 10 l.n (drop l.digit-index l.text) ≡ digits_value 10 l.text;
  digits : all_ascii_digits (drop l.digit-index l.text) ≡ all_ascii_digits l.text;
}
