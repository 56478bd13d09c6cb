use Rattle.std.proofs.Common.{◌≡◌, slice_range, true}
use Rattle.std.specs.Str.{all_ascii_digits}
use Rattle.std.specs.Str.Parse.{digits_value}
use Rattle.bl_rows.proofs.in_place.digits_from.Given as goal

abbrev pub invariant-digits : goal.invariant-digits
invariant-digits l = record {
  value : digits_value 10 (slice_range l.bytes l.start l.end) ≡ l.number;
  digits : all_ascii_digits (slice_range l.bytes l.start l.end) ≡ true;
}
