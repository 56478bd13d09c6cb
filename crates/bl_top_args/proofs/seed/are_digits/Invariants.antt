use Rattle.std.proofs.Common.{◌≡◌, drop}
use Rattle.std.specs.Str.{all_ascii_digits}
use Rattle.bl_top_args.proofs.seed.are_digits.Given as goal

abbrev pub invariant-digits : goal.invariant-digits
invariant-digits l = all_ascii_digits (drop l.digit-index l.word) ≡ all_ascii_digits l.word
