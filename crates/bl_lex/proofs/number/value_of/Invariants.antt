use Rattle.std.proofs.Common.{◌≡◌, ℕ, ◌^◌, ◌<◌, min, take, get_or}
use Rattle.std.specs.Char.{digit_value}
use Rattle.bl_lex.specs.Spelling.{digits_value}
use Rattle.bl_lex.proofs.number.value_of.Given as goal

abbrev pub invariant-loop-byte : goal.invariant-loop-byte
invariant-loop-byte l = record {
  value : l.value ≡ min (digits_value l.base (take l.byte-index l.digits)) (2 ^ 64);
  each : (k : ℕ) → k < l.byte-index → digit_value (get_or l.digits k 0) < l.base;
}
