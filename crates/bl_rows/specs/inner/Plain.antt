-- What plain lines say, where they lie among bytes.
use Rattle.std.specs.Prelude.{◌≡◌, ℕ, ◌+◌, ◌<◌, ◌≤◌, ◌==◌, List, [], ◌∷◌, length, take, get_or, slice_range, ℤ, Bool, true, false, not, ◌&&◌, ◌||◌, Some}
use Rattle.bl_tree.specs.declared.row.Column.{Column}
use Rattle.bl_tree.specs.declared.scalar.Scalar.{Scalar}
use Rattle.bl_rows.specs.Lines.{has_feed}
use Rattle.bl_rows.specs.Fields.{number_of, number_of_digits, records_in, row_of, value_of}

-- a byte that means more than itself inside a line: a quote, a carriage return, a line feed or a comma
abbrev pub is_mark : ℕ → Bool
is_mark b = (b == 34) || ((b == 13) || ((b == 10) || (b == 44)))

-- a field has no byte that means more than itself
abbrev pub is_unmarked : List ℕ → Bool
is_unmarked [] = true
is_unmarked (b ∷ bytes) = not (is_mark b) && is_unmarked bytes

-- the digits between two places write this number, and another byte is behind them
pub record AreDigits (bytes : List ℕ) (start number end : ℕ) : Type 0 where
  pub onward : start < end
  pub inside : end < length bytes
  pub writes : number_of_digits (slice_range bytes start end) ≡ Some number

-- the plain field between two places writes this number
pub record IsNumber (bytes : List ℕ) (start : ℕ) (number : ℤ) (end : ℕ) : Type 0 where
  pub onward : start ≤ end
  pub inside : end ≤ length bytes
  pub plain : is_unmarked (slice_range bytes start end) ≡ true
  pub writes : number_of (slice_range bytes start end) ≡ Some number

-- the plain field between two places gives an input of this type a number
pub record IsValue (t : Scalar) (bytes : List ℕ) (start : ℕ) (number : ℤ) (end : ℕ) : Type 0 where
  pub onward : start ≤ end
  pub inside : end ≤ length bytes
  pub plain : is_unmarked (slice_range bytes start end) ≡ true
  pub value : value_of t (slice_range bytes start end) ≡ Some number

-- a comma stands at a place, and the plain field behind it gives an input of this type a number
pub record IsValueBehind (t : Scalar) (bytes : List ℕ) (at : ℕ) (number : ℤ) (end : ℕ) : Type 0 where
  pub before : at < length bytes
  pub comma : get_or bytes at 0 ≡ 44
  pub value : IsValue t bytes (at + 1) number end

-- the first line of these bytes ends with a line feed at a place, and its one record is the row of a tick
pub record IsPlainRow (columns : List Column) (tick : ℕ) (bytes : List ℕ) (row : List ℤ) (end : ℕ) : Type 0 where
  pub inside : end < length bytes
  pub feed : get_or bytes end 0 ≡ 10
  pub whole : has_feed (take end bytes) ≡ false
  pub fields : List (List ℕ)
  pub record_is : records_in (take end bytes) ≡ fields ∷ []
  pub row_is : row_of columns tick fields ≡ Some row
