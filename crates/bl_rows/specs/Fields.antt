-- What the fields of a record of rows mean.
use Rattle.std.specs.Prelude.{ℕ, ◌==◌, List, [], ◌∷◌, length, codes, ℤ, pos, neg_ℤ, Bool, true, false, ◌&&◌, nat_lt, nat_le, Option, Some, None, option_map}
use Rattle.std.specs.Prelude.{if◌then◌else◌}
use Rattle.std.specs.Ordering.{int_eq}
use Rattle.std.specs.Str.{bytes_eq, all_ascii_digits}
use Rattle.std.specs.Str.Parse.{digits_value, true_text, false_text}
use Rattle.csv.specs.Reading.{default_config, records, strip_bom}
use Rattle.bl_tree.specs.declared.scalar.Scalar.{Scalar}
use Rattle.bl_tree.specs.declared.scalar.Scalar.TheVariants.{Bool as OfBool}
use Rattle.bl_tree.specs.declared.row.Column.{Column}
use Rattle.bl_tree.specs.Scalar.{in_range}

-- the records of a line that is read alone, each as its fields, with a byte order mark at its beginning passed over
unfoldable pub records_in : List ℕ → List (List (List ℕ))
records_in line = records default_config (strip_bom line)

-- the number that 1 to 39 decimal digits write
abbrev pub number_of_digits : List ℕ → Option ℕ
number_of_digits ds =
    if all_ascii_digits ds && (nat_lt 0 (length ds) && nat_le (length ds) 39) then Some (digits_value 10 ds) else None

-- the number that a field writes: digits, or a minus, 45, and digits
abbrev pub number_of : List ℕ → Option ℤ
number_of [] = None
number_of (b ∷ rest) =
    if b == 45 then option_map (λ n. neg_ℤ (pos n)) (number_of_digits rest) else option_map (λ n. pos n) (number_of_digits (b ∷ rest))

-- a number of the type, or none
abbrev pub within : Scalar → Option ℤ → Option ℤ
within t None = None
within t (Some z) = if in_range t z then Some z else None

-- the number of a bool: 1 for the word true, 0 for the word false
abbrev pub truth_of : List ℕ → Option ℤ
truth_of field = if bytes_eq field true_text then Some (pos 1) else if bytes_eq field false_text then Some (pos 0) else None

-- the number that a field gives an input of a type
abbrev pub value_of : Scalar → List ℕ → Option ℤ
value_of OfBool field = truth_of field
value_of t field = within t (number_of field)

-- a first number before the others, where there are both
abbrev pub both : Option ℤ → Option (List ℤ) → Option (List ℤ)
both None rest = None
both (Some z) None = None
both (Some z) (Some zs) = Some (z ∷ zs)

-- the numbers that fields give the columns, one field for each
abbrev pub values_of : List Column → List (List ℕ) → Option (List ℤ)
values_of [] [] = Some []
values_of [] (f ∷ fields) = None
values_of (c ∷ columns) [] = None
values_of (c ∷ columns) (f ∷ fields) = both (value_of c.ty f) (values_of columns fields)

-- whether a number was read and is n
abbrev pub is_this_number : ℕ → Option ℤ → Bool
is_this_number n None = false
is_this_number n (Some z) = int_eq z (pos n)

-- the row of tick n that a record gives: the tick's number, and then a field for each column
abbrev pub row_of : List Column → ℕ → List (List ℕ) → Option (List ℤ)
row_of columns n [] = None
row_of columns n (tick ∷ fields) = if is_this_number n (number_of tick) then values_of columns fields else None

-- whether fields are the names of the columns in order
abbrev pub are_names : List Column → List (List ℕ) → Bool
are_names [] [] = true
are_names [] (f ∷ fields) = false
are_names (c ∷ columns) [] = false
are_names (c ∷ columns) (f ∷ fields) = bytes_eq f c.name && are_names columns fields

-- whether a record is the header: `tick` and the names of the columns
abbrev pub is_header : List Column → List (List ℕ) → Bool
is_header columns [] = false
is_header columns (word ∷ names) = bytes_eq word (codes "tick") && are_names columns names
