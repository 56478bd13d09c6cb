-- The memory of a running C text: the numbers of its scalars, each under the way that leads to it.
use Rattle.std.specs.Prelude.{ℕ, ℤ, pos, Bool, true, false, ◌&&◌, ◌==◌, List, [], ◌∷◌, ◌++◌, Option, Some, None, bytes_eq, if◌then◌else◌}
use Rattle.bl_tree.specs.declared.text.Text.{Text}

-- a step from a place into it: to a member of a struct, or to an element of the array that was reached
pub data Projection : Type 0 where
  member : Text → Projection
  element : ℕ → Projection

-- the root of a way into memory: one of the three objects, or a parameter or local of the function at a depth in the chain of calls
pub data Root : Type 0 where
  state_object : Root
  input_object : Root
  output_object : Root
  variable : ℕ → Text → Root

-- a place in memory, and what a pointer is: a root and the parts that lead on from it
pub record Location : Type 0 where
  pub root : Root
  pub parts : List Projection

-- a value of a C type: the number of each scalar in it, by the parts that lead there, none for a scalar's own
abbrev pub CValue : Type 0
CValue = List Projection → ℤ

-- the value of each root
abbrev pub Memory : Type 0
Memory = Root → CValue

-- ---- tests

-- whether two parts of a path are the same
abbrev pub same_part : Projection → Projection → Bool
same_part (member m) (member n) = bytes_eq m n
same_part (element j) (element k) = j == k
same_part (member m) (element k) = false
same_part (element j) (member n) = false

-- whether two roots are the same
abbrev pub same_root : Root → Root → Bool
same_root state_object state_object = true
same_root input_object input_object = true
same_root output_object output_object = true
same_root (variable d m) (variable e n) = d == e && bytes_eq m n
same_root _ _ = false

-- ---- values

-- the value of a scalar
abbrev pub scalar : ℤ → CValue
scalar n [] = n
scalar n (p ∷ ps) = pos 0

-- the number of a scalar
abbrev pub scalar_number : CValue → ℤ
scalar_number value = value []

-- each number 0, each bool false
abbrev pub zeros : CValue
zeros parts = pos 0

-- what of the second way is left after the first, where it begins with the first
abbrev pub left_after : List Projection → List Projection → Option (List Projection)
left_after [] way = Some way
left_after (p ∷ ps) [] = None
left_after (p ∷ ps) (q ∷ qs) = if same_part p q then left_after ps qs else None

-- the number in the part where something is left, else the old one
abbrev pub number_or : Option (List Projection) → CValue → ℤ → ℤ
number_or (Some rest) part old = part rest
number_or None part old = old

-- a value after the part of it at these parts was set
abbrev pub with_part : CValue → List Projection → CValue → CValue
with_part value parts part way = number_or (left_after parts way) part (value way)

-- ---- memory

-- the value of a place
abbrev pub value_at : Memory → Location → CValue
value_at memory place way = memory place.root (place.parts ++ way)

-- the memory after a place was set: a struct is set whole, to a copy of the value
abbrev pub set_at : Memory → Location → CValue → Memory
set_at memory place value root = if same_root place.root root then with_part (memory root) place.parts value else memory root

-- all objects and variables 0 or false
abbrev pub cleared : Memory
cleared root = zeros

-- whether a root is a variable of the function that runs at this depth
abbrev pub in_frame : ℕ → Root → Bool
in_frame depth (variable d name) = depth == d
in_frame depth _ = false

-- the memory where no function has yet run at this depth, or none runs there any more
abbrev pub without_frame : ℕ → Memory → Memory
without_frame depth memory root = if in_frame depth root then zeros else memory root
