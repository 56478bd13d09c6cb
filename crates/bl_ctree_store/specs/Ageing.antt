-- Frames whose values before can become those now where they lie.
use Rattle.std.specs.Prelude.{Bool, true, ◌&&◌, ◌==◌, List, [], ◌∷◌, length, is_some}
use Rattle.bl_tree.specs.declared.value.Value.{Value}
use Rattle.bl_tree.specs.declared.value.Value.TheVariants.{Number}
use Rattle.bl_eval.specs.Values.{number_in}
use Rattle.bl_ctree.specs.Store.{Frame, number_or_zero}

-- the number of a value, as a value
abbrev pub as_number : Value → Value
as_number value = Number (number_or_zero value)

-- whether a value is a number
abbrev pub is_number : Value → Bool
is_number value = is_some (number_in value)

-- whether each value is one
abbrev pub are_numbers : List Value → Bool
are_numbers [] = true
are_numbers (value ∷ rest) = is_number value && are_numbers rest

-- whether the values now are numbers, and there are so many values before
abbrev pub is_plain : Frame → Bool
is_plain frame = (length frame.before == length frame.now) && are_numbers frame.now

-- whether in each frame the values now are numbers, and the values before equally many
abbrev pub are_plain : List Frame → Bool
are_plain [] = true
are_plain (frame ∷ rest) = is_plain frame && are_plain rest
