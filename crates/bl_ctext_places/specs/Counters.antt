-- Names of counters, by their form.
use Rattle.std.specs.Prelude.{Bool, false, ◌&&◌, ◌==◌, List, [], ◌∷◌}
use Rattle.std.specs.Char.{is_ascii_digit}
use Rattle.std.specs.List.{list_all, list_any}
use Rattle.bl_tree.specs.declared.text.Text.{Text}
use Rattle.bl_ctext_places.specs.Places.{CPath}

-- whether a text is a run of decimal digits, one at least
abbrev pub is_digit_run : Text → Bool
is_digit_run [] = false
is_digit_run (digit ∷ rest) = is_ascii_digit digit && list_all is_ascii_digit rest

-- whether a member has the name of a counter: `c` and one or more digits
abbrev pub is_counter_name : Text → Bool
is_counter_name [] = false
is_counter_name (first ∷ rest) = first == 99 && is_digit_run rest

-- whether a place names a counter: some member that it goes through has the name of one
abbrev pub names_counter : CPath → Bool
names_counter place = list_any is_counter_name place.members
