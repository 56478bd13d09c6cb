-- Maps with names as keys, as tables.
use Rattle.std.specs.Prelude.{ℕ, List, map, bytes_eq}
use Rattle.std.specs.Borrow.{Bor}
use Rattle.std.specs.HashMap.{HashMap, get_by}
use Rattle.bl_tree.specs.declared.text.Text.{Text}
use Rattle.bl_ctext_semantics.specs.Tables.{Table}

-- what stands under each name of a map
abbrev pub text_at : {V S : Type 0} → HashMap (Bor (List ℕ)) V S → Table V
text_at map asked = get_by (λ key. bytes_eq asked key.now) map

-- entries of a map, each name as its bytes
abbrev pub named_entries : {V : Type 0} → List (Bor (List ℕ) × V) → List (Text × V)
named_entries entries = map (λ entry. (entry.0.now, entry.1)) entries

-- the bytes of names
abbrev pub bytes_of : List (Bor (List ℕ)) → List Text
bytes_of names = map (λ name. name.now) names
