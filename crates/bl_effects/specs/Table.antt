-- Effects by place: what a table tells of a program.
use Rattle.std.specs.Prelude.{◌≡◌, Bool, List, [], find, Option, Some, option_map, unwrap_or, is_some, IsTrue}
use Rattle.bl_tree.specs.declared.place.Place.{Place}
use Rattle.bl_tree.specs.declared.static_path.Static.{Static}
use Rattle.bl_tree.specs.declared.tree.Stmt.{Stmt}
use Rattle.bl_tree.specs.declared.tree.Unit.{Unit as UnitDef}
use Rattle.bl_tree.specs.Rules.{same_place}
use Rattle.bl_tree.specs.Within.{Effect, StandsInUnits, effect_of, place_of}

-- ---- the table

-- what a table has for the place
abbrev pub found : List Effect → Place → Option Effect
found effects at = find (λ effect. same_place effect.place at) effects

-- the table tells of every statement of the program, by its place, what it reads and writes and whether it may end at once
abbrev pub TableTellsEffects : List Effect → List UnitDef → Type 0
TableTellsEffects effects units = (s : Stmt) → StandsInUnits units s → found effects (place_of s) ≡ Some (effect_of s)

-- the table has the place
abbrev pub TableHasPlace : List Effect → Place → Type 0
TableHasPlace effects at = IsTrue (is_some (found effects at))

-- what the table says is read at the place; nothing where it has not the place
abbrev pub reads_at : List Effect → Place → List Static
reads_at effects at = unwrap_or (option_map (λ effect. effect.reads) (found effects at)) []

-- what the table says is written at the place; nothing where it has not the place
abbrev pub writes_at : List Effect → Place → List Static
writes_at effects at = unwrap_or (option_map (λ effect. effect.writes) (found effects at)) []

-- whether the table says that the statement at the place may end at once; false where it has not the place
abbrev pub instant_at : List Effect → Place → Bool
instant_at effects at = unwrap_or (option_map (λ effect. effect.instant) (found effects at)) Bool.false
