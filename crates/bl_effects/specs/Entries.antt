-- How the table of effects keeps them.
use Rattle.std.specs.Prelude.{ℕ}
use Rattle.bl_tree.specs.declared.place.Place.{Place}
use Rattle.bl_effects.specs.declared.table.Sets.{Sets}
use Rattle.bl_tree.specs.Within.{Effect}

-- the effects of a statement by its place
abbrev pub effect_at : Place → Sets → Effect
effect_at at sets = record { place = at; reads = sets.reads; writes = sets.writes; instant = sets.instant }

-- a place as a key
abbrev pub key_of : Place → ℕ × ℕ
key_of at = (at.start, at.end)

-- the place that a key stands for
abbrev pub place_at : ℕ × ℕ → Place
place_at key = record { start = key.0; end = key.1 }

-- an entry of the table as effects
abbrev pub entry : (ℕ × ℕ) × Sets → Effect
entry pair = effect_at (place_at pair.0) pair.1
