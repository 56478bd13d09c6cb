-- One step of finding which units are needed.
use Rattle.std.specs.Prelude.{ℕ, Bool, false, List, if◌then◌else◌, slice_get, unwrap_or}
use Rattle.bl_tree.specs.declared.tree.Unit.{Unit as UnitDef}
use Rattle.bl_emit_spec.specs.Programs.{needs_at, set_from}

-- the needed units after the unit at the position is taken: if it is needed, what it calls and runs is too
abbrev pub needed_step : ℕ → List UnitDef → List Bool → List Bool
needed_step k units needed = if unwrap_or (slice_get needed k) false then set_from (needs_at (slice_get units k)) 0 needed else needed
