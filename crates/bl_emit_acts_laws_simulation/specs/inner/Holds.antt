-- Steps of `specs/Encodes.antt` that proofs name.
use Rattle.std.specs.Prelude.{ℕ, Bool}
use Rattle.bl_tree.specs.declared.tree.Part.{Part as Step, fold-Part}
use Rattle.bl_emit_acts_laws_simulation.specs.Encodes.{expr_copied, kind_copied, part_copied, path_copied}

-- whether the part of a path is copied as it stands
abbrev pub copied_in_part : (ℕ → Bool) → Step → Bool
copied_in_part copied = fold-Part Bool Bool Bool Bool (kind_copied copied) part_copied expr_copied path_copied
