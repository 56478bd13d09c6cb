-- Numbers as far as 64 bits tell them.
use Rattle.std.specs.Prelude.{◌≡◌, ℕ, ◌-◌, ◌^◌, min, option_map}
use Rattle.bl_tree.specs.declared.text.Text.{Text}
use Rattle.bl_ctext_semantics.specs.Tables.{Table}

-- a number; one that 64 bits can't hold counts as the greatest that they can
abbrev pub saturated : ℕ → ℕ
saturated n = min n (2 ^ 64 - 1)

-- two tables have the same under each name, as far as 64 bits tell
abbrev pub AlikeSaturated : Table ℕ → Table ℕ → Type 0
AlikeSaturated s t = (asked : Text) → option_map saturated (s asked) ≡ option_map saturated (t asked)
