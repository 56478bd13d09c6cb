-- The table of the prelude's functions in the code is that of the definitions.
use Rattle.std.proofs.Common.{◌≡◌, ℕ, List, map, refl, ap}
use Rattle.bl_ctext.specs.declared.builtin.TheConstants.{BUILTINS}
use Rattle.bl_ctext.specs.Builtins.{builtins}
use Rattle.bl_ctext_semantics.specs.Builtin.{builtin_of}
use Rattle.bl_ctext_semantics.specs.Tables.{found}

table_is : map (λ e. (e.0.now, e.1)) BUILTINS ≡ builtins
table_is = refl

-- what is found in it
pub found_builtin : (asked : List ℕ) → found asked (map (λ e. (e.0.now, e.1)) BUILTINS) ≡ builtin_of asked
unfolding builtin_of
found_builtin asked = ap (found asked) table_is
