-- What a spellable file keeps of its parts.
use Rattle.std.proofs.Common.{◌≡◌, ◌+◌, ◌≤◌, ◌&&◌, true, List, map}
use Rattle.bl_tree.proofs.Basics.{and_first, and_second}
use Rattle.bl_tree.specs.declared.c.CStruct.{CStruct}
use Rattle.bl_tree.specs.declared.c.CFunc.{CFunc}
use Rattle.bl_tree.specs.Reduce.{all_of}
use Rattle.bl_ctext.specs.Spellable.{has_any, is_spellable, shallow, spells_func, spells_struct}

pub spellable-funcs : (structs : List CStruct) (funcs : List CFunc) → is_spellable structs funcs ≡ true → all_of (map spells_func funcs) ≡ true
spellable-funcs structs funcs h =
    let behind_structs : (has_any funcs && (all_of (map spells_struct structs) && (all_of (map spells_func funcs) && shallow structs funcs))) ≡ true =
    and_second (has_any structs) _ h in
    let behind_any : (all_of (map spells_struct structs) && (all_of (map spells_func funcs) && shallow structs funcs)) ≡ true =
    and_second (has_any funcs) _ behind_structs in
    let both_left : (all_of (map spells_func funcs) && shallow structs funcs) ≡ true = and_second (all_of (map spells_struct structs)) _ behind_any in
    and_first (all_of (map spells_func funcs)) (shallow structs funcs) both_left
