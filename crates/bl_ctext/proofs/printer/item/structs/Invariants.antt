use Rattle.std.proofs.Common.{◌≡◌, ◌++◌, IsTrue, map, drop}
use Rattle.bl_tree.specs.Reduce.{all_of, joined}
use Rattle.bl_ctext.specs.Spelling.{struct_tokens}
use Rattle.bl_ctext.specs.Spellable.{spells_struct}
use Rattle.bl_ctext.proofs.printer.item.structs.Given as goal

abbrev pub invariant-loop-s : goal.invariant-loop-s
invariant-loop-s l =
    IsTrue (all_of (map spells_struct (drop l.s-index l.s-items))) ×
    (l.out ++ joined (map struct_tokens (drop l.s-index l.s-items)) ≡ l.fn.out ++ joined (map struct_tokens l.structs))
