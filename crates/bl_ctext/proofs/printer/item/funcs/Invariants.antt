use Rattle.std.proofs.Common.{◌≡◌, ◌++◌, IsTrue, map, drop}
use Rattle.bl_tree.specs.Reduce.{all_of, joined}
use Rattle.bl_ctext.specs.Spelling.{func_tokens}
use Rattle.bl_ctext.specs.Spellable.{spells_func}
use Rattle.bl_ctext.proofs.printer.item.funcs.Given as goal

abbrev pub invariant-loop-f : goal.invariant-loop-f
invariant-loop-f l =
    IsTrue (all_of (map spells_func (drop l.f-index l.f-items))) ×
    (l.out ++ joined (map func_tokens (drop l.f-index l.f-items)) ≡ l.fn.out ++ joined (map func_tokens l.funcs))
