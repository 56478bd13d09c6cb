use Rattle.std.proofs.Common.{◌≡◌, ◌++◌, IsTrue, map, drop}
use Rattle.bl_tree.specs.Reduce.{all_of}
use Rattle.bl_ctext.specs.Spelling.{listed, with_commas, param_tokens}
use Rattle.bl_ctext.specs.Spellable.{spells_param}
use Rattle.bl_ctext.proofs.printer.item.params.Given as goal

abbrev pub invariant-loop-p : goal.invariant-loop-p
invariant-loop-p l =
    IsTrue (all_of (map spells_param (drop l.p-index l.p-items))) ×
    (l.out ++ listed l.first (map param_tokens (drop l.p-index l.p-items)) ≡ l.fn.out ++ with_commas (map param_tokens l.params))
