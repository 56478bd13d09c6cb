use Rattle.std.proofs.Common.{◌≡◌, ◌++◌, IsTrue, map, drop}
use Rattle.bl_tree.specs.Reduce.{all_of, joined}
use Rattle.bl_ctext.specs.Spelling.{local_tokens}
use Rattle.bl_ctext.specs.Spellable.{spells_local}
use Rattle.bl_ctext.proofs.printer.item.locals.Given as goal

abbrev pub invariant-loop-x : goal.invariant-loop-x
invariant-loop-x l =
    IsTrue (all_of (map spells_local (drop l.x-index l.x-items))) ×
    (l.out ++ joined (map local_tokens (drop l.x-index l.x-items)) ≡ l.fn.out ++ joined (map local_tokens l.locals))
