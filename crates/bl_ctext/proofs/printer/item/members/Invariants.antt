use Rattle.std.proofs.Common.{◌≡◌, ◌++◌, IsTrue, map, drop}
use Rattle.bl_tree.specs.Reduce.{all_of, joined}
use Rattle.bl_ctext.specs.Spelling.{member_tokens}
use Rattle.bl_ctext.specs.Spellable.{spells_member}
use Rattle.bl_ctext.proofs.printer.item.members.Given as goal

abbrev pub invariant-loop-m : goal.invariant-loop-m
invariant-loop-m l =
    IsTrue (all_of (map spells_member (drop l.m-index l.m-items))) ×
    (l.out ++ joined (map member_tokens (drop l.m-index l.m-items)) ≡ l.fn.out ++ joined (map member_tokens l.members))
