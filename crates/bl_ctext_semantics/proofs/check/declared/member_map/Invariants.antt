use Rattle.std.proofs.Common.{◌≡◌, ℕ, List, drop, map}
use Rattle.std.specs.Option.{option_or}
use Rattle.bl_ctext_semantics.specs.inner.Checked.{members_in_map}
use Rattle.bl_ctext_semantics.specs.Tables.{found}
use Rattle.bl_ctext_semantics.proofs.check.declared.member_map.Given as goal

abbrev pub invariant-loop-member : goal.invariant-loop-member
invariant-loop-member l = (asked : List ℕ) →
    option_or (members_in_map l.by_name asked) (found asked (map (λ m. (m.name, m)) (drop l.member-index l.members)))
    ≡ found asked (map (λ m. (m.name, m)) l.members)
