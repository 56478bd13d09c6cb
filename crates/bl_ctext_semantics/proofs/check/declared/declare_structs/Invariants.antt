use Rattle.std.proofs.Common.{◌≡◌, ℕ, List, drop, map}
use Rattle.std.specs.Option.{option_or}
use Rattle.bl_ctext_semantics.specs.inner.Checked.{checked_structs}
use Rattle.bl_ctext_semantics.specs.Faults.{earlier_of, first_place, member_table, struct_faults_after, struct_table}
use Rattle.bl_ctext_semantics.specs.inner.Maps.{text_at}
use Rattle.bl_ctext_semantics.specs.Tables.{found, no_entries}
use Rattle.bl_ctext_semantics.proofs.check.declared.declare_structs.Given as goal

abbrev pub invariant-loop-of : goal.invariant-loop-of
invariant-loop-of l =
    ((asked : List ℕ) → option_or (checked_structs l.structs asked) (found asked (map (λ s. (s.name, member_table s)) (drop l.of-index l.list)))
    ≡ struct_table l.list asked)
    × (earlier_of l.first (first_place (struct_faults_after (checked_structs l.structs) (text_at l.depths) (drop l.of-index l.list)))
    ≡ first_place (struct_faults_after no_entries no_entries l.list))
