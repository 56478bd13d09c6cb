use Rattle.std.proofs.Common.{◌≡◌, ℕ, List, drop}
use Rattle.std.specs.Option.{option_or}
use Rattle.bl_ctext_semantics.specs.Tables.{found}
use Rattle.bl_ctext_semantics_laws.specs.Layout.{members_laid}
use Rattle.bl_crun_code_layout.specs.Views.{members_in, sizes_in}
use Rattle.bl_crun_code_layout.proofs.layout.members.Given as goal

abbrev pub invariant-loop-member : goal.invariant-loop-member
invariant-loop-member l = (asked : List ℕ) →
    option_or (members_in l.laid asked) (found asked (members_laid (sizes_in l.sizes) l.at (drop l.member-index l.list)))
    ≡ found asked (members_laid (sizes_in l.sizes) 0 l.list)
