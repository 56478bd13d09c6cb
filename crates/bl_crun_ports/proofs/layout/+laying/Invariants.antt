use Rattle.std.proofs.Common.{◌≡◌, ◌+◌, ◌*◌, ◌++◌, drop, take}
use Rattle.bl_ctext_semantics.specs.inner.Maps.{text_at}
use Rattle.bl_crun_ports.specs.inner.Spans.{StructsLaid, kinds_of_members}
use Rattle.bl_crun_ports.proofs.layout.+laying.Given as goal

abbrev pub decreases-add_struct : goal.decreases-add_struct
decreases-add_struct l = 5 * l.end

abbrev pub decreases-add_new : goal.decreases-add_new
decreases-add_new l = 5 * l.at + 4

abbrev pub decreases-add_members : goal.decreases-add_members
decreases-add_members l = 5 * l.end + 3

abbrev pub decreases-add_member : goal.decreases-add_member
decreases-add_member l = 5 * l.end + 2

abbrev pub decreases-add_type : goal.decreases-add_type
decreases-add_type l = 5 * l.end + 1

abbrev pub invariant-add_members-loop-member : goal.invariant-add_members-loop-member
invariant-add_members-loop-member l =
    (l.kinds.items ++ kinds_of_members (take l.end l.places.structs.now) (drop l.member-index l.members) ≡ l.initial.kinds.items
    ++ kinds_of_members (take l.end l.places.structs.now) l.members)
    × StructsLaid l.places.structs.now (text_at l.spans) l.kinds.items
