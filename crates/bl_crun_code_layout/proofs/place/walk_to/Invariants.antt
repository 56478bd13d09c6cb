use Rattle.std.proofs.Common.{◌≡◌, drop}
use Rattle.bl_tree.specs.declared.c.CPlace.{out-CPlace}
use Rattle.bl_crun_code.specs.Code.{reach_of_place}
use Rattle.bl_crun_code_layout.specs.Places.{followed_by, reach_so_far}
use Rattle.bl_crun_code_layout.specs.Views.{ground_of}
use Rattle.bl_crun_code_layout.proofs.place.walk_to.Given as goal

abbrev pub invariant-loop-k : goal.invariant-loop-k
invariant-loop-k l =
    followed_by (ground_of l.here) (reach_so_far (ground_of l.here) (out-CPlace l.at).steps l.way) (drop l.k (out-CPlace l.at).steps)
    ≡ reach_of_place l.at (ground_of l.here)
