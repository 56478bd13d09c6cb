use Rattle.bl_module.proofs.FaceLemmas.{Walked}
use Rattle.bl_module.proofs.faces.behind_faces.Given as goal

abbrev pub invariant-loop-k : goal.invariant-loop-k
invariant-loop-k l = Walked l.faces l.k l.walk
