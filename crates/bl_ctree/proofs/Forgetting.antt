-- What stood in the last tick doesn't tell in the next one.
use Rattle.std.proofs.Common.{◌≡◌, Bool, true, refl, ap}
use Rattle.bl_ctree.specs.Control.{Control, Branches, Nil, Wait, Test, Idle, Do, Turn, Seq, Par, Guard, Run, no_branch, branch, Check, seq, woken, all_woken}
use Rattle.bl_ctree.specs.Control.{forget, all_forgotten}
use Rattle.bl_ctree.specs.Laws.{WakingForgets}

same_branch : (weak : Bool) (c c' : Control) (others others' : Branches) → c ≡ c' → others ≡ others' → branch weak c others ≡ branch weak c' others'
same_branch weak c c' others others' e f = cc

mutual
  wakes_alike : (c : Control) → woken (forget c) ≡ woken c
  wakes_alike Nil = refl
  wakes_alike (Wait s) = refl
  wakes_alike (Test s) = refl
  wakes_alike (Idle items) = refl
  wakes_alike (Do s) = refl
  wakes_alike (Turn s) = refl
  wakes_alike (Seq c rest) = ap (λ c. seq c rest) (wakes_alike c)
  wakes_alike (Par s stood branches) = ap (Par s true) (all_wake_alike branches)
  wakes_alike (Guard s phase stood c) = ap (Guard s Check true) (wakes_alike c)
  wakes_alike (Run s callee phase stood c) = ap (Run s callee Check true) (wakes_alike c)

  all_wake_alike : (branches : Branches) → all_woken (all_forgotten branches) ≡ all_woken branches
  all_wake_alike no_branch = refl
  all_wake_alike (branch weak c others) = same_branch weak _ _ _ _ (wakes_alike c) (all_wake_alike others)

pub waking_forgets : WakingForgets
waking_forgets c = wakes_alike c
