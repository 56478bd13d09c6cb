-- Nothing can act in a settled tree.
use Rattle.std.proofs.Common.{◌≡◌, ℕ, Bool, true, false, not, List, [], ◌++◌, map, refl, ap, ◌∙◌}
use Rattle.std.specs.Prelude.{if◌then◌else◌}
use Rattle.std.proofs.lemmas.Bool.{not-true}
use Rattle.bl_tree.proofs.Basics.{and_first, and_second, second_false}
use Rattle.bl_ctree.specs.Actions.{Silent}
use Rattle.bl_ctree.specs.Control.{Control, Branches, Nil, Wait, Test, Idle, Do, Turn, Seq, Par, Guard, Run, no_branch, branch, Check, Body, is_settled}
use Rattle.bl_ctree.specs.Control.{are_settled, are_done, is_nil, seq}
use Rattle.bl_ctree.specs.Instances.{Setting}
use Rattle.bl_ctree.specs.Laws.{SettledIsStill}
use Rattle.bl_ctree.specs.Pending.{meets, any_meets}
use Rattle.bl_ctree.specs.Points.{Point, points, branch_points, within, in_first, in_later, guard_points, run_points, joining, free_of, sure, giving}
use Rattle.bl_ctree.specs.Positions.{Located, kind_of}

no_join : (i : ℕ) (s : Located) (branches : Branches) → are_done branches ≡ false → joining i s branches ≡ []
no_join i s branches e = ap (λ b. if b then sure i s Silent Nil else []) (second_false (are_settled branches) (are_done branches) e)

no_guard : (i : ℕ) (s : Located) (stood : Bool) (c : Control) (inner : List (Point Control)) → is_nil c ≡ false → inner ≡ [] →
    guard_points i s stood c inner ≡ []
no_guard i s stood c inner e none =
    ap (λ b. if b then sure i s Silent Nil else map (within (Guard s Body stood)) inner) e ∙ ap (map (within (Guard s Body stood))) none

no_run : (i : ℕ) (s : Located) (callee : ℕ) (stood : Bool) (c : Control) (inner : List (Point Control)) → is_nil c ≡ false →
    inner ≡ [] → run_points i s callee stood c inner ≡ []
no_run i s callee stood c inner e none =
    ap (λ b. if b then giving i s callee (kind_of s) else map (within (Run s callee Body stood)) inner) e ∙ ap (map (within (Run s callee Body stood))) none

mutual
  pub settled_still : (w : Setting) (i : ℕ) (c : Control) → is_settled c ≡ true → points w i c ≡ []
  settled_still w i Nil e = refl
  settled_still w i (Wait s) e = refl
  settled_still w i (Test s) e = absurd cc
  settled_still w i (Idle items) e = refl
  settled_still w i (Do s) e = absurd cc
  settled_still w i (Turn s) e = absurd cc
  settled_still w i (Seq c rest) e = ap (map (within (λ c. seq c rest))) (settled_still w i c e)
  settled_still w i (Par s stood branches) e =
      ap (λ ps. joining i s branches ++ map (within (Par s stood)) ps)
      (settled_branches w i branches (and_first (are_settled branches) (not (are_done branches)) e))
      ∙ ap (λ ps. ps ++ []) (no_join i s branches (not-true (are_done branches) (and_second (are_settled branches) (not (are_done branches)) e)))
  settled_still w i (Guard s Check stood c) e = absurd cc
  settled_still w i (Guard s Body stood c) e =
      no_guard i s stood c _ (not-true (is_nil c) (and_second (is_settled c) (not (is_nil c)) e))
      (settled_still w i c (and_first (is_settled c) (not (is_nil c)) e))
  settled_still w i (Run s callee Check stood c) e = absurd cc
  settled_still w i (Run s callee Body stood c) e =
      no_run i s callee stood c _ (not-true (is_nil c) (and_second (is_settled c) (not (is_nil c)) e))
      (settled_still w callee c (and_first (is_settled c) (not (is_nil c)) e))

  settled_branches : (w : Setting) (i : ℕ) (branches : Branches) → are_settled branches ≡ true → branch_points w i branches ≡ []
  settled_branches w i no_branch e = refl
  settled_branches w i (branch weak c others) e =
      ap (λ ps. map (in_first (λ c. branch weak c others)) (free_of (any_meets w i others) ps)
      ++ map (in_later (branch weak c)) (free_of (meets w i c) (branch_points w i others)))
      (settled_still w i c (and_first (is_settled c) (are_settled others) e))
      ∙ ap (λ ps. map (in_later (branch weak c)) (free_of (meets w i c) ps)) (settled_branches w i others (and_second (is_settled c) (are_settled others) e))

pub settled_is_still : SettledIsStill
settled_is_still w i c e = settled_still w i c e
