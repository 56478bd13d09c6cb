-- Loops over statements, arms and branches, of which some or all may end in the tick in which they begin.
use Rattle.std.proofs.Common.{◌≡◌, ℕ, ◌+◌, ◌<◌, ◌≤◌, Bool, cond, not, ◌&&◌, ◌||◌, List, [], ◌∷◌, map, drop, length, get_or, refl, sym}
use Rattle.std.proofs.Common.{ap, ◌∙◌, drop_of_length-le}
use Rattle.bl_tree.proofs.Basics.{and_assoc, and_true, drop_next, or_assoc, or_false}
use Rattle.bl_tree.specs.declared.tree.Arm.{Arm, fold_out-Arm, out-Arm}
use Rattle.bl_tree.specs.declared.tree.Branch.{Branch, fold_out-Branch, out-Branch}
use Rattle.bl_tree.specs.Instant.{BranchInstant, arm_instant, branch_ends, branches_instant, instant, kind_instant, stmt_instant}
use Rattle.bl_tree.specs.Reduce.{all_of, any_of}
use Rattle.bl_graph.specs.inner.Instants.{ends_of_branch, instant_of_arm}

module _ {A : Type 0} (f : A → Bool) (xs : List A) (k : ℕ) where
  pub any_step : (x : A) (now then : Bool) → k < length xs → x ≡ get_or xs k x → then ≡ (now || f x)
      → (now || any_of (map f (drop k xs))) ≡ any_of (map f xs) → (then || any_of (map f (drop (k + 1) xs))) ≡ any_of (map f xs)
  any_step x now then within is grows all =
      ap (λ b. b || any_of (map f (drop (k + 1) xs))) grows ∙ or_assoc now (f x) (any_of (map f (drop (k + 1) xs)))
      ∙ ap (λ rest. now || any_of (map f rest)) (sym (drop_next xs k x within is)) ∙ all

  pub all_step : (x : A) (now then : Bool) → k < length xs → x ≡ get_or xs k x → then ≡ (now && f x)
      → (now && all_of (map f (drop k xs))) ≡ all_of (map f xs) → (then && all_of (map f (drop (k + 1) xs))) ≡ all_of (map f xs)
  all_step x now then within is grows all =
      ap (λ b. b && all_of (map f (drop (k + 1) xs))) grows ∙ and_assoc now (f x) (all_of (map f (drop (k + 1) xs)))
      ∙ ap (λ rest. now && all_of (map f rest)) (sym (drop_next xs k x within is)) ∙ all

  pub any_end : (now : Bool) → length xs ≤ k → (now || any_of (map f (drop k xs))) ≡ any_of (map f xs) → now ≡ any_of (map f xs)
  any_end now over all = sym (or_false now) ∙ ap (λ rest. now || any_of (map f rest)) (sym (drop_of_length-le xs over)) ∙ all

  pub all_end : (now : Bool) → length xs ≤ k → (now && all_of (map f (drop k xs))) ≡ all_of (map f xs) → now ≡ all_of (map f xs)
  all_end now over all = sym (and_true now) ∙ ap (λ rest. now && all_of (map f rest)) (sym (drop_of_length-le xs over)) ∙ all

pub instant_arm_out : (arm : Arm) → instant_of_arm arm ≡ all_of (map instant (out-Arm arm).body)
instant_arm_out = fold_out-Arm Bool Bool BranchInstant Bool kind_instant arm_instant branch_ends stmt_instant

pub ends_branch_out : (branch : Branch) → ends_of_branch branch
    ≡ record { weak = (out-Branch branch).weak; instant = all_of (map instant (out-Branch branch).body) }
ends_branch_out = fold_out-Branch Bool Bool BranchInstant Bool kind_instant arm_instant branch_ends stmt_instant

pub branches_end : (all : List Branch) (k : ℕ) (is_strong strong some : Bool) → length all ≤ k
    → (is_strong || any_of (map (λ branch. not (ends_of_branch branch).weak) (drop k all)))
    ≡ any_of (map (λ branch. not (ends_of_branch branch).weak) all)
    → (strong && all_of (map (λ branch. (ends_of_branch branch).weak || (ends_of_branch branch).instant) (drop k all)))
    ≡ all_of (map (λ branch. (ends_of_branch branch).weak || (ends_of_branch branch).instant) all)
    → (some || any_of (map (λ branch. (ends_of_branch branch).instant) (drop k all))) ≡ any_of (map (λ branch. (ends_of_branch branch).instant) all)
    → cond is_strong strong some ≡ branches_instant (map ends_of_branch all)
branches_end all k is_strong strong some over strongs alls somes =
    let first = any_end (λ branch. not (ends_of_branch branch).weak) all k is_strong over strongs ∙ ap any_of (sym (twice (λ ends. not ends.weak) all)) in
    let second = all_end (λ branch. (ends_of_branch branch).weak || (ends_of_branch branch).instant) all k strong over alls
    ∙ ap all_of (sym (twice (λ ends. ends.weak || ends.instant) all)) in
    let third = any_end (λ branch. (ends_of_branch branch).instant) all k some over somes ∙ ap any_of (sym (twice (λ ends. ends.instant) all)) in
    λ i. cond (first i) (second i) (third i)
  where
    twice : (f : BranchInstant → Bool) (all : List Branch) → map f (map ends_of_branch all) ≡ map (λ branch. f (ends_of_branch branch)) all
    twice f [] = refl
    twice f (branch ∷ all) = ap (λ rest. f (ends_of_branch branch) ∷ rest) (twice f all)
