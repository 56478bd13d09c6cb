-- The loop over branches, one branch after another.
use Rattle.std.proofs.Common.{◌≡◌, ℕ, zero, suc, ◌<◌, ◌≤◌, get_or, List, [], ◌∷◌, ◌++◌, map, filter, take, drop, length}
use Rattle.std.proofs.Common.{refl, sym, ap, ◌∙◌, arith, append_assoc}
use Rattle.bl_tree.proofs.Basics.{drop_none}
use Rattle.bl_ctree.specs.Instances.{Setting}
use Rattle.bl_ctree.specs.Nodes.{Seen, branches_of}
use Rattle.bl_ctree.specs.Points.{Point, branch_points, points}
use Rattle.bl_ctree.specs.Control.{Branches}
use Rattle.bl_ctree.specs.Store.{Location}
use Rattle.bl_ctree_enabled.specs.Spots.{Spot, homes_seen, is_free_of, spot_below}
use Rattle.bl_ctree_enabled.proofs.BranchLemmas.{branches_start, branches_step, is_free, spot_from}

module _ (w : Setting) (i : ℕ) (path : List ℕ) where
  abbrev behind : List Seen → List (Point Branches)
  behind bs = branch_points w i (branches_of bs)

  -- before the loop over the branches
  pub loop_starts : (ps : List (List Location)) (bs : List Seen) (done : List Spot)
      → done ++ filter (is_free (take 0 ps)) (map (spot_from w path 0) (behind (drop 0 bs))) ≡ done ++ map (spot_below w path) (behind bs)
  loop_starts ps bs done =
      ap (λ all. done ++ filter (is_free (take 0 ps)) (map (spot_from w path 0) (behind all))) (drop_none bs)
      ∙ ap (λ front. done ++ filter (is_free front) (map (spot_from w path 0) (behind bs))) (take_none ps)
      ∙ ap (λ spots. done ++ spots) (branches_start w i path bs)
    where
      take_none : (ps : List (List Location)) → take 0 ps ≡ []
      take_none [] = refl
      take_none (x ∷ xs) = refl

  -- one step of that loop
  pub loop_goes_on : (all : List Seen) (ps : List (List Location)) (k next : ℕ) (b : Seen) (done made start found : List Spot) (inside : List ℕ)
      → next ≡ suc k → ps ≡ map (homes_seen w i) all → drop k all ≡ b ∷ drop (suc k) all → inside ≡ path ++ k ∷ [] →
      found ≡ map (spot_below w inside) (points w i b.tree)
      → made ≡ done ++ filter (is_free_of ps k) found
      → done ++ filter (is_free (take k ps)) (map (spot_from w path k) (behind (drop k all))) ≡ start
      → made ++ filter (is_free (take next ps)) (map (spot_from w path next) (behind (drop next all))) ≡ start
  loop_goes_on all ps k next b done made start found inside is_next is here is_inside is_found is_made before =
      let later = filter (is_free (take (suc k) ps)) (map (spot_from w path (suc k)) (behind (drop (suc k) all))) in
      ap (λ n. made ++ filter (is_free (take n ps)) (map (spot_from w path n) (behind (drop n all)))) is_next
      ∙ ap (λ made. made ++ later) is_made
      ∙ append_assoc done (filter (is_free_of ps k) found) later
      ∙ ap (λ found. done ++ (filter (is_free_of ps k) found ++ later))
      (is_found ∙ ap (λ inside. map (spot_below w inside) (points w i b.tree)) is_inside)
      ∙ ap (λ spots. done ++ spots) (sym (branches_step w i path all ps k b is here))
      ∙ before

-- the branch with number k
pub branch_here : {A : Type 0} (f : A → Seen) (xs : List A) (k : ℕ) (x : A) → k < length xs → x ≡ get_or xs k x →
    drop k (map f xs) ≡ f x ∷ drop (suc k) (map f xs)
branch_here f [] k x within is = absurd (omega arith)
branch_here f (y ∷ xs) zero x within is = ap (λ z. f z ∷ map f xs) (sym is) ∙ ap (λ rest. f x ∷ rest) (sym (drop_none (map f xs)))
branch_here f (y ∷ xs) (suc k) x within is = branch_here f xs k x (omega arith) is
