-- The way to a home, and fronts of lists of fields.
use Rattle.std.proofs.Common.{◌≡◌, ℕ, zero, suc, ◌+◌, ◌-◌, ◌<◌, ◌≤◌, false, List, [], ◌∷◌, length, drop, Some, refl, ap, ◌∙◌, arith}
use Rattle.std.specs.Prelude.{option_map, unwrap_or}
use Rattle.bl_tree.specs.Static.{is_front}
use Rattle.bl_ctree.specs.Instances.{Setting}
use Rattle.bl_ctree.specs.Store.{Location, home_within, led}

pub within_next : (w : Setting) (d k : ℕ) (at next : Location) → k < d → led w at ≡ Some next →
    home_within w (d - k) at ≡ home_within w (d - (k + 1)) next
within_next w d k at next below is =
    let more : d - k ≡ suc (d - (k + 1)) = omega arith in
    ap (λ n. home_within w n at) more ∙ ap (λ found. unwrap_or (option_map (home_within w (d - (k + 1))) found) at) is

none_front : (xs : List ℕ) (k : ℕ) → k < length xs → is_front (drop k xs) [] ≡ false
none_front [] k below = absurd (omega arith)
none_front (x ∷ xs) zero below = refl
none_front (x ∷ xs) (suc k) below = none_front xs k (omega arith)

-- what is longer is no front
pub front_past : (xs ys : List ℕ) (k : ℕ) → k < length xs → length ys ≤ k → is_front (drop k xs) (drop k ys) ≡ false
front_past [] ys k below past = absurd (omega arith)
front_past (x ∷ xs) [] zero below past = refl
front_past (x ∷ xs) [] (suc k) below past = none_front xs k (omega arith)
front_past (x ∷ xs) (y ∷ ys) zero below past = absurd (omega arith)
front_past (x ∷ xs) (y ∷ ys) (suc k) below past = front_past xs ys k (omega arith) (omega arith)
