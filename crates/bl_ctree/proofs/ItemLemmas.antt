-- Items of a block that is left.
use Rattle.std.proofs.Common.{◌≡◌, ℕ, suc, zero, ◌<◌, ◌≤◌, false, List, [], ◌∷◌, ◌++◌, length, drop, refl, arith}
use Rattle.bl_tree.specs.declared.tree.Stmt.{Stmt}
use Rattle.bl_ctree.specs.Positions.{Item, Position, items_from, none_left}

pub some_left : (position : Position) (k n : ℕ) (body : List Stmt) (then : List Item) → n < length body →
    none_left (items_from position k (drop n body) ++ then) ≡ false
some_left position k n [] then h = absurd (omega arith)
some_left position k zero (s ∷ body) then h = refl
some_left position k (suc n) (s ∷ body) then h = some_left position k n body then (omega arith)
