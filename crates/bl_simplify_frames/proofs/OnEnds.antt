-- Whether some of a block's statements end it.
use Rattle.std.proofs.Common.{◌≡◌, ◌||◌, List, [], ◌∷◌, map, refl, ap}
use Rattle.std.specs.List.{list_any}
use Rattle.bl_tree.specs.declared.c.CStmt.{CStmt}
use Rattle.bl_simplify_laws_frames.specs.Reached.{ends_in, none_ends}

pub some_break : (xs : List CStmt) → list_any (λ s. (ends_in s).breaks) xs ≡ (none_ends (map ends_in xs)).breaks
some_break [] = refl
some_break (x ∷ xs) = ap (λ b. (ends_in x).breaks || b) (some_break xs)

pub some_return : (xs : List CStmt) → list_any (λ s. (ends_in s).returns) xs ≡ (none_ends (map ends_in xs)).returns
some_return [] = refl
some_return (x ∷ xs) = ap (λ b. (ends_in x).returns || b) (some_return xs)
