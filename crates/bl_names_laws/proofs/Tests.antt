-- Tests that hold of all members of a list.
use Rattle.std.proofs.Common.{◌≡◌, Bool, true, ◌&&◌, List, [], ◌∷◌, map, refl}
use Rattle.std.specs.List.{list_all}
use Rattle.std.proofs.lemmas.Bool.{and_from}
use Rattle.bl_tree.proofs.Basics.{and_first, and_second}

-- where the one test holds of each member, the other does of what it becomes
pub mapped : {X Y : Type 0} (test : X → Bool) (becomes : X → Y) (other : Y → Bool) → ((x : X) → test x ≡ true → other (becomes x) ≡ true) →
    (xs : List X) → list_all test xs ≡ true → list_all other (map becomes xs) ≡ true
mapped test becomes other each [] hold = refl
mapped test becomes other each (x ∷ xs) hold =
    and_from (other (becomes x)) (list_all other (map becomes xs)) (each x (and_first (test x) (list_all test xs) hold))
    (mapped test becomes other each xs (and_second (test x) (list_all test xs) hold))
