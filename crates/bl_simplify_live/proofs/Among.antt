-- Places whose names are all in a table.
use Rattle.std.proofs.Common.{◌≡◌, ℕ, ◌+◌, ◌<◌, ◌≤◌, Bool, true, false, ◌&&◌, ◌||◌, List, [], ◌∷◌, map, drop, length, get_or, refl, ap, sym, subst, ◌∙◌, Option}
use Rattle.std.proofs.lemmas.List.{drop_all}
use Rattle.std.proofs.lemmas.Slice.Eq.{bytes_eq-Decides}
use Rattle.std.specs.Prelude.{bytes_eq, is_some}
use Rattle.std.specs.List.{list_any}
use Rattle.bl_tree.proofs.Basics.{and_first, and_second, drop_next}
use Rattle.bl_tree.specs.declared.c.CArg.{CArg}
use Rattle.bl_tree.specs.declared.c.CArg.TheOpen.{CPlace-F}
use Rattle.bl_tree.specs.declared.c.CCall.{CCall}
use Rattle.bl_tree.specs.declared.c.CExpr.{CExpr}
use Rattle.bl_tree.specs.declared.c.CExprKind.{CExprKind}
use Rattle.bl_tree.specs.declared.c.CIndex.{CIndex}
use Rattle.bl_tree.specs.declared.c.CPlace.{CPlace, fold-roll-CPlace, out-CPlace, out-roll-CPlace, roll-CPlace, roll-out-CPlace}
use Rattle.bl_tree.specs.declared.c.CStep.{CStep}
use Rattle.bl_tree.specs.declared.text.Text.{Text}
use Rattle.bl_ctext_places.specs.Lists.{path_names, path_of}
use Rattle.bl_ctext_places.specs.Places.{CPath, CPaths}
use Rattle.bl_simplify_live.specs.Reads.{HasAll}

-- ---- names of places

rolled_name : (layer : CPlace-F CArg CExprKind CCall CExpr CIndex CPlace CStep) → (path_of (roll-CPlace layer)).name ≡ layer.name
rolled_name layer = rw fold-roll-CPlace refl

pub name_is : (p : CPlace) → (path_of p).name ≡ (out-CPlace p).name
name_is p =
    subst (λ (q : CPlace). (path_of q).name ≡ (out-CPlace q).name) (roll-out-CPlace p)
    (rolled_name (out-CPlace p) ∙ ap (λ (l : CPlace-F CArg CExprKind CCall CExpr CIndex CPlace CStep). l.name) (sym (out-roll-CPlace (out-CPlace p))))

-- ---- lists

has_first : (t : Text → Option (Unit {0})) (path : CPath) (paths : CPaths) → is_some (t path.name) ≡ true → HasAll t (path_names paths) →
    HasAll t (path_names (path ∷ paths))
has_first t path paths first rest name there = by (bytes_eq path.name name) refl there
  where
    by : (b : Bool) → bytes_eq path.name name ≡ b → (b || list_any (λ n. bytes_eq n name) (path_names paths)) ≡ true → is_some (t name) ≡ true
    by true same h = subst (λ (n : Text). is_some (t n) ≡ true) ((bytes_eq-Decides path.name name).0 same) first
    by false same h = rest name h

has_none : (t : Text → Option (Unit {0})) → HasAll t []
has_none t name there = absurd (cc)

-- one more place of a list
pub has_next : {X : Type 0} (t : Text → Option (Unit {0})) (path : X → CPath) (xs : List X) (k : ℕ) (x : X) (so_far here : Bool) → k < length xs →
    x ≡ get_or xs k x → is_some (t (path x).name) ≡ here →
    (so_far ≡ true → HasAll t (path_names (map path (drop k xs))) → HasAll t (path_names (map path xs))) →
    (so_far && here) ≡ true → HasAll t (path_names (map path (drop (k + 1) xs))) → HasAll t (path_names (map path xs))
has_next t path xs k x so_far here within is told h more rest =
    h (and_first so_far here more)
    (subst (λ l. HasAll t (path_names (map path l))) (sym (drop_next xs k x within is))
    (has_first t (path x) (map path (drop (k + 1) xs)) (told ∙ and_second so_far here more) rest))

-- the whole list
pub has_done : {X : Type 0} (t : Text → Option (Unit {0})) (path : X → CPath) (xs : List X) (k : ℕ) (so_far : Bool) → length xs ≤ k →
    (so_far ≡ true → HasAll t (path_names (map path (drop k xs))) → HasAll t (path_names (map path xs))) → so_far ≡ true → HasAll t (path_names (map path xs))
has_done t path xs k so_far over h is = h is (subst (λ l. HasAll t (path_names (map path l))) (sym (drop_all k xs over)) (has_none t))
