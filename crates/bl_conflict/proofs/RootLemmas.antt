-- A write that overlaps no earlier one conflicts with none.
use Rattle.std.proofs.Common.{◌≡◌, ℕ, zero, suc, ◌+◌, ◌<◌, Bool, true, false, cond, ◌&&◌, ◌||◌, List, [], ◌∷◌, ◌++◌, length, get_or, take, Option, Some, None}
use Rattle.std.proofs.Common.{refl, ap, sym, ◌∙◌, eqb→eq, add-one, arith}
use Rattle.std.specs.Prelude.{slice_get}
use Rattle.bl_tree.specs.declared.place.Place.{Place}
use Rattle.bl_tree.specs.declared.tree.Var.{Var}
use Rattle.bl_effects.specs.declared.marked.Marked.{Marked}
use Rattle.bl_tree.specs.declared.static_path.Static.{Static}
use Rattle.bl_tree.specs.Static.{overlaps}
use Rattle.bl_tree.specs.declared.rule.Failure.{Failure}
use Rattle.bl_tree.specs.Rules.{first_of}
use Rattle.bl_conflict.specs.inner.Failures.{clash_of, clashes_at, clashes_under, clashes_with, of_clash}
use Rattle.bl_conflict.specs.declared.touched.Touched.{Touched}
use Rattle.bl_conflict.specs.inner.Roots.{Grows, HasFront, HasPath, Knows}

-- ---- a write that overlaps nothing that is known conflicts with nothing

-- nothing that is known overlaps the path
abbrev pub MeetsNone : Touched → Static → Type 0
MeetsNone touched path = (other : Static) → HasPath touched other → overlaps other path ≡ false

none_at : (touched : Touched) (declared : Place) (earlier : List Marked) (second : Marked)
    → Knows touched earlier → MeetsNone touched second.path → clashes_at declared earlier second ≡ []
none_at touched declared [] second known lacks = refl
none_at touched declared (first ∷ rest) second known lacks =
    let none : clash_of declared second first ≡ [] =
    ap (λ test. cond test (of_clash declared second first ∷ []) []) (lacks first.path known.0) in
    ap (λ l. l ++ clashes_at declared rest second) none ∙ none_at touched declared rest second known.1 lacks

none_under : (touched : Touched) (found : Option Var) (earlier : List Marked) (second : Marked)
    → Knows touched earlier → MeetsNone touched second.path → clashes_under found earlier second ≡ []
none_under touched (Some var) earlier second known lacks = none_at touched var.place earlier second known lacks
none_under touched None earlier second known lacks = refl

pub none_of : (touched : Touched) (vars : List Var) (earlier : List Marked) (second : Marked) (best : Option Failure)
    → Knows touched earlier → MeetsNone touched second.path
    → best ≡ first_of best (clashes_with vars earlier second)
none_of touched vars earlier second best known lacks =
    sym (ap (first_of best) (none_under touched (slice_get vars second.path.root) earlier second known lacks))

pub known_both : (touched : Touched) (xs ys : List Marked) → Knows touched xs → Knows touched ys → Knows touched (xs ++ ys)
known_both touched [] ys one two = two
known_both touched (x ∷ xs) ys one two = (one.0, known_both touched xs ys one.1 two)

front_still : (old new : Touched) (root : ℕ) (fields : List ℕ) → Grows old new → HasFront old root fields → HasFront new root fields
front_still old new root [] grows known = grows.wholes root known
front_still old new root (field ∷ fields) grows known = grows.parts (root, field) known

pub known_still : (old new : Touched) (xs : List Marked) → Grows old new → Knows old xs → Knows new xs
known_still old new [] grows known = tt
known_still old new (x ∷ xs) grows known =
    ((grows.roots x.path.root known.0.0, front_still old new x.path.root x.path.fields grows known.0.1), known_still old new xs grows known.1)

pub still_has : (test : Bool) (old new : Bool) → new ≡ cond test true old → old ≡ true → new ≡ true
still_has true old new is h = is
still_has false old new is h = is ∙ h

pub take_next : (xs : List Marked) (k : ℕ) (x : Marked) → k < length xs → x ≡ get_or xs k x → take (k + 1) xs ≡ take k xs ++ x ∷ []
take_next xs k x within is = rw add-one (take_suc xs k within is)
  where
    take_suc : (ys : List Marked) (j : ℕ) → j < length ys → x ≡ get_or ys j x → take (suc j) ys ≡ take j ys ++ x ∷ []
    take_suc [] j within is = absurd (omega arith)
    take_suc (y ∷ ys) zero within is = λ i. sym is i ∷ []
    take_suc (y ∷ ys) (suc j) within is = ap (λ rest. y ∷ rest) (take_suc ys j (omega arith) is)
