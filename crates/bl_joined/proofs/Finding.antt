-- The last text that begins at or before a place.
use Rattle.std.proofs.Common.{◌≡◌, ℕ, zero, suc, ◌+◌, ◌-◌, ◌<◌, ◌≤◌, List, [], ◌∷◌, length, get_or, refl, ap, sym, ◌∙◌, subst, arith}
use Rattle.std.proofs.lemmas.Option.{slice_get_within}
use Rattle.std.specs.Prelude.{Some, slice_get}
use Rattle.bl_tree.specs.declared.place.Place.{Place}
use Rattle.bl_joined.specs.Places.{InFile, starts_behind}

-- of the first texts that have these starts, the one at the position is the last that begins at or before the place
pub record LastOf (starts : List ℕ) (count : ℕ) (place : Place) (file : ℕ) (own : Place) : Type 0 where
  pub start : ℕ
  pub stands : slice_get starts file ≡ Some start
  pub begins : start ≤ place.start
  pub last : (later next : ℕ) → file < later → later < count → slice_get starts later ≡ Some next → place.start < next
  pub counted : own ≡ record { start = place.start - start; end = place.end - start }

pub in_file : (texts : List (List ℕ)) (place : Place) (file : ℕ) (own : Place) (starts : List ℕ) (count : ℕ) → starts ≡ starts_behind 0 texts →
    length starts ≤ count → LastOf starts count place file own → InFile texts place file own
in_file texts place file own starts count are all h = record {
  start = h.start;
  stands = subst (λ (ns : List ℕ). slice_get ns file ≡ Some h.start) are h.stands;
  begins = h.begins;
  last = λ later next behind at. let here = subst (λ (ns : List ℕ). slice_get ns later ≡ Some next) (sym are) at in
      let inside = slice_get_within starts later next here in h.last later next behind (omega arith) here;
  counted = h.counted;
}

-- the first text begins at 0
pub first_start : (texts : List (List ℕ)) → 0 < length texts → slice_get (starts_behind 0 texts) 0 ≡ Some 0
first_start [] some = absurd (omega (arith, some))
first_start (text ∷ texts) some = refl
