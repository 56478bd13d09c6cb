-- What the table's map has at a key is what is found at its place.
use Rattle.std.proofs.Common.{None, Option, ◌≡◌, Bor, ℕ, Bool, true, false, cond, ◌&&◌, List, [], ◌∷◌, map, Some, refl, sym, ap, ◌∙◌, nat_cmp, is_eq}
use Rattle.std.proofs.Common.{Ordering, Less, Equal, Greater, eqb→eq}
use Rattle.std.specs.BTreeMap.{is_at}
use Rattle.std.specs.Cmp.{nat_eq_equiv, unsigned_tied}
use Rattle.std.specs.Map.{lookup}
use Rattle.std.specs.Ordering.{ordering_then}
use Rattle.std.specs.Prelude.{option_copied, option_map}
use Rattle.bl_tree.specs.declared.place.Place.{Place}
use Rattle.bl_effects.specs.declared.table.Sets.{Sets}
use Rattle.bl_effects.specs.Entries.{effect_at, entry, key_of, place_at}
use Rattle.bl_tree.specs.Rules.{same_place}
use Rattle.bl_effects.specs.Table.{found}
use Rattle.bl_tree.proofs.FirstLemmas.{same_true}

abbrev pub key_cmp : ℕ × ℕ → ℕ × ℕ → Ordering
key_cmp x y = ordering_then (nat_cmp x.0 y.0) (nat_cmp x.1 y.1)

pub both_equal : (r s : Ordering) → is_eq (ordering_then r s) ≡ (is_eq r && is_eq s)
both_equal Less s = refl
both_equal Equal s = refl
both_equal Greater s = refl

-- a place is that of a key where the key ties
same_key : (a b : Place) → is_eq (key_cmp (key_of a) (key_of b)) ≡ same_place a b
same_key a b = both_equal (nat_cmp a.start b.start) (nat_cmp a.end b.end) ∙ (λ i. unsigned_tied a.start b.start i && unsigned_tied a.end b.end i)

pub same_place-symm : (a b : Place) → same_place a b ≡ same_place b a
same_place-symm a b = λ i. nat_eq_equiv.symm a.start b.start i && nat_eq_equiv.symm a.end b.end i

pub same_place_refl : (a : Place) → same_place a a ≡ true
same_place_refl a = λ i. nat_eq_equiv.refl a.start i && nat_eq_equiv.refl a.end i

pub found_entry : (entries : List ((ℕ × ℕ) × Sets)) (at : Place) →
    found (map entry entries) at ≡ option_map (effect_at at) (lookup (is_at (key_cmp (key_of at))) entries)
found_entry [] at = refl
found_entry (e ∷ entries) at =
    let test : is_eq (key_cmp (key_of at) e.0) ≡ same_place (place_at e.0) at = same_key at (place_at e.0) ∙ same_place-symm at (place_at e.0) in
    step (same_place (place_at e.0) at) refl (found_entry entries at)
    ∙ ap (λ t. option_map (effect_at at) (cond t (Some e.1) (lookup (is_at (key_cmp (key_of at))) entries))) (sym test)
  where
    step : (t : Bool) → same_place (place_at e.0) at ≡ t →
        found (map entry entries) at ≡ option_map (effect_at at) (lookup (is_at (key_cmp (key_of at))) entries)
        → cond t (Some (entry e)) (found (map entry entries) at)
        ≡ option_map (effect_at at) (cond t (Some e.1) (lookup (is_at (key_cmp (key_of at))) entries))
    step true is rest = ap (λ place. Some (effect_at place e.1)) (same_true (place_at e.0) at is)
    step false is rest = rest

-- what is found after an insertion
pub found_inserted : (old new : List ((ℕ × ℕ) × Sets)) (at q : Place) (sets : Sets)
    → lookup (is_at (key_cmp (key_of q))) new ≡ cond (is_at (key_cmp (key_of at)) (key_of q)) (Some sets) (lookup (is_at (key_cmp (key_of q))) old)
    → found (map entry new) q ≡ cond (same_place at q) (Some (effect_at at sets)) (found (map entry old) q)
found_inserted old new at q sets is =
    found_entry new q ∙ ap (option_map (effect_at q)) (is ∙ ap (λ t. cond t (Some sets) (lookup (is_at (key_cmp (key_of q))) old)) (same_key at q))
    ∙ step (same_place at q) refl
  where
    step : (t : Bool) → same_place at q ≡ t
        → option_map (effect_at q) (cond t (Some sets) (lookup (is_at (key_cmp (key_of q))) old))
        ≡ cond t (Some (effect_at at sets)) (found (map entry old) q)
    step true same = ap (λ place. Some (effect_at place sets)) (sym (same_true at q same))
    step false same = sym (found_entry old q)

pub map_copied : {A B : Type 0} (f : A → B) (found : Option (Bor A)) → option_map (λ x. f x.now) found ≡ option_map f (option_copied found)
map_copied f None = refl
map_copied f (Some x) = refl
