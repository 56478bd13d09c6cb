-- A table of numbers with one place more.
use Rattle.std.proofs.Common.{◌≡◌, ℕ, Bool, true, false, cond, ◌&&◌, List, Some, refl, ap, ◌∙◌, nat_cmp, is_eq, Ordering, Less, Equal, Greater}
use Rattle.std.specs.BTreeMap.{is_at}
use Rattle.std.specs.Cmp.{unsigned_tied}
use Rattle.std.specs.Map.{lookup}
use Rattle.std.specs.Ordering.{ordering_then}
use Rattle.std.specs.Prelude.{Option, unwrap_or}
use Rattle.bl_tree.specs.declared.place.Place.{Place}
use Rattle.bl_tree.specs.Rules.{same_place}
use Rattle.bl_machine_transitions.specs.Runs.{kept_number, key_cmp, key_of}

both_equal : (r s : Ordering) → is_eq (ordering_then r s) ≡ (is_eq r && is_eq s)
both_equal Less s = refl
both_equal Equal s = refl
both_equal Greater s = refl

-- a place is that of a key where the key ties
pub same_place_key : (a b : Place) → is_at (key_cmp (key_of a)) (key_of b) ≡ same_place a b
same_place_key a b = both_equal (nat_cmp a.start b.start) (nat_cmp a.end b.end) ∙ (λ i. unsigned_tied a.start b.start i && unsigned_tied a.end b.end i)

given : (b : Bool) (n : ℕ) (found : Option ℕ) → unwrap_or (cond b (Some n) found) 0 ≡ cond b n (unwrap_or found 0)
given true n found = refl
given false n found = refl

-- the table has the number at the place, and what it had at others
pub number_put : (old new : List ((ℕ × ℕ) × ℕ)) (at q : Place) (n : ℕ) →
    lookup (is_at (key_cmp (key_of q))) new ≡ cond (is_at (key_cmp (key_of at)) (key_of q)) (Some n) (lookup (is_at (key_cmp (key_of q))) old)
    → kept_number new q ≡ cond (same_place at q) n (kept_number old q)
number_put old new at q n is =
    ap (λ found. unwrap_or found 0) is
    ∙ (given (is_at (key_cmp (key_of at)) (key_of q)) n (lookup (is_at (key_cmp (key_of q))) old)
    ∙ ap (λ b. cond b n (kept_number old q)) (same_place_key at q))
