-- Names of a list, one by one.
use Rattle.std.proofs.Common.{◌≡◌, ℕ, ◌+◌, ◌<◌, Bool, not, ◌&&◌, List, [], ◌∷◌, map, length, get_or, drop, Option, max}
use Rattle.std.proofs.Common.{ap, sym, subst, ◌∙◌, add-one, arith}
use Rattle.std.specs.Prelude.{is_some}
use Rattle.std.specs.Borrow.{Bor}
use Rattle.std.specs.List.{list_all}
use Rattle.bl_tree.specs.Reduce.{greatest}
use Rattle.std.proofs.Math.Seq.{drop-cons}
use Rattle.bl_tree.proofs.Basics.{and_assoc, drop_next}
use Rattle.bl_tree.specs.declared.place.Place.{Place}
use Rattle.bl_ctext_semantics.specs.Faults.{all_distinct, distinct_names, earlier_of, first_place, repeated, unless}
use Rattle.bl_ctext_semantics.specs.inner.Maps.{bytes_of, named_entries}
use Rattle.bl_ctext_semantics.specs.Tables.{Table, with_entry}
use Rattle.bl_ctext_semantics.proofs.FirstLemmas.{earlier_of-assoc, first_place-append}
use Rattle.bl_ctext_semantics.proofs.MapLemmas.{same_table}

-- the list from an index on
pub at_index : {X : Type 0} (xs : List X) (k : ℕ) (d : X) → k < length xs → drop k xs ≡ get_or xs k d ∷ drop (k + 1) xs
at_index xs k d within = rw add-one (drop-cons xs k d within)

pub differ-next : (seen more : Table (Unit {0})) (names : List (Bor (List ℕ))) (k : ℕ) (d : Bor (List ℕ)) (answer x : Bool) → k < length names →
    ((asked : List ℕ) → more asked ≡ with_entry seen (get_or names k d).now tt asked) →
    (answer && all_distinct seen (bytes_of (drop k names))) ≡ x →
    ((answer && not (is_some (seen (get_or names k d).now))) && all_distinct more (bytes_of (drop (k + 1) names))) ≡ x
differ-next seen more names k d answer x within add h =
    let name = (get_or names k d).now in
    let rest = bytes_of (drop (k + 1) names) in
    ap (λ t. (answer && not (is_some (seen name))) && all_distinct t rest) (same_table more (with_entry seen name tt) add)
    ∙ and_assoc answer (not (is_some (seen name))) (all_distinct (with_entry seen name tt) rest)
    ∙ ap (λ xs. answer && all_distinct seen (bytes_of xs)) (sym (at_index names k d within)) ∙ h

pub repeated-next : (seen more : Table (Unit {0})) (entries : List (Bor (List ℕ) × Place)) (k : ℕ) (d : Bor (List ℕ) × Place)
    (first x : Option Place) →
    k < length entries →
    ((asked : List ℕ) → more asked ≡ with_entry seen (get_or entries k d).0.now tt asked) →
    earlier_of first (first_place (repeated seen (named_entries (drop k entries)))) ≡ x →
    earlier_of (earlier_of first (first_place (unless (not (is_some (seen (get_or entries k d).0.now))) distinct_names (get_or entries k d).1)))
    (first_place (repeated more (named_entries (drop (k + 1) entries)))) ≡ x
repeated-next seen more entries k d first x within add h =
    let name = (get_or entries k d).0.now in
    let rest = named_entries (drop (k + 1) entries) in
    let here = unless (not (is_some (seen name))) distinct_names (get_or entries k d).1 in
    ap (λ t. earlier_of (earlier_of first (first_place here)) (first_place (repeated t rest))) (same_table more (with_entry seen name tt) add)
    ∙ sym (earlier_of-assoc first (first_place here) (first_place (repeated (with_entry seen name tt) rest)))
    ∙ ap (λ p. earlier_of first p) (sym (first_place-append here (repeated (with_entry seen name tt) rest)))
    ∙ ap (λ xs. earlier_of first (first_place (repeated seen (named_entries xs)))) (sym (at_index entries k d within)) ∙ h

-- a test of each, one by one
pub all-next : {X : Type 0} (p : X → Bool) (xs : List X) (k : ℕ) (x : X) (so_far all : Bool) → k < length xs → x ≡ get_or xs k x →
    (so_far && list_all p (drop k xs)) ≡ all → ((so_far && p x) && list_all p (drop (k + 1) xs)) ≡ all
all-next p xs k x so_far all within is h =
    and_assoc so_far (p x) (list_all p (drop (k + 1) xs))
    ∙ ap (λ l. so_far && list_all p l) (sym (drop_next xs k x within is)) ∙ h

-- a greatest, one by one
pub greatest-next : {X : Type 0} (f : X → ℕ) (xs : List X) (k : ℕ) (x : X) (so_far all : ℕ) → k < length xs → x ≡ get_or xs k x →
    max so_far (greatest (map f (drop k xs))) ≡ all → max (max so_far (f x)) (greatest (map f (drop (k + 1) xs))) ≡ all
greatest-next f xs k x so_far all within is h =
    let here : max so_far (max (f x) (greatest (map f (drop (k + 1) xs)))) ≡ all =
    subst (λ l. max so_far (greatest (map f l)) ≡ all) (drop_next xs k x within is) h in
    omega arith
