-- The numbers of a body's resting places by labels are those in the list.
use Rattle.std.proofs.Common.{◌≡◌, ℕ, suc, ◌<◌, Bool, true, false, ◌||◌, List, [], ◌∷◌, ◌++◌}
use Rattle.std.proofs.Common.{length, Some, refl, sym, ap, ◌∙◌, subst, arith, append_assoc}
use Rattle.std.proofs.lemmas.Bool.Decides.{nat_tests}
use Rattle.std.proofs.lemmas.List.Folds.{list_any-append}
use Rattle.std.proofs.lemmas.Option.{slice_get-get_or}
use Rattle.std.specs.List.{list_all, list_any}
use Rattle.std.specs.Prelude.{get_or, if◌then◌else◌, slice_get, unwrap_or}
use Rattle.std.proofs.lemmas.Bool.{and_from, or_left, or_right}
use Rattle.bl_machine.specs.declared.slots.Slot.{Slot}
use Rattle.bl_graph_nodes.specs.Plain.{Block}
use Rattle.bl_machine_pass.specs.SlotLayout.{EndOf, RestOf, Spot, slot_at, spots_in}
use Rattle.bl_machine_pass.specs.Numbered.{no_slot, position_where, same_spot, slot_for, slots_of}
use Rattle.bl_machine_pass_laws.proofs.OnSlots.Finding.{spot_itself}

-- ---- a place is found

found_below : (test : Spot → Bool) (spots : List Spot) → list_any test spots ≡ true → position_where test spots < length spots
found_below test [] h = absurd (cc)
found_below test (p ∷ spots) h = by (test p) h (found_below test spots)
  where
    by : (b : Bool) → (b || list_any test spots) ≡ true → (list_any test spots ≡ true → position_where test spots < length spots) →
        (if b then 0 else suc (position_where test spots)) < suc (length spots)
    by true h rest = omega arith
    by false h rest = let low = rest h in omega (arith, low)

there : (before rest : List Spot) (p : Spot) → list_any (same_spot p) (before ++ p ∷ rest) ≡ true
there before rest p =
    list_any-append (same_spot p) before (p ∷ rest)
    ∙ or_right (list_any (same_spot p) before) (list_any (same_spot p) (p ∷ rest))
    (or_left (same_spot p p) (list_any (same_spot p) rest) (spot_itself p))

-- ---- so what is true of each number in the list is so of each place's

by_labels : (body : Block) (list : List Slot) (p : Spot) → slot_at (slots_of body list) p ≡ slot_for list (spots_in body) p
by_labels body list (RestOf l) = refl
by_labels body list (EndOf l k) = refl

module _ (body : Block) (list : List Slot) (many : length list ≡ length (spots_in body)) (test : Slot → Bool)
    (each : (i : ℕ) (x : Slot) → slice_get list i ≡ Some x → test x ≡ true)
  where
    one_fits : (p : Spot) → list_any (same_spot p) (spots_in body) ≡ true → test (slot_at (slots_of body list) p) ≡ true
    one_fits p has =
        let low : position_where (same_spot p) (spots_in body) < length (spots_in body) = found_below (same_spot p) (spots_in body) has in
        let is : slice_get list (position_where (same_spot p) (spots_in body))
        ≡ Some (get_or list (position_where (same_spot p) (spots_in body)) no_slot) =
        slice_get-get_or list (position_where (same_spot p) (spots_in body)) no_slot (omega (arith, low, many)) in
        subst (λ x. test x ≡ true)
        (sym (by_labels body list p ∙ ap (λ found. unwrap_or found no_slot) is))
        (each (position_where (same_spot p) (spots_in body)) (get_or list (position_where (same_spot p) (spots_in body)) no_slot) is)

    parts_fit : (before spots : List Spot) → before ++ spots ≡ spots_in body →
        list_all (λ p. test (slot_at (slots_of body list) p)) spots ≡ true
    parts_fit before [] is = refl
    parts_fit before (p ∷ spots) is =
        and_from (test (slot_at (slots_of body list) p)) (list_all (λ p. test (slot_at (slots_of body list) p)) spots)
        (one_fits p (subst (λ (all : List Spot). list_any (same_spot p) all ≡ true) is (there before spots p)))
        (parts_fit (before ++ p ∷ []) spots (append_assoc before (p ∷ []) spots ∙ is))

    pub all_fit : list_all (λ p. test (slot_at (slots_of body list) p)) (spots_in body) ≡ true
    all_fit = parts_fit [] (spots_in body) refl
