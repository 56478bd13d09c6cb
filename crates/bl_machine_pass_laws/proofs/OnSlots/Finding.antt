-- Where a resting place stands among those of its body, and its number there.
use Rattle.std.proofs.Common.{◌≡◌, inl, inr, ℕ, zero, suc, Bool, true, false, ◌&&◌, List, [], ◌∷◌, Some, Contains, if◌then◌else◌}
use Rattle.std.proofs.Common.{nat_eq, unwrap_or, refl, sym, ap, subst, ◌∙◌, eqb-true, eq-eqb}
use Rattle.std.specs.Prelude.{bytes_eq, slice_get}
use Rattle.std.proofs.lemmas.Option.{slice_get-get_or}
use Rattle.std.proofs.lemmas.Slice.Eq.{bytes_eq-Decides}
use Rattle.std.proofs.lemmas.Bool.{and_from, false_from_ne_true}
use Rattle.bl_tree.proofs.Basics.{and_first, and_second, same_some}
use Rattle.bl_graph_nodes.specs.Plain.{Label}
use Rattle.bl_machine.specs.declared.slots.Slot.{Slot}
use Rattle.bl_machine_pass.specs.SlotLayout.{EndOf, RestOf, Spot}
use Rattle.bl_machine_pass.specs.Numbered.{no_slot, position_where, same_label, same_spot, slot_for}
use Rattle.bl_machine_pass_laws.specs.Spots.{Has, SpotsAreDistinct}

-- ---- tests

pub label_is : (l m : Label) → same_label l m ≡ true → l ≡ m
label_is l m e =
    let position : l.position ≡ m.position =
    (bytes_eq-Decides l.position m.position).0 (and_first (bytes_eq l.position m.position) (nat_eq l.passed m.passed) e) in
    let passed : l.passed ≡ m.passed =
    eqb-true l.passed m.passed (and_second (bytes_eq l.position m.position) (nat_eq l.passed m.passed) e) in
    ap (λ p. record { position = p; passed = l.passed }) position ∙ ap (λ n. record { position = m.position; passed = n }) passed

pub label_itself : (l : Label) → same_label l l ≡ true
label_itself l =
    and_from (bytes_eq l.position l.position) (nat_eq l.passed l.passed) ((bytes_eq-Decides l.position l.position).1 refl)
    (eq-eqb l.passed l.passed refl)

pub spot_is : (p q : Spot) → same_spot p q ≡ true → p ≡ q
spot_is (RestOf l) (RestOf m) e = ap RestOf (label_is l m e)
spot_is (EndOf l j) (EndOf m k) e =
    let label : l ≡ m = label_is l m (and_first (same_label l m) (nat_eq j k) e) in
    let number : j ≡ k = eqb-true j k (and_second (same_label l m) (nat_eq j k) e) in
    ap (λ n. EndOf n j) label ∙ ap (λ n. EndOf m n) number
spot_is (RestOf l) (EndOf m k) e = absurd cc
spot_is (EndOf l j) (RestOf m) e = absurd cc

pub spot_itself : (p : Spot) → same_spot p p ≡ true
spot_itself (RestOf l) = label_itself l
spot_itself (EndOf l k) = and_from (same_label l l) (nat_eq k k) (label_itself l) (eq-eqb k k refl)

-- ---- positions

pub has_at : (xs : List Spot) (i : ℕ) (p : Spot) → slice_get xs i ≡ Some p → Has xs p
has_at [] i p is = absurd cc
has_at (x ∷ xs) zero p is = inl (sym (same_some x p is))
has_at (x ∷ xs) (suc i) p is = inr (has_at xs i p is)

-- past one that isn't it
found_past : (b : Bool) (k : ℕ) → b ≡ false → (if b then 0 else suc k) ≡ suc k
found_past true k e = absurd cc
found_past false k e = refl

pub found_first : (b : Bool) (k : ℕ) → b ≡ true → (if b then 0 else suc k) ≡ 0
found_first true k e = refl
found_first false k e = absurd cc

-- a place is found where it stands
found_at : (xs : List Spot) (i : ℕ) (p : Spot) → SpotsAreDistinct xs → slice_get xs i ≡ Some p → position_where (same_spot p) xs ≡ i
found_at [] i p differ is = absurd cc
found_at (x ∷ xs) zero p differ is =
    found_first (same_spot p x) (position_where (same_spot p) xs) (subst (λ q. same_spot p q ≡ true) (sym (same_some x p is)) (spot_itself p))
found_at (x ∷ xs) (suc i) p differ is =
    found_past (same_spot p x) (position_where (same_spot p) xs)
    (false_from_ne_true (same_spot p x) (λ e. differ.0 (subst (Has xs) (spot_is p x e) (has_at xs i p is))))
    ∙ ap suc (found_at xs i p differ.1 is)

-- its number is the one that the list has there
pub number_at : (list : List Slot) (xs : List Spot) (i : ℕ) (p : Spot) → SpotsAreDistinct xs → slice_get xs i ≡ Some p →
    slot_for list xs p ≡ unwrap_or (slice_get list i) no_slot
number_at list xs i p differ is = ap (λ k. unwrap_or (slice_get list k) no_slot) (found_at xs i p differ is)

-- where a member stands
pub member_at : {A : Type 0} (xs : List A) (x : A) (h : Contains xs x) → slice_get xs h.0 ≡ Some x
member_at xs x h = slice_get-get_or xs h.0 x h.1 ∙ ap Some h.2
