-- The nodes and places of a body have the numbers that their positions have.
use Rattle.std.proofs.Common.{◌≡◌, ℕ, zero, suc, ◌+◌, Bool, true, false, ◌&&◌, List, [], ◌∷◌, Some}
use Rattle.std.proofs.Common.{if◌then◌else◌}
use Rattle.std.proofs.Common.{nat_eq, unwrap_or, refl, sym, ap, subst, ◌∙◌, eqb-true, eq-eqb, arith}
use Rattle.std.specs.Prelude.{slice_get}
use Rattle.std.proofs.lemmas.Bool.{and_from}
use Rattle.bl_tree.proofs.Basics.{and_first, and_second, contains_at, none_is_some, same_some}
use Rattle.bl_tree.specs.declared.tree.Stmt.{Stmt}
use Rattle.bl_graph_nodes.specs.Nodes.{Node, label_of, nodes_in}
use Rattle.bl_graph_nodes.specs.Plain.{Block, plain_body}
use Rattle.bl_machine.specs.declared.slots.Slot.{Slot}
use Rattle.bl_machine_pass.specs.SlotLayout.{EndOf, RestOf, Spot, slot_at, spots_in}
use Rattle.bl_machine_pass.specs.Numbered.{no_slot, position_where, same_label, same_node, same_spot, slots_of, sort}
use Rattle.bl_machine_pass_laws.specs.Keys.{NodesHaveKeys}
use Rattle.bl_machine_pass_laws.specs.Spots.{Has, SpotsAreDistinct, SpotsDiffer}
use Rattle.bl_machine_transitions.specs.Callees.{node_number}
use Rattle.bl_machine_transitions.specs.Listed.{layout_of}
use Rattle.bl_machine_transitions_laws.proofs.Agreeing.{Agrees, each_agrees}
use Rattle.bl_machine_pass_laws.proofs.OnSlots.Finding.{found_first, has_at, label_is, label_itself, spot_is, spot_itself}

-- ---- tests

pub node_itself : (n : Node) → same_node n n ≡ true
node_itself n =
    and_from (same_label (label_of n) (label_of n)) (nat_eq (sort n) (sort n)) (label_itself (label_of n)) (eq-eqb (sort n) (sort n) refl)

-- ---- positions

pub past : (b : Bool) (k : ℕ) → (b ≡ true → ⊥) → (if b then 0 else suc k) ≡ suc k
past true k none = absurd (none refl)
past false k none = refl

no_suc : (i : ℕ) → 0 ≡ suc i → ⊥
no_suc i is = absurd (omega arith)

less : (i j : ℕ) → suc j ≡ suc i → j ≡ i
less i j is = omega arith

-- what is true of one element alone stands where the element does
found : {X : Type 0} (test : X → Bool) (xs : List X) (i : ℕ) (x : X) → slice_get xs i ≡ Some x → test x ≡ true →
    ((j : ℕ) (y : X) → slice_get xs j ≡ Some y → test y ≡ true → j ≡ i) → position_where test xs ≡ i
found test [] i x is so alone = none_is_some x is
found test (y ∷ xs) zero x is so alone =
    found_first (test y) (position_where test xs) (subst (λ z. test z ≡ true) (sym (same_some y x is)) so)
found test (y ∷ xs) (suc i) x is so alone =
    past (test y) (position_where test xs) (λ e. no_suc i (alone 0 y refl e))
    ∙ ap suc (found test xs i x is so (λ j z there e. less i j (alone (suc j) z there e)))

-- ---- nodes

node_at : NodesHaveKeys → (body : List Stmt) (i : ℕ) (n : Node) → slice_get (nodes_in (plain_body body)) i ≡ Some n →
    position_where (same_node n) (nodes_in (plain_body body)) ≡ i
node_at law body i n is =
    found (same_node n) (nodes_in (plain_body body)) i n is (node_itself n)
    (λ j m there same.
    (let label : label_of n ≡ label_of m =
    label_is (label_of n) (label_of m) (and_first (same_label (label_of n) (label_of m)) (nat_eq (sort n) (sort m)) same) in
    let sorted : sort n ≡ sort m =
    eqb-true (sort n) (sort m) (and_second (same_label (label_of n) (label_of m)) (nat_eq (sort n) (sort m)) same) in
    let one : n ≡ m =
    law.keys body [] n m (contains_at (nodes_in (plain_body body)) i n is) (contains_at (nodes_in (plain_body body)) j m there) label sorted in
    law.once body [] j i n (there ∙ ap Some (sym one)) is))

-- nodes have the numbers of their positions
pub nodes_stand : NodesHaveKeys → (body : List Stmt) (order : List ℕ) (list : List Slot) →
    Agrees (node_number order (plain_body body)) (layout_of order list).number 0 (nodes_in (plain_body body))
nodes_stand law body order list =
    each_agrees (node_number order (plain_body body)) (layout_of order list).number (nodes_in (plain_body body)) 0
    (λ i n is.
    (let there : i ≡ 0 + i = omega arith in ap (λ k. position_where (nat_eq k) order) (node_at law body i n is ∙ there)))

-- ---- places

one_place : (xs : List Spot) → SpotsAreDistinct xs → (i j : ℕ) (p : Spot) → slice_get xs i ≡ Some p → slice_get xs j ≡ Some p → i ≡ j
one_place [] differ i j p one two = none_is_some p one
one_place (x ∷ xs) differ zero zero p one two = refl
one_place (x ∷ xs) differ zero (suc j) p one two = absurd (differ.0 (subst (Has xs) (sym (same_some x p one)) (has_at xs j p two)))
one_place (x ∷ xs) differ (suc i) zero p one two = absurd (differ.0 (subst (Has xs) (sym (same_some x p two)) (has_at xs i p one)))
one_place (x ∷ xs) differ (suc i) (suc j) p one two = ap suc (one_place xs differ.1 i j p one two)

place_at : SpotsDiffer → (body : List Stmt) (i : ℕ) (p : Spot) → slice_get (spots_in (plain_body body)) i ≡ Some p →
    position_where (same_spot p) (spots_in (plain_body body)) ≡ i
place_at law body i p is =
    found (same_spot p) (spots_in (plain_body body)) i p is (spot_itself p)
    (λ j q there same.
    one_place (spots_in (plain_body body)) (law body []) j i p (there ∙ ap Some (sym (spot_is p q same))) is)

number_of : (block : Block) (list : List Slot) (p : Spot) (i : ℕ) → position_where (same_spot p) (spots_in block) ≡ i →
    slot_at (slots_of block list) p ≡ unwrap_or (slice_get list i) no_slot
number_of block list (RestOf l) i is = ap (λ k. unwrap_or (slice_get list k) no_slot) is
number_of block list (EndOf l j) i is = ap (λ k. unwrap_or (slice_get list k) no_slot) is

-- places have the numbers of their positions
pub places_stand : SpotsDiffer → (body : List Stmt) (order : List ℕ) (list : List Slot) →
    Agrees (slot_at (slots_of (plain_body body) list)) (layout_of order list).slot 0 (spots_in (plain_body body))
places_stand law body order list =
    each_agrees (slot_at (slots_of (plain_body body) list)) (layout_of order list).slot (spots_in (plain_body body)) 0
    (λ i p is. (let there : i ≡ 0 + i = omega arith in number_of (plain_body body) list p (0 + i) (place_at law body i p is ∙ there)))
