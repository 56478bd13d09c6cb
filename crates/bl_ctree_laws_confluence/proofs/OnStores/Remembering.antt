-- That a declared variable had before what it has now is set in either order with what is done to other variables.
use Rattle.std.proofs.Common.{◌≡◌, ℕ, zero, suc, true, false, ◌||◌, List, [], ◌∷◌, Option, Some, None, refl, sym, ap, ◌∙◌, eq-eqb}
use Rattle.std.specs.Prelude.{nat_eq, option_map, option_and_then, slice_get, slice_set, unwrap_or}
use Rattle.bl_tree.proofs.Basics.{not_both, or_true}
use Rattle.bl_tree.specs.declared.value.Value.{Value}
use Rattle.bl_tree.specs.Static.{is_front, overlaps}
use Rattle.bl_eval.specs.Values.{value_at}
use Rattle.bl_ctree.specs.Actions.{result_at}
use Rattle.bl_ctree.specs.Store.{Frame, Location, Store, overlap, put, remember, value_among, whole_of, with_frame}
use Rattle.bl_ctree_laws_confluence.specs.Stores.{RememberingKeepsOthers, before_of, now_of}
use Rattle.bl_ctree_laws_confluence.proofs.OnStores.Changes.{changed, changes_commute, frame_is, frame_put, put_is, rest_no, seen_changed, with_put}

set_is : (xs : List Value) (k : ℕ) (v : Value) → slice_set xs k v ≡ changed k (λ old. v) xs
set_is [] k v = refl
set_is (x ∷ xs) zero v = refl
set_is (x ∷ xs) (suc k) v = ap (λ all. x ∷ all) (set_is xs k v)

get_changed : (k j : ℕ) (h : Value → Value) (xs : List Value) → (j ≡ k → ⊥) → slice_get (changed k h xs) j ≡ slice_get xs j
get_changed k j h [] other = refl
get_changed zero zero h (x ∷ xs) other = elim (other refl) [ ]
get_changed zero (suc j) h (x ∷ xs) other = refl
get_changed (suc k) zero h (x ∷ xs) other = refl
get_changed (suc k) (suc j) h (x ∷ xs) other = get_changed k j h xs (λ e. other (ap suc e))

-- what was before, where the variable now has this value
abbrev kept : Option Value → ℕ → List Value → List Value
kept None k before = before
kept (Some value) k before = changed k (λ old. value) before

remember_is : (k : ℕ) (frame : Frame) → remember k frame ≡ record frame { before = kept (slice_get frame.now k) k frame.before }
remember_is k frame = by_value (slice_get frame.now k)
  where
    by_value : (value : Option Value) →
        record frame { before = unwrap_or (option_map (slice_set frame.before k) value) frame.before }
        ≡ record frame { before = kept value k frame.before }
    by_value None = refl
    by_value (Some value) = ap (λ before. record frame { before = before }) (set_is frame.before k value)

keeping_commutes : (k l : ℕ) (value other : Option Value) (before : List Value) → (k ≡ l → ⊥) →
    kept value k (kept other l before) ≡ kept other l (kept value k before)
keeping_commutes k l None other before apart = refl
keeping_commutes k l (Some value) None before apart = refl
keeping_commutes k l (Some value) (Some other) before apart =
    changes_commute k l (λ old. value) (λ old. other) before (λ same old. elim (apart same) [ ])

kept_elsewhere : {B : Type 0} (q : Value → Option B) (k j : ℕ) (value : Option Value) (before : List Value) → (j ≡ k → ⊥) →
    option_and_then q (slice_get (kept value k before) j) ≡ option_and_then q (slice_get before j)
kept_elsewhere q k j None before apart = refl
kept_elsewhere q k j (Some value) before apart = seen_changed q k j (λ old. value) before (λ same old. elim (apart same) [ ])

-- two variables of one instance that don't overlap have two numbers
two_roots : (a b : Location) → overlap a b ≡ false → (is_front a.path.fields b.path.fields || is_front b.path.fields a.path.fields) ≡ true →
    a.instance ≡ b.instance → a.path.root ≡ b.path.root → ⊥
two_roots a b apart fronts same root =
    not_both (is_front a.path.fields b.path.fields || is_front b.path.fields a.path.fields)
    (rest_no (nat_eq a.path.root b.path.root) (is_front a.path.fields b.path.fields || is_front b.path.fields a.path.fields)
    (rest_no (nat_eq a.instance b.instance) (overlaps a.path b.path) apart (eq-eqb a.instance b.instance same))
    (eq-eqb a.path.root b.path.root root)) fronts

remembered_past_put : (i k : ℕ) (a : Location) (v : Value) (store : Store) → overlap a (whole_of i k) ≡ false →
    with_frame i (remember k) (put a v store) ≡ put a v (with_frame i (remember k) store)
remembered_past_put i k a v store apart =
    frame_is i (remember k) (put a v store) ∙ ap (changed i (remember k)) (put_is a v store)
    ∙ changes_commute i a.instance (remember k) (frame_put a v) store in_frame
    ∙ sym (put_is a v (with_frame i (remember k) store) ∙ ap (changed a.instance (frame_put a v)) (frame_is i (remember k) store))
  where
    in_frame : i ≡ a.instance → (frame : Frame) → remember k (frame_put a v frame) ≡ frame_put a v (remember k frame)
    in_frame same frame =
        ap (λ value. record frame {
          now = changed a.path.root (with_put a.path.fields v) frame.now;
          before = unwrap_or (option_map (slice_set frame.before k) value) frame.before;
        }) (get_changed a.path.root k (with_put a.path.fields v) frame.now
        (λ root. two_roots a (whole_of i k) apart (or_true (is_front a.path.fields [])) (sym same) (sym root)))

remembered_in_order : (i k j l : ℕ) (store : Store) → overlap (whole_of i k) (whole_of j l) ≡ false →
    with_frame i (remember k) (with_frame j (remember l) store) ≡ with_frame j (remember l) (with_frame i (remember k) store)
remembered_in_order i k j l store apart =
    frame_is i (remember k) (with_frame j (remember l) store) ∙ ap (changed i (remember k)) (frame_is j (remember l) store)
    ∙ changes_commute i j (remember k) (remember l) store in_frame
    ∙ sym (frame_is j (remember l) (with_frame i (remember k) store) ∙ ap (changed j (remember l)) (frame_is i (remember k) store))
  where
    in_frame : i ≡ j → (frame : Frame) → remember k (remember l frame) ≡ remember l (remember k frame)
    in_frame same frame =
        ap (remember k) (remember_is l frame) ∙ remember_is k (record frame { before = kept (slice_get frame.now l) l frame.before })
        ∙ ap (λ before. record frame { before = before }) (keeping_commutes k l (slice_get frame.now k) (slice_get frame.now l) frame.before
        (λ root. two_roots (whole_of i k) (whole_of j l) apart refl same root))
        ∙ sym (ap (remember l) (remember_is k frame) ∙ remember_is l (record frame { before = kept (slice_get frame.now k) k frame.before }))

now_stays : (i k : ℕ) (b : Location) (store : Store) → value_among now_of (with_frame i (remember k) store) b ≡ value_among now_of store b
now_stays i k b store =
    ap (λ store. value_among now_of store b) (frame_is i (remember k) store)
    ∙ seen_changed (λ frame. option_and_then (value_at b.path.fields) (slice_get frame.now b.path.root)) i b.instance (remember k) store
    (λ same frame. refl)

before_elsewhere : (i k : ℕ) (b : Location) (store : Store) → overlap (whole_of i k) b ≡ false →
    value_among before_of (with_frame i (remember k) store) b ≡ value_among before_of store b
before_elsewhere i k b store apart =
    ap (λ store. value_among before_of store b) (frame_is i (remember k) store)
    ∙ seen_changed (λ frame. option_and_then (value_at b.path.fields) (slice_get frame.before b.path.root)) i b.instance (remember k) store
    (λ same frame. ap (λ frame. option_and_then (value_at b.path.fields) (slice_get frame.before b.path.root)) (remember_is k frame)
    ∙ kept_elsewhere (value_at b.path.fields) k b.path.root (slice_get frame.now k) frame.before
    (λ root. two_roots (whole_of i k) b apart refl (sym same) (sym root)))

results_stay : (i k j : ℕ) (store : Store) → result_at (with_frame i (remember k) store) j ≡ result_at store j
results_stay i k j store =
    ap (λ store. result_at store j) (frame_is i (remember k) store)
    ∙ seen_changed (λ frame. frame.result) i j (remember k) store (λ same frame. refl)

pub remembering_keeps_others : RememberingKeepsOthers
remembering_keeps_others = record {
  puts = remembered_past_put;
  order = remembered_in_order;
  now = now_stays;
  before = before_elsewhere;
  results = results_stay;
}
