-- Values that are put at homes that don't overlap are put in either order, and leave the others as they are.
use Rattle.std.proofs.Common.{◌≡◌, ℕ, zero, suc, Bool, true, false, ◌&&◌, ◌||◌, List, [], ◌∷◌, Option, Some, None, refl, sym, ap, ◌∙◌, eq-eqb}
use Rattle.std.specs.Prelude.{nat_eq, option_map, option_and_then, slice_get, slice_set, unwrap_or}
use Rattle.bl_tree.proofs.Basics.{neither_first, neither_second, not_both, same_some}
use Rattle.bl_tree.specs.declared.value.Value.{Value, out-Value, roll-Value, roll-out-Value}
use Rattle.bl_tree.specs.declared.value.Value.TheOpen.{Value-F}
use Rattle.bl_tree.specs.declared.value.Value.TheVariants.{Parts, rolls-Parts}
use Rattle.bl_tree.specs.Static.{is_front, overlaps}
use Rattle.bl_eval.specs.Values.{parts_at, parts_in, put_at, value_at, with_value_at}
use Rattle.bl_ctree.specs.Actions.{result_at}
use Rattle.bl_ctree.specs.Store.{Frame, Location, Store, overlap, put, value_among, with_frame, with_now}
use Rattle.bl_eval_laws.proofs.OnLocal.Puts.{parts_of}
use Rattle.bl_ctree_laws_confluence.specs.Stores.{FramesKeepOthers, PutsCommute, PutsKeepOthers, before_of, now_of}

-- ---- one element of a list is changed

abbrev pub changed : {A : Type 0} → ℕ → (A → A) → List A → List A
changed k h [] = []
changed zero h (x ∷ xs) = h x ∷ xs
changed (suc k) h (x ∷ xs) = x ∷ changed k h xs

changed_none : {A : Type 0} (k : ℕ) (h : A → A) (xs : List A) → slice_get xs k ≡ None → changed k h xs ≡ xs
changed_none k h [] e = refl
changed_none zero h (x ∷ xs) e = absurd cc
changed_none (suc k) h (x ∷ xs) e = ap (λ all. x ∷ all) (changed_none k h xs e)

changed_some : {A : Type 0} (k : ℕ) (h : A → A) (xs : List A) (old new : A) → slice_get xs k ≡ Some old → h old ≡ new →
    changed k h xs ≡ slice_set xs k new
changed_some zero h [] old new e is = absurd cc
changed_some (suc k) h [] old new e is = absurd cc
changed_some zero h (x ∷ xs) old new e is = let same : x ≡ old = cc in ap (λ y. y ∷ xs) (ap h same ∙ is)
changed_some (suc k) h (x ∷ xs) old new e is = ap (λ all. x ∷ all) (changed_some k h xs old new e is)

changed_same : {A : Type 0} (k : ℕ) (h : A → A) (xs : List A) (old : A) → slice_get xs k ≡ Some old → h old ≡ old → changed k h xs ≡ xs
changed_same zero h [] old e is = refl
changed_same (suc k) h [] old e is = refl
changed_same zero h (x ∷ xs) old e is = let same : x ≡ old = cc in ap (λ y. y ∷ xs) (ap h same ∙ is ∙ sym same)
changed_same (suc k) h (x ∷ xs) old e is = ap (λ all. x ∷ all) (changed_same k h xs old e is)

changed_alike : {A : Type 0} (k : ℕ) (h g : A → A) (xs : List A) → ((x : A) → h x ≡ g x) → changed k h xs ≡ changed k g xs
changed_alike k h g [] same = refl
changed_alike zero h g (x ∷ xs) same = ap (λ y. y ∷ xs) (same x)
changed_alike (suc k) h g (x ∷ xs) same = ap (λ all. x ∷ all) (changed_alike k h g xs same)

pub changes_commute : {A : Type 0} (j k : ℕ) (h g : A → A) (xs : List A) → (j ≡ k → (x : A) → h (g x) ≡ g (h x)) →
    changed j h (changed k g xs) ≡ changed k g (changed j h xs)
changes_commute j k h g [] same = refl
changes_commute zero zero h g (x ∷ xs) same = ap (λ y. y ∷ xs) (same refl x)
changes_commute zero (suc k) h g (x ∷ xs) same = refl
changes_commute (suc j) zero h g (x ∷ xs) same = refl
changes_commute (suc j) (suc k) h g (x ∷ xs) same = ap (λ all. x ∷ all) (changes_commute j k h g xs (λ e. same (ap suc e)))

-- an element that is perhaps replaced
replaced : {A : Type 0} (k : ℕ) (p : A → Option A) (xs : List A) →
    unwrap_or (option_and_then (λ old. option_map (λ new. slice_set xs k new) (p old)) (slice_get xs k)) xs ≡ changed k (λ x. unwrap_or (p x) x) xs
replaced {A} k p xs = by_old (slice_get xs k) refl
  where
    by_new : (old : A) → slice_get xs k ≡ Some old → (new : Option A) → p old ≡ new →
        unwrap_or (option_map (λ new. slice_set xs k new) new) xs ≡ changed k (λ x. unwrap_or (p x) x) xs
    by_new old e None is = sym (changed_same k (λ x. unwrap_or (p x) x) xs old e (ap (λ o. unwrap_or o old) is))
    by_new old e (Some new) is = sym (changed_some k (λ x. unwrap_or (p x) x) xs old new e (ap (λ o. unwrap_or o old) is))

    by_old : (old : Option A) → slice_get xs k ≡ old →
        unwrap_or (option_and_then (λ old. option_map (λ new. slice_set xs k new) (p old)) old) xs ≡ changed k (λ x. unwrap_or (p x) x) xs
    by_old None e = sym (changed_none k (λ x. unwrap_or (p x) x) xs e)
    by_old (Some old) e = by_new old e (p old) refl

-- ---- a part of a value

-- the value with the new one at the fields, where they lead to one
abbrev pub with_put : List ℕ → Value → Value → Value
with_put fields new value = unwrap_or (with_value_at fields new value) value

abbrev on_parts : (List Value → List Value) → Value → Value
on_parts change value = unwrap_or (option_map (λ all. Parts (change all)) (parts_in value)) value

pub whole_again : (value : Value) (all : List Value) → parts_in value ≡ Some all → Parts all ≡ value
whole_again value all e = by_level (out-Value value) refl e
  where
    by_level : (level : Value-F Value) → out-Value value ≡ level → parts_at level ≡ Some all → Parts all ≡ value
    by_level (Value-F.Number n) is e = absurd cc
    by_level (Value-F.Parts these) is e =
        ap Parts (sym (same_some these all e)) ∙ sym (rolls-Parts these) ∙ ap roll-Value (sym is) ∙ roll-out-Value value

put_in_part : (k : ℕ) (fields : List ℕ) (new value : Value) → with_put (k ∷ fields) new value ≡ on_parts (changed k (with_put fields new)) value
put_in_part k fields new value = by_parts (parts_in value) refl
  where
    fused : (all : List Value) (o : Option (List Value)) → Parts all ≡ value →
        unwrap_or (option_map Parts o) value ≡ Parts (unwrap_or o all)
    fused all None is = sym is
    fused all (Some made) is = refl

    by_made : (all : List Value) (made : Option Value) →
        option_map (λ part. Parts (slice_set all k part)) made ≡ option_map Parts (option_map (λ part. slice_set all k part) made)
    by_made all None = refl
    by_made all (Some part) = refl

    by_old : (all : List Value) (old : Option Value) →
        option_and_then (λ old. option_map (λ part. Parts (slice_set all k part)) (with_value_at fields new old)) old
        ≡ option_map Parts (option_and_then (λ old. option_map (λ part. slice_set all k part) (with_value_at fields new old)) old)
    by_old all None = refl
    by_old all (Some old) = by_made all (with_value_at fields new old)

    by_parts : (all : Option (List Value)) → parts_in value ≡ all →
        unwrap_or (option_and_then (λ all. option_and_then (λ old. option_map (λ part. Parts (slice_set all k part)) (with_value_at fields new old))
        (slice_get all k)) all) value
        ≡ unwrap_or (option_map (λ all. Parts (changed k (with_put fields new) all)) all) value
    by_parts None is = refl
    by_parts (Some all) is =
        ap (λ o. unwrap_or o value) (by_old all (slice_get all k))
        ∙ fused all (option_and_then (λ old. option_map (λ part. slice_set all k part) (with_value_at fields new old)) (slice_get all k))
        (whole_again value all is)
        ∙ ap Parts (replaced k (with_value_at fields new) all)

parts_commute : (a b : List Value → List Value) (value : Value) → ((all : List Value) → a (b all) ≡ b (a all)) →
    on_parts a (on_parts b value) ≡ on_parts b (on_parts a value)
parts_commute a b value same = by_parts (parts_in value) refl
  where
    on_made : (change : List Value → List Value) (all : List Value) → on_parts change (Parts all) ≡ Parts (change all)
    on_made change all = ap (λ parts. unwrap_or (option_map (λ all. Parts (change all)) parts) (Parts all)) (parts_of all)

    on_none : (change : List Value → List Value) → parts_in value ≡ None → on_parts change value ≡ value
    on_none change is = ap (λ parts. unwrap_or (option_map (λ all. Parts (change all)) parts) value) is

    on_some : (change : List Value → List Value) (all : List Value) → parts_in value ≡ Some all → on_parts change value ≡ Parts (change all)
    on_some change all is = ap (λ parts. unwrap_or (option_map (λ all. Parts (change all)) parts) value) is

    by_parts : (all : Option (List Value)) → parts_in value ≡ all → on_parts a (on_parts b value) ≡ on_parts b (on_parts a value)
    by_parts None is = ap (on_parts a) (on_none b is) ∙ on_none a is ∙ sym (on_none b is) ∙ sym (ap (on_parts b) (on_none a is))
    by_parts (Some all) is =
        ap (on_parts a) (on_some b all is) ∙ on_made a (b all) ∙ ap Parts (same all) ∙ sym (on_made b (a all))
        ∙ sym (ap (on_parts b) (on_some a all is))

pub rest_no : (a b : Bool) → (a && b) ≡ false → a ≡ true → b ≡ false
rest_no true b e is = e
rest_no false b e is = absurd cc

field_puts_commute : (fs gs : List ℕ) (v u value : Value) → is_front fs gs ≡ false → is_front gs fs ≡ false →
    with_put fs v (with_put gs u value) ≡ with_put gs u (with_put fs v value)
field_puts_commute [] gs v u value e f = absurd cc
field_puts_commute (f ∷ fs) [] v u value e g = absurd cc
field_puts_commute (f ∷ fs) (g ∷ gs) v u value e h =
    put_in_part f fs v (with_put (g ∷ gs) u value) ∙ ap (on_parts (changed f (with_put fs v))) (put_in_part g gs u value)
    ∙ parts_commute (changed f (with_put fs v)) (changed g (with_put gs u)) value
    (λ all. changes_commute f g (with_put fs v) (with_put gs u) all
    (λ same old. field_puts_commute fs gs v u old (rest_no (nat_eq f g) (is_front fs gs) e (eq-eqb f g same))
    (rest_no (nat_eq g f) (is_front gs fs) h (eq-eqb g f (sym same)))))
    ∙ sym (put_in_part g gs u (with_put (f ∷ fs) v value) ∙ ap (on_parts (changed g (with_put gs u))) (put_in_part f fs v value))

-- ---- the store

abbrev pub frame_put : Location → Value → Frame → Frame
frame_put at v frame = record frame { now = changed at.path.root (with_put at.path.fields v) frame.now }

pub put_is : (at : Location) (v : Value) (store : Store) → put at v store ≡ changed at.instance (frame_put at v) store
put_is at v store =
    ap (λ o. unwrap_or o store) (by_frame (slice_get store at.instance))
    ∙ replaced at.instance (λ frame. option_map (λ now. record frame { now = now }) (put_at at.path.root at.path.fields v frame.now)) store
    ∙ changed_alike at.instance (λ frame. unwrap_or (option_map (λ now. record frame { now = now }) (put_at at.path.root at.path.fields v frame.now)) frame)
    (frame_put at v) store (λ frame. by_now frame (put_at at.path.root at.path.fields v frame.now)
    ∙ ap (λ now. record frame { now = now }) (replaced at.path.root (with_value_at at.path.fields v) frame.now))
  where
    by_made : (frame : Frame) (o : Option (List Value)) → option_map (λ now. slice_set store at.instance (record frame { now = now })) o
        ≡ option_map (λ new. slice_set store at.instance new) (option_map (λ now. record frame { now = now }) o)
    by_made frame None = refl
    by_made frame (Some now) = refl

    by_frame : (frame : Option Frame) → option_and_then (with_now store at v) frame
        ≡ option_and_then (λ frame. option_map (λ new. slice_set store at.instance new)
        (option_map (λ now. record frame { now = now }) (put_at at.path.root at.path.fields v frame.now))) frame
    by_frame None = refl
    by_frame (Some frame) = by_made frame (put_at at.path.root at.path.fields v frame.now)

    by_now : (frame : Frame) (o : Option (List Value)) →
        unwrap_or (option_map (λ now. record frame { now = now }) o) frame ≡ record frame { now = unwrap_or o frame.now }
    by_now frame None = refl
    by_now frame (Some now) = refl

pub puts_commute : PutsCommute
puts_commute a b v u store apart =
    put_is a v (put b u store) ∙ ap (changed a.instance (frame_put a v)) (put_is b u store)
    ∙ changes_commute a.instance b.instance (frame_put a v) (frame_put b u) store (λ same frame.
    ap (λ now. record frame { now = now }) (changes_commute a.path.root b.path.root (with_put a.path.fields v) (with_put b.path.fields u) frame.now
    (λ root old. let fronts = rest_no (nat_eq a.path.root b.path.root) (is_front a.path.fields b.path.fields || is_front b.path.fields a.path.fields)
    (rest_no (nat_eq a.instance b.instance) (overlaps a.path b.path) apart (eq-eqb a.instance b.instance same)) (eq-eqb a.path.root b.path.root root) in
    field_puts_commute a.path.fields b.path.fields v u old (neither_first (is_front a.path.fields b.path.fields) (is_front b.path.fields a.path.fields) fronts)
    (neither_second (is_front a.path.fields b.path.fields) (is_front b.path.fields a.path.fields) fronts))))
    ∙ sym (put_is b u (put a v store) ∙ ap (changed b.instance (frame_put b u)) (put_is a v store))

-- ---- what is elsewhere

-- what a test of elements shows of one that is perhaps the changed one
pub seen_changed : {A B : Type 0} (q : A → Option B) (k j : ℕ) (h : A → A) (xs : List A) → (j ≡ k → (x : A) → q (h x) ≡ q x) →
    option_and_then q (slice_get (changed k h xs) j) ≡ option_and_then q (slice_get xs j)
seen_changed q k j h [] same = refl
seen_changed q zero zero h (x ∷ xs) same = same refl x
seen_changed q zero (suc j) h (x ∷ xs) same = refl
seen_changed q (suc k) zero h (x ∷ xs) same = refl
seen_changed q (suc k) (suc j) h (x ∷ xs) same = seen_changed q k j h xs (λ e. same (ap suc e))

parts_changed : (change : List Value → List Value) (value : Value) → parts_in (on_parts change value) ≡ option_map change (parts_in value)
parts_changed change value = by_parts (parts_in value) refl
  where
    by_parts : (all : Option (List Value)) → parts_in value ≡ all →
        parts_in (unwrap_or (option_map (λ all. Parts (change all)) all) value) ≡ option_map change all
    by_parts None is = is
    by_parts (Some all) is = parts_of (change all)

elsewhere_same : (fs gs : List ℕ) (v value : Value) → is_front fs gs ≡ false → is_front gs fs ≡ false →
    value_at gs (with_put fs v value) ≡ value_at gs value
elsewhere_same [] gs v value e f = absurd cc
elsewhere_same (f ∷ fs) [] v value e h = absurd cc
elsewhere_same (f ∷ fs) (g ∷ gs) v value e h =
    ap (value_at (g ∷ gs)) (put_in_part f fs v value)
    ∙ ap (λ all. option_and_then (value_at gs) (option_and_then (λ all. slice_get all g) all)) (parts_changed (changed f (with_put fs v)) value)
    ∙ by_parts (parts_in value) (λ same old. elsewhere_same fs gs v old (rest_no (nat_eq f g) (is_front fs gs) e (eq-eqb f g (sym same)))
    (rest_no (nat_eq g f) (is_front gs fs) h (eq-eqb g f same)))
  where
    by_parts : (all : Option (List Value)) → (g ≡ f → (old : Value) → value_at gs (with_put fs v old) ≡ value_at gs old) →
        option_and_then (value_at gs) (option_and_then (λ all. slice_get all g) (option_map (changed f (with_put fs v)) all))
        ≡ option_and_then (value_at gs) (option_and_then (λ all. slice_get all g) all)
    by_parts None same = refl
    by_parts (Some all) same = seen_changed (value_at gs) f g (with_put fs v) all same

now_elsewhere : (a b : Location) (v : Value) (store : Store) → overlap a b ≡ false → value_among now_of (put a v store) b ≡ value_among now_of store b
now_elsewhere a b v store apart =
    ap (λ store. value_among now_of store b) (put_is a v store)
    ∙ seen_changed (λ frame. option_and_then (value_at b.path.fields) (slice_get frame.now b.path.root)) a.instance b.instance (frame_put a v) store
    (λ same frame. seen_changed (value_at b.path.fields) a.path.root b.path.root (with_put a.path.fields v) frame.now
    (λ root old. let fronts = rest_no (nat_eq a.path.root b.path.root) (is_front a.path.fields b.path.fields || is_front b.path.fields a.path.fields)
    (rest_no (nat_eq a.instance b.instance) (overlaps a.path b.path) apart (eq-eqb a.instance b.instance (sym same)))
    (eq-eqb a.path.root b.path.root (sym root)) in
    elsewhere_same a.path.fields b.path.fields v old (neither_first (is_front a.path.fields b.path.fields) (is_front b.path.fields a.path.fields) fronts)
    (neither_second (is_front a.path.fields b.path.fields) (is_front b.path.fields a.path.fields) fronts)))

before_kept : (a b : Location) (v : Value) (store : Store) → value_among before_of (put a v store) b ≡ value_among before_of store b
before_kept a b v store =
    ap (λ store. value_among before_of store b) (put_is a v store)
    ∙ seen_changed (λ frame. option_and_then (value_at b.path.fields) (slice_get frame.before b.path.root)) a.instance b.instance (frame_put a v) store
    (λ same frame. refl)

results_kept : (a : Location) (v : Value) (store : Store) (i : ℕ) → result_at (put a v store) i ≡ result_at store i
results_kept a v store i =
    ap (λ store. result_at store i) (put_is a v store)
    ∙ seen_changed (λ frame. frame.result) a.instance i (frame_put a v) store (λ same frame. refl)

pub puts_keep_others : PutsKeepOthers
puts_keep_others = record { now = now_elsewhere; before = before_kept; results = results_kept }

-- ---- frames

pub frame_is : (i : ℕ) (change : Frame → Frame) (store : Store) → with_frame i change store ≡ changed i change store
frame_is i change store = by_frame (slice_get store i) refl
  where
    by_frame : (frame : Option Frame) → slice_get store i ≡ frame →
        unwrap_or (option_map (λ frame. slice_set store i (change frame)) frame) store ≡ changed i change store
    by_frame None e = sym (changed_none i change store e)
    by_frame (Some frame) e = sym (changed_some i change store frame (change frame) e refl)

frame_past_put : (i : ℕ) (change : Frame → Frame) (a : Location) (v : Value) (store : Store) → nat_eq i a.instance ≡ false →
    with_frame i change (put a v store) ≡ put a v (with_frame i change store)
frame_past_put i change a v store apart =
    frame_is i change (put a v store) ∙ ap (changed i change) (put_is a v store)
    ∙ changes_commute i a.instance change (frame_put a v) store (λ same frame. not_both (nat_eq i a.instance) apart (eq-eqb i a.instance same))
    ∙ sym (put_is a v (with_frame i change store) ∙ ap (changed a.instance (frame_put a v)) (frame_is i change store))

frames_past : (i j : ℕ) (change other : Frame → Frame) (store : Store) → nat_eq i j ≡ false →
    with_frame i change (with_frame j other store) ≡ with_frame j other (with_frame i change store)
frames_past i j change other store apart =
    frame_is i change (with_frame j other store) ∙ ap (changed i change) (frame_is j other store)
    ∙ changes_commute i j change other store (λ same frame. not_both (nat_eq i j) apart (eq-eqb i j same))
    ∙ sym (frame_is j other (with_frame i change store) ∙ ap (changed j other) (frame_is i change store))

values_elsewhere : (values : Frame → List Value) (i : ℕ) (change : Frame → Frame) (b : Location) (store : Store) → nat_eq i b.instance ≡ false →
    value_among values (with_frame i change store) b ≡ value_among values store b
values_elsewhere values i change b store apart =
    ap (λ store. value_among values store b) (frame_is i change store)
    ∙ seen_changed (λ frame. option_and_then (value_at b.path.fields) (slice_get (values frame) b.path.root)) i b.instance change store
    (λ same frame. not_both (nat_eq i b.instance) apart (eq-eqb i b.instance (sym same)))

results_elsewhere : (i j : ℕ) (change : Frame → Frame) (store : Store) → nat_eq i j ≡ false →
    result_at (with_frame i change store) j ≡ result_at store j
results_elsewhere i j change store apart =
    ap (λ store. result_at store j) (frame_is i change store)
    ∙ seen_changed (λ frame. frame.result) i j change store (λ same frame. not_both (nat_eq i j) apart (eq-eqb i j (sym same)))

pub frames_keep_others : FramesKeepOthers
frames_keep_others = record { puts = frame_past_put; frames = frames_past; values = values_elsewhere; results = results_elsewhere }
