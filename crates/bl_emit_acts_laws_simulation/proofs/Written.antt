-- A part of a value is written, in the program and in C.
use Rattle.std.proofs.Common.{◌≡◌, ℕ, zero, suc, ℤ, Bool, true, false, not, ◌||◌, List, [], ◌∷◌, ◌++◌, Option, Some, None, refl, sym}
use Rattle.std.proofs.Common.{ap, ◌∙◌, subst}
use Rattle.std.proofs.lemmas.Bool.{eqb-true, eq-eqb}
use Rattle.std.proofs.lemmas.Cmp.{nat_list_eq_equiv}
use Rattle.std.proofs.lemmas.Option.{same_Some}
use Rattle.std.specs.Prelude.{nat_eq, option_and_then, option_map, slice_get, slice_set, if◌then◌else◌}
use Rattle.bl_tree.specs.declared.tree.StructDef.{StructDef}
use Rattle.bl_tree.specs.declared.tree.Ty.{Ty}
use Rattle.bl_tree.specs.declared.value.Value.{Value}
use Rattle.bl_tree.specs.declared.value.Value.TheOpen.{Value-F}
use Rattle.bl_tree.specs.declared.value.Value.TheVariants.{Parts, outs-Parts}
use Rattle.bl_eval.specs.Values.{number_at as number_level, number_in, part_of, parts_at, parts_in, value_at, with_value_at}
use Rattle.bl_eval.proofs.OperatorFits.{some_found}
use Rattle.bl_eval.proofs.PartFits.{Fits}
use Rattle.bl_ctext_semantics.specs.Memory.{CValue, Projection, element, left_after, member, number_or, same_part}
use Rattle.bl_emit_acts_laws_simulation.specs.Encodes.{Encodes, lead_to, number_within, part_type, type_after, way_to, ways_part}

-- ---- ways

pub same_part_itself : (p : Projection) → same_part p p ≡ true
same_part_itself (member m) = nat_list_eq_equiv.refl m
same_part_itself (element k) = eq-eqb k k refl

-- what is left behind a common front
pub left_behind : (front first second : List Projection) → left_after (front ++ first) (front ++ second) ≡ left_after first second
left_behind [] first second = refl
left_behind (p ∷ front) first second =
    ap (λ b. if b then left_after (front ++ first) (front ++ second) else None) (same_part_itself p) ∙ left_behind front first second

-- nothing is left of a way that parts from another
pub left_apart : (ps qs first second : List Projection) → ways_part ps qs ≡ true → left_after (ps ++ first) (qs ++ second) ≡ None
left_apart [] qs first second h = absurd (cc)
left_apart (p ∷ ps) [] first second h = absurd (cc)
left_apart (p ∷ ps) (q ∷ qs) first second h = by (same_part p q) (left_apart ps qs first second) h
  where
    by : (same : Bool) → (ways_part ps qs ≡ true → left_after (ps ++ first) (qs ++ second) ≡ None) → (not same || ways_part ps qs) ≡ true →
        (if same then left_after (ps ++ first) (qs ++ second) else None) ≡ None
    by true again h = again h
    by false again h = refl

pub map_found : {A B : Type 0} (f : A → B) (o : Option A) (y : B) → option_map f o ≡ Some y → (x : A) × (o ≡ Some x) × (f x ≡ y)
map_found f None y is = absurd (cc)
map_found f (Some x) y is = (x, refl, same_Some (f x) y is)

-- ---- elements that were set

-- numbers differ where those after them do
pub unequal_before : (j k : ℕ) → nat_eq (suc j) (suc k) ≡ false → nat_eq j k ≡ false
unequal_before j k h = by (nat_eq j k) refl
  where
    no_such : true ≡ false → ⊥
    no_such h = cc

    by : (same : Bool) → nat_eq j k ≡ same → same ≡ false
    by true is = absurd (no_such (sym (eq-eqb (suc j) (suc k) (ap suc (eqb-true j k is))) ∙ h))
    by false is = refl

pub set_same : {A : Type 0} (xs : List A) (k : ℕ) (x old : A) → slice_get xs k ≡ Some old → slice_get (slice_set xs k x) k ≡ Some x
set_same [] k x old h = absurd (cc)
set_same (y ∷ xs) zero x old h = refl
set_same (y ∷ xs) (suc k) x old h = set_same xs k x old h

pub set_other : {A : Type 0} (xs : List A) (j k : ℕ) (x : A) → nat_eq j k ≡ false → slice_get (slice_set xs k x) j ≡ slice_get xs j
set_other [] j k x h = refl
set_other (y ∷ xs) zero zero x h = absurd (cc)
set_other (y ∷ xs) zero (suc k) x h = refl
set_other (y ∷ xs) (suc j) zero x h = refl
set_other (y ∷ xs) (suc j) (suc k) x h = set_other xs j k x (unequal_before j k h)

-- ---- a value with a new part

module _ (structs : List StructDef) where
  -- different parts of a value of a type stand at ways that part
  abbrev pub Forked : Type 0
  Forked = (a c : Ty) (value u : Value) (j k : ℕ) → Fits structs a value → part_of j value ≡ Some u → part_type structs k a ≡ Some c →
      nat_eq j k ≡ false →
      ways_part (lead_to structs k a) (lead_to structs j a) ≡ true

  -- the number at positions of the new value stands at its way, where a C value was set at the way of the old part
  abbrev pub Written : Ty → Value → List ℕ → CValue → CValue → Type 0
  Written a made ks new held =
      (js : List ℕ) (n : ℤ) → number_within js made ≡ Some n →
      number_or (left_after (way_to structs ks (Some a)) (way_to structs js (Some a))) new (held (way_to structs js (Some a))) ≡ n

  -- a part that lies in a value of a type is of its type
  abbrev pub PartsFit : Type 0
  PartsFit = (a c : Ty) (k : ℕ) (value u : Value) → Fits structs a value → part_type structs k a ≡ Some c → part_of k value ≡ Some u →
      Fits structs c u

  -- what holds a value holds its parts
  holds_step : (a c : Ty) (k : ℕ) (value u : Value) (held : CValue) → Encodes structs a value held → part_type structs k a ≡ Some c → part_of k value
      ≡ Some u →
      Encodes structs c u (λ way. held (lead_to structs k a ++ way))
  holds_step a c k value u held holds typed there = record {
    each = λ js n is.
        ap (λ o. held (lead_to structs k a ++ way_to structs js o)) (sym typed)
        ∙ holds.each (k ∷ js) n (ap (λ o. option_and_then number_in (option_and_then (value_at js) o)) there ∙ is);
  }

  part_of_new : (all : List Value) (j : ℕ) → part_of j (Parts all) ≡ slice_get all j
  part_of_new all j = ap (λ (layer : Value-F Value). option_and_then (λ all. slice_get all j) (parts_at layer)) (outs-Parts all)

  module _ (a c : Ty) (k : ℕ) (ks : List ℕ) (all : List Value) (value part : Value) (new held : CValue) (are : parts_in value ≡ Some all)
      (typed : part_type structs k a ≡ Some c) where
    abbrev renewed : Value
    renewed = Parts (slice_set all k part)

    abbrev At : ℕ → List ℕ → ℤ → Type 0
    At j js n =
        number_or (left_after (way_to structs (k ∷ ks) (Some a)) (way_to structs (j ∷ js) (Some a))) new (held (way_to structs (j ∷ js) (Some a))) ≡ n

    -- the part that was set
    in_new : (old : Value) → slice_get all k ≡ Some old → Written c part ks new (λ way. held (lead_to structs k a ++ way)) →
        (js : List ℕ) (n : ℤ) →
        number_within (k ∷ js) renewed ≡ Some n → At k js n
    in_new old there again js n is =
        let found : number_within js part ≡ Some n =
        sym (ap (λ o. option_and_then number_in (option_and_then (value_at js) o)) (part_of_new (slice_set all k part) k ∙ set_same all k part old there))
        ∙ is in
        let lead = lead_to structs k a in
        ap (λ o. number_or (left_after (lead ++ way_to structs ks o) (lead ++ way_to structs js o)) new (held (lead ++ way_to structs js o))) typed
        ∙ (ap (λ left. number_or left new (held (lead ++ way_to structs js (Some c))))
        (left_behind lead (way_to structs ks (Some c)) (way_to structs js (Some c)))
        ∙ again js n found)

    -- another part
    in_other : Forked → Fits structs a value → Encodes structs a value held → (j : ℕ) (js : List ℕ) (n : ℤ) → nat_eq j k ≡ false →
        number_within (j ∷ js) renewed ≡ Some n → At j js n
    in_other forked fit holds j js n other is =
        let same : part_of j renewed ≡ part_of j value =
        part_of_new (slice_set all k part) j ∙ (set_other all j k part other ∙ sym (ap (option_and_then (λ all. slice_get all j)) are)) in
        let found : number_within (j ∷ js) value ≡ Some n = sym (ap (λ o. option_and_then number_in (option_and_then (value_at js) o)) same) ∙ is in
        let lies = some_found number_in (value_at (j ∷ js) value) n found in
        let there = some_found (value_at js) (part_of j value) lies.0 lies.1 in
        let apart : ways_part (lead_to structs k a) (lead_to structs j a) ≡ true = forked a c value there.0 j k fit there.1 typed other in
        ap (λ left. number_or left new (held (way_to structs (j ∷ js) (Some a))))
        (left_apart (lead_to structs k a) (lead_to structs j a) (way_to structs ks (part_type structs k a)) (way_to structs js (part_type structs j a)) apart)
        ∙ holds.each (j ∷ js) n found

    either : Forked → Fits structs a value → Encodes structs a value held → (old : Value) → slice_get all k ≡ Some old →
        Written c part ks new (λ way. held (lead_to structs k a ++ way)) → (j : ℕ) (js : List ℕ) (n : ℤ) → (same : Bool) → nat_eq j k ≡ same →
        number_within (j ∷ js) renewed ≡ Some n → At j js n
    either forked fit holds old there again j js n true is h =
        let j_is : k ≡ j = sym (eqb-true j k is) in
        subst (λ j. number_within (j ∷ js) renewed ≡ Some n → At j js n) j_is (in_new old there again js n) h
    either forked fit holds old there again j js n false is h = in_other forked fit holds j js n is h

    no_number : (n : ℤ) → number_within [] renewed ≡ Some n → ⊥
    no_number n h = none_is (sym (ap number_level (outs-Parts (slice_set all k part))) ∙ h)
      where
        none_is : None ≡ Some n → ⊥
        none_is h = cc

    pub step_written : Forked → Fits structs a value → Encodes structs a value held → (old : Value) → slice_get all k ≡ Some old →
        Written c part ks new (λ way. held (lead_to structs k a ++ way)) → Written a renewed (k ∷ ks) new held
    step_written forked fit holds old there again [] n is = absurd (no_number n is)
    step_written forked fit holds old there again (j ∷ js) n is = either forked fit holds old there again j js n (nat_eq j k) refl is

  none_after : (ks : List ℕ) (b : Ty) → type_after structs ks None ≡ Some b → ⊥
  none_after [] b h = cc
  none_after (k ∷ ks) b h = cc

  -- what is known of a part, where the way goes on in it
  abbrev Again : ℕ → List ℕ → Ty → Ty → Value → CValue → CValue → Type 0
  Again k ks a b whole new held = (c : Ty) (old part : Value) → Fits structs c old → type_after structs ks (Some c) ≡ Some b →
      Encodes structs c old (λ way. held (lead_to structs k a ++ way)) → with_value_at ks whole old ≡ Some part →
      Written c part ks new (λ way. held (lead_to structs k a ++ way))

  behind : Forked → PartsFit → (k : ℕ) (ks : List ℕ) (a b : Ty) (value whole : Value) (new held : CValue) → Fits structs a value →
      Encodes structs a value held → Again k ks a b whole new held → (o : Option Ty) → part_type structs k a ≡ o → type_after structs ks o
      ≡ Some b →
      (all : List Value) → parts_in value ≡ Some all → (old : Value) → slice_get all k ≡ Some old → part_of k value ≡ Some old →
      (part : Value) →
      with_value_at ks whole old ≡ Some part → Written a (Parts (slice_set all k part)) (k ∷ ks) new held
  behind forked fits k ks a b value whole new held fit holds again None is typed all are old there lies part made = absurd (none_after ks b typed)
  behind forked fits k ks a b value whole new held fit holds again (Some c) is typed all are old there lies part made =
      step_written a c k ks all value part new held are is forked fit holds old there
      (again c old part (fits a c k value old fit is lies) typed (holds_step a c k value old held holds is lies) made)

  -- a value with a new part is held where the part was set
  pub part_written : Forked → PartsFit → (ks : List ℕ) (a b : Ty) (value made whole : Value) (new held : CValue) → Fits structs a value →
      type_after structs ks (Some a) ≡ Some b → Encodes structs b whole new → Encodes structs a value held → with_value_at ks whole value ≡ Some made →
      Written a made ks new held
  part_written forked fits [] a b value made whole new held fit typed one holds is = λ js n h.
      ap (λ o. new (way_to structs js o)) typed ∙ one.each js n (ap (number_within js) (same_Some whole made is) ∙ h)
  part_written forked fits (k ∷ ks) a b value made whole new held fit typed one holds is =
      let parts = some_found (λ all. option_and_then (λ old. option_map (λ part. Parts (slice_set all k part)) (with_value_at ks whole old))
      (slice_get all k)) (parts_in value) made is in
      let old = some_found (λ old. option_map (λ part. Parts (slice_set parts.0 k part)) (with_value_at ks whole old)) (slice_get parts.0 k) made parts.2 in
      let part = map_found (λ part. Parts (slice_set parts.0 k part)) (with_value_at ks whole old.0) made old.2 in
      let lies : part_of k value ≡ Some old.0 = ap (option_and_then (λ all. slice_get all k)) parts.1 ∙ old.1 in
      subst (λ made. Written a made (k ∷ ks) new held) part.2
      (behind forked fits k ks a b value whole new held fit holds
      (λ c old part fit typed holds is. part_written forked fits ks c b old part whole new (λ way. held (lead_to structs k a ++ way)) fit typed one holds is)
      (part_type structs k a) refl typed parts.0 parts.1 old.0 old.1 lies part.0 part.1)
