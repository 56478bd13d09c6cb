-- Numbers of memory: which lie in a place, and which stay as they were when a place is set.
use Rattle.std.proofs.Common.{◌≡◌, ℕ, Bool, true, false, not, ◌&&◌, ◌||◌, List, [], ◌∷◌, ◌++◌, Option, Some, None, refl}
use Rattle.std.proofs.Common.{sym, ap, ap₂, ◌∙◌}
use Rattle.std.proofs.lemmas.Bool.{eq-eqb, eqb-true}
use Rattle.std.proofs.lemmas.Cmp.{nat_list_eq_equiv}
use Rattle.std.proofs.lemmas.List.{append-nil, append_assoc}
use Rattle.std.proofs.lemmas.Option.{same_Some}
use Rattle.std.proofs.lemmas.Slice.Eq.{bytes_eq-Decides}
use Rattle.std.specs.Prelude.{bytes_eq, is_some, ◌==◌, if◌then◌else◌}
use Rattle.std.proofs.lemmas.Bool.{and_parts}
use Rattle.bl_tree.specs.Typing.{TypingContext, is_activity}
use Rattle.bl_ctext_semantics.specs.Meaning.{Scope}
use Rattle.bl_ctext_semantics.specs.Memory.{CValue, Location, Memory, Projection, Root, element, input_object, left_after, member, number_or, output_object}
use Rattle.bl_ctext_semantics.specs.Memory.{same_part, same_root, set_at, state_object, value_at, variable, with_part}
use Rattle.bl_emit_acts_laws_simulation.specs.Acts.{lies_in}
use Rattle.bl_emit_acts_laws_simulation.specs.Encodes.{are_apart, home_at, lead_in, location_in, start_in, ways_part}

-- ---- tests of parts and roots are of equality

part_is : (p q : Projection) → same_part p q ≡ true → p ≡ q
part_is (member m) (member n) h = ap member ((bytes_eq-Decides m n).0 h)
part_is (element j) (element k) h = ap element (eqb-true j k h)
part_is (member m) (element k) h = absurd (cc)
part_is (element j) (member n) h = absurd (cc)

pub root_is : (a b : Root) → same_root a b ≡ true → a ≡ b
root_is state_object state_object h = refl
root_is input_object input_object h = refl
root_is output_object output_object h = refl
root_is (variable d m) (variable e n) h =
    let found = and_parts (d == e) (bytes_eq m n) h in ap₂ variable (eqb-true d e found.0) ((bytes_eq-Decides m n).0 found.1)
root_is state_object input_object h = absurd (cc)
root_is state_object output_object h = absurd (cc)
root_is state_object (variable e n) h = absurd (cc)
root_is input_object state_object h = absurd (cc)
root_is input_object output_object h = absurd (cc)
root_is input_object (variable e n) h = absurd (cc)
root_is output_object state_object h = absurd (cc)
root_is output_object input_object h = absurd (cc)
root_is output_object (variable e n) h = absurd (cc)
root_is (variable d m) state_object h = absurd (cc)
root_is (variable d m) input_object h = absurd (cc)
root_is (variable d m) output_object h = absurd (cc)

pub same_number_flip : (j k : ℕ) → (j == k) ≡ (k == j)
same_number_flip j k = by (j == k) (k == j) refl refl
  where
    no_such : true ≡ false → ⊥
    no_such h = cc

    by : (a b : Bool) → (j == k) ≡ a → (k == j) ≡ b → a ≡ b
    by true true h i = refl
    by false false h i = refl
    by true false h i = absurd (no_such (sym (eq-eqb k j (sym (eqb-true j k h))) ∙ i))
    by false true h i = absurd (no_such (sym (eq-eqb j k (sym (eqb-true k j i))) ∙ h))

pub part_flip : (p q : Projection) → same_part p q ≡ same_part q p
part_flip (member m) (member n) = nat_list_eq_equiv.symm m n
part_flip (element j) (element k) = same_number_flip j k
part_flip (member m) (element k) = refl
part_flip (element j) (member n) = refl

pub root_flip : (a b : Root) → same_root a b ≡ same_root b a
root_flip state_object state_object = refl
root_flip input_object input_object = refl
root_flip output_object output_object = refl
root_flip (variable d m) (variable e n) = ap₂ (λ a b. a && b) (same_number_flip d e) (nat_list_eq_equiv.symm m n)
root_flip state_object input_object = refl
root_flip state_object output_object = refl
root_flip state_object (variable e n) = refl
root_flip input_object state_object = refl
root_flip input_object output_object = refl
root_flip input_object (variable e n) = refl
root_flip output_object state_object = refl
root_flip output_object input_object = refl
root_flip output_object (variable e n) = refl
root_flip (variable d m) state_object = refl
root_flip (variable d m) input_object = refl
root_flip (variable d m) output_object = refl

pub ways_flip : (ps qs : List Projection) → ways_part ps qs ≡ ways_part qs ps
ways_flip [] [] = refl
ways_flip [] (q ∷ qs) = refl
ways_flip (p ∷ ps) [] = refl
ways_flip (p ∷ ps) (q ∷ qs) = ap₂ (λ a b. not a || b) (part_flip p q) (ways_flip ps qs)

-- what has nothing in common has nothing in common the other way round
pub apart_flip : (p q : Location) → are_apart p q ≡ true → are_apart q p ≡ true
apart_flip p q h = sym (ap₂ (λ a b. not a || b) (root_flip p.root q.root) (ways_flip p.parts q.parts)) ∙ h

-- ---- further on in places

pub ways_further : (ps qs more : List Projection) → ways_part ps qs ≡ true → ways_part (ps ++ more) qs ≡ true
ways_further [] qs more h = absurd (cc)
ways_further (p ∷ ps) [] more h = absurd (cc)
ways_further (p ∷ ps) (q ∷ qs) more h = by (same_part p q) (ways_further ps qs more) h
  where
    by : (same : Bool) → (ways_part ps qs ≡ true → ways_part (ps ++ more) qs ≡ true) → (not same || ways_part ps qs) ≡ true →
        (not same || ways_part (ps ++ more) qs) ≡ true
    by true again h = again h
    by false again h = refl

-- a place in a variable, by its parts
pub location_along : (scope : Scope) (site : TypingContext) (k : ℕ) (way : List Projection) →
    (location_in scope site k way).parts ≡ (location_in scope site k []).parts ++ way
location_along scope site k way =
    let start = start_in scope (is_activity site.kind) (home_at site k) site.vars k in
    let lead = lead_in (home_at site k) site.vars k in
    ap (λ front. start.parts ++ (front ++ way)) (sym (append-nil lead)) ∙ sym (append_assoc start.parts (lead ++ []) way)

pub or_split : (same a b : Bool) → (a ≡ true → b ≡ true) → (not same || a) ≡ true → (not same || b) ≡ true
or_split true a b next h = next h
or_split false a b next h = refl

-- what has nothing in common with a variable has nothing in common with a place in it
pub apart_inside : (scope : Scope) (site : TypingContext) (k : ℕ) (way : List Projection) (other : Location) → are_apart (location_in scope site k []) other ≡ true →
    are_apart (location_in scope site k way) other ≡ true
apart_inside scope site k way other h =
    let base = location_in scope site k [] in
    or_split (same_root base.root other.root) (ways_part base.parts other.parts) (ways_part (location_in scope site k way).parts other.parts)
    (λ h. ap (λ parts. ways_part parts other.parts) (location_along scope site k way) ∙ ways_further base.parts other.parts way h) h

pub after_further : (ps more way : List Projection) → is_some (left_after ps way) ≡ false → is_some (left_after (ps ++ more) way) ≡ false
after_further [] more way h = absurd (cc)
after_further (p ∷ ps) more [] h = refl
after_further (p ∷ ps) more (q ∷ way) h = by (same_part p q) (after_further ps more way) h
  where
    by : (same : Bool) → (is_some (left_after ps way) ≡ false → is_some (left_after (ps ++ more) way) ≡ false) →
        is_some (if same then left_after ps way else None) ≡ false → is_some (if same then left_after (ps ++ more) way else None) ≡ false
    by true again h = again h
    by false again h = refl

and_split : (same a b : Bool) → (a ≡ false → b ≡ false) → (same && a) ≡ false → (same && b) ≡ false
and_split true a b next h = next h
and_split false a b next h = refl

-- what doesn't lie in a variable doesn't lie in a place in it
pub lies_inside : (scope : Scope) (site : TypingContext) (k : ℕ) (way : List Projection) (root : Root) (at : List Projection) → lies_in (location_in scope site k []) root at
    ≡ false → lies_in (location_in scope site k way) root at ≡ false
lies_inside scope site k way root at h =
    let base = location_in scope site k [] in
    and_split (same_root base.root root) (is_some (left_after base.parts at)) (is_some (left_after (location_in scope site k way).parts at))
    (λ h. ap (λ parts. is_some (left_after parts at)) (location_along scope site k way) ∙ after_further base.parts way at h) h

-- ---- what is set

-- numbers outside of a place stay when it is set
pub set_elsewhere : (here : Memory) (place : Location) (held : CValue) (root : Root) (way : List Projection) → lies_in place root way ≡ false →
    set_at here place held root way ≡ here root way
set_elsewhere here place held root way h = by (same_root place.root root) (left_after place.parts way) refl h
  where
    by : (same : Bool) (left : Option (List Projection)) → left_after place.parts way ≡ left → (same && is_some (left_after place.parts way)) ≡ false →
        (if same then with_part (here root) place.parts held else here root) way ≡ here root way
    by false left is h = refl
    by true None is h = ap (λ left. number_or left held (here root way)) is
    by true (Some rest) is h = absurd (let no = sym (ap is_some is) ∙ h in cc)

-- a way is what is left of it, after the front
left_is : (ps way rest : List Projection) → left_after ps way ≡ Some rest → way ≡ ps ++ rest
left_is [] way rest h = same_Some way rest h
left_is (p ∷ ps) [] rest h = absurd (cc)
left_is (p ∷ ps) (q ∷ way) rest h = by (same_part p q) refl (left_is ps way rest) h
  where
    by : (same : Bool) → same_part p q ≡ same → (left_after ps way ≡ Some rest → way ≡ ps ++ rest) →
        (if same then left_after ps way else None) ≡ Some rest → q ∷ way ≡ p ∷ (ps ++ rest)
    by true is again h = ap₂ (λ p rest. p ∷ rest) (sym (part_is p q is)) (again h)
    by false is again h = absurd (cc)

-- numbers inside a place that is set to what another memory has there are those of that memory
pub set_inside : (here after : Memory) (place : Location) (root : Root) (way : List Projection) → lies_in place root way ≡ true →
    set_at here place (value_at after place) root way ≡ after root way
set_inside here after place root way h = by (same_root place.root root) refl (left_after place.parts way) refl h
  where
    by : (same : Bool) → same_root place.root root ≡ same → (left : Option (List Projection)) → left_after place.parts way ≡ left →
        (same && is_some (left_after place.parts way)) ≡ true →
        (if same then with_part (here root) place.parts (value_at after place) else here root) way ≡ after root way
    by false same left is h = absurd (cc)
    by true same None is h = absurd (let no = sym (ap is_some is) ∙ h in cc)
    by true same (Some rest) is h =
        ap (λ left. number_or left (value_at after place) (here root way)) is
        ∙ (ap (λ root. after root (place.parts ++ rest)) (root_is place.root root same) ∙ ap (after root) (sym (left_is place.parts way rest is)))
