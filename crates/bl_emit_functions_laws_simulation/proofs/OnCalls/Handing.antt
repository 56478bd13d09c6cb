-- How the arguments of a call are handed over.
use Rattle.std.proofs.Common.{◌≡◌, ℕ, zero, suc, ◌+◌, ◌<◌, ◌≤◌, arith, Bool, true, false, ◌&&◌, ◌||◌, List}
use Rattle.std.proofs.Common.{[], ◌∷◌, ◌++◌, length, map, take, Option, Some, None, refl, sym, ap, ◌∙◌, subst}
use Rattle.std.proofs.Math.Seq.{take-add}
use Rattle.std.proofs.lemmas.Bool.{eq-eqb, leb-true, lt-ltb}
use Rattle.std.proofs.lemmas.List.{length-take}
use Rattle.std.proofs.lemmas.Option.{same_Some, slice_get_within}
use Rattle.std.specs.Prelude.{is_none, is_some, nat_eq, slice_get}
use Rattle.std.specs.List.{list_all}
use Rattle.bl_tree.proofs.Basics.{and_first, and_second, get_in_front, is_none_of, or_true, true_not_false}
use Rattle.bl_tree.specs.declared.tree.Role.{Role}
use Rattle.bl_tree.specs.declared.tree.Role.TheVariants.{Input, Output, Variable, Fixed}
use Rattle.bl_tree.specs.declared.tree.StructDef.{StructDef}
use Rattle.bl_tree.specs.declared.tree.Unit.{Unit as UnitDef}
use Rattle.bl_tree.specs.declared.tree.Var.{Var}
use Rattle.bl_tree.specs.declared.value.Value.{Value}
use Rattle.bl_tree.specs.Program.{is_input, is_output, parameters_of, roles_stand}
use Rattle.bl_tree.specs.Types.{scalar_in}
use Rattle.bl_tree.specs.Typing.{inputs_of, outputs_of}
use Rattle.bl_ctext_semantics.specs.Meaning.{ArgumentValue, by_address, by_value}
use Rattle.bl_ctext_semantics.specs.Memory.{Location, Memory, Root, input_object, output_object, state_object, variable}
use Rattle.bl_emit_acts_laws_simulation.specs.Acts.{MayPass, OutputsEncoded, all_apart, place_in_arg, places_in_args}
use Rattle.bl_emit_acts_laws_simulation.specs.Frames.{is_older}
use Rattle.bl_emit_acts_laws_simulation.specs.Encodes.{are_apart, is_live}
use Rattle.bl_emit_acts_laws_simulation.specs.Simulation.{ArgumentEncoded, ArgumentsEncoded}
use Rattle.bl_emit_functions_laws_simulation.specs.Calls.{ArgFor, Handed, HandedOver, HandsOver}
use Rattle.bl_emit_functions_laws_simulation.proofs.OnCalls.Lists.{all_at}
use Rattle.bl_emit_functions_laws_simulation.proofs.OnCalls.Standing.{roles, stands_at}
use Rattle.bl_emit_acts_laws_simulation.proofs.Cells.{apart_flip}

-- ---- lists

-- an element of two lists is one of the first or of the second
pub in_either : {A : Type 0} (P : Type 0) (xs ys : List A) (k : ℕ) (x : A) → slice_get (xs ++ ys) k ≡ Some x → (slice_get xs k ≡ Some x → P) →
    ((j : ℕ) → k ≡ length xs + j → slice_get ys j ≡ Some x → P) → P
in_either P [] ys k x there first second = second k (omega arith) there
in_either P (y ∷ xs) ys zero x there first second = first there
in_either P (y ∷ xs) ys (suc k) x there first second = in_either P xs ys k x there first (λ j is there. second j (omega (arith, is)) there)

pub get_behind : {A : Type 0} (xs ys : List A) (n j i : ℕ) → length xs ≡ n → i ≡ n + j → slice_get (xs ++ ys) i ≡ slice_get ys j
get_behind [] ys zero j i is at = ap (slice_get ys) (omega (arith, at))
get_behind [] ys (suc n) j i is at = absurd (omega (arith, is))
get_behind (x ∷ xs) ys zero j i is at = absurd (omega (arith, is))
get_behind (x ∷ xs) ys (suc n) j zero is at = absurd (omega (arith, at))
get_behind (x ∷ xs) ys (suc n) j (suc i) is at = get_behind xs ys n j i (omega (arith, is)) (omega (arith, at))

pub length_both : {A : Type 0} (xs ys : List A) → length (xs ++ ys) ≡ length xs + length ys
length_both [] ys = omega arith
length_both (x ∷ xs) ys = let more : length (xs ++ ys) ≡ length xs + length ys = length_both xs ys in omega (arith, more)

pub all_front : {A : Type 0} (test : A → Bool) (xs ys : List A) → list_all test (xs ++ ys) ≡ true
    → (list_all test xs ≡ true) × (list_all test ys ≡ true)
all_front test [] ys h = (refl, h)
all_front test (x ∷ xs) ys h =
    let rest = all_front test xs ys (and_second (test x) (list_all test (xs ++ ys)) h) in
    (ap (λ b. b && list_all test xs) (and_first (test x) (list_all test (xs ++ ys)) h) ∙ rest.0, rest.1)

pub live_older : (depth : ℕ) (root : Root) → is_live depth root ≡ true → is_older (depth + 1) root ≡ true
live_older depth state_object h = refl
live_older depth input_object h = refl
live_older depth output_object h = refl
live_older depth (variable d name) h =
    let less : d ≤ depth = leb-true d depth h in lt-ltb d (depth + 1) (omega (arith, less))

input_alone : (role : Role) → is_input role ≡ true → is_output role ≡ false
input_alone Input h = refl
input_alone Output h = absurd (cc)
input_alone Variable h = refl
input_alone Fixed h = refl

some_there : {A : Type 0} (o : Option A) (x : A) → o ≡ Some x → is_some o ≡ true
some_there None x h = absurd (cc)
some_there (Some y) x h = refl

-- ---- inputs and outputs

module _ (structs : List StructDef) (depth : ℕ) (here : Memory) where
  abbrev At : List Value → List ArgumentValue → ℕ → Var → Type 0
  At = Handed structs (depth + 1) here

  input_for : (var : Var) (value : Value) (arg : ArgumentValue) → is_input var.role ≡ true → ArgumentEncoded structs depth here var.ty value arg →
      ArgFor structs (depth + 1) here var value arg
  input_for var value (by_value held) role h = (input_alone var.role role, some_there (scalar_in var.ty) h.0 h.1, h.2)
  input_for var value (by_address place) role h = (
    ap (λ b. is_output var.role || b) (is_none_of (scalar_in var.ty) h.0) ∙ or_true (is_output var.role),
    live_older depth place.root h.1,
    h.2,
  )

  input_at : (vars : List Var) (values : List Value) (passed : List ArgumentValue) (j : ℕ) (var : Var) →
      ArgumentsEncoded structs depth here vars values passed →
      list_all (λ (var : Var). is_input var.role) vars ≡ true → slice_get vars j ≡ Some var → At values passed j var
  input_at [] values passed j var holds role there = absurd (cc)
  input_at (v ∷ vars) [] passed j var holds role there = absurd holds
  input_at (v ∷ vars) (value ∷ values) [] j var holds role there = absurd holds
  input_at (v ∷ vars) (value ∷ values) (arg ∷ passed) zero var holds role there =
      subst (At (value ∷ values) (arg ∷ passed) 0) (same_Some v var there)
      (record { arg = arg; value = value; is_passed = refl; is_value = refl; fits = input_for v value arg (and_first _ _ role) holds.0 })
  input_at (v ∷ vars) (value ∷ values) (arg ∷ passed) (suc j) var holds role there =
      let found : At values passed j var = input_at vars values passed j var holds.1 (and_second _ _ role) there in
      record { arg = found.arg; value = found.value; is_passed = found.is_passed; is_value = found.is_value; fits = found.fits }

  output_at : (vars : List Var) (given : List Value) (outputs : List Location) (j : ℕ) (var : Var) → OutputsEncoded structs here vars given outputs →
      list_all (λ (var : Var). is_output var.role) vars ≡ true → list_all (λ (place : Location). is_live depth place.root) outputs ≡ true →
      slice_get vars j ≡ Some var → At given (map by_address outputs) j var
  output_at [] given outputs j var holds role live there = absurd (cc)
  output_at (v ∷ vars) [] outputs j var holds role live there = absurd holds
  output_at (v ∷ vars) (value ∷ given) [] j var holds role live there = absurd holds
  output_at (v ∷ vars) (value ∷ given) (place ∷ outputs) zero var holds role live there =
      subst (At (value ∷ given) (by_address place ∷ map by_address outputs) 0) (same_Some v var there)
      (record {
        arg = by_address place;
        value = value;
        is_passed = refl;
        is_value = refl;
        fits = (ap (λ b. b || is_none (scalar_in v.ty)) (and_first _ _ role), live_older depth place.root (and_first _ _ live), holds.0);
      })
  output_at (v ∷ vars) (value ∷ given) (place ∷ outputs) (suc j) var holds role live there =
      let found : At given (map by_address outputs) j var =
      output_at vars given outputs j var holds.1 (and_second _ _ role) (and_second _ _ live) there in
      record { arg = found.arg; value = found.value; is_passed = found.is_passed; is_value = found.is_value; fits = found.fits }

  pub inputs_many : (vars : List Var) (values : List Value) (passed : List ArgumentValue) → ArgumentsEncoded structs depth here vars values passed →
      (length values ≡ length vars) × (length passed ≡ length vars)
  inputs_many [] [] [] h = (refl, refl)
  inputs_many [] [] (p ∷ passed) h = absurd h
  inputs_many [] (v ∷ values) passed h = absurd h
  inputs_many (x ∷ vars) [] passed h = absurd h
  inputs_many (x ∷ vars) (v ∷ values) [] h = absurd h
  inputs_many (x ∷ vars) (v ∷ values) (p ∷ passed) h =
      let rest = inputs_many vars values passed h.1 in (ap suc rest.0, ap suc rest.1)

  outputs_many : (vars : List Var) (given : List Value) (outputs : List Location) → OutputsEncoded structs here vars given outputs →
      length given ≡ length vars
  outputs_many [] [] [] h = refl
  outputs_many [] [] (p ∷ outputs) h = absurd h
  outputs_many [] (v ∷ given) outputs h = absurd h
  outputs_many (x ∷ vars) [] outputs h = absurd h
  outputs_many (x ∷ vars) (v ∷ given) [] h = absurd h
  outputs_many (x ∷ vars) (v ∷ given) (p ∷ outputs) h = ap suc (outputs_many vars given outputs h.1)

-- ---- places

pub output_place : (outputs : List Location) (j : ℕ) (p : Location) → slice_get (map by_address outputs) j ≡ Some (by_address p) →
    slice_get outputs j ≡ Some p
output_place [] j p h = absurd (cc)
output_place (q ∷ outputs) zero p h = ap place_of (same_Some (by_address q) (by_address p) h)
  where
    place_of : ArgumentValue → Option Location
    place_of (by_value held) = None
    place_of (by_address at) = Some at
output_place (q ∷ outputs) (suc j) p h = output_place outputs j p h

pub input_place : (test : Location → Bool) (passed : List ArgumentValue) (j : ℕ) (p : Location) → list_all test (places_in_args passed) ≡ true →
    slice_get passed j ≡ Some (by_address p) → test p ≡ true
input_place test [] j p all h = absurd (cc)
input_place test (a ∷ passed) zero p all h =
    and_first (test p) true
    (subst (λ arg. list_all test (place_in_arg arg) ≡ true) (same_Some a (by_address p) h)
    (all_front test (place_in_arg a) (places_in_args passed) all).0)
input_place test (a ∷ passed) (suc j) p all h = input_place test passed j p (all_front test (place_in_arg a) (places_in_args passed) all).1 h

outputs_apart : (outputs : List Location) (j k : ℕ) (p q : Location) → all_apart outputs ≡ true → slice_get outputs j ≡ Some p →
    slice_get outputs k ≡ Some q → (j ≡ k → ⊥) → are_apart p q ≡ true
outputs_apart [] j k p q all h i differ = absurd (cc)
outputs_apart (o ∷ outputs) zero zero p q all h i differ = absurd (differ refl)
outputs_apart (o ∷ outputs) zero (suc k) p q all h i differ =
    ap (λ o. are_apart o q) (sym (same_Some o p h)) ∙ all_at (are_apart o) outputs k q (and_first _ _ all) i
outputs_apart (o ∷ outputs) (suc j) zero p q all h i differ =
    apart_flip q p (ap (λ o. are_apart o p) (sym (same_Some o q i)) ∙ all_at (are_apart o) outputs j p (and_first _ _ all) h)
outputs_apart (o ∷ outputs) (suc j) (suc k) p q all h i differ =
    outputs_apart outputs j k p q (and_second _ _ all) h i (λ same. differ (ap suc same))

-- ---- the whole

module _ (structs : List StructDef) (unit : UnitDef) (standing : roles_stand unit ≡ true) (depth : ℕ) (here : Memory) (values given : List Value)
    (passed : List ArgumentValue) (outputs : List Location) (holds : ArgumentsEncoded structs depth here (inputs_of unit) values passed)
    (outs : OutputsEncoded structs here (outputs_of unit) given outputs) (may : MayPass depth passed outputs) where
  abbrev n : ℕ
  n = unit.inputs + unit.outputs

  abbrev Found : ℕ → Var → Type 0
  Found = Handed structs (depth + 1) here (values ++ given) (passed ++ map by_address outputs)

  many : (length values ≡ length (inputs_of unit)) × (length passed ≡ length (inputs_of unit))
  many = inputs_many structs depth here (inputs_of unit) values passed holds

  parameters_are : parameters_of unit ≡ inputs_of unit ++ outputs_of unit
  parameters_are = take-add unit.inputs unit.outputs unit.vars

  all_inputs : list_all (λ (var : Var). is_input var.role) (inputs_of unit) ≡ true
  all_inputs = and_first _ _ (and_second _ _ standing)

  all_outputs : list_all (λ (var : Var). is_output var.role) (outputs_of unit) ≡ true
  all_outputs = and_first _ _ (and_second _ _ (and_second _ _ standing))

  each : (k : ℕ) (var : Var) → slice_get (parameters_of unit) k ≡ Some var → Found k var
  each k var there =
      in_either (Found k var) (inputs_of unit) (outputs_of unit) k var (ap (λ vars. slice_get vars k) (sym parameters_are) ∙ there)
      (λ first.
      let found : Handed structs (depth + 1) here values passed k var =
      input_at structs depth here (inputs_of unit) values passed k var holds all_inputs first in
      record {
        arg = found.arg;
        value = found.value;
        is_passed = get_in_front passed (map by_address outputs) k found.arg found.is_passed;
        is_value = get_in_front values given k found.value found.is_value;
        fits = found.fits;
      })
      (λ j is second.
      let found : Handed structs (depth + 1) here given (map by_address outputs) j var =
      output_at structs depth here (outputs_of unit) given outputs j var outs all_outputs may.live second in
      record {
        arg = found.arg;
        value = found.value;
        is_passed = get_behind passed (map by_address outputs) (length (inputs_of unit)) j k many.1 is ∙ found.is_passed;
        is_value = get_behind values given (length (inputs_of unit)) j k many.0 is ∙ found.is_value;
        fits = found.fits;
      })

  as_many : length (values ++ given) ≡ n
  as_many =
      let within : n ≤ length unit.vars = leb-true n (length unit.vars) (and_first _ _ standing) in
      let total : length (parameters_of unit) ≡ n = omega (arith, length-take n unit.vars, within) in
      let both : length (parameters_of unit) ≡ length (inputs_of unit) + length (outputs_of unit) =
      ap (λ (vars : List Var). length vars) parameters_are ∙ length_both (inputs_of unit) (outputs_of unit) in
      let ends : length (values ++ given) ≡ length values + length given = length_both values given in
      let first : length values ≡ length (inputs_of unit) = many.0 in
      let second : length given ≡ length (outputs_of unit) = outputs_many structs depth here (outputs_of unit) given outputs outs in
      omega (arith, total, both, ends, first, second)

  apart : (j k : ℕ) (var : Var) (p q : Location) → slice_get (parameters_of unit) j ≡ Some var → is_output var.role ≡ true →
      slice_get (passed ++ map by_address outputs) j ≡ Some (by_address p) → slice_get (passed ++ map by_address outputs) k ≡ Some (by_address q) →
      nat_eq j k ≡ false → are_apart p q ≡ true
  apart j k var p q there role first second differ =
      in_either (are_apart p q ≡ true) passed (map by_address outputs) j (by_address p) first
      (λ inside.
      let less : j < length passed = slice_get_within passed j (by_address p) inside in
      let as_many : length passed ≡ length (inputs_of unit) = many.1 in
      absurd (in_either ⊥ (inputs_of unit) (outputs_of unit) j var (ap (λ vars. slice_get vars j) (sym parameters_are) ∙ there)
      (λ input. true_not_false (sym role ∙ input_alone var.role (all_at (λ (var : Var). is_input var.role) (inputs_of unit) j var all_inputs input)))
      (λ i is output. omega (arith, less, as_many, is))))
      (λ i is at.
      in_either (are_apart p q ≡ true) passed (map by_address outputs) k (by_address q) second
      (λ inside.
      input_place (are_apart p) passed k q
      (all_at (λ output. list_all (are_apart output) (places_in_args passed)) outputs i p may.inputs_apart (output_place outputs i p at)) inside)
      (λ m other to.
      outputs_apart outputs i m p q may.apart (output_place outputs i p at) (output_place outputs m q to)
      (λ same. true_not_false (sym (eq-eqb j k (omega (arith, is, other, same))) ∙ differ))))

  pub handed_over : HandedOver structs unit (depth + 1) here (values ++ given) (passed ++ map by_address outputs)
  handed_over = record { each = each; as_many = as_many; apart = apart }

pub hand_over_all : (structs : List StructDef) (units : List UnitDef) (entry : ℕ) → HandsOver structs units entry
hand_over_all structs units entry k unit depth here values given passed outputs keeps there holds outs may =
    handed_over structs unit (roles structs (take k units) unit (stands_at structs units entry k unit keeps there)) depth here values given passed outputs holds
    outs may
