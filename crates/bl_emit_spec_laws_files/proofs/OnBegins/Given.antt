-- The places that a call of an activity gives: what keeps apart.
use Rattle.std.proofs.Common.{◌≡◌, ℕ, zero, suc, ◌+◌, ◌≤◌, arith, Bool, true, false, ◌&&◌, List, [], ◌∷◌}
use Rattle.std.proofs.Common.{◌++◌, length, map}
use Rattle.std.proofs.Common.{Some, refl, ap, ◌∙◌}
use Rattle.std.proofs.lemmas.Option.{same_Some}
use Rattle.std.specs.Prelude.{slice_get}
use Rattle.std.specs.List.{list_all}
use Rattle.bl_tree.proofs.Basics.{and_first, and_second}
use Rattle.bl_tree.specs.declared.tree.StructDef.{StructDef}
use Rattle.bl_tree.specs.declared.tree.Var.{Var}
use Rattle.bl_tree.specs.declared.value.Value.{Value}
use Rattle.bl_ctext_semantics.specs.Meaning.{ArgumentValue, by_address}
use Rattle.bl_ctext_semantics.specs.Memory.{Location, Memory}
use Rattle.bl_emit_acts_laws_simulation.specs.Acts.{OutputsEncoded, all_apart, places_in_args}
use Rattle.bl_emit_acts_laws_simulation.specs.Encodes.{are_apart}
use Rattle.bl_emit_acts_laws_simulation.specs.Simulation.{ArgumentsEncoded}
use Rattle.bl_emit_spec_laws.specs.Calls.Calls.{where_true}
use Rattle.bl_emit_functions_laws_simulation.proofs.OnCalls.Lists.{all_at}
use Rattle.bl_emit_acts_laws_simulation.proofs.Cells.{apart_flip}
use Rattle.bl_emit_functions_laws_simulation.proofs.OnCalls.Handing.{all_front, in_either, input_place, output_place}

-- ---- lists

-- what is said of one thing that is left out where a test is false
pub one_where : {A : Type 0} (test : A → Bool) (b : Bool) (x : A) → b ≡ true → list_all test (where_true b x) ≡ true → test x ≡ true
one_where test true x is h = and_first (test x) true h
one_where test false x is h = absurd (cc)

-- ---- places that keep apart

-- each of these keeps apart from each of those
abbrev pub AllApart : List Location → List Location → Type 0
AllApart xs ys = list_all (λ (x : Location). list_all (are_apart x) ys) xs ≡ true

pub apart_split : (xs ys : List Location) → all_apart (xs ++ ys) ≡ true → AllApart xs ys × (all_apart xs ≡ true) × (all_apart ys ≡ true)
apart_split [] ys h = (refl, refl, h)
apart_split (x ∷ xs) ys h =
    let first = all_front (are_apart x) xs ys (and_first (list_all (are_apart x) (xs ++ ys)) (all_apart (xs ++ ys)) h) in
    let rest = apart_split xs ys (and_second (list_all (are_apart x) (xs ++ ys)) (all_apart (xs ++ ys)) h) in (
      ap (λ b. b && list_all (λ (x : Location). list_all (are_apart x) ys) xs) first.1 ∙ rest.0,
      ap (λ b. b && all_apart xs) first.0 ∙ rest.1,
      rest.2,
    )

pub apart_parts : (xs ys zs : List Location) → AllApart xs (ys ++ zs) → AllApart xs ys × AllApart xs zs
apart_parts [] ys zs h = (refl, refl)
apart_parts (x ∷ xs) ys zs h =
    let first = all_front (are_apart x) ys zs (and_first (list_all (are_apart x) (ys ++ zs)) _ h) in
    let rest = apart_parts xs ys zs (and_second (list_all (are_apart x) (ys ++ zs)) _ h) in (
      ap (λ b. b && list_all (λ (x : Location). list_all (are_apart x) ys) xs) first.0 ∙ rest.0,
      ap (λ b. b && list_all (λ (x : Location). list_all (are_apart x) zs) xs) first.1 ∙ rest.1,
    )

-- the other way round, for one place
pub one_flip : (xs : List Location) (y : Location) → AllApart xs (y ∷ []) → list_all (are_apart y) xs ≡ true
one_flip [] y h = refl
one_flip (x ∷ xs) y h =
    ap (λ b. b && list_all (are_apart y) xs) (apart_flip x y (and_first (are_apart x y) true (and_first (list_all (are_apart x) (y ∷ [])) _ h)))
    ∙ one_flip xs y (and_second (list_all (are_apart x) (y ∷ [])) _ h)

-- ---- places among arguments

pub place_output : (outputs : List Location) (j : ℕ) (p : Location) → slice_get outputs j ≡ Some p →
    slice_get (map by_address outputs) j ≡ Some (by_address p)
place_output [] j p h = absurd (cc)
place_output (q ∷ outputs) zero p h = ap (λ q. Some (by_address q)) (same_Some q p h)
place_output (q ∷ outputs) (suc j) p h = place_output outputs j p h

-- what is said of the places of all inputs and of all outputs is said of each place that is given
pub place_where : (test : Location → Bool) (inputs : List ArgumentValue) (outputs : List Location) (j : ℕ) (p : Location) →
    list_all test (places_in_args inputs) ≡ true → list_all test outputs ≡ true →
    slice_get (inputs ++ map by_address outputs) j ≡ Some (by_address p) → test p ≡ true
place_where test inputs outputs j p first second there =
    in_either (test p ≡ true) inputs (map by_address outputs) j (by_address p) there
    (λ inside. input_place test inputs j p first inside)
    (λ m is at. all_at test outputs m p second (output_place outputs m p at))

-- ---- how many they are

pub inputs_many : (structs : List StructDef) (depth : ℕ) (here : Memory) (vars : List Var) (values : List Value) (passed : List ArgumentValue) →
    ArgumentsEncoded structs depth here vars values passed → length passed ≡ length vars
inputs_many structs depth here [] [] [] h = refl
inputs_many structs depth here [] [] (p ∷ passed) h = absurd h
inputs_many structs depth here [] (v ∷ values) passed h = absurd h
inputs_many structs depth here (x ∷ vars) [] passed h = absurd h
inputs_many structs depth here (x ∷ vars) (v ∷ values) [] h = absurd h
inputs_many structs depth here (x ∷ vars) (v ∷ values) (p ∷ passed) h = ap suc (inputs_many structs depth here vars values passed h.1)

pub outputs_many : (structs : List StructDef) (here : Memory) (vars : List Var) (values : List Value) (outputs : List Location) →
    OutputsEncoded structs here vars values outputs → length outputs ≡ length vars
outputs_many structs here [] [] [] h = refl
outputs_many structs here [] [] (p ∷ outputs) h = absurd h
outputs_many structs here [] (v ∷ values) outputs h = absurd h
outputs_many structs here (x ∷ vars) [] outputs h = absurd h
outputs_many structs here (x ∷ vars) (v ∷ values) [] h = absurd h
outputs_many structs here (x ∷ vars) (v ∷ values) (p ∷ outputs) h = ap suc (outputs_many structs here vars values outputs h.1)
