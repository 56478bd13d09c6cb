-- Where the parameters of a C function stand once it is called.
use Rattle.std.proofs.Common.{◌≡◌, ℕ, zero, suc, ◌+◌, ◌<◌, ◌≤◌, ◌^◌, arith, Bool, true, false}
use Rattle.std.proofs.Common.{◌&&◌, List, [], ◌∷◌, ◌++◌, length, Option, Some, None, refl, ap, ◌∙◌, subst}
use Rattle.std.proofs.lemmas.Option.{same_Some}
use Rattle.std.specs.Prelude.{bytes_eq, slice_get, ◌==◌, if◌then◌else◌}
use Rattle.bl_tree.specs.declared.c.CParam.{CParam}
use Rattle.bl_tree.specs.declared.text.Text.{Text}
use Rattle.bl_tree.specs.declared.tree.StructDef.{StructDef}
use Rattle.bl_tree.specs.declared.tree.Var.{Var}
use Rattle.bl_ctext_semantics.specs.Meaning.{ArgumentValue, by_address, by_value, pointers_of, with_params}
use Rattle.bl_ctext_semantics.specs.Memory.{CValue, Location, Memory, Projection, set_at, variable, with_part}
use Rattle.bl_ctext_semantics.specs.Tables.{found}
use Rattle.bl_emit_acts.specs.Types.{variable_name}
use Rattle.bl_emit_functions.specs.Functions.{params_from}
use Rattle.bl_emit_acts_laws_simulation.proofs.NumberedNames.{names_differ}
use Rattle.bl_emit_acts_laws_simulation.proofs.Frames.{own_differ}
use Rattle.bl_emit_functions_laws_simulation.proofs.OnBodies.Flags.{variable_itself}
use Rattle.bl_emit_functions_laws_simulation.proofs.OnCalls.Params.{name_itself}

module _ (structs : List StructDef) (all : List Var) (depth : ℕ) where
  -- a variable of the frame whose name no parameter has keeps what it has
  pub other_stays : (vars : List Var) (n : ℕ) (passed : List ArgumentValue) (m : Memory) (name : List ℕ) (way : List Projection) →
      ((i : ℕ) → n ≤ i → i < n + length vars → bytes_eq (variable_name all i) name ≡ false) →
      with_params depth (params_from structs all n vars) passed m (variable depth name) way ≡ m (variable depth name) way
  other_stays [] n [] m name way h = refl
  other_stays [] n (by_value v ∷ rest) m name way h = refl
  other_stays [] n (by_address p ∷ rest) m name way h = refl
  other_stays (var ∷ vars) n [] m name way h = refl
  other_stays (var ∷ vars) n (by_value v ∷ rest) m name way h =
      other_stays vars (n + 1) rest (set_at m (record { root = variable depth (variable_name all n); parts = [] }) v) name way
      (λ i more less. h i (omega (arith, more)) (omega (arith, less)))
      ∙ ap (λ b. (if b then with_part (m (variable depth name)) [] v else m (variable depth name)) way)
      (own_differ depth (variable_name all n) name (h n (omega arith) (omega arith)))
  other_stays (var ∷ vars) n (by_address p ∷ rest) m name way h =
      other_stays vars (n + 1) rest m name way (λ i more less. h i (omega (arith, more)) (omega (arith, less)))

  -- a parameter by value has the number of its argument
  pub value_given : (vars : List Var) (n i j : ℕ) (passed : List ArgumentValue) (m : Memory) (held : CValue) (way : List Projection) → j ≡ n + i →
      i < length vars → n + length vars ≤ 2 ^ 64 → slice_get passed i ≡ Some (by_value held) →
      with_params depth (params_from structs all n vars) passed m (variable depth (variable_name all j)) way ≡ held way
  value_given [] n i j passed m held way is less few there = absurd (omega (arith, less))
  value_given (var ∷ vars) n i j [] m held way is less few there = absurd (cc)
  value_given (var ∷ vars) n zero j (by_value v ∷ rest) m held way is less few there =
      let at : n ≡ j = omega (arith, is) in
      subst (λ j. with_params depth (params_from structs all n (var ∷ vars)) (by_value v ∷ rest) m
      (variable depth (variable_name all j)) way ≡ held way) at
      (other_stays vars (n + 1) rest (set_at m (record { root = variable depth (variable_name all n); parts = [] }) v) (variable_name all n) way
      (λ i more less. names_differ 118 all i n (omega (arith, less, few)) (omega (arith, few)) (λ same. omega (arith, same, more)))
      ∙ ap (λ b. (if b then with_part (m (variable depth (variable_name all n))) [] v else m (variable depth (variable_name all n))) way)
      (variable_itself depth (variable_name all n))
      ∙ ap (λ value. value way) (same_value (same_Some (by_value v) (by_value held) there)))
    where
      same_value : by_value v ≡ by_value held → v ≡ held
      same_value h = ap (λ (p : ArgumentValue). held_in p) h
        where
          held_in : ArgumentValue → CValue
          held_in (by_value value) = value
          held_in (by_address place) = v
  value_given (var ∷ vars) n zero j (by_address p ∷ rest) m held way is less few there = absurd (cc)
  value_given (var ∷ vars) n (suc i) j (by_value v ∷ rest) m held way is less few there =
      value_given vars (n + 1) i j rest (set_at m (record { root = variable depth (variable_name all n); parts = [] }) v) held way (omega (arith, is))
      (omega (arith, less)) (omega (arith, few)) there
  value_given (var ∷ vars) n (suc i) j (by_address p ∷ rest) m held way is less few there =
      value_given vars (n + 1) i j rest m held way (omega (arith, is)) (omega (arith, less)) (omega (arith, few)) there

  -- a pointer leads to the place of its argument
  pub pointer_given : (vars : List Var) (n i j : ℕ) (passed : List ArgumentValue) (place : Location) → j ≡ n + i →
      i < length vars → n + length vars ≤ 2 ^ 64 → slice_get passed i ≡ Some (by_address place) →
      found (variable_name all j) (pointers_of (params_from structs all n vars) passed) ≡ Some place
  pointer_given [] n i j passed place is less few there = absurd (omega (arith, less))
  pointer_given (var ∷ vars) n i j [] place is less few there = absurd (cc)
  pointer_given (var ∷ vars) n zero j (by_value v ∷ rest) place is less few there = absurd (cc)
  pointer_given (var ∷ vars) n zero j (by_address p ∷ rest) place is less few there =
      let at : n ≡ j = omega (arith, is) in
      subst (λ j. found (variable_name all j) (pointers_of (params_from structs all n (var ∷ vars)) (by_address p ∷ rest)) ≡ Some place) at
      (ap (λ b. if b then Some p else found (variable_name all n) (pointers_of (params_from structs all (n + 1) vars) rest)) (name_itself (variable_name all n))
      ∙ ap place_in (same_Some (by_address p) (by_address place) there))
    where
      place_in : ArgumentValue → Option Location
      place_in (by_value value) = None
      place_in (by_address q) = Some q
  pointer_given (var ∷ vars) n (suc i) j (by_value v ∷ rest) place is less few there =
      pointer_given vars (n + 1) i j rest place (omega (arith, is)) (omega (arith, less)) (omega (arith, few)) there
  pointer_given (var ∷ vars) n (suc i) j (by_address p ∷ rest) place is less few there =
      ap (λ b. if b then Some p else found (variable_name all j) (pointers_of (params_from structs all (n + 1) vars) rest))
      (names_differ 118 all n j (omega (arith, few)) (omega (arith, is, less, few)) (λ same. omega (arith, same, is)))
      ∙ pointer_given vars (n + 1) i j rest place (omega (arith, is)) (omega (arith, less)) (omega (arith, few)) there

  -- ---- what stands behind the parameters for variables

  pub pointers_both : (vars : List Var) (n : ℕ) (passed : List ArgumentValue) (ps : List CParam) (qs : List ArgumentValue) → length passed ≡ length vars →
      pointers_of (params_from structs all n vars ++ ps) (passed ++ qs) ≡ pointers_of (params_from structs all n vars) passed ++ pointers_of ps qs
  pointers_both [] n [] ps qs many = refl
  pointers_both [] n (a ∷ passed) ps qs many = absurd (omega (arith, many))
  pointers_both (var ∷ vars) n [] ps qs many = absurd (omega (arith, many))
  pointers_both (var ∷ vars) n (by_value v ∷ passed) ps qs many = pointers_both vars (n + 1) passed ps qs (omega (arith, many))
  pointers_both (var ∷ vars) n (by_address p ∷ passed) ps qs many =
      ap (λ entries. (variable_name all n, p) ∷ entries) (pointers_both vars (n + 1) passed ps qs (omega (arith, many)))

  -- none of them has a name that no variable has
  pub no_pointer : (vars : List Var) (n : ℕ) (passed : List ArgumentValue) (name : Text) → ((i : ℕ) → bytes_eq (variable_name all i) name ≡ false) →
      found name (pointers_of (params_from structs all n vars) passed) ≡ None
  no_pointer [] n [] name differ = refl
  no_pointer [] n (a ∷ passed) name differ = refl
  no_pointer (var ∷ vars) n [] name differ = refl
  no_pointer (var ∷ vars) n (by_value v ∷ passed) name differ = no_pointer vars (n + 1) passed name differ
  no_pointer (var ∷ vars) n (by_address p ∷ passed) name differ =
      ap (λ b. if b then Some p else found name (pointers_of (params_from structs all (n + 1) vars) passed)) (differ n)
      ∙ no_pointer vars (n + 1) passed name differ

  pub values_both : (vars : List Var) (n : ℕ) (passed : List ArgumentValue) (ps : List CParam) (qs : List ArgumentValue) (m : Memory) →
      length passed ≡ length vars →
      with_params depth (params_from structs all n vars ++ ps) (passed ++ qs) m ≡ with_params depth ps qs (with_params depth
      (params_from structs all n vars) passed m)
  values_both [] n [] ps qs m many = refl
  values_both [] n (a ∷ passed) ps qs m many = absurd (omega (arith, many))
  values_both (var ∷ vars) n [] ps qs m many = absurd (omega (arith, many))
  values_both (var ∷ vars) n (by_value v ∷ passed) ps qs m many =
      values_both vars (n + 1) passed ps qs (set_at m (record { root = variable depth (variable_name all n); parts = [] }) v) (omega (arith, many))
  values_both (var ∷ vars) n (by_address p ∷ passed) ps qs m many = values_both vars (n + 1) passed ps qs m (omega (arith, many))

-- ---- entries

pub found_front : {A : Type 0} (name : Text) (xs ys : List (Text × A)) (x : A) → found name xs ≡ Some x → found name (xs ++ ys) ≡ Some x
found_front name [] ys x h = absurd (cc)
found_front name (e ∷ xs) ys x h = by (bytes_eq e.0 name) (found_front name xs ys x) h
  where
    by : (b : Bool) → (found name xs ≡ Some x → found name (xs ++ ys) ≡ Some x) → (if b then Some e.1 else found name xs) ≡ Some x →
        (if b then Some e.1 else found name (xs ++ ys)) ≡ Some x
    by true again h = h
    by false again h = again h

pub found_behind : {A : Type 0} (name : Text) (xs ys : List (Text × A)) → found name xs ≡ None → found name (xs ++ ys) ≡ found name ys
found_behind name [] ys h = refl
found_behind name (e ∷ xs) ys h = by (bytes_eq e.0 name) (found_behind name xs ys) h
  where
    by : (b : Bool) → (found name xs ≡ None → found name (xs ++ ys) ≡ found name ys) → (if b then Some e.1 else found name xs) ≡ None →
        (if b then Some e.1 else found name (xs ++ ys)) ≡ found name ys
    by true again h = absurd (cc)
    by false again h = again h
