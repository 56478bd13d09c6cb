-- The inputs of a row in memory.
use Rattle.std.proofs.Common.{◌≡◌, ℕ, ℤ, Bool, true, false, not, ◌&&◌, List, [], ◌∷◌, ◌++◌, map, drop, length}
use Rattle.std.proofs.Common.{Some, None}
use Rattle.std.proofs.Common.{refl, sym, ap, ◌∙◌, arith}
use Rattle.std.proofs.lemmas.Cmp.{nat_list_eq_equiv}
use Rattle.std.proofs.lemmas.Option.{same_Some}
use Rattle.std.specs.List.{list_any}
use Rattle.std.specs.Prelude.{bytes_eq, codes, option_and_then, slice_get, if◌then◌else◌}
use Rattle.std.proofs.lemmas.Bool.{not-true}
use Rattle.bl_tree.proofs.Basics.{and_first, and_second, neither_first, neither_second}
use Rattle.bl_tree.specs.declared.tree.StructDef.{StructDef}
use Rattle.bl_tree.specs.declared.tree.Var.{Var}
use Rattle.bl_tree.specs.declared.value.Value.{Value}
use Rattle.bl_tree.specs.declared.value.Value.TheVariants.{Number, outs-Number}
use Rattle.bl_tree.specs.Program.{names_of}
use Rattle.bl_tree.specs.Words.{are_distinct, is_among}
use Rattle.bl_eval.specs.Values.{number_at, number_in, parts_at, value_fits, values_fit}
use Rattle.bl_eval.specs.Values as values
use Rattle.bl_ctext_semantics.specs.Cells.{with_inputs}
use Rattle.bl_ctext_semantics.specs.Memory.{Location, Memory, input_object, member, output_object, scalar, set_at, state_object, value_at}
use Rattle.bl_ctext_semantics.specs.Memory as memory
use Rattle.bl_emit_acts_laws_simulation.specs.Acts.{OutputsEncoded}
use Rattle.bl_emit_acts_laws_simulation.specs.Encodes.{Encodes, number_within, way_to}
use Rattle.bl_emit_spec.specs.Lent.{lent_var}
use Rattle.bl_emit_spec.specs.Programs.{port_member}
use Rattle.bl_emit_spec_laws_files.proofs.OnFiles.Bodies.{input_place}
use Rattle.bl_emit_spec_laws_files.proofs.OnFiles.Kept.{Same}

-- the name differs from those of the variables
abbrev pub Differs : List ℕ → List Var → Type 0
Differs name vars = list_any (bytes_eq name) (names_of vars) ≡ false

pub first_differs : (var : Var) (vars : List Var) → are_distinct (names_of (var ∷ vars)) ≡ true → Differs var.name vars
first_differs var vars distinct =
    not-true (is_among var.name (names_of vars)) (and_first (not (is_among var.name (names_of vars))) (are_distinct (names_of vars)) distinct)

pub rest_distinct : (var : Var) (vars : List Var) → are_distinct (names_of (var ∷ vars)) ≡ true → are_distinct (names_of vars) ≡ true
rest_distinct var vars distinct = and_second (not (is_among var.name (names_of vars))) (are_distinct (names_of vars)) distinct

module _ (structs : List StructDef) where
  -- memory once the inputs are set
  abbrev pub inputs_set : List Var → List ℤ → Memory → Memory
  inputs_set vars row here = with_inputs (map (port_member structs (codes "i_")) vars) row here

  pub state_same : (vars : List Var) (row : List ℤ) (here : Memory) → Same state_object here (inputs_set vars row here)
  state_same [] [] here way = refl
  state_same [] (n ∷ row) here way = refl
  state_same (var ∷ vars) [] here way = refl
  state_same (var ∷ vars) (n ∷ row) here way = state_same vars row (set_at here (input_place var) (scalar n)) way

  pub output_same : (vars : List Var) (row : List ℤ) (here : Memory) → Same output_object here (inputs_set vars row here)
  output_same [] [] here way = refl
  output_same [] (n ∷ row) here way = refl
  output_same (var ∷ vars) [] here way = refl
  output_same (var ∷ vars) (n ∷ row) here way = output_same vars row (set_at here (input_place var) (scalar n)) way

  -- the number of an input
  abbrev pub input_number : Memory → List ℕ → ℤ
  input_number here name = here input_object (member (codes "i_" ++ name) ∷ [])

  set_other : (here : Memory) (var : Var) (n : ℤ) (name : List ℕ) → bytes_eq var.name name ≡ false →
      input_number (set_at here (input_place var) (scalar n)) name ≡ input_number here name
  set_other here var n name differ =
      ap (λ (b : Bool). memory.number_or (if b then Some [] else None) (scalar n) (input_number here name)) differ

  set_own : (here : Memory) (var : Var) (n : ℤ) → input_number (set_at here (input_place var) (scalar n)) var.name ≡ n
  set_own here var n =
      ap (λ (b : Bool). memory.number_or (if b then Some [] else None) (scalar n) (input_number here var.name)) (nat_list_eq_equiv.refl var.name)

  others_kept : (vars : List Var) (row : List ℤ) (here : Memory) (name : List ℕ) → Differs name vars →
      input_number (inputs_set vars row here) name ≡ input_number here name
  others_kept [] [] here name differs = refl
  others_kept [] (n ∷ row) here name differs = refl
  others_kept (var ∷ vars) [] here name differs = refl
  others_kept (var ∷ vars) (n ∷ row) here name differs =
      others_kept vars row (set_at here (input_place var) (scalar n)) name (neither_second (bytes_eq name var.name) (list_any (bytes_eq name) (names_of
      vars)) differs)
      ∙ set_other here var n name
      (nat_list_eq_equiv.symm var.name name ∙ neither_first (bytes_eq name var.name) (list_any (bytes_eq name) (names_of vars)) differs)

  -- each input has its number of the row
  abbrev pub AreSet : List Var → List ℤ → Memory → Type 0
  AreSet [] [] here = Unit {0}
  AreSet (var ∷ vars) (n ∷ row) here = (input_number here var.name ≡ n) × AreSet vars row here
  AreSet _ _ here = ⊥

  pub are_set : (vars : List Var) (row : List ℤ) (here : Memory) → length row ≡ length vars → are_distinct (names_of vars) ≡ true →
      AreSet vars row (inputs_set vars row here)
  are_set [] [] here long distinct = tt
  are_set [] (n ∷ row) here long distinct = absurd (omega (arith, long))
  are_set (var ∷ vars) [] here long distinct = absurd (omega (arith, long))
  are_set (var ∷ vars) (n ∷ row) here long distinct =
      let set : Memory = set_at here (input_place var) (scalar n) in (
        others_kept vars row set var.name (first_differs var vars distinct) ∙ set_own here var n,
        are_set vars row set (omega (arith, long)) (rest_distinct var vars distinct),
      )

  number_of_value : (n : ℤ) → number_in (Number n) ≡ Some n
  number_of_value n = ap number_at (outs-Number n)

  -- a number is what its place holds
  number_holds : (var : Var) (n : ℤ) (here : Memory) → input_number here var.name ≡ n →
      Encodes structs var.ty (Number n) (value_at here (input_place var))
  number_holds var n here is = record { each = each }
    where
      each : (ks : List ℕ) (m : ℤ) → number_within ks (Number n) ≡ Some m → value_at here (input_place var) (way_to structs ks (Some var.ty)) ≡ m
      each [] m number = is ∙ same_Some n m (sym (number_of_value n) ∙ number)
      each (k ∷ ks) m number =
          absurd (let none = sym (ap (λ layer. option_and_then number_in (option_and_then (values.value_at ks)
          (option_and_then (λ all. slice_get all k) (parts_at layer)))) (outs-Number n)) ∙ number in cc)

  -- so each input's place has its value
  pub inputs_hold : (vars : List Var) (row : List ℤ) (here : Memory) → AreSet vars row here →
      OutputsEncoded structs here vars (map Number row) (map input_place vars)
  inputs_hold [] [] here set = tt
  inputs_hold [] (n ∷ row) here set = absurd set
  inputs_hold (var ∷ vars) [] here set = absurd set
  inputs_hold (var ∷ vars) (n ∷ row) here set = (number_holds var n here set.0, inputs_hold vars row here set.1)

-- ---- the lent entry's variables

pub lent_values : (structs : List StructDef) (vars : List Var) (values : List Value) →
    values_fit structs (map lent_var vars) values ≡ values_fit structs vars values
lent_values structs [] [] = refl
lent_values structs [] (value ∷ values) = refl
lent_values structs (var ∷ vars) [] = refl
lent_values structs (var ∷ vars) (value ∷ values) = ap (λ b. value_fits structs var.ty value && b) (lent_values structs vars values)

-- what places hold of variables they hold of them lent, and back
pub lent_hold : (structs : List StructDef) (here : Memory) (vars : List Var) (values : List Value) (places : List Location) →
    OutputsEncoded structs here vars values places → OutputsEncoded structs here (map lent_var vars) values places
lent_hold structs here [] [] [] holds = tt
lent_hold structs here [] [] (place ∷ places) holds = absurd holds
lent_hold structs here [] (value ∷ values) places holds = absurd holds
lent_hold structs here (var ∷ vars) [] places holds = absurd holds
lent_hold structs here (var ∷ vars) (value ∷ values) [] holds = absurd holds
lent_hold structs here (var ∷ vars) (value ∷ values) (place ∷ places) holds = (holds.0, lent_hold structs here vars values places holds.1)

pub unlent_hold : (structs : List StructDef) (here : Memory) (vars : List Var) (values : List Value) (places : List Location) →
    OutputsEncoded structs here (map lent_var vars) values places → OutputsEncoded structs here vars values places
unlent_hold structs here [] [] [] holds = tt
unlent_hold structs here [] [] (place ∷ places) holds = absurd holds
unlent_hold structs here [] (value ∷ values) places holds = absurd holds
unlent_hold structs here (var ∷ vars) [] places holds = absurd holds
unlent_hold structs here (var ∷ vars) (value ∷ values) [] holds = absurd holds
unlent_hold structs here (var ∷ vars) (value ∷ values) (place ∷ places) holds = (holds.0, unlent_hold structs here vars values places holds.1)

-- ---- some places, and others behind them

pub joined_hold : (structs : List StructDef) (here : Memory) (xs ys : List Var) (us vs : List Value) (ps qs : List Location) →
    OutputsEncoded structs here xs us ps → OutputsEncoded structs here ys vs qs → OutputsEncoded structs here (xs ++ ys) (us ++ vs) (ps ++ qs)
joined_hold structs here [] ys [] vs [] qs one two = two
joined_hold structs here [] ys [] vs (p ∷ ps) qs one two = absurd one
joined_hold structs here [] ys (u ∷ us) vs ps qs one two = absurd one
joined_hold structs here (x ∷ xs) ys [] vs ps qs one two = absurd one
joined_hold structs here (x ∷ xs) ys (u ∷ us) vs [] qs one two = absurd one
joined_hold structs here (x ∷ xs) ys (u ∷ us) vs (p ∷ ps) qs one two = (one.0, joined_hold structs here xs ys us vs ps qs one.1 two)

pub behind_hold : (structs : List StructDef) (here : Memory) (xs ys : List Var) (values : List Value) (place : Var → Location) (qs : List Location) →
    OutputsEncoded structs here (map lent_var xs ++ ys) values (map place xs ++ qs) → OutputsEncoded structs here ys (drop (length xs) values) qs
behind_hold structs here [] ys [] place qs holds = holds
behind_hold structs here [] ys (v ∷ values) place qs holds = holds
behind_hold structs here (x ∷ xs) ys [] place qs holds = absurd holds
behind_hold structs here (x ∷ xs) ys (v ∷ values) place qs holds = behind_hold structs here xs ys values place qs holds.1
